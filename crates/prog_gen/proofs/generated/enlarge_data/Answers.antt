use Rattle.std.proofs.Common.{rules, ◌≡◌}
use Rattle.prog_gen.proofs.Enlarged.{written}
use Rattle.row_files.specs.RowFiles.{word}
use Rattle.prog_gen.proofs.generated.enlarge_data.Goals as goal

pub returns : goal.returns
returns c =
    let is : c.copy_from_slice.new.self ≡ word 1048576 = search rules in
    written c.args.file.now c.copy_from_slice.new.self is
