use Rattle.std.proofs.Common.{◌≡◌, ◌∙◌}
use Rattle.std.proofs.lemmas.List.{with_items_is}
use Rattle.prog_gen.proofs.Enlarged.{file_generated, long_file, same_length}
use Rattle.prog_gen.proofs.Pushed.{few_words}
use Rattle.row_files.specs.RowFiles.{row_file}
use Rattle.prog_gen.proofs.generated.generate.Goals as goal

pub row_file-requires : goal.row_file-requires
row_file-requires c = record { few = few_words c.args.number c.deref.result.now c.requires.most (c.deref.ensures.value ∙ c.in_ok-words.ensures) }

pub enlarge_data-requires : goal.enlarge_data-requires
enlarge_data-requires c = long_file c.deref.result.now c.deref_mut.result.now (c.deref_mut.ensures.value ∙ c.into_vec-file.ensures ∙ c.in_ok-row_file.ensures)

pub returns-clause-file : goal.returns-clause-file
returns-clause-file c =
    let old : c.deref_mut.result.now ≡ row_file c.deref.result.now = c.deref_mut.ensures.value ∙ c.into_vec-file.ensures ∙ c.in_ok-row_file.ensures in
    let long = long_file c.deref.result.now c.deref_mut.result.now old in
    let same = same_length c.deref_mut.result.now c.enlarge_data.new.file long c.enlarge_data.ensures in
    let new : c.from_vec.result ≡ c.enlarge_data.new.file = c.from_vec.ensures ∙ with_items_is c.into_vec-file.result c.enlarge_data.new.file (same ∙ c.deref_mut.ensures.len) in
    file_generated c.args.number c.deref.result.now c.deref_mut.result.now c.from_vec.result (c.deref.ensures.value ∙ c.in_ok-words.ensures) old (new ∙ c.enlarge_data.ensures)
