use Rattle.std.proofs.Common.{◌++◌, ap, refl, ◌∙◌}
use Rattle.row_files.specs.RowFiles.{elf_header}
use Rattle.row_files.proofs.Pushing.{file_of}
use Rattle.row_files.proofs.file.row_file.Goals as goal

pub returns : goal.returns
unfolding elf_header
returns c = c.from_vec.ensures ∙ file_of c.args.words.now c.extend_from_slice.new.self.items c.push_words.new.bytes.items c.push_words-2.new.bytes.items c.push_words-3.new.bytes.items _
    (c.in_ok-extend_from_slice.ensures.items ∙ ap (λ bs. bs ++ elf_header) c.new-bytes.ensures.items) c.in_ok-push_words.ensures c.in_ok-push_words-2.ensures c.in_ok-push_words-3.ensures refl
