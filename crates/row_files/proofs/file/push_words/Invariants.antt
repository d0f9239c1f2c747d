use Rattle.std.proofs.Common.{◌≡◌, ◌++◌, take}
use Rattle.row_files.specs.RowFiles.{words_bytes}
use Rattle.row_files.proofs.file.push_words.Given as goal

abbrev pub invariant-loop-word : goal.invariant-loop-word
invariant-loop-word l = l.bytes.items ≡ l.fn.bytes.items ++ words_bytes (take l.word-index l.words)
