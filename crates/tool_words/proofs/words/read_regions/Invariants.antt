use Rattle.std.proofs.Common.{◌≡◌, drop}
use Rattle.tool_words.proofs.Reading.{after, named}
use Rattle.tool_words.proofs.words.read_regions.Given as goal

abbrev pub invariant-loop-word : goal.invariant-loop-word
invariant-loop-word l = after l.regions.items (named (drop l.word-index l.words)) ≡ named l.words
