use Rattle.std.proofs.Common.{◌≡◌, ◌++◌, drop, take}
use Rattle.std.specs.Prelude.{All}
use Rattle.report_text.specs.Entries.{entries_of}
use Rattle.report_text.specs.Files.{files_from}
use Rattle.report_text.specs.Legible.{HasSmallLog}
use Rattle.report_text.specs.declared.leaves.LeafAt.{LeafAt}
use Rattle.report_text.proofs.report.push_leaves.Given as goal

abbrev pub invariant-loop-rank : goal.invariant-loop-rank
invariant-loop-rank l = record {
  files : l.files.items ++ files_from l.out l.rank (entries_of l.regions l.rank (drop l.rank l.leaves)) ≡ l.fn.files.items ++ files_from l.out 0 (entries_of l.regions 0 l.leaves);
  small : All (λ (k : LeafAt). HasSmallLog k.part.now.evidence) (take l.rank l.leaves);
}
