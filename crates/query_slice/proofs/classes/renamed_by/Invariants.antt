use Rattle.std.proofs.Common.{◌≡◌, take}
use Rattle.std.specs.Prelude.{fold}
use Rattle.query_slice.specs.Classes.{renamed}
use Rattle.query_slice.proofs.classes.renamed_by.Given as goal

abbrev pub invariant-loop-renaming : goal.invariant-loop-renaming
invariant-loop-renaming l = l.last ≡ fold (λ before renaming. renamed renaming before) l.fn.label (take l.renaming-index l.renamings)
