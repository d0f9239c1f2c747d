use Rattle.std.proofs.Common.{◌≡◌, true, take}
use Rattle.std.specs.List.{list_all}
use Rattle.std.specs.Prelude.{◌==◌}
use Rattle.bv_dag.specs.Graphs.{number_of}
use Rattle.bv_dag.specs.Evaluations.{AreFirstWords}
use Rattle.bv_dag.proofs.evaluation.are_met.Given as goal

abbrev pub invariant-loop-id : goal.invariant-loop-id
invariant-loop-id l =
    AreFirstWords l.fn.terms l.fn.input l.words.items
    × (list_all (λ id. number_of l.fn.terms id l.fn.input == 1) (take l.id-index l.fn.condition) ≡ true)
