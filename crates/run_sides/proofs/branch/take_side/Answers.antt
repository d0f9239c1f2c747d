use Rattle.std.proofs.Common.{sym, subst}
use Rattle.bv_dag.specs.Graphs.{number_of}
use Rattle.sym_state.specs.Moves.{informed, narrowed}
use Rattle.sym_state.specs.Symbolic.{Symbolic}
use Rattle.sym_state.specs.declared.decided.Decided.TheVariants.{Side}
use Rattle.run_sides.specs.Narrowing.{IsNarrower}
use Rattle.run_sides.specs.Sides.{branch_choice, is_side}
use Rattle.run_sides.proofs.Branching.{side_narrower, small_choice}
use Rattle.run_sides.proofs.branch.take_side.Goals as goal

pub narrow-requires-clause-small : goal.narrow-requires-clause-small
narrow-requires-clause-small c = rw c.choice_of.ensures (small_choice c.args.side)

pub returns-clause-narrower : goal.returns-clause-narrower
returns-clause-narrower c = λ s term at tested.
    rw (c.know.ensures.value, c.in_ok-narrow.ensures, c.into_parts-run.ensures.run, c.into_parts-run.ensures.test, c.choice_of.ensures)
    (subst (λ (r : Symbolic). IsNarrower s (informed (narrowed r (branch_choice c.args.side) c.args.tested.test r.sample) 1 (Side c.args.side)) (branch_choice c.args.side)
    (λ input. is_side c.args.side (number_of s.terms term input))) (sym tested.same)
    (side_narrower s c.args.tested.run.terms term c.args.tested.test c.args.side tested.formed at tested.continues tested.tells))
