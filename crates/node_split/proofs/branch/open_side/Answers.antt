use Rattle.std.proofs.Common.{◌∙◌}
use Rattle.bv_dag.specs.Graphs.{number_of}
use Rattle.sym_state.proofs.Tests.{all_true}
use Rattle.run_sides.specs.Sides.{branch_choice, is_side}
use Rattle.run_sides.proofs.Sides.{narrower_by}
use Rattle.node_split.proofs.Branching.{side_ok, sides_ok}
use Rattle.node_split.proofs.branch.open_side.Goals as goal

pub returns-clause-side : goal.returns-clause-side
returns-clause-side c =
    let side = c.args.side in
    sides_ok c.run_kid.result _ _ (side_ok c.run_kid.result c.sample_by.new.self (branch_choice side) (rw c.choice_of.ensures at c.run_kid.ensures))
    (λ kid is s term at tested stands on.
    let narrower = c.in_ok-run.ensures.narrower s term at tested in
    is s (λ input. is_side side (number_of s.terms term input))
    (rw c.sample_by.ensures.value (narrower_by s c.in_ok-run.run' (branch_choice side) (λ input. is_side side (number_of s.terms term input)) c.args.sample narrower))
    (rw c.sample_by.ensures.value (narrower.covers c.args.sample ∙ all_true _ _ stands on)))
