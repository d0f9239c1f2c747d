use Rattle.std.proofs.Common.{ℕ, [], ◌∷◌, ◌++◌, ap, ◌∙◌}
use Rattle.bv_dag.specs.Graphs.{number_of}
use Rattle.run_sides.specs.Sides.{branch_choice, is_side}
use Rattle.run_sides.proofs.Branching.{small_choice, tested_narrowed}
use Rattle.sym_state.specs.Symbolic.{Symbolic}
use Rattle.cert_audit.proofs.Parting.{asked_kid}
use Rattle.cert_audit.proofs.branch.side_todo.Goals as goal

pub returns : goal.returns
returns c =
    let s = c.args.run.now in
    let t = c.in_ok-tested.tested in
    let is = c.in_ok-tested.ensures in
    let at = c.in_ok-assert.ensures.ok
    ∙ ap (λ (r : Symbolic). record r { condition = r.condition ++ c.into_parts-run.result.1 ∷ [] }) c.into_parts-run.ensures.run
    ∙ ap (λ (k : ℕ). record t.run { condition = t.run.condition ++ k ∷ [] }) c.into_parts-run.ensures.test in
    rw (c.if-not-is_cut.false, c.choice_of-choice.ensures)
    (asked_kid s (record { run = c.assert.new.self; choice = branch_choice c.args.side }) (λ input. is_side c.args.side (number_of s.terms c.args.term input))
    is.formed (small_choice c.args.side) (tested_narrowed s c.assert.new.self c.args.term c.args.side t is at))
