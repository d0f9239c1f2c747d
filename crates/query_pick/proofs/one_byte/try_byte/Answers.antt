use Rattle.std.proofs.Common.{◌≡◌, false, replicate, slice_set, arith, List, ℕ, refl, sym, subst, ◌∙◌}
use Rattle.bv_dag.specs.Queries.{holds}
use Rattle.query_pick.proofs.Agreeing.{none_holds}
use Rattle.query_pick.proofs.Around.{all_around}
use Rattle.query_pick.proofs.Trying.{fails_with_last, one_more_fails, still_alike}
use Rattle.query_pick.proofs.one_byte.try_byte.Goals.{else-branch-via-then-branch+in_ok-holds-2+else-branch-2, else-branch-via-else-branch}
use Rattle.query_pick.proofs.one_byte.try_byte.Goals as goal

pub loop-steps-preserved : goal.loop-steps-preserved
loop-steps-preserved c =
    let q = c.args.query.now in
    let zeros = replicate q.graph.inputs 0 in
    let given : List ℕ = c.put_byte.new.input.items in
    let fails : holds q given ≡ false =
    elim c.else-branch.branch [
      | else-branch-via-then-branch+in_ok-holds-2+else-branch-2 w ↦ subst (λ (i : List ℕ). holds q i ≡ false) w.deref-then-branch.ensures.value (sym w.in_ok-holds-2.ensures ∙ w.if-branch-2.false)
      | else-branch-via-else-branch w ↦ fails_with_last q c.in_ok-last.last given c.in_ok-last.ensures (subst (λ (i : List ℕ). holds c.in_ok-last.last i ≡ false) c.deref.ensures.value (sym c.in_ok-holds.ensures ∙ w.if-branch.false))
    ] in (
      still_alike q zeros c.loop-steps.input.items given c.args.place c.args.first c.loop-steps.steps c.put_byte.ensures c.loop-steps.invariant.0,
      one_more_fails q zeros c.loop-steps.input.items given c.args.place c.args.first c.loop-steps.steps c.put_byte.ensures c.loop-steps.invariant.0 fails c.loop-steps.invariant.1,
    )

pub returns-clause-none : goal.returns-clause-none
returns-clause-none c =
    let q = c.args.query.now in
    λ _. all_around (λ b. holds q (slice_set (replicate q.graph.inputs 0) c.args.place b) ≡ false) c.args.first c.ranges.first.fits
    (λ k small. c.loop-steps.invariant.1 k (omega (arith, small, c.loop-steps-test.false)))

pub returns-clause-alone : goal.returns-clause-alone
returns-clause-alone c = λ alone _. none_holds c.args.query.now c.args.place alone (returns-clause-none c refl)
