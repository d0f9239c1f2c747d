use Rattle.sym_machine.proofs.Executing.{jumps, target_next}
use Rattle.sym_machine.proofs.Standing.{knows-grown}
use Rattle.sym_state.proofs.Grown.{IsGrown-trans}
use Rattle.sym_machine.proofs.execute.jump_register.Goals as goal

pub number_at-requires-clause-knows : goal.number_at-requires-clause-knows
number_at-requires-clause-knows c =
    knows-grown c.args.state.now c.cleared.new.self
    (IsGrown-trans c.args.state.now c.combined.new.self c.cleared.new.self c.in_ok-sum.ensures.ok.grown c.in_ok-target.ensures.ok.grown)
    c.requires.knows

pub number_at-requires-clause-stands : goal.number_at-requires-clause-stands
number_at-requires-clause-stands c =
    target_next c.args.state.now c.combined.new.self c.cleared.new.self c.args.rd c.args.rs1 c.args.offset c.in_ok-sum.sum c.in_ok-target.target
    (rw c.value-base.ensures.value at c.in_ok-sum.ensures.ok) c.in_ok-target.ensures.ok c.requires.decides

pub returns-clause-ok : goal.returns-clause-ok
returns-clause-ok c =
    jumps c.args.state.now c.combined.new.self c.cleared.new.self c.args.rd c.args.rs1 c.args.offset c.in_ok-sum.sum c.in_ok-target.target
    (rw c.value-base.ensures.value at c.in_ok-sum.ensures.ok) c.in_ok-target.ensures.ok c.requires.decides
    c.jump_to_register.new.state c.in_ok-step.step c.in_ok-target-2.target c.in_ok-target-2.ensures.ok c.in_ok-step.ensures.comes c.in_ok-step.ensures.terms
