use Rattle.sym_machine.proofs.Executing.{branches, side_next}
use Rattle.sym_machine.proofs.Standing.{knows-grown}
use Rattle.sym_machine.proofs.execute.branch_on.Goals as goal

pub side_of-requires-clause-knows : goal.side_of-requires-clause-knows
side_of-requires-clause-knows c = knows-grown c.args.state.now c.passes.new.self c.in_ok-bit.ensures.ok.grown c.requires.knows

pub side_of-requires-clause-stands : goal.side_of-requires-clause-stands
side_of-requires-clause-stands c =
    side_next c.args.state.now c.passes.new.self c.args.test c.args.rs1 c.args.rs2 c.args.offset c.in_ok-bit.bit
    (rw (c.value-first.ensures.value, c.value-second.ensures.value) at c.in_ok-bit.ensures.ok) c.requires.decides

pub returns-clause-ok : goal.returns-clause-ok
returns-clause-ok c =
    branches c.args.state.now c.passes.new.self c.args.test c.args.rs1 c.args.rs2 c.args.offset c.in_ok-bit.bit
    (rw (c.value-first.ensures.value, c.value-second.ensures.value) at c.in_ok-bit.ensures.ok) c.requires.decides
    c.branch-state.new.state c.in_ok-step.step c.in_ok-taken.taken c.address-target.result c.address-target.ensures
    c.in_ok-taken.ensures.ok c.in_ok-step.ensures.comes c.in_ok-step.ensures.terms
