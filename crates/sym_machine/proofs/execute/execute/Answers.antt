use Rattle.sym_machine.proofs.Executing.{adds_upper, goes_on, loads_upper, of_two, shifted_by, with_immediate}
use Rattle.sym_machine.proofs.execute.execute.Goals as goal

pub returns-in-Lui-clause-ok : goal.returns-in-Lui-clause-ok
returns-in-Lui-clause-ok c =
    rw (c.in-Lui.is, c.go_on_with.ensures.running, c.go_on_with.ensures.state) (loads_upper c.args.state.now c.in-Lui.rd c.in-Lui.upper)

pub returns-in-Auipc-clause-ok : goal.returns-in-Auipc-clause-ok
returns-in-Auipc-clause-ok c =
    rw (c.in-Auipc.is, c.go_on_with-in-Auipc.ensures.running, c.go_on_with-in-Auipc.ensures.state)
    (adds_upper c.args.state.now c.in-Auipc.rd c.in-Auipc.upper c.address-address.result c.address-address.ensures)

pub returns-in_ok-compute-in-Immediate-clause-ok : goal.returns-in_ok-compute-in-Immediate-clause-ok
returns-in_ok-compute-in-Immediate-clause-ok c =
    rw c.in-Immediate.is
    (with_immediate c.args.state.now c.compute.new.state c.in_ok-compute-in-Immediate.field-0 c.in-Immediate.op c.of_immediate.result
    c.in-Immediate.rd c.in-Immediate.rs1 c.in-Immediate.immediate c.of_immediate.ensures.computes c.of_immediate.ensures.op
    c.in_ok-compute-in-Immediate.ensures.comes c.in_ok-compute-in-Immediate.ensures.terms)

pub returns-in_ok-compute-in-ShiftImmediate-clause-ok : goal.returns-in_ok-compute-in-ShiftImmediate-clause-ok
returns-in_ok-compute-in-ShiftImmediate-clause-ok c =
    rw c.in-ShiftImmediate.is
    (shifted_by c.args.state.now c.compute-in-ShiftImmediate.new.state c.in_ok-compute-in-ShiftImmediate.field-0 c.in-ShiftImmediate.op c.of_shift.result
    c.in-ShiftImmediate.rd c.in-ShiftImmediate.rs1 c.in-ShiftImmediate.amount (rw c.in-ShiftImmediate.is at c.requires.shifts)
    c.of_shift.ensures.computes c.of_shift.ensures.op
    c.in_ok-compute-in-ShiftImmediate.ensures.comes c.in_ok-compute-in-ShiftImmediate.ensures.terms)

pub returns-in_ok-compute-in-Binary-clause-ok : goal.returns-in_ok-compute-in-Binary-clause-ok
returns-in_ok-compute-in-Binary-clause-ok c =
    rw c.in-Binary.is
    (of_two c.args.state.now c.compute-in-Binary.new.state c.in_ok-compute-in-Binary.field-0 c.in-Binary.op
    c.in-Binary.rd c.in-Binary.rs1 c.in-Binary.rs2 (rw c.value-second.ensures.value at c.in_ok-compute-in-Binary.ensures.comes)
    (rw c.value-second.ensures.value at c.in_ok-compute-in-Binary.ensures.terms))

pub returns-in-Fence-clause-ok : goal.returns-in-Fence-clause-ok
returns-in-Fence-clause-ok c =
    rw (c.in-Fence.is, c.go_on.ensures.running, c.go_on.ensures.state) (goes_on c.args.state.now)
