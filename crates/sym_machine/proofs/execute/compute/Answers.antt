use Rattle.sym_machine.proofs.Executing.{computes, computes_terms}
use Rattle.sym_machine.proofs.execute.compute.Goals as goal

pub returns-clause-comes : goal.returns-clause-comes
returns-clause-comes c = λ of same.
    rw (c.go_on_with.ensures.running, c.go_on_with.ensures.state)
    (computes c.args.state.now c.combined.new.self c.args.op c.args.rd c.args.rs1 c.args.second c.in_ok-value.value of
    (rw c.value-first.ensures.value at c.in_ok-value.ensures.ok) same)

pub returns-clause-terms : goal.returns-clause-terms
returns-clause-terms c =
    computes_terms c.args.state.now c.combined.new.self c.go_on_with.new.state c.args.op c.args.rd c.args.rs1 c.args.second c.in_ok-value.value
    c.value-first.result c.in_ok-value.ensures.ok.grown c.value-first.ensures.value c.in_ok-value.ensures.expression c.go_on_with.ensures.state
