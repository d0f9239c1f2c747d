use Rattle.std.proofs.Common.{Some, None}
use Rattle.rv_decode.specs.declared.ends.Trap.TheVariants.{Illegal}
use Rattle.sym_machine.proofs.Counting.{counts_instr, counts_trap}
use Rattle.sym_machine.proofs.Fetches.{fetch_word}
use Rattle.sym_machine.proofs.Standing.{DecidesBy-grown, knows-grown}
use Rattle.sym_machine.proofs.execute.step.Goals as goal
use Rattle.sym_machine.proofs.execute.step.Goals.{in-Ok+in-Some+in_ok-step-in-Some, in-Ok+in-None, in-Err}

pub execute-requires-clause-knows : goal.execute-requires-clause-knows
execute-requires-clause-knows c = knows-grown c.args.state.now c.fetch.new.state c.in_ok-word.ensures.grown c.requires.knows

pub execute-requires-clause-decides : goal.execute-requires-clause-decides
execute-requires-clause-decides c =
    let next = rw c.in-Ok.is at c.in_ok-word.ensures.ok in
    let fetched = fetch_word c.args.state.now c.in-Ok.word (Some c.in-Some.instr) next.aligned next.can next.is c.in-Some.ensures.value c.in-Some.ensures.amount in
    DecidesBy-grown c.args.state.now c.fetch.new.state c.in-Some.instr c.in_ok-word.ensures.grown fetched.decides.0

pub returns-clause-ok : goal.returns-clause-ok
returns-clause-ok c =
    rw c.count.ensures.value (elim c.match-branch-2.branch [
      | in-Ok+in-Some+in_ok-step-in-Some w ↦
          let next = rw w.in-Ok.is at c.in_ok-word.ensures.ok in
          rw (w.state-is, w.step-is) (counts_instr c.args.state.now c.fetch.new.state w.execute.new.state w.in_ok-step-in-Some.step w.in-Some.instr
          c.in_ok-word.ensures.grown
          (fetch_word c.args.state.now w.in-Ok.word (Some w.in-Some.instr) next.aligned next.can next.is w.in-Some.ensures.value w.in-Some.ensures.amount)
          w.in_ok-step-in-Some.ensures.ok)
      | in-Ok+in-None w ↦
          let next = rw w.in-Ok.is at c.in_ok-word.ensures.ok in
          rw (w.state-is, w.step-is, w.trapped.ensures) (counts_trap c.args.state.now c.fetch.new.state Illegal c.in_ok-word.ensures.grown
          (fetch_word c.args.state.now w.in-Ok.word None next.aligned next.can next.is w.in-None.ensures.value w.in-None.ensures.amount))
      | in-Err w ↦
          rw (w.state-is, w.step-is, w.trapped-step.ensures) (counts_trap c.args.state.now c.fetch.new.state w.in-Err.trap
          c.in_ok-word.ensures.grown (rw w.in-Err.is at c.in_ok-word.ensures.ok))
    ])
