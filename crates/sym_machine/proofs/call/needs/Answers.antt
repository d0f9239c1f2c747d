use Rattle.sym_machine.proofs.Calls.{known_number, needs-worth, stops_if}
use Rattle.sym_machine.proofs.call.needs.Goals as goal

pub number_at-requires-clause-stands : goal.number_at-requires-clause-stands
number_at-requires-clause-stands c = rw c.value.ensures.value (needs-worth c.args.state.now c.args.place c.args.register c.requires.stands)

pub returns-clause-ok : goal.returns-clause-ok
returns-clause-ok c = known_number c.args.state.now c.args.register c.number_at.result (rw c.value.ensures.value at c.number_at.ensures.ok)

pub returns-clause-err : goal.returns-clause-err
returns-clause-err c = stops_if c.args.state.now c.number_at.result c.value.ensures.formed c.number_at.ensures.err
