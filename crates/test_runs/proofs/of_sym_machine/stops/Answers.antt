use Rattle.test_runs.proofs.of_sym_machine.stops.Goals as goal

pub advance-requires-clause-knows : goal.advance-requires-clause-knows
advance-requires-clause-knows g c = c.in_ok-state.ensures.open.knows
