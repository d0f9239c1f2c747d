use Rattle.run_leaves.proofs.ends.finish.Goals as goal

pub returns-in-Traps-clause-sample : goal.returns-in-Traps-clause-sample
returns-in-Traps-clause-sample c = c.trapped.ensures.sample

pub returns-in-Traps-clause-leaf : goal.returns-in-Traps-clause-leaf
returns-in-Traps-clause-leaf c = rw c.in-Traps.is c.trapped.ensures.leaf

pub returns-in-Exits-clause-sample : goal.returns-in-Exits-clause-sample
returns-in-Exits-clause-sample c = c.exited.ensures.sample

pub returns-in-Exits-clause-leaf : goal.returns-in-Exits-clause-leaf
returns-in-Exits-clause-leaf c = rw c.in-Exits.is c.exited.ensures.leaf
