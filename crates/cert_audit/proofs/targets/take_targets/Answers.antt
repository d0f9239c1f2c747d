use Rattle.std.proofs.Common.{arith}
use Rattle.sym_state.proofs.Growing.{width-kept}
use Rattle.cert_audit.proofs.Spending.{taken_targets}
use Rattle.cert_audit.proofs.targets.take_targets.Goals as goal

pub cut_targets-requires-clause-width : goal.cut_targets-requires-clause-width
cut_targets-requires-clause-width c =
    rw c.sample_by.ensures.value
    (width-kept c.args.others.now.fork.terms c.args.others.now.rest.terms c.args.others.now.term 32 c.requires.without.continues c.requires.unknown.width (omega arith))

pub returns-clause-leaf : goal.returns-clause-leaf
returns-clause-leaf c = λ budgets enough.
    let leaf = rw c.sample_by.ensures.value at c.in_ok-leaf.ensures.leaf in
    let sample = rw c.sample_by.ensures.value at c.in_ok-leaf.ensures.sample in
    taken_targets budgets c.args.targets c.args.others.now c.args.lines.now c.in-Ok.samples.rest.now c.in-Ok.samples.found.items c.in-Ok.samples.witness
    c.in_ok-leaf.leaf enough (rw c.in-Ok.is at c.in_ok-samples.ensures.samples) sample leaf
