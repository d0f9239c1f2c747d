use Rattle.std.proofs.Common.{◌≤◌, ap, length, List, arith}
use Rattle.cdcl_core.specs.declared.trail.Entry.{Entry}
use Rattle.cdcl_core.proofs.Pending.{from_first}
use Rattle.cdcl_core.proofs.following.settle.Goals as goal

pub returns-clause-calm : goal.returns-clause-calm
returns-clause-calm c =
    let first = length c.entries-first.result.now in
    let late : first ≤ length c.args.trail.now.entries = omega (arith, ap (λ (es : List Entry). length es) c.entries-first.ensures.value) in
    let looked = rw c.list.ensures at c.in_ok-number.ensures.looked in
    c.follow.ensures.calm (looked first late (from_first c.args.clauses.now c.args.trail.now.entries first c.args.calm c.requires.calm) c.in_default.is)
