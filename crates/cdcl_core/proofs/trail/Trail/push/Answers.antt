use Rattle.std.proofs.Common.{◌≡◌, ◌<◌, ◌+◌, ◌∷◌, [], List, length, ap, arith, Some, length-append}
use Rattle.cdcl_core.specs.declared.trail.Entry.{Entry}
use Rattle.cdcl_core.proofs.Marks.{kept_more, fewer}
use Rattle.cdcl_core.proofs.trail.Trail.push.Goals as goal

pub invariant_of-self-2 : goal.invariant_of-self-2
invariant_of-self-2 c =
    let free = rw (← c.self.view_is) at c.requires in
    let within : c.variable-place.result < length c.self.inside.marks.items = omega (arith, free.0, c.variable-place.ensures.value) in
    let number : c.len.result ≡ length c.self.inside.entries.items + 1
    = omega (arith, c.len.ensures, c.push.new.self.ok, ap (λ (es : List Entry). length es) c.in_ok-push.ensures.items, length-append c.self.inside.entries.items (c.args.entry ∷ [])) in
    kept_more c.self.inside.marks.items c.self.inside.numbers.items c.self.inside.entries.items c.push.new.self.items c.args.entry c.variable-place.result c.len.result (Some c.is_positive.result)
    c.self.invariant c.variable-place.ensures.value within (ap Some c.is_positive.ensures) free.1 number c.in_ok-push.ensures.items

pub returns-clause-fewer : goal.returns-clause-fewer
returns-clause-fewer c =
    let free = rw (← c.self.view_is) at c.requires in
    rw (← c.self.view_is)
    (fewer c.self.inside.marks.items c.self.inside.entries.items c.variable-place.result c.args.entry.literal.variable c.is_positive.result c.self.invariant.values c.variable-place.ensures.value free.0 free.1)
