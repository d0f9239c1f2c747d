use Rattle.std.proofs.Common.{arith}
use Rattle.cdcl_core.proofs.Marks.{last_has_place, kept_less}
use Rattle.cdcl_core.proofs.trail.Trail.pop.Goals as goal

pub index_mut-requires : goal.index_mut-requires
index_mut-requires c =
    omega (arith, c.self.inside.marks.ok, last_has_place c.self.inside.marks.items c.pop.new.self.items c.self.inside.entries.items c.in_ok-entry.entry c.variable-place.result c.self.invariant.values c.in_ok-entry.ensures.items c.variable-place.ensures.value)

pub invariant_of-self-2 : goal.invariant_of-self-2
invariant_of-self-2 c =
    kept_less c.self.inside.marks.items c.self.inside.numbers.items c.pop.new.self.items c.self.inside.entries.items c.in_ok-entry.entry c.variable-place.result c.self.invariant c.in_ok-entry.ensures.items c.variable-place.ensures.value
