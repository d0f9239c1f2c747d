use Rattle.std.proofs.Common.{sym, arith}
use Rattle.query_slice.proofs.Labels.{label_past, label_there}
use Rattle.query_slice.proofs.classes.Classes.label.Goals as goal

pub returns-then-place-self : goal.returns-then-place-self
returns-then-place-self c =
    rw (← c.self.view_is, c.in_ok-place.was, c.renamed_by.ensures, c.deref.ensures.value)
    (sym (label_there c.self.inside.renamings.items c.self.inside.count c.in_ok-place.place c.if-place-self.true))

pub returns-else-place-self : goal.returns-else-place-self
returns-else-place-self c =
    rw (← c.self.view_is, c.in_ok-place.was)
    (sym (label_past c.self.inside.renamings.items c.self.inside.count c.in_ok-place.place (omega (arith, c.if-place-self.false))))
