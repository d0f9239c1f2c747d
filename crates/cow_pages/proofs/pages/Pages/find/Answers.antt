use Rattle.std.proofs.Common.{Some, refl, sym, ap, subst, ◌∙◌}
use Rattle.std.specs.Prelude.{IfSome, is_some}
use Rattle.std.specs.Arc.{arc_value}
use Rattle.std.specs.FinMap.{get}
use Rattle.cow_pages.specs.SymbolicMemory.{SymbolicMemory, HasAllBytes}
use Rattle.cow_pages.specs.Groups.{Groups, memory_in}
use Rattle.cow_pages.proofs.ByteWrites.{is_some-copied, is_some-memory_flags}
use Rattle.cow_pages.proofs.Overlays.{found_above, found_below, whole_above, whole_below}
use Rattle.cow_pages.proofs.pages.Pages.find.Goals as goal

-- the page is one that was written
pub returns-in-Some-clause-value : goal.returns-in-Some-clause-value
returns-in-Some-clause-value c =
    found_above (arc_value c.self.inside.base) c.self.inside.own c.args.number (Some c.in-Some.page.now) c.in-Some.ensures.value refl
    ∙ ap (λ (m : SymbolicMemory). get m c.args.number) c.self.view_is

pub returns-in-Some-clause-mapped : goal.returns-in-Some-clause-mapped
returns-in-Some-clause-mapped c =
    ap is_some (returns-in-Some-clause-value c) ∙ sym (is_some-memory_flags c.args.self.now c.args.number)

pub returns-in-Some-clause-whole : goal.returns-in-Some-clause-whole
returns-in-Some-clause-whole c =
    subst (λ (m : SymbolicMemory). IfSome (get m c.args.number) HasAllBytes) c.self.view_is
    (whole_above (arc_value c.self.inside.base) c.self.inside.own c.args.number (sym (ap is_some c.in-Some.ensures.value)) c.in-Some.ensures.whole)

-- it is one of the image
pub returns-in-None-clause-value : goal.returns-in-None-clause-value
returns-in-None-clause-value c =
    c.page-in-None.ensures.value
    ∙ ap (λ (gs : Groups). get (memory_in gs) c.args.number) c.deref.ensures
    ∙ sym (found_below (arc_value c.self.inside.base) c.self.inside.own c.args.number c.in-None.ensures.value)
    ∙ ap (λ (m : SymbolicMemory). get m c.args.number) c.self.view_is

pub returns-in-None-clause-mapped : goal.returns-in-None-clause-mapped
returns-in-None-clause-mapped c =
    is_some-copied c.page-in-None.result ∙ ap is_some (returns-in-None-clause-value c) ∙ sym (is_some-memory_flags c.args.self.now c.args.number)

pub returns-in-None-clause-whole : goal.returns-in-None-clause-whole
returns-in-None-clause-whole c =
    subst (λ (m : SymbolicMemory). IfSome (get m c.args.number) HasAllBytes) c.self.view_is
    (whole_below (arc_value c.self.inside.base) c.self.inside.own c.args.number c.in-None.ensures.value
    (subst (λ (gs : Groups). IfSome (get (memory_in gs) c.args.number) HasAllBytes) c.deref.ensures c.page-in-None.ensures.whole))
