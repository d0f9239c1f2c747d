use Rattle.std.proofs.Common.{◌≡◌, ◌/◌, sym, ap, subst, ◌∙◌}
use Rattle.std.specs.Prelude.{IfSome}
use Rattle.std.specs.Arc.{arc_value}
use Rattle.std.specs.FinMap.{get}
use Rattle.cow_pages.specs.SymbolicMemory.{SymbolicMemory, HasAllBytes, memory_with}
use Rattle.cow_pages.specs.Groups.{Groups, memory_over}
use Rattle.cow_pages.proofs.ByteWrites.{bytes_written, flags_kept}
use Rattle.cow_pages.proofs.Overlays.{on_ok_both}
use Rattle.cow_pages.proofs.pages.Pages.write.Goals as goal

-- the memory before
before : (c : goal.After-write_over) → memory_over c.deref.result.now c.self.inside.own ≡ c.args.self.now
before c = ap (λ (gs : Groups). memory_over gs c.self.inside.own) c.deref.ensures ∙ c.self.view_is

-- and after
after : (c : goal.After-write_over)
    → memory_over c.deref.result.now c.write_over.new.self ≡ memory_with (memory_over c.deref.result.now c.self.inside.own) c.args.address c.args.byte
    → memory_over (arc_value c.self.inside.base) c.write_over.new.self ≡ memory_with c.args.self.now c.args.address c.args.byte
after c is =
    ap (λ (gs : Groups). memory_over gs c.write_over.new.self) (sym c.deref.ensures)
    ∙ is
    ∙ ap (λ (m : SymbolicMemory). memory_with m c.args.address c.args.byte) (before c)

-- the page has all of its bytes
now_whole : (c : goal.After-write_over)
    → IfSome (get (memory_over c.deref.result.now c.self.inside.own) (c.args.address / 256)) HasAllBytes
    → IfSome (get c.args.self.now (c.args.address / 256)) HasAllBytes
now_whole c whole = subst (λ (m : SymbolicMemory). IfSome (get m (c.args.address / 256)) HasAllBytes) (before c) whole

pub returns-clause-bytes : goal.returns-clause-bytes
returns-clause-bytes c =
    on_ok_both _
    (λ whole is. bytes_written c.args.self.now (memory_over (arc_value c.self.inside.base) c.write_over.new.self) c.args.address c.args.byte c.requires (now_whole c whole) (after c is))
    c.write_over.ensures.whole c.write_over.ensures.ok

pub returns-clause-flags : goal.returns-clause-flags
returns-clause-flags c =
    on_ok_both _
    (λ whole is. flags_kept c.args.self.now (memory_over (arc_value c.self.inside.base) c.write_over.new.self) c.args.address c.args.byte c.requires (now_whole c whole) (after c is))
    c.write_over.ensures.whole c.write_over.ensures.ok
