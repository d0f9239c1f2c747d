use Rattle.std.proofs.Common.{◌≡◌, sym, subst, ap, ◌∙◌}
use Rattle.std.proofs.lemmas.List.Elements.{All-cons, All-nil}
use Rattle.std.specs.Prelude.{All}
use Rattle.std.specs.Arc.{arc_value}
use Rattle.std.specs.FinMap.{find, get, insert, entries_sorted}
use Rattle.std.specs.Option.{option_map, option_or}
use Rattle.std.specs.Ordering.{nat_cmp}
use Rattle.cow_pages.specs.SymbolicMemory.{SymbolicMemory, SymbolicPage, as_symbolic}
use Rattle.cow_pages.specs.Groups.{Groups, memory_in, memory_over}
use Rattle.cow_pages.proofs.ImageBytes.{IsOfBytes, image_small}
use Rattle.cow_pages.proofs.ImagePages.{all_left, rest_sorted, one_put_in, image_bytes, image_flags}
use Rattle.cow_pages.proofs.Overlays.{over_nothing}
use Rattle.cow_pages.proofs.pages.Pages.new.Goals as goal

pub loop-number-init : goal.loop-number-init
loop-number-init c =
    rw (c.into_iter-number-iterator.ensures.into_iter_gives, c.pages-number-items.ensures, c.new-groups.ensures)
    (record { sorted = entries_sorted c.args.image.now.pages; pages = all_left c.args.image.now.pages; small = λ all. all })

pub loop-number-preserved : goal.loop-number-preserved
loop-number-preserved c =
    let sorted = rw c.in-Some.ensures.steps at c.loop-number.invariant.sorted in
    record {
      sorted = rest_sorted (memory_in c.loop-number.groups) c.in-Some.number.now c.in-Some.page.now c.next.new.self sorted;
      pages = λ q.
          c.loop-number.invariant.pages q
          ∙ ap (λ rest. option_or (option_map as_symbolic (find nat_cmp q rest)) (get (memory_in c.loop-number.groups) q)) c.in-Some.ensures.steps
          ∙ one_put_in (memory_in c.loop-number.groups) c.in-Some.number.now c.in-Some.page.now c.next.new.self sorted q
          ∙ sym (ap (λ (m : SymbolicMemory). option_or (option_map as_symbolic (find nat_cmp q c.next.new.self)) (get m q))
          (c.in_ok-add_page.ensures.ok ∙ ap (λ (p : SymbolicPage). insert (memory_in c.loop-number.groups) c.in-Some.number.now p) c.in_ok-page.ensures.page));
      small = λ left.
          c.loop-number.invariant.small
          (subst (All IsOfBytes) (sym c.in-Some.ensures.steps) (All-cons IsOfBytes _ _ c.in_ok-page.ensures.small left));
    }

-- in the end it is the memory of all pages
all : (c : goal.After-new-own) → memory_over (arc_value c.in_ok-base.base) c.new-own.result ≡ memory_in c.loop-number.groups
all c =
    ap (λ (gs : Groups). memory_over (arc_value c.in_ok-base.base) gs) c.new-own.ensures
    ∙ over_nothing (arc_value c.in_ok-base.base)
    ∙ ap memory_in c.in_ok-base.ensures.ok

pub returns-clause-pages : goal.returns-clause-pages
returns-clause-pages c = λ q.
    ap (λ (m : SymbolicMemory). get m q) (all c)
    ∙ sym (c.loop-number.invariant.pages q
    ∙ ap (λ rest. option_or (option_map as_symbolic (find nat_cmp q rest)) (get (memory_in c.loop-number.groups) q)) c.in-None.ensures.steps.0)

pub returns-clause-bytes : goal.returns-clause-bytes
returns-clause-bytes c =
    image_bytes c.args.image.now (memory_over (arc_value c.in_ok-base.base) c.new-own.result) (returns-clause-pages c)

pub returns-clause-flags : goal.returns-clause-flags
returns-clause-flags c =
    image_flags c.args.image.now (memory_over (arc_value c.in_ok-base.base) c.new-own.result) (returns-clause-pages c)

pub returns-clause-small : goal.returns-clause-small
returns-clause-small c =
    image_small c.args.image.now
    (c.loop-number.invariant.small (subst (All IsOfBytes) (sym c.in-None.ensures.steps.0) (All-nil IsOfBytes)))
