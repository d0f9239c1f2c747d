use Rattle.std.proofs.Common.{◌≡◌, ℕ, [], ◌∷◌, ◌++◌, sym, ap, subst, ◌∙◌}
use Rattle.std.specs.FinMap.{get}
use Rattle.elf_load.specs.Images.{stack, areas}
use Rattle.elf_load.specs.Pages.{IsPage, HoldsAreas}
use Rattle.elf_load.proofs.InMap.{page_in_map, flags_of_page, byte_of_page}
use Rattle.elf_load.proofs.loading.load.Goals as goal

pub returns-clause-loaded : goal.returns-clause-loaded
unfolding areas
returns-clause-loaded c =
    let same : c.deref.result.now ≡ areas c.args.bytes.now = c.deref.ensures.value ∙ c.in_ok-push.ensures.items ∙ ap (λ k. k ++ stack ∷ []) c.in_ok-entry.ensures.segments in
    let holds : HoldsAreas c.args.bytes.now (areas c.args.bytes.now) c.in_ok-pages.pages = subst (λ k. HoldsAreas c.args.bytes.now k c.in_ok-pages.pages) same c.in_ok-pages.ensures in
    let found : (q : ℕ) → IsPage c.args.bytes.now (areas c.args.bytes.now) q (get c.new.result.pages q) = λ q. subst (λ m. IsPage c.args.bytes.now (areas c.args.bytes.now) q (get m q)) (sym c.new.ensures.pages) (page_in_map c.args.bytes.now (areas c.args.bytes.now) c.in_ok-pages.pages holds q) in
    record {
      fine = c.in_ok-entry.ensures.fine;
      entry = c.new.ensures.entry ∙ c.in_ok-entry.ensures.entry;
      mapped = λ q. (found q).mapped;
      flags = λ q. flags_of_page c.args.bytes.now (areas c.args.bytes.now) q (get c.new.result.pages q) (found q);
      size = λ q. (found q).size;
      content = λ q i l. byte_of_page c.args.bytes.now (areas c.args.bytes.now) q i (get c.new.result.pages q) l (found q);
    }
