-- What a map's pages are as a finite map.
use Rattle.std.proofs.Common.{◌≡◌, ℕ, Bool, true, false, ◌&&◌, T, List, [], ◌∷◌, cond, Some, refl, sym, ap, subst, ◌∙◌}
use Rattle.std.specs.BTreeMap as tree
use Rattle.std.specs.BTreeMap.{BTreeMap, is_at}
use Rattle.std.specs.Cmp.{nat_cmp_total}
use Rattle.std.specs.FinMap.{from_sorted, entries, get, same_map, nat_cmp-IsAntisymmetric, get-from_entries, get-from_sorted, entries-from_sorted}
use Rattle.std.specs.FinMap.Entries.{find, below_all, is_sorted}
use Rattle.std.specs.List.{AllByRecursion}
use Rattle.std.specs.List.Sorted.{IsStrictlySortedBy}
use Rattle.std.specs.Map.{lookup, keys_of}
use Rattle.std.specs.Ordering.{nat_cmp, is_lt}
use Rattle.std.specs.declared.cmp.Ordering.TheVariants.{Less}
use Rattle.elf_load.specs.Pages.{map_of}
use Rattle.elf_load.specs.declared.page.Page.{Page}

both : (x y : Bool) → T x → T y → T (x && y)
both true true a b = tt
both true false a b = absurd b
both false y a b = absurd a

found_first : (es : List (ℕ × Page)) (q : ℕ) → find nat_cmp q es ≡ lookup (is_at (nat_cmp q)) es
found_first [] q = refl
found_first (e ∷ es) q = ap (cond (is_at (nat_cmp q) e.0) (Some e.1)) (found_first es q)

pub found_at : (pages : BTreeMap ℕ Page) (q : ℕ) → get (map_of pages) q ≡ tree.get nat_cmp pages q
found_at pages q = get-from_entries nat_cmp_total pages.entries q ∙ found_first pages.entries q

below_rest : (k : ℕ) (es : List (ℕ × Page)) → AllByRecursion (λ q. nat_cmp k q ≡ Less) (keys_of es) → T (below_all nat_cmp k es)
below_rest k [] h = tt
below_rest k (e ∷ es) h = both (is_lt (nat_cmp k e.0)) (below_all nat_cmp k es) (subst (λ r. T (is_lt r)) (sym h.0) tt) (below_rest k es h.1)

rises : (es : List (ℕ × Page)) → IsStrictlySortedBy nat_cmp (keys_of es) → T (is_sorted nat_cmp es)
unfolding IsStrictlySortedBy
rises [] h = tt
rises (e ∷ es) h = both (below_all nat_cmp e.0 es) (is_sorted nat_cmp es) (below_rest e.0 es h.0) (rises es h.1)

-- the entries of the finite map are those of the map, in order
pub entries_kept : (pages : BTreeMap ℕ Page) → tree.IsOrdered nat_cmp pages → entries (map_of pages) ≡ pages.entries
entries_kept pages h =
    let up : T (is_sorted nat_cmp pages.entries) = rises pages.entries h in
    ap entries (same_map nat_cmp_total nat_cmp-IsAntisymmetric (map_of pages) (from_sorted pages.entries) (λ q. get-from_entries nat_cmp_total pages.entries q ∙ sym (get-from_sorted nat_cmp pages.entries q up)))
    ∙ entries-from_sorted nat_cmp pages.entries up
