-- The pages that stand in groups, by their numbers.
use Rattle.std.proofs.Common.{◌≡◌, ℕ, zero, suc, ◌+◌, ◌-◌, ◌*◌, ◌/◌, ◌%◌, ◌<◌, ◌≢◌, true, false, cond, List, [], ◌∷◌, ◌++◌, length, Some, None, refl, sym, ap, subst, ◌∙◌, arith}
use Rattle.std.proofs.Common.{inl, inr}
use Rattle.std.specs.Prelude.{Option, IfSome}
use Rattle.std.specs.FinMap as map
use Rattle.std.specs.FinMap.{find, get-from_entries, same_map, nat_cmp-IsAntisymmetric}
use Rattle.std.specs.Option.{option_or}
use Rattle.std.specs.Ordering.{nat_cmp, eq_by_cmp}
use Rattle.std.proofs.lemmas.Bool.{cases_eq, cases_lt}
use Rattle.std.proofs.lemmas.List.{get_or_past}
use Rattle.std.proofs.lemmas.Cmp.{nat_cmp_total}
use Rattle.cow_pages.specs.SymbolicMemory.{SymbolicPage, HasAllBytes}
use Rattle.cow_pages.specs.Groups.{Places, Groups, page_at_place, AreGroups, page_in, page_in_group, numbered_from, pages_in, memory_in}
use Rattle.cow_pages.proofs.GroupLookups.{find_past, find_first, find_no_group, groups_behind}

or_none : (o : Option SymbolicPage) → option_or o None ≡ o
or_none None = refl
or_none (Some page) = refl

pub find_either : (q : ℕ) (xs ys : List (ℕ × SymbolicPage))
    → find nat_cmp q (xs ++ ys) ≡ option_or (find nat_cmp q xs) (find nat_cmp q ys)
find_either q [] ys = refl
find_either q (x ∷ xs) ys =
    elim (eq_by_cmp nat_cmp q x.0) as (λ b. cond b (Some x.1) (find nat_cmp q (xs ++ ys)) ≡ option_or (cond b (Some x.1) (find nat_cmp q xs)) (find nat_cmp q ys)) [
      | true ↦ refl
      | false ↦ find_either q xs ys
    ]

-- a number below those of the places isn't found there
below_places : (q n : ℕ) (places : Places) → q < n → find nat_cmp q (numbered_from n places) ≡ None
below_places q n [] lt = refl
below_places q n (None ∷ places) lt = below_places q (n + 1) places (omega arith)
below_places q n (Some page ∷ places) lt = find_past q (n, page) (numbered_from (n + 1) places) (omega arith) ∙ below_places q (n + 1) places (omega arith)

-- each place is found by its number
find_place : (n i : ℕ) (places : Places)
    → find nat_cmp (n + i) (numbered_from n places) ≡ page_at_place places i
find_place n i [] = refl
find_place n zero (None ∷ places) = below_places (n + 0) (n + 1) places (omega arith)
find_place n (suc i) (None ∷ places) =
    ap (λ q. find nat_cmp q (numbered_from (n + 1) places)) (omega arith) ∙ find_place (n + 1) i places
find_place n zero (Some page ∷ places) = find_first (n + 0) (n, page) (numbered_from (n + 1) places) (omega arith)
find_place n (suc i) (Some page ∷ places) =
    find_past (n + suc i) (n, page) (numbered_from (n + 1) places) (omega arith)
    ∙ ap (λ q. find nat_cmp q (numbered_from (n + 1) places)) (omega arith) ∙ find_place (n + 1) i places

-- the numbers of a group are those with its number in front
outside_group : (q n : ℕ) (places : Places) → length places ≡ 64 → q / 64 ≢ n
    → find nat_cmp q (numbered_from (64 * n) places) ≡ None
outside_group q n places size other = elim (cases_lt q (64 * n)) [
  | inl before ↦ below_places q (64 * n) places before
  | inr behind ↦
      ap (λ k. find nat_cmp k (numbered_from (64 * n) places)) (omega arith)
      ∙ find_place (64 * n) (q - 64 * n) places
      ∙ get_or_past places (q - 64 * n) None (omega arith)
]

inside_group : (q n : ℕ) (places : Places) → q / 64 ≡ n
    → find nat_cmp q (numbered_from (64 * n) places) ≡ page_at_place places (q % 64)
inside_group q n places same =
    ap (λ k. find nat_cmp k (numbered_from (64 * n) places)) (omega arith) ∙ find_place (64 * n) (q % 64) places

-- a page is found where it stands in its group
find_page : (groups : Groups) (q : ℕ) → AreGroups groups → find nat_cmp q (pages_in groups) ≡ page_in groups q
find_page [] q are = refl
find_page (g ∷ groups) q are =
    find_either q (numbered_from (64 * g.0) g.1) (pages_in groups)
    ∙ elim (cases_eq (q / 64) g.0) [
      | inl same ↦
          ap (λ o. option_or o (find nat_cmp q (pages_in groups))) (inside_group q g.0 g.1 same)
          ∙ ap (option_or (page_at_place g.1 (q % 64))) (find_page groups q (groups_behind g groups are)
          ∙ ap (λ o. page_in_group o (q % 64)) (find_no_group groups (q / 64) (λ j small. omega (arith, are.in_order 0 (suc j) (omega arith) (omega arith)))))
          ∙ or_none (page_at_place g.1 (q % 64))
          ∙ ap (λ o. page_in_group o (q % 64)) (sym (find_first (q / 64) g groups same))
      | inr other ↦
          ap (λ o. option_or o (find nat_cmp q (pages_in groups))) (outside_group q g.0 g.1 (are.full 0 (omega arith)) other)
          ∙ find_page groups q (groups_behind g groups are)
          ∙ ap (λ o. page_in_group o (q % 64)) (sym (find_past (q / 64) g groups other))
    ]

pub get_in_groups : (groups : Groups) (q : ℕ) → AreGroups groups
    → map.get (memory_in groups) q ≡ page_in groups q
unfolding memory_in
get_in_groups groups q are = get-from_entries nat_cmp_total (pages_in groups) q ∙ find_page groups q are

-- groups in which each number has its page are one memory
pub same_memory : (one other : Groups) → AreGroups one → AreGroups other
    → ((q : ℕ) → page_in one q ≡ page_in other q) → memory_in one ≡ memory_in other
same_memory one other are_one are_other same =
    same_map nat_cmp_total nat_cmp-IsAntisymmetric (memory_in one) (memory_in other) (λ q. get_in_groups one q are_one ∙ same q ∙ sym (get_in_groups other q are_other))

-- each page has all of its bytes
found_whole : (groups : Groups) (n place : ℕ) → AreGroups groups
    → IfSome (page_in_group (find nat_cmp n groups) place) HasAllBytes
found_whole [] n place are = tt
found_whole (g ∷ groups) n place are = elim (cases_eq n g.0) [
  | inl same ↦ subst (λ o. IfSome (page_in_group o place) HasAllBytes) (sym (find_first n g groups same)) (are.whole 0 place (omega arith))
  | inr other ↦ subst (λ o. IfSome (page_in_group o place) HasAllBytes) (sym (find_past n g groups other)) (found_whole groups n place (groups_behind g groups are))
]

pub pages_whole : (groups : Groups) (q : ℕ) → AreGroups groups
    → IfSome (map.get (memory_in groups) q) HasAllBytes
pages_whole groups q are = subst (λ (o : Option SymbolicPage). IfSome o HasAllBytes) (sym (get_in_groups groups q are)) (found_whole groups (q / 64) (q % 64) are)
