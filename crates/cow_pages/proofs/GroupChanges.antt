-- What a page that is put into its group, and a new group without pages, change of a memory.
use Rattle.std.proofs.Common.{◌≡◌, ℕ, ◌+◌, ◌-◌, ◌/◌, ◌%◌, ◌<◌, ◌≤◌, cond, [], length, set, Some, None, refl, sym, ap, subst, ◌∙◌, arith, length-set, get_or-set_same, get_or-set_other}
use Rattle.std.proofs.Common.{inl, inr}
use Rattle.std.specs.Prelude.{◌==◌, Option, IfSome, insert}
use Rattle.std.specs.FinMap as map
use Rattle.std.specs.FinMap.{find, get-insert, same_map, nat_cmp-IsAntisymmetric}
use Rattle.std.specs.Ordering.{nat_cmp}
use Rattle.std.specs.Cmp.{unsigned_tied}
use Rattle.std.proofs.lemmas.Bool.{cases_eq, cases_lt, cases_order}
use Rattle.std.proofs.lemmas.Cmp.{nat_cmp_total}
use Rattle.std.proofs.lemmas.List.Edits.{get_or-insert_at, get_or-insert_below, get_or-insert_above, length-insert}
use Rattle.cow_pages.specs.SymbolicMemory.{SymbolicPage, HasAllBytes, with_page}
use Rattle.cow_pages.specs.Groups.{Places, Groups, page_at_place, group_at, AreGroups, IsGroupAt, IsGapFor, page_in, page_in_group, memory_in}
use Rattle.cow_pages.proofs.GroupLookups.{find_group, find_in_gap, find-replaced, find-put_in, are_groups-replaced, test_of_other, test_of_same}
use Rattle.cow_pages.proofs.PageLookups.{get_in_groups, same_memory}

-- the groups with a page at its place in one of them
abbrev pub changed_groups : Groups → ℕ → ℕ → Option SymbolicPage → Groups
changed_groups groups number i page = set groups i (number / 64, set (group_at groups i).1 (number % 64) page)

module _ (groups : Groups) (number i : ℕ) (are : AreGroups groups) (at : IsGroupAt groups (number / 64) i) (page : Option SymbolicPage) where
  abbrev changed_places : Places
  changed_places = set (group_at groups i).1 (number % 64) page

  all_whole : IfSome page HasAllBytes → (place : ℕ) → IfSome (page_at_place changed_places place) HasAllBytes
  all_whole whole place = elim (cases_eq place (number % 64)) [
    | inl same ↦
        subst (λ (o : Option SymbolicPage). IfSome o HasAllBytes)
        (sym (ap (page_at_place changed_places) same ∙ get_or-set_same (group_at groups i).1 (number % 64) page None (omega (arith, are.full i at.in_range)))) whole
    | inr other ↦
        subst (λ (o : Option SymbolicPage). IfSome o HasAllBytes)
        (sym (get_or-set_other (group_at groups i).1 (number % 64) place page None other)) (are.whole i place at.in_range)
  ]

  pub are_groups-changed : IfSome page HasAllBytes → AreGroups (changed_groups groups number i page)
  are_groups-changed whole =
      are_groups-replaced groups (number / 64) i are at changed_places (length-set (group_at groups i).1 (number % 64) page ∙ are.full i at.in_range) (all_whole whole)

  in_group : (q : ℕ) → q / 64 ≡ number / 64 → page_at_place (group_at groups i).1 (q % 64) ≡ page_in groups q
  in_group q same =
      ap (λ o. page_in_group o (q % 64)) (sym (ap (λ k. find nat_cmp k groups) same ∙ find_group groups (number / 64) i are at))

  place_test : (q : ℕ) → q / 64 ≡ number / 64
      → page_at_place changed_places (q % 64) ≡ cond (q == number) page (page_in groups q)
  place_test q same = elim (cases_eq q number) [
    | inl is ↦
        ap (λ n. page_at_place changed_places (n % 64)) is
        ∙ get_or-set_same (group_at groups i).1 (number % 64) page None (omega (arith, are.full i at.in_range))
        ∙ ap (λ b. cond b page (page_in groups q)) (sym (test_of_same q number is))
    | inr other ↦
        get_or-set_other (group_at groups i).1 (number % 64) (q % 64) page None (λ place. other (omega (arith, same, place)))
        ∙ in_group q same
        ∙ ap (λ b. cond b page (page_in groups q)) (sym (test_of_other q number other))
  ]

  pub page_in-changed : (q : ℕ)
      → page_in (changed_groups groups number i page) q ≡ cond (q == number) page (page_in groups q)
  page_in-changed q =
      ap (λ o. page_in_group o (q % 64)) (find-replaced groups (number / 64) i are at changed_places (q / 64))
      ∙ elim (cases_eq (q / 64) (number / 64)) [
        | inl same ↦
            ap (λ b. page_in_group (cond b (Some changed_places) (find nat_cmp (q / 64) groups)) (q % 64)) (test_of_same (q / 64) (number / 64) same)
            ∙ place_test q same
        | inr other ↦
            ap (λ b. page_in_group (cond b (Some changed_places) (find nat_cmp (q / 64) groups)) (q % 64)) (test_of_other (q / 64) (number / 64) other)
            ∙ ap (λ b. cond b page (page_in groups q)) (sym (test_of_other q number (λ same. other (ap (λ n. n / 64) same))))
      ]

-- where no page is put and none was there, all stays
none_for_none : (q number : ℕ) (groups : Groups) → page_in groups number ≡ None
    → cond (q == number) None (page_in groups q) ≡ page_in groups q
none_for_none q number groups none = elim (cases_eq q number) [
  | inl same ↦ ap (λ b. cond b None (page_in groups q)) (test_of_same q number same) ∙ sym none ∙ ap (page_in groups) (sym same)
  | inr other ↦ ap (λ b. cond b None (page_in groups q)) (test_of_other q number other)
]

-- memory has the page
pub memory-changed : (groups : Groups) (number i : ℕ) → AreGroups groups → IsGroupAt groups (number / 64) i
    → (page : Option SymbolicPage) → IfSome page HasAllBytes → (page ≡ None → page_in groups number ≡ None)
    → memory_in (changed_groups groups number i page) ≡ with_page (memory_in groups) number page
memory-changed groups number i are at None whole still_none =
    same_memory _ groups (are_groups-changed groups number i are at None whole) are (λ q.
    page_in-changed groups number i are at None q ∙ none_for_none q number groups (still_none refl))
memory-changed groups number i are at (Some page) whole still_none =
    same_map nat_cmp_total nat_cmp-IsAntisymmetric _ _ (λ q.
    get_in_groups _ q (are_groups-changed groups number i are at (Some page) whole)
    ∙ page_in-changed groups number i are at (Some page) q
    ∙ ap (cond (q == number) (Some page)) (sym (get_in_groups groups q are))
    ∙ ap (λ b. cond b (Some page) (map.get (memory_in groups) q)) (sym (unsigned_tied q number))
    ∙ sym (get-insert nat_cmp_total (memory_in groups) number page q))

-- A new group without pages is put into a gap.
module _ (groups : Groups) (k i : ℕ) (are : AreGroups groups) (gap : IsGapFor groups k i) (places : Places) where
  abbrev more_groups : Groups
  more_groups = insert groups i (k, places)

  one_group_more : length more_groups ≡ length groups + 1
  one_group_more = length-insert groups i (k, places) gap.in_range

  -- what stands at a place of the list
  before_gap : (j : ℕ) → j < i → group_at more_groups j ≡ group_at groups j
  before_gap j lt = get_or-insert_below groups i (k, places) (0, []) j lt gap.in_range

  in_gap : (j : ℕ) → j ≡ i → group_at more_groups j ≡ (k, places)
  in_gap j same = ap (group_at more_groups) same ∙ get_or-insert_at groups i (k, places) (0, []) gap.in_range

  behind_gap : (j : ℕ) → i < j → group_at more_groups j ≡ group_at groups (j - 1)
  behind_gap j lt =
      let next : j ≡ (j - 1) + 1 = omega arith in
      ap (group_at more_groups) next ∙ get_or-insert_above groups i (k, places) (0, []) (j - 1) (omega arith) gap.in_range

  -- and its number
  number_before : (j : ℕ) → j < i → (group_at more_groups j).0 ≡ (group_at groups j).0
  number_before j lt = ap (λ (g : ℕ × Places). g.0) (before_gap j lt)

  number_in : (j : ℕ) → j ≡ i → (group_at more_groups j).0 ≡ k
  number_in j same = ap (λ (g : ℕ × Places). g.0) (in_gap j same)

  number_behind : (j : ℕ) → i < j → (group_at more_groups j).0 ≡ (group_at groups (j - 1)).0
  number_behind j lt = ap (λ (g : ℕ × Places). g.0) (behind_gap j lt)

  rise_from_before : (m n : ℕ) → m < i → m < n → n < length groups + 1
      → (group_at more_groups m).0 < (group_at more_groups n).0
  rise_from_before m n before less within = elim (cases_order n i) [
    | inl same ↦ omega (arith, number_before m before, number_in n same, gap.below m before)
    | inr other ↦ elim other [
      | inl also ↦ omega (arith, number_before m before, number_before n also, are.in_order m n less (omega (arith, gap.in_range)))
      | inr behind ↦ omega (arith, number_before m before, number_behind n behind, gap.below m before, gap.above (n - 1) (omega arith) (omega arith))
    ]
  ]

  rise_from_gap : (m n : ℕ) → i ≤ m → m < n → n < length groups + 1
      → (group_at more_groups m).0 < (group_at more_groups n).0
  rise_from_gap m n behind less within = elim (cases_eq m i) [
    | inl same ↦ omega (arith, number_in m same, number_behind n (omega arith), gap.above (n - 1) (omega arith) (omega arith))
    | inr other ↦
        let above : i < m = omega (arith, behind, other) in
        omega (arith, number_behind m above, number_behind n (omega arith), are.in_order (m - 1) (n - 1) (omega arith) (omega arith))
  ]

  size_there : length places ≡ 64 → (j : ℕ) → j < length groups + 1 → length (group_at more_groups j).1 ≡ 64
  size_there size j within = elim (cases_order j i) [
    | inl same ↦ ap (λ (g : ℕ × Places). length g.1) (in_gap j same) ∙ size
    | inr other ↦ elim other [
      | inl before ↦ ap (λ (g : ℕ × Places). length g.1) (before_gap j before) ∙ are.full j (omega (arith, gap.in_range))
      | inr behind ↦ ap (λ (g : ℕ × Places). length g.1) (behind_gap j behind) ∙ are.full (j - 1) (omega arith)
    ]
  ]

  whole_there : ((place : ℕ) → page_at_place places place ≡ None) → (j place : ℕ) → j < length groups + 1
      → IfSome (page_at_place (group_at more_groups j).1 place) HasAllBytes
  whole_there empty j place within = elim (cases_order j i) [
    | inl same ↦ subst (λ (o : Option SymbolicPage). IfSome o HasAllBytes) (sym (ap (λ (g : ℕ × Places). page_at_place g.1 place) (in_gap j same) ∙ empty place)) tt
    | inr other ↦ elim other [
      | inl before ↦ subst (λ (g : ℕ × Places). IfSome (page_at_place g.1 place) HasAllBytes) (sym (before_gap j before)) (are.whole j place (omega (arith, gap.in_range)))
      | inr behind ↦ subst (λ (g : ℕ × Places). IfSome (page_at_place g.1 place) HasAllBytes) (sym (behind_gap j behind)) (are.whole (j - 1) place (omega arith))
    ]
  ]

  pub are_groups-more : length places ≡ 64 → ((place : ℕ) → page_at_place places place ≡ None)
      → AreGroups (insert groups i (k, places))
  are_groups-more size empty = record {
    in_order = λ m n less within. elim (cases_lt m i) [
      | inl before ↦ rise_from_before m n before less (omega (arith, one_group_more))
      | inr behind ↦ rise_from_gap m n behind less (omega (arith, one_group_more))
    ];
    full = λ j within. size_there size j (omega (arith, one_group_more));
    whole = λ j place within. whole_there empty j place (omega (arith, one_group_more));
  }

  pub page_in-more : ((place : ℕ) → page_at_place places place ≡ None) → (q : ℕ)
      → page_in (insert groups i (k, places)) q ≡ page_in groups q
  page_in-more empty q =
      ap (λ o. page_in_group o (q % 64)) (find-put_in groups k i places (q / 64) gap.in_range gap.below)
      ∙ elim (cases_eq (q / 64) k) [
        | inl same ↦
            ap (λ b. page_in_group (cond b (Some places) (find nat_cmp (q / 64) groups)) (q % 64)) (test_of_same (q / 64) k same)
            ∙ empty (q % 64)
            ∙ ap (λ o. page_in_group o (q % 64)) (sym (ap (λ n. find nat_cmp n groups) same ∙ find_in_gap groups k i gap))
        | inr other ↦
            ap (λ b. page_in_group (cond b (Some places) (find nat_cmp (q / 64) groups)) (q % 64)) (test_of_other (q / 64) k other)
      ]

  pub memory-more : length places ≡ 64 → ((place : ℕ) → page_at_place places place ≡ None)
      → memory_in (insert groups i (k, places)) ≡ memory_in groups
  memory-more size empty = same_memory _ groups (are_groups-more size empty) are (page_in-more empty)

  pub group_put_in : IsGroupAt (insert groups i (k, places)) k i
  group_put_in = record { in_range = omega (arith, one_group_more, gap.in_range); has_number = number_in i refl }
