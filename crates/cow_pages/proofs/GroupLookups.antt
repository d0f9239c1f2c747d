-- Groups that are found by their numbers, and what one that is put in, or in the place of another, changes.
use Rattle.std.proofs.Common.{◌≡◌, ℕ, zero, suc, ◌<◌, ◌≤◌, ◌≢◌, Bool, true, false, cond, List, [], ◌∷◌, length, set, Some, None, refl, sym, ap, subst, ◌∙◌, arith, length-set, get_or-set_same, get_or-set_other}
use Rattle.std.proofs.Common.{inl, inr}
use Rattle.std.specs.Prelude.{◌==◌, Option, IfSome, insert}
use Rattle.cow_pages.specs.SymbolicMemory.{HasAllBytes}
use Rattle.std.specs.FinMap.{find}
use Rattle.std.specs.Ordering.{nat_cmp}
use Rattle.std.specs.Cmp.{unsigned_tied}
use Rattle.std.proofs.lemmas.Bool.{cases_eq, cases_lt}
use Rattle.std.proofs.lemmas.Bool.Decides.{nat_tests}
use Rattle.std.proofs.lemmas.Grind.{common_steps}
use Rattle.cow_pages.specs.Groups.{Places, Groups, page_at_place, group_at, AreGroups, IsGroupAt, IsGapFor}

-- one step of a look-up
pub find_step : {X : Type 0} (q : ℕ) (e : ℕ × X) (l : List (ℕ × X))
    → find nat_cmp q (e ∷ l) ≡ cond (q == e.0) (Some e.1) (find nat_cmp q l)
find_step q e l = ap (λ b. cond b (Some e.1) (find nat_cmp q l)) (unsigned_tied q e.0)

pub test_of_other : (a b : ℕ) → a ≢ b → (a == b) ≡ false
test_of_other a b differs = grind (arith, nat_tests)

pub test_of_same : (a b : ℕ) → a ≡ b → (a == b) ≡ true
test_of_same a b same = grind (arith, nat_tests)

pub find_past : {X : Type 0} (q : ℕ) (e : ℕ × X) (l : List (ℕ × X)) → q ≢ e.0
    → find nat_cmp q (e ∷ l) ≡ find nat_cmp q l
find_past q e l differs = find_step q e l ∙ ap (λ b. cond b (Some e.1) (find nat_cmp q l)) (test_of_other q e.0 differs)

pub find_first : {X : Type 0} (q : ℕ) (e : ℕ × X) (l : List (ℕ × X)) → q ≡ e.0
    → find nat_cmp q (e ∷ l) ≡ Some e.1
find_first q e l same = find_step q e l ∙ ap (λ b. cond b (Some e.1) (find nat_cmp q l)) (test_of_same q e.0 same)

-- a number that no group has isn't found
pub find_no_group : (groups : Groups) (k : ℕ) → ((j : ℕ) → j < length groups → (group_at groups j).0 ≢ k)
    → find nat_cmp k groups ≡ None
find_no_group [] k none = refl
find_no_group (g ∷ groups) k none =
    find_past k g groups (λ is. none 0 (omega arith) (sym is))
    ∙ find_no_group groups k (λ j small. none (suc j) (omega arith))

pub find_in_gap : (groups : Groups) (k i : ℕ) → IsGapFor groups k i → find nat_cmp k groups ≡ None
find_in_gap groups k i gap = find_no_group groups k (λ j small same. elim (cases_lt j i) [
  | inl before ↦ omega (arith, gap.below j before)
  | inr behind ↦ omega (arith, gap.above j behind small)
])

-- a number below the first has its place in front
pub gap_in_front : (groups : Groups) (k : ℕ) → AreGroups groups → 0 < length groups → k < (group_at groups 0).0
    → IsGapFor groups k 0
gap_in_front groups k are some less = record {
  in_range = omega arith;
  below = λ j lt. absurd (omega (arith, lt));
  above = λ j le small. elim (cases_eq j 0) [
    | inl same ↦ omega (arith, less, ap (λ n. (group_at groups n).0) same)
    | inr other ↦ omega (arith, less, are.in_order 0 j (omega arith) small)
  ];
}

-- what is said of groups holds of all but the first
pub groups_behind : (g : ℕ × Places) (groups : Groups) → AreGroups (g ∷ groups) → AreGroups groups
groups_behind g groups are = record {
  in_order = λ i j lt within. are.in_order (suc i) (suc j) (omega arith) (omega arith);
  full = λ i within. are.full (suc i) (omega arith);
  whole = λ i place within. are.whole (suc i) place (omega arith);
}

place_behind : (g : ℕ × Places) (groups : Groups) (k i : ℕ) → IsGroupAt (g ∷ groups) k (suc i)
    → IsGroupAt groups k i
place_behind g groups k i at = record { in_range = omega (arith, at.in_range); has_number = at.has_number }

number_behind : (g : ℕ × Places) (groups : Groups) (k i : ℕ) → AreGroups (g ∷ groups)
    → IsGroupAt (g ∷ groups) k (suc i) → k ≢ g.0
number_behind g groups k i are at same = omega (arith, are.in_order 0 (suc i) (omega arith) at.in_range, at.has_number)

-- the group at its place is found
pub find_group : (groups : Groups) (k i : ℕ) → AreGroups groups → IsGroupAt groups k i
    → find nat_cmp k groups ≡ Some (group_at groups i).1
find_group [] k i are at = absurd (omega (arith, at.in_range))
find_group (g ∷ groups) k zero are at = find_first k g groups (sym at.has_number)
find_group (g ∷ groups) k (suc i) are at =
    find_past k g groups (number_behind g groups k i are at)
    ∙ find_group groups k i (groups_behind g groups are) (place_behind g groups k i at)

two_in_turn : {X : Type 0} (a b : Bool) (p q : X) (rest : Option X) → (a ≡ true → b ≡ true → ⊥)
    → cond a (Some p) (cond b (Some q) rest) ≡ cond b (Some q) (cond a (Some p) rest)
two_in_turn true true p q rest apart = absurd (apart refl refl)
two_in_turn true false p q rest apart = refl
two_in_turn false b p q rest apart = refl

hides_second : {X : Type 0} (a : Bool) (p q : X) (rest : Option X)
    → cond a (Some p) rest ≡ cond a (Some p) (cond a (Some q) rest)
hides_second true p q rest = refl
hides_second false p q rest = refl

-- a group in the place of one is found by its number, and all other numbers find what they found
pub find-replaced : (groups : Groups) (k i : ℕ) → AreGroups groups → IsGroupAt groups k i
    → (places : Places) (q : ℕ)
    → find nat_cmp q (set groups i (k, places)) ≡ cond (q == k) (Some places) (find nat_cmp q groups)
find-replaced [] k i are at places q = absurd (omega (arith, at.in_range))
find-replaced (g ∷ groups) k zero are at places q =
    find_step q (k, places) groups ∙ hides_second (q == k) places g.1 (find nat_cmp q groups)
    ∙ ap (λ n. cond (q == k) (Some places) (cond (q == n) (Some g.1) (find nat_cmp q groups))) (sym at.has_number)
    ∙ ap (cond (q == k) (Some places)) (sym (find_step q g groups))
find-replaced (g ∷ groups) k (suc i) are at places q =
    find_step q g (set groups i (k, places))
    ∙ ap (cond (q == g.0) (Some g.1)) (find-replaced groups k i (groups_behind g groups are) (place_behind g groups k i at) places q)
    ∙ two_in_turn (q == g.0) (q == k) g.1 places (find nat_cmp q groups) (λ one other. number_behind g groups k i are at (grind (arith, nat_tests, one, other)))
    ∙ ap (cond (q == k) (Some places)) (sym (find_step q g groups))

-- they are groups again
pub are_groups-replaced : (groups : Groups) (k i : ℕ) → AreGroups groups → IsGroupAt groups k i
    → (places : Places) → length places ≡ 64 → ((place : ℕ) → IfSome (page_at_place places place) HasAllBytes)
    → AreGroups (set groups i (k, places))
are_groups-replaced groups k i are at places size all_whole = record {
  in_order = λ m n lt within. grind (arith, common_steps, are.in_order m n, are.in_order m i, are.in_order i n, at.in_range, at.has_number);
  full = λ m within. grind (arith, common_steps, are.full m, at.in_range, size);
  whole = λ m place within. elim (cases_eq m i) [
    | inl same ↦
        subst (λ (g : ℕ × Places). IfSome (page_at_place g.1 place) HasAllBytes)
        (sym (ap (group_at (set groups i (k, places))) same ∙ get_or-set_same groups i (k, places) (0, []) at.in_range))
        (all_whole place)
    | inr other ↦
        subst (λ (g : ℕ × Places). IfSome (page_at_place g.1 place) HasAllBytes)
        (sym (get_or-set_other groups i m (k, places) (0, []) other))
        (are.whole m place (omega (arith, within, length-set groups i (k, places))))
  ];
}

-- a group that is put in is found by its number, and all other numbers find what they found
pub find-put_in : (groups : Groups) (k i : ℕ) (places : Places) (q : ℕ) → i ≤ length groups
    → ((j : ℕ) → j < i → (group_at groups j).0 < k)
    → find nat_cmp q (insert groups i (k, places)) ≡ cond (q == k) (Some places) (find nat_cmp q groups)
find-put_in [] zero zero places q within below = find_step q (zero, places) []
find-put_in groups k zero places q within below = find_step q (k, places) groups
find-put_in [] k (suc i) places q within below = absurd (omega (arith, within))
find-put_in (g ∷ groups) k (suc i) places q within below =
    find_step q g (insert groups i (k, places))
    ∙ ap (cond (q == g.0) (Some g.1)) (find-put_in groups k i places q (omega (arith, within)) (λ j lt. below (suc j) (omega arith)))
    ∙ two_in_turn (q == g.0) (q == k) g.1 places (find nat_cmp q groups) (λ one other. let less : g.0 < k = below 0 (omega arith) in grind (arith, nat_tests, one, other, less))
    ∙ ap (cond (q == k) (Some places)) (sym (find_step q g groups))
