-- The node that the entries tell is the one that the order names.
use Rattle.std.proofs.Common.{◌≡◌, ℕ, ◌+◌, ◌*◌, ◌/◌, ◌%◌, ◌<◌, ◌≤◌, ◌^◌, zero, suc, max, Bool, true, false, IsTrue, Option, Some, None, ◌⊎◌, List, [], ◌∷◌, ◌&&◌, nat_le, nat_lt, length, take, if◌then◌else◌, refl, sym, ap, subst, ◌∙◌, inl, inr, arith}
use Rattle.std.specs.Int.{IsPowerOfTwo}
use Rattle.std.specs.List.{slice_get, list_all}
use Rattle.std.proofs.Common.{eq-eqb}
use Rattle.std.proofs.Math.Nat.{pow-suc}
use Rattle.std.proofs.lemmas.Nat.{pow_pos}
use Rattle.std.proofs.lemmas.Bool.{cases_eq, le-leb}
use Rattle.std.proofs.lemmas.List.{take_all}
use Rattle.std.proofs.lemmas.List.Sums.{count_by_more_no, count_by_more_yes}
use Rattle.std.proofs.lemmas.List.Folds.{list_all_more}
use Rattle.std.proofs.lemmas.Option.{slice_get_cases}
use Rattle.tree_core.specs.Orders.{Candidate, drawn, free_count, is_less_deep, is_named, is_next, is_no_deeper}
use Rattle.tree_core.specs.declared.order.Order.{Order}
use Rattle.tree_core.specs.declared.order.Order.TheVariants.{Deepest, Oldest, Mixed}
use Rattle.free_nodes.specs.declared.sum.FreeSum.{FreeSum}
use Rattle.free_nodes.specs.Sums.{none_free, sum_of_both, sum_of}
use Rattle.free_nodes.specs.Entries.{sum_at, sum_from, IsJoined, IsTree}
use Rattle.free_nodes.specs.Listings.{HasLeaves, IsOver}
use Rattle.free_nodes.specs.Named.{leaf_sum, IsNamedBy}
use Rattle.free_nodes.proofs.Ways.{sum_from-double, sum_from-more}

-- The root is the sum of all leaves.

one_sum : (s : FreeSum) → sum_of_both none_free s ≡ s
one_sum s =
    let free : 0 + s.free ≡ s.free = omega arith in
    let deepest : max 0 s.deepest ≡ s.deepest = omega arith in
    ap (λ n. record { free = n; deepest = max 0 s.deepest }) free ∙ ap (λ n. record { free = s.free; deepest = n }) deepest

level_sum : (entries : List FreeSum) (k : ℕ) → IsJoined entries 1 0 → 2 ^ k * 2 ≤ length entries →
    sum_from entries (2 ^ k) (2 ^ k) ≡ sum_at entries 1
unfolding sum_from
level_sum entries zero j h = one_sum (sum_at entries 1)
level_sum entries (suc k) j h =
    rw (pow-suc 2 k)
    (sum_from-double entries (2 ^ k) (2 ^ k) j (pow_pos k) (omega (arith, h, pow-suc 2 k))
    ∙ level_sum entries k j (omega (arith, h, pow-suc 2 k)))

root_sum : (nodes : List Candidate) (capacity : ℕ) (entries : List FreeSum) → IsOver nodes capacity entries → 0 < capacity →
    sum_from entries capacity capacity ≡ sum_at entries 1
root_sum nodes capacity entries o h =
    let power : IsPowerOfTwo capacity = o.power h in
    subst (λ n. sum_from entries n n ≡ sum_at entries 1) (sym power.1)
    (level_sum entries power.0 o.joined_all (omega (arith, o.long, power.1)))

IsTree-over : (nodes : List Candidate) (capacity : ℕ) (entries : List FreeSum) → IsOver nodes capacity entries →
    0 < capacity → IsTree entries
IsTree-over nodes capacity entries o h =
    let power : IsPowerOfTwo capacity = o.power h in
    record {
      some = omega (arith, o.long, h);
      power = (suc power.0, omega (arith, o.long, power.1, pow-suc 2 power.0));
      joined_all = o.joined_all;
    }

-- What the sum of one node tells of it.

free_if : (b : Bool) (d : ℕ) → let s : FreeSum = if b then record { free = 1; deepest = d } else none_free in
    ((b ≡ true) × (s.free ≡ 1) × (s.deepest ≡ d)) ⊎ ((b ≡ false) × (s.free ≡ 0))
free_if true d = inl (refl, refl, refl)
free_if false d = inr (refl, refl)

told : (c : Candidate) →
    ((c.is_free ≡ true) × ((sum_of (Some c)).free ≡ 1) × ((sum_of (Some c)).deepest ≡ c.depth))
    ⊎ ((c.is_free ≡ false) × ((sum_of (Some c)).free ≡ 0))
told c = free_if c.is_free c.depth

no_deeper_if : (b : Bool) (d most : ℕ) → let s : FreeSum = if b then record { free = 1; deepest = d } else none_free in
    s.deepest ≤ most → (if b then nat_le d most else true) ≡ true
no_deeper_if true d most h = le-leb d most h
no_deeper_if false d most h = refl

less_deep_if : (b : Bool) (d most : ℕ) → let s : FreeSum = if b then record { free = 1; deepest = d } else none_free in
    (0 < s.free → s.deepest < most) → (if b then nat_lt d most else true) ≡ true
less_deep_if true d most h = le-leb (suc d) most (h (omega arith))
less_deep_if false d most h = refl

no_deeper : (nodes : List Candidate) (m most : ℕ) → (sum_of (slice_get nodes m)).deepest ≤ most →
    (c : Candidate) → slice_get nodes m ≡ Some c → is_no_deeper most c ≡ true
no_deeper nodes m most h c is =
    no_deeper_if c.is_free c.depth most (subst (λ (o : Option Candidate). (sum_of o).deepest ≤ most) is h)

less_deep : (nodes : List Candidate) (m most : ℕ) → (0 < (sum_of (slice_get nodes m)).free → (sum_of (slice_get nodes m)).deepest < most) →
    (c : Candidate) → slice_get nodes m ≡ Some c → is_less_deep most c ≡ true
less_deep nodes m most h c is =
    less_deep_if c.is_free c.depth most (subst (λ (o : Option Candidate). 0 < (sum_of o).free → (sum_of o).deepest < most) is h)

-- The first leaves tell of the first nodes.

same_past : (nodes : List Candidate) (m : ℕ) → length nodes ≤ m → take (m + 1) nodes ≡ take m nodes
same_past nodes m h = take_all (m + 1) nodes (omega (arith, h)) ∙ sym (take_all m nodes h)

count_step : (nodes : List Candidate) (m : ℕ) →
    free_count (take (m + 1) nodes) ≡ free_count (take m nodes) + (sum_of (slice_get nodes m)).free
count_step nodes m =
    elim (slice_get_cases nodes m).1 [
      | inl w ↦
          elim (told w.0) [
            | inl t ↦
                rw (w.2)
                (count_by_more_yes (λ (c : Candidate). c.is_free) nodes m w.0 w.1 (ap (λ (c : Candidate). c.is_free) w.3 ∙ t.0)
                ∙ ap (λ n. free_count (take m nodes) + n) (sym t.1))
            | inr t ↦
                rw (w.2)
                (count_by_more_no (λ (c : Candidate). c.is_free) nodes m w.0 w.1 (ap (λ (c : Candidate). c.is_free) w.3 ∙ t.0)
                ∙ omega (arith, t.1))
          ]
      | inr w ↦ rw (w.1) (ap free_count (same_past nodes m w.0) ∙ omega arith)
    ]

all_step : (p : Candidate → Bool) (nodes : List Candidate) (m : ℕ) →
    ((c : Candidate) → slice_get nodes m ≡ Some c → p c ≡ true) →
    list_all p (take m nodes) ≡ true → list_all p (take (m + 1) nodes) ≡ true
all_step p nodes m here before =
    elim (slice_get_cases nodes m).1 [
      | inl w ↦ rw (list_all_more p nodes m w.0 w.1, before, w.3) (here w.0 w.2)
      | inr w ↦ rw (same_past nodes m w.0) before
    ]

-- one leaf more
leaf_more : (nodes : List Candidate) (capacity m : ℕ) (entries : List FreeSum) → HasLeaves nodes capacity entries → m < capacity →
    sum_from entries capacity (m + 1) ≡ sum_of_both (sum_from entries capacity m) (sum_of (slice_get nodes m))
leaf_more nodes capacity m entries leaves h =
    sum_from-more entries capacity m ∙ ap (sum_of_both (sum_from entries capacity m)) (leaves m h)

counted : (nodes : List Candidate) (capacity m : ℕ) (entries : List FreeSum) → HasLeaves nodes capacity entries → m ≤ capacity →
    (sum_from entries capacity m).free ≡ free_count (take m nodes)
unfolding sum_from
counted nodes capacity zero entries leaves h = refl
counted nodes capacity (suc m) entries leaves h =
    let next : suc m ≡ m + 1 = omega arith in
    ap (λ n. (sum_from entries capacity n).free) next
    ∙ ap (λ (s : FreeSum). s.free) (leaf_more nodes capacity m entries leaves (omega (arith, h)))
    ∙ ap (λ n. n + (sum_of (slice_get nodes m)).free) (counted nodes capacity m entries leaves (omega (arith, h)))
    ∙ sym (count_step nodes m)
    ∙ ap (λ n. free_count (take n nodes)) (sym next)

none_deeper : (nodes : List Candidate) (capacity m most : ℕ) (entries : List FreeSum) → HasLeaves nodes capacity entries → m ≤ capacity →
    (sum_from entries capacity m).deepest ≤ most → list_all (is_no_deeper most) (take m nodes) ≡ true
none_deeper nodes capacity zero most entries leaves h less = refl
none_deeper nodes capacity (suc m) most entries leaves h less =
    let next : suc m ≡ m + 1 = omega arith in
    let both : max (sum_from entries capacity m).deepest (sum_of (slice_get nodes m)).deepest ≤ most =
    subst (λ (s : FreeSum). s.deepest ≤ most) (ap (sum_from entries capacity) next ∙ leaf_more nodes capacity m entries leaves (omega (arith, h))) less in
    rw (next)
    (all_step (is_no_deeper most) nodes m (no_deeper nodes m most (omega (arith, both)))
    (none_deeper nodes capacity m most entries leaves (omega (arith, h)) (omega (arith, both))))

all_less_deep : (nodes : List Candidate) (capacity m most : ℕ) (entries : List FreeSum) → HasLeaves nodes capacity entries → m ≤ capacity →
    (0 < (sum_from entries capacity m).free → (sum_from entries capacity m).deepest < most) →
    list_all (is_less_deep most) (take m nodes) ≡ true
all_less_deep nodes capacity zero most entries leaves h less = refl
all_less_deep nodes capacity (suc m) most entries leaves h less =
    let next : suc m ≡ m + 1 = omega arith in
    let before : FreeSum = sum_from entries capacity m in
    let here : FreeSum = sum_of (slice_get nodes m) in
    let both : 0 < before.free + here.free → max before.deepest here.deepest < most =
    subst (λ (s : FreeSum). 0 < s.free → s.deepest < most) (ap (sum_from entries capacity) next ∙ leaf_more nodes capacity m entries leaves (omega (arith, h))) less in
    let less_here : 0 < here.free → here.deepest < most = λ some. omega (arith, both (omega (arith, some))) in
    let less_before : 0 < before.free → before.deepest < most = λ some. omega (arith, both (omega (arith, some))) in
    rw (next)
    (all_step (is_less_deep most) nodes m (less_deep nodes m most less_here)
    (all_less_deep nodes capacity m most entries leaves (omega (arith, h)) less_before))

-- the root counts the free nodes
no_nodes : (nodes : List Candidate) (entries : List FreeSum) → length nodes ≡ 0 → length entries ≡ 0 →
    (sum_at entries 1).free ≡ free_count nodes
no_nodes [] [] n e = refl
no_nodes [] (x ∷ xs) n e = absurd (omega (arith, e))
no_nodes (x ∷ xs) entries n e = absurd (omega (arith, n))

pub root_counts : (nodes : List Candidate) (capacity : ℕ) (entries : List FreeSum) → IsOver nodes capacity entries →
    (sum_at entries 1).free ≡ free_count nodes
root_counts nodes capacity entries o =
    elim (cases_eq capacity 0) [
      | inl empty ↦ no_nodes nodes entries (omega (arith, o.within, empty)) (omega (arith, o.long, empty))
      | inr some ↦
          ap (λ (s : FreeSum). s.free) (sym (root_sum nodes capacity entries o (omega (arith, some))))
          ∙ counted nodes capacity capacity entries o.leaves (omega arith)
          ∙ ap free_count (take_all capacity nodes o.within)
    ]

no_entry : (entries : List FreeSum) → length entries ≡ 0 → (sum_at entries 1).free ≡ 0
no_entry [] e = refl
no_entry (x ∷ xs) e = absurd (omega (arith, e))

-- a root with a free node stands over a level of leaves
pub IsTree-some : (nodes : List Candidate) (capacity : ℕ) (entries : List FreeSum) → IsOver nodes capacity entries →
    0 < (sum_at entries 1).free → IsTree entries
IsTree-some nodes capacity entries o h =
    elim (cases_eq capacity 0) [
      | inl empty ↦ absurd (omega (arith, h, no_entry entries (omega (arith, o.long, empty))))
      | inr some ↦ IsTree-over nodes capacity entries o (omega (arith, some))
    ]

-- The order names the node.

is_next_of : (order : Order) (events : ℕ) (nodes : List Candidate) (capacity node : ℕ) (entries : List FreeSum) (c : Candidate) →
    IsOver nodes capacity entries → node < capacity → (sum_at entries (capacity + node)).deepest ≡ c.depth →
    IsNamedBy order events entries node → is_next order events nodes node c ≡ true
is_next_of Deepest events nodes capacity node entries c o h deep named =
    let half : length entries / 2 ≡ capacity = omega (arith, o.long) in
    let named_at : ((sum_at entries (capacity + node)).deepest ≡ (sum_at entries 1).deepest)
    × (0 < (sum_from entries capacity node).free → (sum_from entries capacity node).deepest < (sum_at entries 1).deepest) =
    subst (λ n. ((sum_at entries (n + node)).deepest ≡ (sum_at entries 1).deepest)
    × (0 < (sum_from entries n node).free → (sum_from entries n node).deepest < (sum_at entries 1).deepest)) half named in
    let root : (sum_from entries capacity capacity).deepest ≡ c.depth =
    ap (λ (s : FreeSum). s.deepest) (root_sum nodes capacity entries o (omega (arith, h))) ∙ sym named_at.0 ∙ deep in
    let all : list_all (is_no_deeper c.depth) nodes ≡ true =
    subst (λ (ns : List Candidate). list_all (is_no_deeper c.depth) ns ≡ true) (take_all capacity nodes o.within)
    (none_deeper nodes capacity capacity c.depth entries o.leaves (omega arith) (omega (arith, root))) in
    let before : list_all (is_less_deep c.depth) (take node nodes) ≡ true =
    all_less_deep nodes capacity node c.depth entries o.leaves (omega (arith, h))
    (λ some. omega (arith, named_at.1 some, named_at.0, deep)) in
    rw (all) before
is_next_of Oldest events nodes capacity node entries c o h deep named =
    let half : length entries / 2 ≡ capacity = omega (arith, o.long) in
    eq-eqb _ _ (sym (counted nodes capacity node entries o.leaves (omega (arith, h))) ∙ subst (λ n. (sum_from entries n node).free ≡ 0) half named)
is_next_of Mixed events nodes capacity node entries c o h deep named =
    let half : length entries / 2 ≡ capacity = omega (arith, o.long) in
    eq-eqb _ _
    (sym (counted nodes capacity node entries o.leaves (omega (arith, h)))
    ∙ subst (λ n. (sum_from entries n node).free ≡ drawn events % (sum_at entries 1).free) half named
    ∙ ap (λ n. drawn events % n) (root_counts nodes capacity entries o))

both_true : (a b : Bool) → a ≡ true → b ≡ true → (a && b) ≡ true
both_true a b p q = rw (p) q

pub is_named_of : (order : Order) (events : ℕ) (nodes : List Candidate) (capacity node : ℕ) (entries : List FreeSum) →
    IsOver nodes capacity entries → node < length entries / 2 → 0 < (leaf_sum entries node).free →
    IsNamedBy order events entries node → IsTrue (is_named order events nodes node)
unfolding is_named
is_named_of order events nodes capacity node entries o there free named =
    let half : length entries / 2 ≡ capacity = omega (arith, o.long) in
    let within : node < capacity = omega (arith, there, half) in
    let leaf : sum_at entries (capacity + node) ≡ sum_of (slice_get nodes node) = o.leaves node within in
    let some : 0 < (sum_of (slice_get nodes node)).free = subst (λ (s : FreeSum). 0 < s.free) (ap (λ n. sum_at entries (n + node)) half ∙ leaf) free in
    elim (slice_get_cases nodes node).1 [
      | inl w ↦
          let some_here : 0 < (sum_of (Some w.0)).free = subst (λ (o : Option Candidate). 0 < (sum_of o).free) w.2 some in
          elim (told w.0) [
            | inl t ↦
                rw (w.2)
                (both_true w.0.is_free (is_next order events nodes node w.0) t.0
                (is_next_of order events nodes capacity node entries w.0 o within
                (ap (λ (s : FreeSum). s.deepest) (leaf ∙ ap sum_of w.2) ∙ t.2) named))
            | inr t ↦ absurd (omega (arith, some_here, t.1))
          ]
      | inr w ↦
          let none_here : 0 < (sum_of None).free = subst (λ (o : Option Candidate). 0 < (sum_of o).free) w.1 some in
          absurd (omega (arith, none_here))
    ]
