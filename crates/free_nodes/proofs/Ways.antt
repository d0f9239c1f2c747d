-- Ways down from the root of a segment tree, and what stands before them on each level.
use Rattle.std.proofs.Common.{◌≡◌, ℕ, ◌+◌, ◌-◌, ◌*◌, ◌/◌, ◌<◌, ◌≤◌, ◌^◌, zero, suc, max, List, length, refl, sym, ap, subst, ◌∙◌, inl, inr, arith}
use Rattle.std.proofs.Math.Nat.{pow-suc, mul-le-mul_left}
use Rattle.std.proofs.lemmas.Nat.{pow_pos}
use Rattle.std.proofs.lemmas.Bool.{cases_eq}
use Rattle.free_nodes.specs.declared.sum.FreeSum.{FreeSum}
use Rattle.free_nodes.specs.Sums.{none_free, sum_of_both}
use Rattle.free_nodes.specs.Entries.{sum_at, sum_from, IsJoined, IsTree}

pub sum_of_both-assoc : (a b c : FreeSum) → sum_of_both (sum_of_both a b) c ≡ sum_of_both a (sum_of_both b c)
sum_of_both-assoc a b c =
    let free : a.free + b.free + c.free ≡ a.free + (b.free + c.free) = omega arith in
    let deepest : max (max a.deepest b.deepest) c.deepest ≡ max a.deepest (max b.deepest c.deepest) = omega arith in
    cc

pub sum_from-more : (entries : List FreeSum) (first count : ℕ) →
    sum_from entries first (count + 1) ≡ sum_of_both (sum_from entries first count) (sum_at entries (first + count))
unfolding sum_from
sum_from-more entries first count = let next : count + 1 ≡ suc count = omega arith in rw next refl

-- the entries of a level are the sums of those of the next
pub sum_from-double : (entries : List FreeSum) (first count : ℕ) → IsJoined entries 1 0 →
    1 ≤ first → (first + count) * 2 ≤ length entries →
    sum_from entries (first * 2) (count * 2) ≡ sum_from entries first count
unfolding sum_from
sum_from-double entries first zero j h l = refl
sum_from-double entries first (suc k) j h l =
    let two : suc k * 2 ≡ k * 2 + 1 + 1 = omega arith in
    let at : first * 2 + k * 2 ≡ (first + k) * 2 = omega arith in
    let next : first * 2 + (k * 2 + 1) ≡ (first + k) * 2 + 1 = omega arith in
    ap (sum_from entries (first * 2)) two
    ∙ sum_from-more entries (first * 2) (k * 2 + 1)
    ∙ ap (λ s. sum_of_both s (sum_at entries (first * 2 + (k * 2 + 1)))) (sum_from-more entries (first * 2) (k * 2))
    ∙ sum_of_both-assoc _ _ _
    ∙ ap (λ i. sum_of_both (sum_from entries (first * 2) (k * 2)) (sum_of_both (sum_at entries (first * 2 + k * 2)) (sum_at entries i))) next
    ∙ ap (λ i. sum_of_both (sum_from entries (first * 2) (k * 2)) (sum_of_both (sum_at entries i) (sum_at entries ((first + k) * 2 + 1)))) at
    ∙ ap (λ s. sum_of_both (sum_from entries (first * 2) (k * 2)) s) (sym (j.joins (first + k) (omega (arith, h)) (omega (arith, h)) (omega (arith, l)) (omega (arith, h))))
    ∙ ap (λ s. sum_of_both s (sum_at entries (first + k))) (sum_from-double entries first k j h (omega (arith, l)))

-- An entry stands on a level that begins at `first`, behind `count` others, whose sum is `before`. `below` levels stand under it,
-- that of the leaves among them.
pub record IsOnWay (entries : List FreeSum) (at : ℕ) (before : FreeSum) : Type 0 where
  pub first : ℕ
  pub count : ℕ
  pub below : ℕ
  pub place : at ≡ first + count
  pub within : count < first
  pub power : first * 2 * 2 ^ below ≡ length entries
  pub sum : sum_from entries first count ≡ before

pub IsOnWay-root : (entries : List FreeSum) → IsTree entries → IsOnWay entries 1 none_free
unfolding sum_from
IsOnWay-root entries t =
    let some : 1 < length entries = t.some in
    elim t.power.0 as (λ k. length entries ≡ 2 ^ k → IsOnWay entries 1 none_free) [
      | zero ↦ λ e. absurd (omega (arith, e, some))
      | suc k ↦ λ e. record {
        first = 1;
        count = 0;
        below = k;
        place = refl;
        within = omega arith;
        power = omega (arith, e, pow-suc 2 k);
        sum = refl;
      }
    ] t.power.1

-- above the leaves there is a level more
level_under : (n first at below : ℕ) → first * 2 * 2 ^ below ≡ n → first ≤ at → at < n / 2 →
    (k : ℕ) × (below ≡ suc k)
level_under n first at zero e h l = absurd (omega (arith, e, h, l))
level_under n first at (suc k) e h l = (k, refl)

next_power : (n first below k : ℕ) → first * 2 * 2 ^ below ≡ n → below ≡ suc k → first * 2 * 2 * 2 ^ k ≡ n
next_power n first below k e is =
    omega (arith, e, ap (λ b. first * 2 * 2 ^ b) is, ap (λ p. first * 2 * p) (pow-suc 2 k))

pub IsOnWay-left : (entries : List FreeSum) (at : ℕ) (before : FreeSum) → IsTree entries →
    IsOnWay entries at before → at < length entries / 2 → IsOnWay entries (at * 2) before
IsOnWay-left entries at before t w h =
    let more : (k : ℕ) × (w.below ≡ suc k) = level_under (length entries) w.first at w.below w.power (omega arith) h in
    record {
      first = w.first * 2;
      count = w.count * 2;
      below = more.0;
      place = omega (arith, w.place);
      within = omega (arith, w.within);
      power = next_power (length entries) w.first w.below more.0 w.power more.1;
      sum = sum_from-double entries w.first w.count t.joined_all (omega (arith, w.within)) (omega (arith, w.place, h)) ∙ w.sum;
    }

pub IsOnWay-right : (entries : List FreeSum) (at : ℕ) (before : FreeSum) → IsTree entries →
    IsOnWay entries at before → at < length entries / 2 →
    IsOnWay entries (at * 2 + 1) (sum_of_both before (sum_at entries (at * 2)))
IsOnWay-right entries at before t w h =
    let more : (k : ℕ) × (w.below ≡ suc k) = level_under (length entries) w.first at w.below w.power (omega arith) h in
    let place : w.first * 2 + w.count * 2 ≡ at * 2 = omega (arith, w.place) in
    record {
      first = w.first * 2;
      count = w.count * 2 + 1;
      below = more.0;
      place = omega (arith, w.place);
      within = omega (arith, w.within);
      power = next_power (length entries) w.first w.below more.0 w.power more.1;
      sum =
          sum_from-more entries (w.first * 2) (w.count * 2)
          ∙ ap (λ s. sum_of_both s (sum_at entries (w.first * 2 + w.count * 2))) (sum_from-double entries w.first w.count t.joined_all (omega (arith, w.within)) (omega (arith, w.place, h)) ∙ w.sum)
          ∙ ap (λ i. sum_of_both before (sum_at entries i)) place;
    }

leaves_come : (n first at below : ℕ) → first * 2 * 2 ^ below ≡ n → at < first * 2 → n / 2 ≤ at → first * 2 ≡ n
leaves_come n first at zero e h l = omega (arith, e)
leaves_come n first at (suc k) e h l =
    let more : first * 2 * 2 * 2 ^ k ≡ n = next_power n first (suc k) k e refl in
    absurd (omega (arith, more, h, l, mul-le-mul_left (first * 2 * 2) (pow_pos k)))

-- a way that has come to the leaves
pub IsOnWay-end : (entries : List FreeSum) (at : ℕ) (before : FreeSum) → IsOnWay entries at before →
    length entries / 2 ≤ at →
    (at < length entries) × (sum_from entries (length entries / 2) (at - length entries / 2) ≡ before)
IsOnWay-end entries at before w h =
    let half : w.first * 2 ≡ length entries = leaves_come (length entries) w.first at w.below w.power (omega (arith, w.place, w.within)) h in
    let first : length entries / 2 ≡ w.first = omega (arith, half) in
    let count : at - length entries / 2 ≡ w.count = omega (arith, half, w.place) in (
      omega (arith, half, w.place, w.within),
      ap (λ f. sum_from entries f (at - length entries / 2)) first ∙ ap (sum_from entries w.first) count ∙ w.sum,
    )

-- a way to the free node that so many free ones stand before: `left` of them are still to come
pub record IsNthWay (entries : List FreeSum) (at left all : ℕ) : Type 0 where
  pub before : FreeSum
  pub way : IsOnWay entries at before
  pub passed : before.free + left ≡ all
  pub some : left < (sum_at entries at).free

pub IsNthWay-root : (entries : List FreeSum) (all : ℕ) → IsTree entries →
    all < (sum_at entries 1).free → IsNthWay entries 1 all all
IsNthWay-root entries all t h = record {
  before = none_free;
  way = IsOnWay-root entries t;
  passed = omega arith;
  some = h;
}

-- the sum of the children, where there are any
children : (entries : List FreeSum) (at : ℕ) (before : FreeSum) → IsTree entries → IsOnWay entries at before →
    at < length entries / 2 →
    sum_at entries at ≡ sum_of_both (sum_at entries (at * 2)) (sum_at entries (at * 2 + 1))
children entries at before t w h =
    let one : 1 ≤ at = omega (arith, w.place, w.within) in
    t.joined_all.joins at one one (omega (arith, h)) (omega (arith, one))

pub IsNthWay-left : (entries : List FreeSum) (at left all : ℕ) → IsTree entries →
    IsNthWay entries at left all → at < length entries / 2 → left < (sum_at entries (at * 2)).free →
    IsNthWay entries (at * 2) left all
IsNthWay-left entries at left all t n h l = record {
  before = n.before;
  way = IsOnWay-left entries at n.before t n.way h;
  passed = n.passed;
  some = l;
}

pub IsNthWay-right : (entries : List FreeSum) (at left all : ℕ) → IsTree entries →
    IsNthWay entries at left all → at < length entries / 2 → (sum_at entries (at * 2)).free ≤ left →
    IsNthWay entries (at * 2 + 1) (left - (sum_at entries (at * 2)).free) all
IsNthWay-right entries at left all t n h l = record {
  before = sum_of_both n.before (sum_at entries (at * 2));
  way = IsOnWay-right entries at n.before t n.way h;
  passed = omega (arith, n.passed, l);
  some =
      let free : (sum_at entries at).free ≡ (sum_at entries (at * 2)).free + (sum_at entries (at * 2 + 1)).free = ap (λ (s : FreeSum). s.free) (children entries at n.before t n.way h) in
      omega (arith, n.some, free, l);
}

at_leaf : (entries : List FreeSum) (at : ℕ) (s : FreeSum) → sum_at entries at ≡ s → length entries / 2 ≤ at →
    sum_at entries (length entries / 2 + (at - length entries / 2)) ≡ s
at_leaf entries at s e h = let is : length entries / 2 + (at - length entries / 2) ≡ at = omega arith in ap (sum_at entries) is ∙ e

at_most_one : (n at free : ℕ) → n ≤ at * 2 → at * free < n → free ≤ 1
at_most_one n at zero h l = omega arith
at_most_one n at (suc zero) h l = omega arith
at_most_one n at (suc (suc more)) h l = absurd (omega (arith, h, l))

leaf_free : (entries : List FreeSum) (at : ℕ) (before : FreeSum) → IsTree entries → IsOnWay entries at before →
    length entries / 2 ≤ at → (sum_at entries at).free ≤ 1
leaf_free entries at before t w h =
    let half : w.first * 2 ≡ length entries = leaves_come (length entries) w.first at w.below w.power (omega (arith, w.place, w.within)) h in
    at_most_one (length entries) at (sum_at entries at).free (omega (arith, half, w.place)) (t.joined_all.few at (IsOnWay-end entries at before w h).0)

-- a way that has come to the leaves has passed so many free nodes: what is left to pass stands in the leaf
pub IsNthWay-end : (entries : List FreeSum) (at left all : ℕ) → IsTree entries → IsNthWay entries at left all →
    length entries / 2 ≤ at →
    (sum_from entries (length entries / 2) (at - length entries / 2)).free ≡ all
IsNthWay-end entries at left all t n h =
    ap (λ (s : FreeSum). s.free) (IsOnWay-end entries at n.before n.way h).1 ∙ omega (arith, n.passed, n.some, leaf_free entries at n.before t n.way h)

-- a way to the first of the deepest free nodes: those passed are less deep
pub record IsDeepestWay (entries : List FreeSum) (at deepest : ℕ) : Type 0 where
  pub before : FreeSum
  pub way : IsOnWay entries at before
  pub some : 0 < (sum_at entries at).free
  pub is : (sum_at entries at).deepest ≡ deepest
  pub none : before.free ≡ 0 → before.deepest ≡ 0
  pub less : 0 < before.free → before.deepest < deepest

pub IsDeepestWay-root : (entries : List FreeSum) → IsTree entries →
    0 < (sum_at entries 1).free → IsDeepestWay entries 1 (sum_at entries 1).deepest
IsDeepestWay-root entries t h = record {
  before = none_free;
  way = IsOnWay-root entries t;
  some = h;
  is = refl;
  none = λ _. refl;
  less = λ l. absurd (omega (arith, l));
}

pub IsDeepestWay-left : (entries : List FreeSum) (at deepest : ℕ) → IsTree entries →
    IsDeepestWay entries at deepest → at < length entries / 2 →
    0 < (sum_at entries (at * 2)).free → deepest ≤ (sum_at entries (at * 2)).deepest →
    IsDeepestWay entries (at * 2) deepest
IsDeepestWay-left entries at deepest t d h some least = record {
  before = d.before;
  way = IsOnWay-left entries at d.before t d.way h;
  some = some;
  is =
      let whole : (sum_at entries at).deepest ≡ max (sum_at entries (at * 2)).deepest (sum_at entries (at * 2 + 1)).deepest = ap (λ (s : FreeSum). s.deepest) (children entries at d.before t d.way h) in
      omega (arith, d.is, whole, least);
  none = d.none;
  less = d.less;
}

-- the right child is as deep as both, where the left one has no free node or a less deep one
right_some : (left right : FreeSum) (deepest : ℕ) → (left.free ≡ 0 → left.deepest ≡ 0) → (right.free ≡ 0 → right.deepest ≡ 0) →
    0 < left.free + right.free → max left.deepest right.deepest ≡ deepest → (0 < left.free → left.deepest < deepest) →
    (0 < right.free) × (right.deepest ≡ deepest)
right_some left right deepest l r some is less =
    elim (cases_eq left.free 0) [
      | inl zero_left ↦
          let shallow : left.deepest ≡ 0 = l zero_left in
          (omega arith, omega arith)
      | inr other ↦
          let shallow : left.deepest < deepest = less (omega arith) in (
            elim (cases_eq right.free 0) [
              | inl zero_right ↦ let shallow_too : right.deepest ≡ 0 = r zero_right in absurd (omega arith)
              | inr more ↦ omega arith
            ],
            omega arith,
          )
    ]

pass_more : (before left : FreeSum) (deepest : ℕ) → (before.free ≡ 0 → before.deepest ≡ 0) → (left.free ≡ 0 → left.deepest ≡ 0) →
    (0 < before.free → before.deepest < deepest) → (0 < left.free → left.deepest < deepest) →
    (before.free + left.free ≡ 0 → max before.deepest left.deepest ≡ 0) × (0 < before.free + left.free → max before.deepest left.deepest < deepest)
pass_more before left deepest b l more less =
    elim (cases_eq left.free 0) [
      | inl is ↦
          let shallow : left.deepest ≡ 0 = l is in (
            λ none. let flat : before.deepest ≡ 0 = b (omega arith) in omega arith,
            λ some. let under : before.deepest < deepest = more (omega arith) in omega arith,
          )
      | inr other ↦
          let shallow : left.deepest < deepest = less (omega arith) in (
            λ none. absurd (omega arith),
            λ some. elim (cases_eq before.free 0) [
              | inl free ↦ let flat : before.deepest ≡ 0 = b free in omega arith
              | inr some_before ↦ let under : before.deepest < deepest = more (omega arith) in omega arith
            ],
          )
    ]

pub IsDeepestWay-right : (entries : List FreeSum) (at deepest : ℕ) → IsTree entries →
    IsDeepestWay entries at deepest → at < length entries / 2 →
    (0 < (sum_at entries (at * 2)).free → (sum_at entries (at * 2)).deepest < deepest) →
    IsDeepestWay entries (at * 2 + 1) deepest
IsDeepestWay-right entries at deepest t d h less =
    let left : FreeSum = sum_at entries (at * 2) in
    let right : FreeSum = sum_at entries (at * 2 + 1) in
    let both : sum_at entries at ≡ sum_of_both left right = children entries at d.before t d.way h in
    let found : (0 < right.free) × (right.deepest ≡ deepest) = right_some left right deepest (t.joined_all.plain (at * 2)) (t.joined_all.plain (at * 2 + 1)) (subst (λ (s : FreeSum). 0 < s.free) both d.some) (ap (λ (s : FreeSum). s.deepest) (sym both) ∙ d.is) less in
    let passed = pass_more d.before left deepest d.none (t.joined_all.plain (at * 2)) d.less less in
    record {
      before = sum_of_both d.before left;
      way = IsOnWay-right entries at d.before t d.way h;
      some = found.0;
      is = found.1;
      none = passed.0;
      less = passed.1;
    }

pub IsDeepestWay-end : (entries : List FreeSum) (at deepest : ℕ) → IsDeepestWay entries at deepest →
    length entries / 2 ≤ at →
    0 < (sum_from entries (length entries / 2) (at - length entries / 2)).free →
    (sum_from entries (length entries / 2) (at - length entries / 2)).deepest < deepest
IsDeepestWay-end entries at deepest d h =
    rw ((IsOnWay-end entries at d.before d.way h).1) d.less
