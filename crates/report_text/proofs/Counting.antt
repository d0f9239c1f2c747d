use Rattle.std.proofs.Common.{◌*◌, ◌-◌, ◌^◌, sym, ◌≡◌, ◌∙◌, ℕ, ◌+◌, ◌≤◌, ◌<◌, Bool, true, false, cond, not, if◌then◌else◌, refl, ap, arith, List, [], ◌∷◌, ◌++◌, filter, length, map, take, get_or, sum_by}
use Rattle.std.proofs.lemmas.List.{length-append, length-map, length-take-le, map-append, take_more}
use Rattle.std.proofs.lemmas.List.Elements.{filter-append}
use Rattle.std.proofs.lemmas.List.Sums.{sum_by-append}
use Rattle.std.proofs.lemmas.List.Filters.{length-filter_both}
use Rattle.tree_core.specs.Covers.{one_if}
use Rattle.fork_spec.specs.Histories.{LeafNode}
use Rattle.fork_spec.specs.Leaves.{Leaf}
use Rattle.fork_spec.specs.declared.end.LeafEnd.{LeafEnd}
use Rattle.report_text.specs.declared.summary.Summary.{Summary}
use Rattle.report_text.specs.Reports.{leaves_in}
use Rattle.report_text.specs.Summaries.{HasRoom, count, has_ended, is_finished, is_tested}

-- the summary of leaves and one more
abbrev pub one_more : Summary → LeafEnd → (steps : ℕ) → Summary
one_more before end steps = record {
  leaves = before.leaves + 1;
  finished = before.finished + one_if (is_finished end);
  cut = before.cut + one_if (not (is_finished end));
  tests = before.tests + one_if (is_tested end);
  steps = before.steps + (if is_finished end then steps else 0);
}

one_kept : {X : Type 0} (passes : Bool) (x : X) → length (cond passes (x ∷ []) []) ≡ one_if passes
one_kept true x = refl
one_kept false x = refl

-- how many pass a test, and one more
kept_more : {X : Type 0} (f : X → Bool) (xs : List X) (x : X) →
    length (filter f (xs ++ x ∷ [])) ≡ length (filter f xs) + one_if (f x)
kept_more f xs x =
    ap length (filter-append f xs (x ∷ [])) ∙ length-append (filter f xs) (filter f (x ∷ []))
    ∙ ap (λ n. length (filter f xs) + n) (one_kept (f x) x)

one_sum : (passes : Bool) (leaf : Leaf) →
    sum_by (λ (l : Leaf). l.steps) (cond passes (leaf ∷ []) []) ≡ (if passes then leaf.steps else 0)
one_sum true leaf = omega arith
one_sum false leaf = refl

steps_more : (leaves : List Leaf) (leaf : Leaf) →
    sum_by (λ (l : Leaf). l.steps) (filter has_ended (leaves ++ leaf ∷ []))
    ≡ sum_by (λ (l : Leaf). l.steps) (filter has_ended leaves) + (if has_ended leaf then leaf.steps else 0)
steps_more leaves leaf =
    ap (sum_by (λ (l : Leaf). l.steps)) (filter-append has_ended leaves (leaf ∷ []))
    ∙ sum_by-append (λ (l : Leaf). l.steps) (filter has_ended leaves) (filter has_ended (leaf ∷ []))
    ∙ ap (λ n. sum_by (λ (l : Leaf). l.steps) (filter has_ended leaves) + n) (one_sum (has_ended leaf) leaf)

-- the summary of leaves and one more
pub count_more : (leaves : List Leaf) (leaf : Leaf) →
    count (leaves ++ leaf ∷ []) ≡ one_more (count leaves) leaf.end leaf.steps
unfolding count
count_more leaves leaf = λ i. record {
  leaves = length-append leaves (leaf ∷ []) i;
  finished = kept_more has_ended leaves leaf i;
  cut = kept_more (λ l. not (has_ended l)) leaves leaf i;
  tests = kept_more (λ (l : Leaf). is_tested l.end) leaves leaf i;
  steps = steps_more leaves leaf i;
}

pub count_none : record { leaves = 0; finished = 0; cut = 0; tests = 0; steps = 0 } ≡ count []
unfolding count
count_none = refl

-- the leaves of the first items, and of one more
pub leaves_next : {X : Type 0} (f : X → LeafNode) (xs : List X) (i : ℕ) (d : X) → i < length xs →
    leaves_in (map f (take (i + 1) xs)) ≡ leaves_in (map f (take i xs))
    ++ (f (get_or xs i d)).leaf ∷ []
leaves_next f xs i d h =
    ap (λ ys. leaves_in (map f ys)) (take_more xs i d h)
    ∙ ap leaves_in (map-append f (take i xs) (get_or xs i d ∷ []))
    ∙ map-append (λ (l : LeafNode). l.leaf) (map f (take i xs)) (f (get_or xs i d) ∷ [])

kept_within : {X : Type 0} (f : X → Bool) (xs : List X) → length (filter f xs) ≤ length xs
kept_within f xs =
    let both : length (filter f xs) + length (filter (λ x. not (f x)) xs) ≡ length xs =
    length-filter_both f (λ x. not (f x)) (λ x. refl) xs in
    omega (arith, both)

pub counted_more : (before after : Summary) (end : LeafEnd) (steps : ℕ) (leaves : List Leaf) (leaf : Leaf) →
    after ≡ one_more before end steps → before ≡ count leaves → end ≡ leaf.end →
    steps ≡ leaf.steps → after ≡ count (leaves ++ leaf ∷ [])
counted_more before after end steps leaves leaf is counted same_end same_steps =
    is ∙ ap (λ s. one_more s end steps) counted ∙ ap (λ e. one_more (count leaves) e steps) same_end
    ∙ ap (λ n. one_more (count leaves) leaf.end n) same_steps ∙ sym (count_more leaves leaf)

pub no_steps : (s : Summary) → s ≡ count [] → s.steps ≤ 0
unfolding count
no_steps s e = omega (arith, ap (λ (x : Summary). x.steps) e)

-- one more of so few leaves can be counted
pub room_of : {X : Type 0} (f : X → LeafNode) (xs : List X) (i : ℕ) (s : Summary) → i < length xs →
    i < 2 ^ 32 →
    s ≡ count (leaves_in (map f (take i xs))) → s.steps ≤ i * (2 ^ 32 - 1) → HasRoom s
unfolding count
room_of f xs i s h few e steps =
    let leaves = leaves_in (map f (take i xs)) in
    let many : length leaves ≡ i =
    length-map (map f (take i xs)) (λ (l : LeafNode). l.leaf) ∙ length-map (take i xs) f
    ∙ length-take-le i xs (omega (arith, h)) in
    let all : s.leaves ≡ i = ap (λ (x : Summary). x.leaves) e ∙ many in
    record {
      few = omega (arith, all, few);
      finished =
          omega (arith, ap (λ (x : Summary). x.leaves) e, ap (λ (x : Summary). x.finished) e, kept_within has_ended leaves);
      cut = omega (arith, ap (λ (x : Summary). x.leaves) e, ap (λ (x : Summary). x.cut) e, kept_within (λ l. not (has_ended l)) leaves);
      tests = omega (arith, ap (λ (x : Summary). x.leaves) e, ap (λ (x : Summary). x.tests) e, kept_within (λ (l : Leaf). is_tested l.end) leaves);
      steps = omega (arith, all, steps);
    }
