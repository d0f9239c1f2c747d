-- The sides of values as a line says them, and a run without the values.
use Rattle.std.proofs.Common.{◌≡◌, ℕ, zero, suc, ◌+◌, ◌-◌, ◌<◌, ◌≤◌, inl, inr, Bool, ◌||◌, true, false, List, [], ◌∷◌, ◌++◌, get_or, length, map, refl, sym, ap, subst, ◌∙◌, arith, append_assoc, length-append}
use Rattle.std.specs.Prelude.{All, ◌==◌}
use Rattle.std.proofs.lemmas.Bool.{cases_eq, cases_lt}
use Rattle.std.proofs.lemmas.List.{map-append}
use Rattle.std.proofs.lemmas.List.Elements.{All-nil, All-cons, All-head}
use Rattle.std.proofs.lemmas.List.Folds.{list_any-append}
use Rattle.bv_dag.specs.Graphs.{width_of}
use Rattle.fork_spec.specs.Evidence.{AreIncreasing, is_among}
use Rattle.fork_spec.specs.Walks.{Side, value_side}
use Rattle.run_leaves.specs.Values.{IsWithout}
use Rattle.run_leaves.proofs.Without.{HasOneMore, without_more}
use Rattle.sym_state.specs.Symbolic.{Symbolic}

-- ---- Values by increasing value.
-- each of these places has a number below the next one's
abbrev pub IncreasesUpTo : ℕ → List ℕ → Type 0
IncreasesUpTo most vs = (k : ℕ) → suc k < most → get_or vs k 0 < get_or vs (suc k) 0

all_above : (v w : ℕ) (ws : List ℕ) → v < w → All (λ x. w < x) ws → All (λ x. v < x) ws
all_above v w ws less all k d below = omega (arith, less, all k d below)

pub increases : (vs : List ℕ) → IncreasesUpTo (length vs) vs → AreIncreasing vs
increases [] is = tt
increases (v ∷ []) is = (All-nil (λ w. v < w), tt)
increases (v ∷ w ∷ vs) is =
    let behind : AreIncreasing (w ∷ vs) = increases (w ∷ vs) (λ k less. is (suc k) (omega (arith, less))) in
    let less : v < w = is 0 (omega arith) in
    (All-cons (λ x. v < x) w vs less (all_above v w vs less behind.0), behind)

pub increases_more : (vs : List ℕ) (at : ℕ) → IncreasesUpTo at vs → 1 ≤ at → get_or vs (at - 1) 0 < get_or vs at 0 → IncreasesUpTo (at + 1) vs
increases_more vs at is some next k less = elim (cases_eq (suc k) at) [
  | inl here ↦
      let before : k ≡ at - 1 = omega (arith, here, some) in
      subst (λ j. get_or vs k 0 < get_or vs j 0) (sym here) (subst (λ j. get_or vs j 0 < get_or vs at 0) (sym before) next)
  | inr apart ↦ is k (below_of_other (suc k) at (omega (arith, less)) apart)
]
  where
    below_of_other : (a b : ℕ) → a ≤ b → (a ≡ b → ⊥) → a < b
    below_of_other a b le ne = elim (cases_lt a b) [ inl below ↦ below | inr past ↦ absurd (ne (omega (arith, le, past))) ]

pub each_increases : (vs : List ℕ) → AreIncreasing vs → IncreasesUpTo (length vs) vs
each_increases [] is k less = absurd (omega (arith, less))
each_increases (v ∷ []) is k less = absurd (omega (arith, less))
each_increases (v ∷ w ∷ vs) is zero less = All-head (λ x. v < x) w vs is.0
each_increases (v ∷ w ∷ vs) is (suc k) less = each_increases (w ∷ vs) is.1 k (omega (arith, less))

pub not_increasing_at : (vs : List ℕ) (at : ℕ) → 1 ≤ at → at < length vs → get_or vs at 0 ≤ get_or vs (at - 1) 0 → AreIncreasing vs → ⊥
not_increasing_at vs at some within fewer is =
    let same : suc (at - 1) ≡ at = omega (arith, some) in
    let less : get_or vs (at - 1) 0 < get_or vs at 0 = subst (λ j. get_or vs (at - 1) 0 < get_or vs j 0) same (each_increases vs is (at - 1) (omega (arith, some, within))) in
    absurd (omega (arith, less, fewer))

-- ---- The sides of values.
pub one_side_more : (all rest more : List Side) (vs : List ℕ) (side : Side) (v : ℕ) → all ≡ map value_side vs ++ rest → rest ≡ side ∷ more
    → side ≡ value_side v → all ≡ map value_side (vs ++ v ∷ []) ++ more
one_side_more all rest more vs side v so_far next is =
    so_far ∙ ap (λ (sides : List Side). map value_side vs ++ sides) (next ∙ ap (λ (s : Side). s ∷ more) is)
    ∙ sym (append_assoc (map value_side vs) (value_side v ∷ []) more)
    ∙ ap (λ (sides : List Side). sides ++ more) (sym (map-append value_side vs (v ∷ [])))

-- ---- A run without values.
or_swap : (a b : Bool) → (a || (b || false)) ≡ (b || a)
or_swap true true = refl
or_swap true false = refl
or_swap false true = refl
or_swap false false = refl

last_more : (old : List ℕ) (v : ℕ) → HasOneMore old v (old ++ v ∷ [])
last_more old v = record {
  long = length-append old (v ∷ []);
  among = λ n. list_any-append (λ x. n == x) old (v ∷ []) ∙ or_swap (is_among old n) (n == v);
}

pub without_next : (s u new : Symbolic) (term : ℕ) (old : List ℕ) (v : ℕ) → width_of s.terms term ≡ 32 → IsWithout s term old u
    → IsWithout u term (v ∷ []) new → IsWithout s term (old ++ v ∷ []) new
without_next s u new term old v wide was more = without_more s u new term v old (old ++ v ∷ []) wide (last_more old v) was more
