-- The key of a clause is that of its last literal, and a subset of another clause has the key of one of that one's literals.
use Rattle.std.proofs.Common.{◌≡◌, ℕ, zero, suc, ◌+◌, ◌-◌, ◌<◌, ◌==◌, Bool, true, ◌||◌, List, [], ◌∷◌, length, Some, None, slice_get, refl, ap, sym, ◌∙◌, arith, inl, inr}
use Rattle.std.specs.List.{list_any, list_all}
use Rattle.std.proofs.lemmas.Bool.{and_parts, or_cases, or_left, or_right, eqb-true, false≢true}
use Rattle.cnf_form.specs.Literals.{Literal, same_truth, same_literal}
use Rattle.cnf_form.specs.Clauses.{is_subset}
use Rattle.cnf_form.proofs.Meaning.{truths}
use Rattle.proof_check.specs.Filing.{literal_key, clause_key}

-- the key of a clause is that of the literal at its end
key_at : (c : List Literal) (n : ℕ) (l : Literal) → n + 1 ≡ length c → slice_get c n ≡ Some l → clause_key c ≡ literal_key l
unfolding clause_key
key_at [] n l all h = absurd (omega arith)
key_at (m ∷ []) zero l all h =
    let same : m ≡ l = cc in
    ap literal_key same
key_at (m ∷ []) (suc n) l all h = absurd (omega arith)
key_at (m ∷ k ∷ ks) zero l all h = absurd (omega arith)
key_at (m ∷ k ∷ ks) (suc n) l all h = key_at (k ∷ ks) n l (omega arith) h

pub key_of_last : (c : List Literal) (l : Literal) → slice_get c (length c - 1) ≡ Some l → literal_key l ≡ clause_key c
key_of_last [] l h = cc
key_of_last (m ∷ ms) l h = sym (key_at (m ∷ ms) (length (m ∷ ms) - 1) l (omega arith) h)

some_there : (l : Literal) (ls : List Literal) (n : ℕ) → n < length (l ∷ ls) → slice_get (l ∷ ls) n ≡ None → ⊥
some_there l ls zero within h = cc
some_there l [] (suc n) within h = omega arith
some_there l (k ∷ ks) (suc n) within h = some_there k ks n (omega arith) h

pub key_of_none : (c : List Literal) → slice_get c (length c - 1) ≡ None → 0 ≡ clause_key c
unfolding clause_key
key_of_none [] h = refl
key_of_none (m ∷ ms) h = absurd (some_there m ms (length (m ∷ ms) - 1) (omega arith) h)

-- one literal, one key
pub one_key : (l m : Literal) → same_literal l m ≡ true → literal_key m ≡ literal_key l
one_key l m h =
    let parts : ((l.variable == m.variable) ≡ true) × (same_truth l.positive m.positive ≡ true) = and_parts _ _ h in
    let variable : l.variable ≡ m.variable = eqb-true l.variable m.variable parts.0 in
    let positive : l.positive ≡ m.positive = truths l.positive m.positive parts.1 in
    rw (variable, positive) refl

-- what holds of the key of a literal holds of that of one of the clause's literals
at_literal : (p : ℕ → Bool) (l : Literal) (c : List Literal) → list_any (same_literal l) c ≡ true → p (literal_key l) ≡ true → list_any (λ m. p (literal_key m)) c ≡ true
at_literal p l [] there h = absurd (false≢true there)
at_literal p l (m ∷ c) there h =
    elim (or_cases (same_literal l m) (list_any (same_literal l) c) there) [
      | inl same ↦ or_left _ _ (ap p (one_key l m same) ∙ h)
      | inr later ↦ or_right _ _ (at_literal p l c later h)
    ]

-- the key of a subset is 0, or that of one of the clause's literals
at_subset : (p : ℕ → Bool) (d c : List Literal) → list_all (λ l. list_any (same_literal l) c) d ≡ true → p (clause_key d) ≡ true → (p 0 || list_any (λ l. p (literal_key l)) c) ≡ true
unfolding clause_key
at_subset p [] c sub h = or_left _ _ h
at_subset p (l ∷ []) c sub h = or_right _ _ (at_literal p l c (and_parts _ _ sub).0 h)
at_subset p (l ∷ k ∷ ls) c sub h = at_subset p (k ∷ ls) c (and_parts _ _ sub).1 h

pub subset_key : (p : ℕ → Bool) (d c : List Literal) → is_subset d c ≡ true → p (clause_key d) ≡ true → (p 0 || list_any (λ l. p (literal_key l)) c) ≡ true
unfolding is_subset
subset_key p d c sub h = at_subset p d c sub h
