-- Notes of places: none is lost, and each literal of a clause has its own.
use Rattle.std.proofs.Common.{◌≡◌, ℕ, zero, suc, ◌<◌, ◌==◌, true, List, [], ◌∷◌, ◌++◌, length, get_or, map, Some, None, slice_get, set, refl, ap, sym, ◌∙◌, subst, arith, inl, inr}
use Rattle.std.specs.List.{list_any}
use Rattle.std.proofs.lemmas.Bool.{and_parts, or_cases, or_left, or_right, eq-eqb, eqb-true, cases_eq, false≢true}
use Rattle.std.proofs.lemmas.List.{get_or-set_same, get_or-set_other, map-set, get_or-map, length-map}
use Rattle.std.proofs.Math.Seq.{map-set_same}
use Rattle.std.proofs.lemmas.List.Folds.{list_any-append}
use Rattle.cnf_form.specs.Literals.{Literal, same_truth, same_literal}
use Rattle.cnf_form.proofs.Meaning.{truths}
use Rattle.cdcl_core.specs.Places.{index_of, is_among, places_of, AreKept, AreNoted}

pub kept_same : (lists : List (List ℕ)) → AreKept lists lists
kept_same lists l k h = h

pub kept_on : (old now after : List (List ℕ)) → AreKept old now → AreKept now after → AreKept old after
kept_on old now after f g l k h = g l k (f l k h)

-- an empty list behind the others
empty_more : (lists : List (List ℕ)) (i : ℕ) → get_or (lists ++ [] ∷ []) i [] ≡ get_or lists i []
empty_more [] zero = refl
empty_more [] (suc i) = refl
empty_more (ks ∷ lists) zero = refl
empty_more (ks ∷ lists) (suc i) = empty_more lists i

pub kept_longer : (lists : List (List ℕ)) → AreKept lists (lists ++ [] ∷ [])
kept_longer lists l k h = ap (λ (ks : List ℕ). is_among ks k) (empty_more lists (index_of l)) ∙ h

-- one place more in a list
pub among_last : (ks : List ℕ) (k : ℕ) → is_among (ks ++ k ∷ []) k ≡ true
among_last ks k = list_any-append (λ j. j == k) ks (k ∷ []) ∙ or_right _ _ (or_left _ _ (eq-eqb k k refl))

among_more : (ks : List ℕ) (m k : ℕ) → is_among ks k ≡ true → is_among (ks ++ m ∷ []) k ≡ true
among_more ks m k h = list_any-append (λ j. j == k) ks (m ∷ []) ∙ or_left _ _ h

pub kept_put : (lists : List (List ℕ)) (i m : ℕ) → i < length lists → AreKept lists (set lists i (get_or lists i [] ++ m ∷ []))
kept_put lists i m within l k h =
    elim (cases_eq (index_of l) i) [
      | inl same ↦
          ap (λ j. is_among (get_or (set lists i (get_or lists i [] ++ m ∷ [])) j []) k) same
          ∙ ap (λ (ks : List ℕ). is_among ks k) (get_or-set_same lists i (get_or lists i [] ++ m ∷ []) [] within)
          ∙ among_more (get_or lists i []) m k (ap (λ j. is_among (get_or lists j []) k) (sym same) ∙ h)
      | inr other ↦ ap (λ (ks : List ℕ). is_among ks k) (get_or-set_other lists i (index_of l) (get_or lists i [] ++ m ∷ []) [] other) ∙ h
    ]

pub noted_put : (lists : List (List ℕ)) (i m : ℕ) → i < length lists → is_among (get_or (set lists i (get_or lists i [] ++ m ∷ [])) i []) m ≡ true
noted_put lists i m within = ap (λ (ks : List ℕ). is_among ks m) (get_or-set_same lists i (get_or lists i [] ++ m ∷ []) [] within) ∙ among_last (get_or lists i []) m

-- lists that are seen through f
pub put_view : {X : Type 0} (xs : List X) (f : X → List ℕ) (i m : ℕ) (x y : X) → i < length (map f xs) → x ≡ get_or xs i x → f y ≡ f x ++ m ∷ [] → map f (set xs i y) ≡ set (map f xs) i (get_or (map f xs) i [] ++ m ∷ [])
put_view xs f i m x y within at is =
    map-set f xs i y ∙ ap (set (map f xs) i) (is ∙ ap (λ (ks : List ℕ). ks ++ m ∷ []) (ap f at ∙ sym (get_or-map f xs i x [] (omega (arith, within, length-map xs f)))))

pub same_view : {X : Type 0} (xs : List X) (f : X → List ℕ) (i : ℕ) (x y : X) → x ≡ get_or xs i x → f y ≡ f x → map f (set xs i y) ≡ map f xs
same_view xs f i x y at is = map-set_same f xs i y x (is ∙ ap f at)

-- each literal of a clause
one_literal : (l m : Literal) → same_literal l m ≡ true → index_of m ≡ index_of l
one_literal l m h =
    let parts : ((l.variable == m.variable) ≡ true) × (same_truth l.positive m.positive ≡ true) = and_parts _ _ h in
    let variable : l.variable ≡ m.variable = eqb-true l.variable m.variable parts.0 in
    let positive : l.positive ≡ m.positive = truths l.positive m.positive parts.1 in
    rw (variable, positive) refl

pub each_noted : (lists : List (List ℕ)) (k : ℕ) (c : List Literal) (l : Literal) → ((i : ℕ) (d : Literal) → i < length c → is_among (places_of lists (get_or c i d)) k ≡ true) → list_any (same_literal l) c ≡ true → is_among (places_of lists l) k ≡ true
each_noted lists k [] l noted h = absurd (false≢true h)
each_noted lists k (m ∷ c) l noted h =
    elim (or_cases (same_literal l m) (list_any (same_literal l) c) h) [
      | inl same ↦ subst (λ j. is_among (get_or lists j []) k ≡ true) (one_literal l m same) (noted 0 m (omega arith))
      | inr later ↦ each_noted lists k c l (λ i d within. noted (suc i) d (omega (arith, within))) later
    ]

-- one clause more
pub noted_kept : (clauses : List (List Literal)) (old now : List (List ℕ)) → AreKept old now → AreNoted clauses old → AreNoted clauses now
noted_kept clauses old now kept noted k c l at has = kept l k (noted k c l at has)

pub noted_more : (clauses : List (List Literal)) (c : List Literal) (lists : List (List ℕ)) → AreNoted clauses lists → ((l : Literal) → list_any (same_literal l) c ≡ true → is_among (places_of lists l) (length clauses) ≡ true) → AreNoted (clauses ++ c ∷ []) lists
noted_more clauses c lists noted last k d l at has = by_place clauses k at (λ before. noted k d l before has) (λ here same. subst (λ j. is_among (places_of lists l) j ≡ true) here (last l (ap (list_any (same_literal l)) same ∙ has)))
  where
    by_place : (cs : List (List Literal)) (i : ℕ) → slice_get (cs ++ c ∷ []) i ≡ Some d → (slice_get cs i ≡ Some d → is_among (places_of lists l) k ≡ true) → (length cs ≡ i → c ≡ d → is_among (places_of lists l) k ≡ true) → is_among (places_of lists l) k ≡ true
    by_place [] zero got before here = here refl (let e : Some c ≡ Some d = got in cc)
    by_place [] (suc i) got before here = let e : None ≡ Some d = got in cc
    by_place (b ∷ cs) zero got before here = before got
    by_place (b ∷ cs) (suc i) got before here = by_place cs i got before (λ same. here (ap suc same))
