use Rattle.std.proofs.Common.{◌≡◌, ℕ, Bool, true, false, ◌||◌, ◌==◌, nat_lt, if◌then◌else◌, List, [], ◌∷◌, Option, Some, None, option_map, refl, ap, sym, ◌∙◌, fold, inl, inr}
use Rattle.std.specs.List.{list_any, list_all}
use Rattle.std.proofs.lemmas.Bool.{and_parts, or_left, or_right, or_cases, eqb-true, false≢true}
use Rattle.cnf_form.specs.Literals.{Literal, same_literal, same_truth}
use Rattle.cnf_form.specs.Clauses.{insert_literal, with_literal, clause_of, is_subset}
use Rattle.cnf_form.specs.Valuations.{literal_value, satisfies_clause}
use Rattle.cnf_form.proofs.Inserting.{mapped}

abbrev any_true : (ℕ → Bool) → List Literal → Bool
any_true v ls = list_any (literal_value v) ls

or_assoc : (a b c : Bool) → (a || (b || c)) ≡ ((a || b) || c)
or_assoc true b c = refl
or_assoc false b c = refl

or_swap : (a b : Bool) → (a || b) ≡ (b || a)
or_swap true true = refl
or_swap true false = refl
or_swap false true = refl
or_swap false false = refl

or_twice : (a b : Bool) → (a || b) ≡ ((a || b) || a)
or_twice true b = refl
or_twice false true = refl
or_twice false false = refl

-- two truths that are the same
pub truths : (a b : Bool) → same_truth a b ≡ true → a ≡ b
truths true b h = sym h
truths false true h = cc
truths false false h = refl

either : (x a b : Bool) → same_truth a b ≡ false → (same_truth x a || same_truth x b) ≡ true
either true true b h = refl
either true false true h = refl
either true false false h = cc
either false true true h = cc
either false true false h = refl
either false false b h = refl

unmapped : (k : Literal) (o : Option (List Literal)) → option_map (λ c. k ∷ c) o ≡ None → o ≡ None
unmapped k None h = refl
unmapped k (Some c) h = cc

same_value : (v : ℕ → Bool) (k l : Literal) → k.variable ≡ l.variable → same_truth k.positive l.positive ≡ true → literal_value v k ≡ literal_value v l
same_value v k l variable sign =
    ap (λ x. same_truth (v x) k.positive) variable ∙ ap (same_truth (v l.variable)) (truths k.positive l.positive sign)

one_is_true : (v : ℕ → Bool) (k l : Literal) → k.variable ≡ l.variable → same_truth k.positive l.positive ≡ false → (literal_value v k || literal_value v l) ≡ true
one_is_true v k l variable sign =
    ap (λ x. same_truth (v x) k.positive || same_truth (v l.variable) l.positive) variable ∙ either (v l.variable) k.positive l.positive sign

insert_by : (v : ℕ → Bool) (l k : Literal) (ks s : List Literal) (t u w : Bool) → (k.variable == l.variable) ≡ u → same_truth k.positive l.positive ≡ w
    → ((r : List Literal) → insert_literal l ks ≡ Some r → any_true v r ≡ (any_true v ks || literal_value v l))
    → (if t then option_map (λ c. k ∷ c) (insert_literal l ks) else if u then (if w then Some (k ∷ ks) else None) else Some (l ∷ k ∷ ks)) ≡ Some s → any_true v s ≡ (any_true v (k ∷ ks) || literal_value v l)
insert_by v l k ks s true u w same sign rest is =
    let found : (r : List Literal) × (insert_literal l ks ≡ Some r) × (k ∷ r ≡ s) = mapped k (insert_literal l ks) s is in
    ap (any_true v) (sym found.2) ∙ ap (λ b. literal_value v k || b) (rest found.0 found.1) ∙ or_assoc (literal_value v k) (any_true v ks) (literal_value v l)
insert_by v l k ks s false true true same sign rest is =
    let made : k ∷ ks ≡ s = cc in
    ap (any_true v) (sym made) ∙ or_twice (literal_value v k) (any_true v ks)
    ∙ ap (λ b. any_true v (k ∷ ks) || b) (same_value v k l (eqb-true _ _ same) sign)
insert_by v l k ks s false true false same sign rest is = cc
insert_by v l k ks s false false w same sign rest is =
    let made : l ∷ k ∷ ks ≡ s = cc in
    ap (any_true v) (sym made) ∙ or_swap (literal_value v l) (any_true v (k ∷ ks))

insert_means : (v : ℕ → Bool) (l : Literal) (c s : List Literal) → insert_literal l c ≡ Some s → any_true v s ≡ (any_true v c || literal_value v l)
unfolding insert_literal
insert_means v l [] s is =
    let made : l ∷ [] ≡ s = cc in
    ap (any_true v) (sym made) ∙ or_swap (literal_value v l) false
insert_means v l (k ∷ ks) s is =
    insert_by v l k ks s (nat_lt k.variable l.variable) (k.variable == l.variable) (same_truth k.positive l.positive) refl refl (λ r found. insert_means v l ks r found) is

none_by : (v : ℕ → Bool) (l k : Literal) (ks : List Literal) (t u w : Bool) → (k.variable == l.variable) ≡ u → same_truth k.positive l.positive ≡ w
    → (insert_literal l ks ≡ None → (any_true v ks || literal_value v l) ≡ true)
    → (if t then option_map (λ c. k ∷ c) (insert_literal l ks) else if u then (if w then Some (k ∷ ks) else None) else Some (l ∷ k ∷ ks)) ≡ None → (any_true v (k ∷ ks) || literal_value v l) ≡ true
none_by v l k ks true u w same sign rest is =
    sym (or_assoc (literal_value v k) (any_true v ks) (literal_value v l)) ∙ or_right _ _ (rest (unmapped k (insert_literal l ks) is))
none_by v l k ks false true true same sign rest is = cc
none_by v l k ks false true false same sign rest is =
    elim (or_cases (literal_value v k) (literal_value v l) (one_is_true v k l (eqb-true _ _ same) sign)) [
      | inl first ↦ or_left _ _ (or_left _ _ first)
      | inr second ↦ or_right _ _ second
    ]
none_by v l k ks false false w same sign rest is = cc

none_means : (v : ℕ → Bool) (l : Literal) (c : List Literal) → insert_literal l c ≡ None → (any_true v c || literal_value v l) ≡ true
unfolding insert_literal
none_means v l [] is = cc
none_means v l (k ∷ ks) is =
    none_by v l k ks (nat_lt k.variable l.variable) (k.variable == l.variable) (same_truth k.positive l.positive) refl refl (λ none. none_means v l ks none) is

abbrev option_true : (ℕ → Bool) → Option (List Literal) → Bool
option_true v None = true
option_true v (Some c) = any_true v c

one_more : (v : ℕ → Bool) (l : Literal) (c : List Literal) (o : Option (List Literal)) → insert_literal l c ≡ o → option_true v o ≡ (any_true v c || literal_value v l)
one_more v l c None is = sym (none_means v l c is)
one_more v l c (Some s) is = insert_means v l c s is

fold_means : (v : ℕ → Bool) (ls : List Literal) (o : Option (List Literal)) → option_true v (fold with_literal o ls) ≡ (option_true v o || any_true v ls)
fold_means v [] None = refl
fold_means v [] (Some c) = or_swap false (any_true v c)
fold_means v (l ∷ ls) None = fold_means v ls None
fold_means v (l ∷ ls) (Some c) =
    fold_means v ls (insert_literal l c) ∙ ap (λ b. b || any_true v ls) (one_more v l c (insert_literal l c) refl)
    ∙ sym (or_assoc (any_true v c) (literal_value v l) (any_true v ls))

pub clause_means : (v : ℕ → Bool) (ls c : List Literal) → clause_of ls ≡ Some c → satisfies_clause v c ≡ satisfies_clause v ls
unfolding clause_of satisfies_clause
clause_means v ls c is = sym (ap (option_true v) is) ∙ fold_means v ls (Some [])

pub tautology_means : (v : ℕ → Bool) (ls : List Literal) → clause_of ls ≡ None → satisfies_clause v ls ≡ true
unfolding clause_of satisfies_clause
tautology_means v ls is = sym (fold_means v ls (Some [])) ∙ ap (option_true v) is

-- a superset is true where its subset is
member_true : (v : ℕ → Bool) (l : Literal) (d : List Literal) → literal_value v l ≡ true → list_any (same_literal l) d ≡ true → any_true v d ≡ true
member_true v l [] is h = cc
member_true v l (k ∷ ks) is h =
    elim (or_cases (same_literal l k) (list_any (same_literal l) ks) h) [
      | inl here ↦ or_left _ _ (sym (same_value v l k (eqb-true _ _ (and_parts _ _ here).0) (and_parts _ _ here).1) ∙ is)
      | inr later ↦ or_right _ _ (member_true v l ks is later)
    ]

superset_true : (v : ℕ → Bool) (c d : List Literal) → list_all (λ l. list_any (same_literal l) d) c ≡ true → any_true v c ≡ true → any_true v d ≡ true
superset_true v [] d all h = absurd (false≢true h)
superset_true v (l ∷ ls) d all h =
    let parts : (list_any (same_literal l) d ≡ true) × (list_all (λ k. list_any (same_literal k) d) ls ≡ true) = and_parts _ _ all in
    elim (or_cases (literal_value v l) (any_true v ls) h) [
      | inl first ↦ member_true v l d first parts.0
      | inr rest ↦ superset_true v ls d parts.1 rest
    ]

pub subset_means : (v : ℕ → Bool) (c d : List Literal) → is_subset c d ≡ true → satisfies_clause v c ≡ true → satisfies_clause v d ≡ true
unfolding is_subset satisfies_clause
subset_means v c d all h = superset_true v c d all h
