-- The variables that occur in clauses, and clauses over others, which have no variable but theirs.
use Rattle.std.proofs.Common.{◌≡◌, ℕ, zero, suc, ◌==◌, nat_lt, Bool, true, List, [], ◌∷◌, ◌++◌, Some, None, refl, ap, sym, ◌∙◌, inl, inr}
use Rattle.std.specs.List.{list_all, list_any, slice_get}
use Rattle.std.proofs.lemmas.Bool.{and_parts, and_from, or_cases, or_left, or_right, eq-eqb, eqb-true, false≢true}
use Rattle.std.proofs.lemmas.List.Folds.{list_any-append}
use Rattle.cnf_form.specs.Literals.{Literal, same_truth, same_literal}
use Rattle.cnf_form.specs.Variables.{is_below, occurs, is_over}

-- what holds of the variable of each literal holds of each variable that occurs
of_variable : (q : ℕ → Bool) (c : List Literal) (v : ℕ) → list_all (λ l. q l.variable) c ≡ true → list_any (λ l. l.variable == v) c ≡ true → q v ≡ true
of_variable q [] v all h = absurd (false≢true h)
of_variable q (l ∷ ls) v all h =
    let parts : (q l.variable ≡ true) × (list_all (λ k. q k.variable) ls ≡ true) = and_parts _ _ all in
    elim (or_cases (l.variable == v) (list_any (λ (k : Literal). k.variable == v) ls) h) [
      | inl here ↦ ap q (sym (eqb-true l.variable v here)) ∙ parts.0
      | inr later ↦ of_variable q ls v parts.1 later
    ]

of_occurring : (p : List Literal → Bool) (q : ℕ → Bool) (clauses : List (List Literal)) (v : ℕ) → ((c : List Literal) → p c ≡ true → list_all (λ l. q l.variable) c ≡ true) → list_all p clauses ≡ true → occurs clauses v ≡ true → q v ≡ true
unfolding occurs
of_occurring p q [] v means all h = absurd (false≢true h)
of_occurring p q (c ∷ cs) v means all h =
    let parts : (p c ≡ true) × (list_all p cs ≡ true) = and_parts _ _ all in
    elim (or_cases (list_any (λ (l : Literal). l.variable == v) c) (list_any (λ (d : List Literal). list_any (λ (l : Literal). l.variable == v) d) cs) h) [
      | inl here ↦ of_variable q c v (means c parts.0) here
      | inr later ↦ of_occurring p q cs v means parts.1 later
    ]

below_if_occurs : (n : ℕ) (clauses : List (List Literal)) (v : ℕ) → list_all (is_below n) clauses ≡ true → occurs clauses v ≡ true → nat_lt v n ≡ true
unfolding is_below
below_if_occurs n clauses v below h = of_occurring (is_below n) (λ w. nat_lt w n) clauses v (λ c is. is) below h

-- what occurs where clauses over the first ones are added
occurs_before : (clauses more : List (List Literal)) (v : ℕ) → list_all (is_over clauses) more ≡ true → occurs (clauses ++ more) v ≡ true → occurs clauses v ≡ true
unfolding occurs is_over
occurs_before clauses more v over h =
    elim (or_cases (list_any (λ (c : List Literal). list_any (λ (l : Literal). l.variable == v) c) clauses) (list_any (λ (c : List Literal). list_any (λ (l : Literal). l.variable == v) c) more) (sym (list_any-append (λ (c : List Literal). list_any (λ (l : Literal). l.variable == v) c) clauses more) ∙ h)) [
      | inl here ↦ here
      | inr later ↦ of_occurring (is_over clauses) (occurs clauses) more v (λ c is. is) over later
    ]

each_by : (p r : Literal → Bool) (c : List Literal) → ((l : Literal) → p l ≡ true → r l ≡ true) → list_all p c ≡ true → list_all r c ≡ true
each_by p r [] means h = refl
each_by p r (l ∷ ls) means h =
    let parts : (p l ≡ true) × (list_all p ls ≡ true) = and_parts _ _ h in
    and_from _ _ (means l parts.0) (each_by p r ls means parts.1)

pub below_if_over : (n : ℕ) (clauses : List (List Literal)) (c : List Literal) → list_all (is_below n) clauses ≡ true → is_over clauses c ≡ true → is_below n c ≡ true
unfolding is_below is_over
below_if_over n clauses c below over = each_by (λ l. occurs clauses l.variable) (λ l. nat_lt l.variable n) c (λ l h. below_if_occurs n clauses l.variable below h) over

pub over_before : (clauses more : List (List Literal)) (c : List Literal) → list_all (is_over clauses) more ≡ true → is_over (clauses ++ more) c ≡ true → is_over clauses c ≡ true
unfolding is_over
over_before clauses more c all over = each_by (λ l. occurs (clauses ++ more) l.variable) (λ l. occurs clauses l.variable) c (λ l h. occurs_before clauses more l.variable all h) over

-- a variable of one of the clauses, and of more clauses
pub occurs_at : (clauses : List (List Literal)) (k : ℕ) (c : List Literal) (v : ℕ) → slice_get clauses k ≡ Some c → list_any (λ l. l.variable == v) c ≡ true → occurs clauses v ≡ true
unfolding occurs
occurs_at [] k c v at has = let e : None ≡ Some c = at in cc
occurs_at (d ∷ ds) zero c v at has =
    let same : d ≡ c = cc in
    or_left _ _ (ap (list_any (λ (l : Literal). l.variable == v)) same ∙ has)
occurs_at (d ∷ ds) (suc k) c v at has = or_right _ _ (occurs_at ds k c v at has)

pub occurs_more : (clauses more : List (List Literal)) (v : ℕ) → occurs clauses v ≡ true → occurs (clauses ++ more) v ≡ true
unfolding occurs
occurs_more clauses more v h = list_any-append (λ (c : List Literal). list_any (λ (l : Literal). l.variable == v) c) clauses more ∙ or_left _ _ h

pub has_its_variable : (l : Literal) (c : List Literal) → list_any (same_literal l) c ≡ true → list_any (λ k. k.variable == l.variable) c ≡ true
has_its_variable l [] h = absurd (false≢true h)
has_its_variable l (k ∷ ks) h =
    elim (or_cases (same_literal l k) (list_any (same_literal l) ks) h) [
      | inl here ↦ or_left _ _ (eq-eqb k.variable l.variable (sym (eqb-true l.variable k.variable (and_parts (l.variable == k.variable) (same_truth l.positive k.positive) here).0)))
      | inr later ↦ or_right _ _ (has_its_variable l ks later)
    ]
