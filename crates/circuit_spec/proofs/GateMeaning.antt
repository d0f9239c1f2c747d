-- What the clauses of gates say: just that the new variable is worth what the gate is to be worth.
use Rattle.std.proofs.Common.{◌≡◌, ℕ, Bool, true, false, not, ◌&&◌, ◌||◌, if◌then◌else◌, List, [], ◌∷◌, Option, Some, None, refl, ap, sym, ◌∙◌}
use Rattle.std.specs.List.{list_all}
use Rattle.std.proofs.lemmas.List.Folds.{list_all-append}
use Rattle.cnf_form.specs.Literals.{Literal, negation, same_truth}
use Rattle.cnf_form.specs.Clauses.{clause_of}
use Rattle.cnf_form.specs.Valuations.{literal_value, satisfies_clause, satisfies}
use Rattle.cnf_form.proofs.Meaning.{clause_means, tautology_means}
use Rattle.circuit_spec.specs.Formulas.{Formula, next_variable, with_variable, with_kept, with_clause, with_clauses}
use Rattle.circuit_spec.specs.Gates.{and_clauses, xor_clauses, mux_clauses, xor3_clauses, majority_clauses, and_gate, or_gate, xor_gate, mux_gate, xor3_gate, majority_gate, gate}
use Rattle.circuit_spec.specs.Meaning.{is_xor, sum_bit, carry_bit}
use Rattle.circuit_spec.proofs.Truths.{and_true, and_assoc, or_false, value_not}

added_by : (v : ℕ → Bool) (c : List Literal) (f : Formula) (o : Option (List Literal)) → clause_of c ≡ o → satisfies v (with_kept o f).clauses ≡ (satisfies v f.clauses && satisfies_clause v c)
unfolding satisfies
added_by v c f None is =
    sym (ap (λ b. list_all (satisfies_clause v) f.clauses && b) (tautology_means v c is) ∙ and_true (list_all (satisfies_clause v) f.clauses))
added_by v c f (Some k) is =
    list_all-append (satisfies_clause v) f.clauses (k ∷ [])
    ∙ ap (λ b. list_all (satisfies_clause v) f.clauses && b) (and_true (satisfies_clause v k) ∙ clause_means v c k is)

-- one more clause is one more condition
pub added : (v : ℕ → Bool) (c : List Literal) (f : Formula) → satisfies v (with_clause c f).clauses ≡ (satisfies v f.clauses && satisfies_clause v c)
unfolding with_clause
added v c f = added_by v c f (clause_of c) refl

pub one_added : (v : ℕ → Bool) (l : Literal) (f : Formula) → satisfies v (with_clause (l ∷ []) f).clauses ≡ (satisfies v f.clauses && literal_value v l)
unfolding satisfies_clause
one_added v l f = added v (l ∷ []) f ∙ ap (λ b. satisfies v f.clauses && b) (or_false (literal_value v l))

all_added : (v : ℕ → Bool) (cs : List (List Literal)) (f : Formula) → satisfies v (with_clauses cs f).clauses ≡ (satisfies v f.clauses && list_all (satisfies_clause v) cs)
all_added v [] f = sym (and_true (satisfies v f.clauses))
all_added v (c ∷ cs) f =
    all_added v cs (with_clause c f)
    ∙ ap (λ b. b && list_all (satisfies_clause v) cs) (added v c f)
    ∙ and_assoc (satisfies v f.clauses) (satisfies_clause v c) (list_all (satisfies_clause v) cs)

-- a gate of these clauses, which say of each o that it has the value p
gate_means : (v : ℕ → Bool) (clauses : Literal → List (List Literal)) (f : Formula) (p : Bool) → ((o : Literal) → list_all (satisfies_clause v) (clauses o) ≡ same_truth (literal_value v o) p)
    → satisfies v (gate clauses f).1.clauses ≡ (satisfies v f.clauses && same_truth (literal_value v (gate clauses f).0) p)
gate_means v clauses f p say = all_added v (clauses (next_variable f)) (with_variable f) ∙ ap (λ x. satisfies v f.clauses && x) (say (next_variable f))

and_table : (o a b : Bool) → ((not o || (a || false)) && ((not o || (b || false)) && ((o || (not a || (not b || false))) && true))) ≡ same_truth o (a && b)
and_table true true true = refl
and_table true true false = refl
and_table true false true = refl
and_table true false false = refl
and_table false true true = refl
and_table false true false = refl
and_table false false true = refl
and_table false false false = refl

pub and_means : (v : ℕ → Bool) (a b : Literal) (f : Formula) → satisfies v (and_gate a b f).1.clauses ≡ (satisfies v f.clauses && same_truth (literal_value v (and_gate a b f).0) (literal_value v a && literal_value v b))
unfolding and_gate satisfies_clause
and_means v a b f = gate_means v (and_clauses a b) f (literal_value v a && literal_value v b) (λ o. rw (value_not v o, value_not v a, value_not v b) (and_table (literal_value v o) (literal_value v a) (literal_value v b)))

xor_table : (o a b : Bool) → ((not o || (a || (b || false))) && ((not o || (not a || (not b || false))) && ((o || (not a || (b || false))) && ((o || (a || (not b || false))) && true)))) ≡ same_truth o (is_xor a b)
xor_table true true true = refl
xor_table true true false = refl
xor_table true false true = refl
xor_table true false false = refl
xor_table false true true = refl
xor_table false true false = refl
xor_table false false true = refl
xor_table false false false = refl

pub xor_means : (v : ℕ → Bool) (a b : Literal) (f : Formula) → satisfies v (xor_gate a b f).1.clauses ≡ (satisfies v f.clauses && same_truth (literal_value v (xor_gate a b f).0) (is_xor (literal_value v a) (literal_value v b)))
unfolding xor_gate satisfies_clause
xor_means v a b f = gate_means v (xor_clauses a b) f (is_xor (literal_value v a) (literal_value v b)) (λ o. rw (value_not v o, value_not v a, value_not v b) (xor_table (literal_value v o) (literal_value v a) (literal_value v b)))

mux_table : (o c a b : Bool) → ((not c || (not a || (o || false))) && ((not c || (a || (not o || false))) && ((c || (not b || (o || false))) && ((c || (b || (not o || false))) && true)))) ≡ same_truth o (if c then a else b)
mux_table true true true true = refl
mux_table true true true false = refl
mux_table true true false true = refl
mux_table true true false false = refl
mux_table true false true true = refl
mux_table true false true false = refl
mux_table true false false true = refl
mux_table true false false false = refl
mux_table false true true true = refl
mux_table false true true false = refl
mux_table false true false true = refl
mux_table false true false false = refl
mux_table false false true true = refl
mux_table false false true false = refl
mux_table false false false true = refl
mux_table false false false false = refl

pub mux_means : (v : ℕ → Bool) (c a b : Literal) (f : Formula) → satisfies v (mux_gate c a b f).1.clauses ≡ (satisfies v f.clauses && same_truth (literal_value v (mux_gate c a b f).0) (if (literal_value v c) then (literal_value v a) else (literal_value v b)))
unfolding mux_gate satisfies_clause
mux_means v c a b f = gate_means v (mux_clauses c a b) f (if (literal_value v c) then (literal_value v a) else (literal_value v b)) (λ o. rw (value_not v o, value_not v a, value_not v b, value_not v c) (mux_table (literal_value v o) (literal_value v c) (literal_value v a) (literal_value v b)))

xor3_table : (o a b c : Bool) → ((a || (b || (c || (not o || false)))) && ((a || (b || (not c || (o || false)))) && ((a || (not b || (c || (o || false)))) && ((a || (not b || (not c || (not o || false)))) && ((not a || (b || (c || (o || false)))) && ((not a || (b || (not c || (not o || false)))) && ((not a || (not b || (c || (not o || false)))) && ((not a || (not b || (not c || (o || false)))) && true)))))))) ≡ same_truth o (sum_bit a b c)
xor3_table true true true true = refl
xor3_table true true true false = refl
xor3_table true true false true = refl
xor3_table true true false false = refl
xor3_table true false true true = refl
xor3_table true false true false = refl
xor3_table true false false true = refl
xor3_table true false false false = refl
xor3_table false true true true = refl
xor3_table false true true false = refl
xor3_table false true false true = refl
xor3_table false true false false = refl
xor3_table false false true true = refl
xor3_table false false true false = refl
xor3_table false false false true = refl
xor3_table false false false false = refl

pub xor3_means : (v : ℕ → Bool) (a b c : Literal) (f : Formula) → satisfies v (xor3_gate a b c f).1.clauses ≡ (satisfies v f.clauses && same_truth (literal_value v (xor3_gate a b c f).0) (sum_bit (literal_value v a) (literal_value v b) (literal_value v c)))
unfolding xor3_gate satisfies_clause
xor3_means v a b c f = gate_means v (xor3_clauses a b c) f (sum_bit (literal_value v a) (literal_value v b) (literal_value v c)) (λ o. rw (value_not v o, value_not v a, value_not v b, value_not v c) (xor3_table (literal_value v o) (literal_value v a) (literal_value v b) (literal_value v c)))

majority_table : (o a b c : Bool) → ((not a || (not b || (o || false))) && ((not a || (not c || (o || false))) && ((not b || (not c || (o || false))) && ((a || (b || (not o || false))) && ((a || (c || (not o || false))) && ((b || (c || (not o || false))) && true)))))) ≡ same_truth o (carry_bit a b c)
majority_table true true true true = refl
majority_table true true true false = refl
majority_table true true false true = refl
majority_table true true false false = refl
majority_table true false true true = refl
majority_table true false true false = refl
majority_table true false false true = refl
majority_table true false false false = refl
majority_table false true true true = refl
majority_table false true true false = refl
majority_table false true false true = refl
majority_table false true false false = refl
majority_table false false true true = refl
majority_table false false true false = refl
majority_table false false false true = refl
majority_table false false false false = refl

pub majority_means : (v : ℕ → Bool) (a b c : Literal) (f : Formula) → satisfies v (majority_gate a b c f).1.clauses ≡ (satisfies v f.clauses && same_truth (literal_value v (majority_gate a b c f).0) (carry_bit (literal_value v a) (literal_value v b) (literal_value v c)))
unfolding majority_gate satisfies_clause
majority_means v a b c f = gate_means v (majority_clauses a b c) f (carry_bit (literal_value v a) (literal_value v b) (literal_value v c)) (λ o. rw (value_not v o, value_not v a, value_not v b, value_not v c) (majority_table (literal_value v o) (literal_value v a) (literal_value v b) (literal_value v c)))

or_table : (o a b : Bool) → same_truth o (not a && not b) ≡ same_truth (not o) (a || b)
or_table true true b = refl
or_table true false true = refl
or_table true false false = refl
or_table false true b = refl
or_table false false true = refl
or_table false false false = refl

pub or_means : (v : ℕ → Bool) (a b : Literal) (f : Formula) → satisfies v (or_gate a b f).1.clauses ≡ (satisfies v f.clauses && same_truth (literal_value v (or_gate a b f).0) (literal_value v a || literal_value v b))
unfolding or_gate
or_means v a b f =
    and_means v (negation a) (negation b) f
    ∙ ap (λ x. satisfies v f.clauses && x)
    (rw (value_not v a, value_not v b, value_not v (and_gate (negation a) (negation b) f).0) (or_table (literal_value v (and_gate (negation a) (negation b) f).0) (literal_value v a) (literal_value v b)))
