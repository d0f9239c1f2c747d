-- Truth values, and what constants and negations are worth.
use Rattle.std.proofs.Common.{◌≡◌, ℕ, Bool, true, false, not, ◌&&◌, ◌||◌, refl, ap}
use Rattle.cnf_form.specs.Literals.{Literal, negation, same_truth}
use Rattle.cnf_form.specs.Valuations.{literal_value}
use Rattle.circuit_spec.specs.Formulas.{constant}

pub and_true : (b : Bool) → (b && true) ≡ b
and_true true = refl
and_true false = refl

pub and_assoc : (a b c : Bool) → ((a && b) && c) ≡ (a && (b && c))
and_assoc true b c = refl
and_assoc false b c = refl

pub or_false : (b : Bool) → (b || false) ≡ b
or_false true = refl
or_false false = refl

pub same_true : (b : Bool) → same_truth b true ≡ b
same_true true = refl
same_true false = refl

pub twice : (b p : Bool) → same_truth (same_truth b p) p ≡ b
twice true true = refl
twice true false = refl
twice false true = refl
twice false false = refl

pub same_itself : (b : Bool) → same_truth b b ≡ true
same_itself true = refl
same_itself false = refl

same_not : (a b : Bool) → same_truth a (not b) ≡ not (same_truth a b)
same_not true b = refl
same_not false b = refl

pub value_not : (v : ℕ → Bool) (l : Literal) → literal_value v (negation l) ≡ not (literal_value v l)
value_not v l = same_not (v l.variable) l.positive

pub constant_value : (v : ℕ → Bool) → v 1 ≡ true → (b : Bool) → literal_value v (constant b) ≡ b
constant_value v truth b = ap (λ t. same_truth t b) truth
