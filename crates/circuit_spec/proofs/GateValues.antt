-- Where a formula with a gate holds, the gate's literal has the gate's value.
use Rattle.std.proofs.Common.{◌≡◌, ℕ, Bool, true, ◌&&◌, ◌||◌, if◌then◌else◌, sym, ◌∙◌}
use Rattle.std.proofs.lemmas.Bool.{and_parts}
use Rattle.cnf_form.specs.Literals.{Literal, same_truth}
use Rattle.cnf_form.specs.Valuations.{literal_value}
use Rattle.cnf_form.proofs.Meaning.{truths}
use Rattle.circuit_spec.specs.Formulas.{Formula}
use Rattle.circuit_spec.specs.Gates.{and_gate, or_gate, xor_gate, mux_gate, xor3_gate, majority_gate}
use Rattle.circuit_spec.specs.Meaning.{is_xor, sum_bit, carry_bit}
use Rattle.circuit_spec.proofs.GateMeaning.{and_means, or_means, xor_means, mux_means, xor3_means, majority_means}
use Rattle.circuit_spec.proofs.EarlierClauses.{Holds}

has_value : (all before o p : Bool) → all ≡ (before && same_truth o p) → all ≡ true → o ≡ p
has_value all before o p means h = truths o p (and_parts before (same_truth o p) (sym means ∙ h)).1

pub and_says : (v : ℕ → Bool) (a b : Literal) (f : Formula) → Holds v (and_gate a b f).1 → literal_value v (and_gate a b f).0 ≡ (literal_value v a && literal_value v b)
and_says v a b f h = has_value _ _ _ _ (and_means v a b f) h

pub or_says : (v : ℕ → Bool) (a b : Literal) (f : Formula) → Holds v (or_gate a b f).1 → literal_value v (or_gate a b f).0 ≡ (literal_value v a || literal_value v b)
or_says v a b f h = has_value _ _ _ _ (or_means v a b f) h

pub xor_says : (v : ℕ → Bool) (a b : Literal) (f : Formula) → Holds v (xor_gate a b f).1 → literal_value v (xor_gate a b f).0 ≡ is_xor (literal_value v a) (literal_value v b)
xor_says v a b f h = has_value _ _ _ _ (xor_means v a b f) h

pub mux_says : (v : ℕ → Bool) (c a b : Literal) (f : Formula) → Holds v (mux_gate c a b f).1 → literal_value v (mux_gate c a b f).0 ≡ (if literal_value v c then literal_value v a else literal_value v b)
mux_says v c a b f h = has_value _ _ _ _ (mux_means v c a b f) h

pub xor3_says : (v : ℕ → Bool) (a b c : Literal) (f : Formula) → Holds v (xor3_gate a b c f).1 → literal_value v (xor3_gate a b c f).0 ≡ sum_bit (literal_value v a) (literal_value v b) (literal_value v c)
xor3_says v a b c f h = has_value _ _ _ _ (xor3_means v a b c f) h

pub majority_says : (v : ℕ → Bool) (a b c : Literal) (f : Formula) → Holds v (majority_gate a b c f).1 → literal_value v (majority_gate a b c f).0 ≡ carry_bit (literal_value v a) (literal_value v b) (literal_value v c)
majority_says v a b c f h = has_value _ _ _ _ (majority_means v a b c f) h
