-- A formula without a valuation is that of no condition that holds.
use Rattle.std.proofs.Common.{◌≡◌, ℕ, Bool, true, false, refl}
use Rattle.cnf_form.specs.Valuations.{satisfies}
use Rattle.bv_dag.specs.Graphs.{IsDag}
use Rattle.bv_dag.specs.Queries.{AreBits, Condition, holds, IsUnsatisfiable}
use Rattle.circuit_spec.specs.Circuits.{clauses}
use Rattle.circuit_spec.proofs.Completeness.{has_valuation}

not_true : (b : Bool) → (b ≡ true → ⊥) → b ≡ false
not_true true never = absurd (never refl)
not_true false never = refl

pub refuted_fails : (q : Condition) → IsDag q.graph → AreBits q.graph q.asserted → ((v : ℕ → Bool) → satisfies v (clauses q) ≡ true → ⊥) → IsUnsatisfiable q
refuted_fails q dag bits never input small = not_true (holds q input) (λ is. let has = has_valuation q input dag bits small is in never has.0 has.1)
