-- Assignments that runs stand for.
use Rattle.std.proofs.Common.{◌≡◌, ℕ, ◌<◌, Bool, true, List, All, ap, subst, sym, ◌∙◌}
use Rattle.std.specs.Prelude.{◌&&◌, IfOk, Result, Ok, Err}
use Rattle.bv_dag.specs.Graphs.{Graph}
use Rattle.bv_dag.specs.Queries.{Condition, holds}
use Rattle.fork_spec.proofs.ByteLists.{are_bytes-of}
use Rattle.sym_state.specs.Runs.{IsSampled}
use Rattle.sym_state.specs.Symbolic.{Symbolic, condition_of, stands_for}
use Rattle.cert_audit.specs.Steps.{IsSampledBy}

-- bytes that meet the question of its condition
pub met_ok : {E : Type 0} (s : Symbolic) (input : List ℕ) (asked : Condition) (terms : Graph) (ids : List ℕ) (r : Result Bool E)
    → All (λ b. b < 256) input → terms ≡ s.terms → ids ≡ s.condition
    → ((bytes : List ℕ) → holds asked bytes ≡ holds (record { graph = terms; asserted = ids }) bytes)
    → IfOk r (λ met. met ≡ holds asked input) → IfOk r (λ met. met ≡ stands_for s input)
met_ok s input asked terms ids (Ok met) bytes same_terms same_ids same is =
    is ∙ same input
    ∙ ap (λ (graph : Graph). holds (record { graph = graph; asserted = ids }) input) same_terms
    ∙ ap (λ (asserted : List ℕ). holds (record { graph = s.terms; asserted = asserted }) input) same_ids
    ∙ sym (ap (λ b. b && holds (condition_of s) input) (are_bytes-of input bytes))
met_ok s input asked terms ids (Err e) bytes same_terms same_ids same is = tt

-- one of them has become the sample
pub sampled_by : (old new : Symbolic) (input sample : List ℕ) → new ≡ record old { sample = sample } → sample ≡ input → stands_for old input ≡ true
    → IsSampledBy old input new
sampled_by old new input sample is same met = record {
  same = is ∙ ap (λ (bytes : List ℕ). record old { sample = bytes }) same;
  sampled = subst IsSampled (sym (is ∙ ap (λ (bytes : List ℕ). record old { sample = bytes }) same)) met;
}
