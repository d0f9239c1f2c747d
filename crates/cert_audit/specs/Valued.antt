-- Values that lines say a term to have, and what shows that it has.
use Rattle.std.specs.Prelude.{◌≡◌, ℕ, ◌^◌, ◌<◌, ◌&&◌, true, List, ◌∷◌, ◌++◌, All, length, map}
use Rattle.bv_dag.specs.Graphs.{number_of}
use Rattle.bv_dag.specs.Queries.{holds}
use Rattle.cert_form.specs.declared.line.CertLine.{CertLine}
use Rattle.cert_form.specs.declared.line.CertLine.TheVariants.{Value, Witness}
use Rattle.fork_spec.specs.Evidence.{Found, values_of}
use Rattle.fork_spec.specs.Leaves.{are_bytes}
use Rattle.run_leaves.specs.Values.{HasValue}
use Rattle.sym_state.specs.Symbolic.{Symbolic, IsFormed, condition_of, stands_for}
use Rattle.cert_audit.specs.declared.todo.Others.{Others}
use Rattle.cert_audit.specs.declared.valued.Valued.{Valued}

-- the condition of a run and a term of it, in a graph of their own
pub record IsValued (s : Symbolic) (term : ℕ) (v : Valued) : Type 0 where
  pub formed : IsFormed s
  pub there : v.term < length v.condition.graph.nodes
  pub meets : (input : List ℕ) → holds v.condition input ≡ holds (condition_of s) input
  pub numbers : (input : List ℕ)
      → number_of v.condition.graph v.term input ≡ number_of s.terms term input

-- the assignment meets the condition, and there the term has the value, which is one of 32 bits
pub record IsValueOf (v : Valued) (f : Found) : Type 0 where
  pub stands : (are_bytes f.input && holds v.condition f.input) ≡ true
  pub value : number_of v.condition.graph v.term f.input ≡ f.value
  pub small : f.value < 2 ^ 32

-- the first of some lines give these values of the term, in their order
pub record AreValueLines (v : Valued) (values : List ℕ) (lines : List CertLine)
    (found : List Found) (rest : List CertLine) : Type 0 where
  pub split : lines ≡ map Value found ++ rest
  pub values_are : values_of found ≡ values
  pub each : All (IsValueOf v) found

-- the first of some lines give the values of the other sides, so many, and an assignment of the rest
pub record AreSamples (others : Others) (targets : ℕ) (lines : List CertLine) (found : List Found)
    (witness : List ℕ) (rest : List CertLine) : Type 0 where
  pub formed : IsFormed others.fork
  pub values_are : values_of found ≡ others.values.items
  pub count : length found ≡ targets
  pub each : All (HasValue others.fork others.term) found
  pub on_rest : stands_for others.rest witness ≡ true
  pub split : lines ≡ map Value found ++ Witness witness ∷ rest
