-- What an answer says of the question that it is given to.
use Rattle.std.specs.Prelude.{◌≡◌, true}
use Rattle.bv_dag.specs.Queries.{Condition, holds, IsUnsatisfiable}
use Rattle.query_cache.specs.declared.satisfiability.Satisfiability.{Satisfiability}
use Rattle.query_cache.specs.declared.satisfiability.Satisfiability.TheVariants.{Sat, Unsat}

-- the answer is true of the question
abbrev pub IsAnswer : Condition → Satisfiability → Type 0
IsAnswer q (Sat input) = holds q input ≡ true
IsAnswer q Unsat = IsUnsatisfiable q

-- a question with an answer
pub record Answered : Type 0 where
  pub query : Condition
  pub answer : Satisfiability
