-- When a budget of clauses is spent on a question.
use Rattle.std.specs.Prelude.{◌≡◌, ℕ, true, All, List, length}
use Rattle.std.specs.List.{list_all}
use Rattle.cnf_form.specs.Clauses.{IsClause}
use Rattle.cnf_form.specs.Refutations.{Step, clauses_of, follows_all, has_no_empty, is_fresh}
use Rattle.cnf_form.specs.Variables.{is_over}
use Rattle.bv_dag.specs.Inputs.{HasTwo, asserted_inputs}
use Rattle.bv_dag.specs.Queries.{Condition}
use Rattle.circuit_spec.specs.Circuits.{clauses}

-- The question rests on two input bytes at least, and so many clauses were learnt for it: each is over the variables of its
-- clauses, follows from these and those learnt before, is new, and isn't empty.
pub record IsSpent (q : Condition) (budget : ℕ) (log : List Step) : Type 0 where
  pub wide : HasTwo (asserted_inputs q)
  pub whole : length log ≡ budget
  pub formed : All (λ (s : Step). IsClause s.clause) log
  pub over : list_all (is_over (clauses q)) (clauses_of log) ≡ true
  pub no_empty : has_no_empty log ≡ true
  pub follows : follows_all (clauses q) log ≡ true
  pub fresh : is_fresh (clauses q) log ≡ true
