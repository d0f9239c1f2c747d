-- What a search keeps, and what its answers carry.
use Rattle.std.specs.Prelude.{◌≡◌, ℕ, ◌≤◌, Bool, true, false, List, All, ◌++◌, Option, Some, None, length}
use Rattle.std.specs.List.{list_all}
use Rattle.cnf_form.specs.Literals.{Literal}
use Rattle.cnf_form.specs.Propagation.{numbered, hint_is_falsified, follows}
use Rattle.cnf_form.specs.Clauses.{IsClause}
use Rattle.cnf_form.specs.Refutations.{Step, clauses_of, follows_all, has_no_empty, is_new, is_fresh, is_empty_clause, refutes}
use Rattle.cnf_form.specs.Valuations.{satisfies, valuation}
use Rattle.cnf_form.specs.Variables.{is_below, is_over}
use Rattle.cdcl_core.specs.declared.solver.Answer.{Answer}
use Rattle.cdcl_core.specs.declared.solver.Answer.TheVariants.{Found, Refuted, Spent}
use Rattle.cdcl_core.specs.Trails.{Assignment, trail_values, IsTrail, AreCalmFirst}
use Rattle.cdcl_core.specs.Passes.{has_true}

-- what holds of a valuation that was found
abbrev pub IfFound : Answer → (List Bool → Type 0) → Type 0
IfFound (Found values) P = P values
IfFound (Refuted log) P = Unit {0}
IfFound (Spent log) P = Unit {0}

-- what holds of a log that ends in the empty clause
abbrev pub IfRefuted : Answer → (List Step → Type 0) → Type 0
IfRefuted (Found values) P = Unit {0}
IfRefuted (Refuted log) P = P log
IfRefuted (Spent log) P = Unit {0}

-- what holds of a log where the budget was spent
abbrev pub IfSpent : Answer → (List Step → Type 0) → Type 0
IfSpent (Found values) P = Unit {0}
IfSpent (Refuted log) P = Unit {0}
IfSpent (Spent log) P = P log

-- what holds of every log
abbrev pub IfLog : Answer → (List Step → Type 0) → Type 0
IfLog (Found values) P = Unit {0}
IfLog (Refuted log) P = P log
IfLog (Spent log) P = P log

-- a log that refutes a formula, of no more clauses than the budget, each over the formula's variables
pub record IsRefutation (formula : List (List Literal)) (budget : ℕ) (log : List Step) : Type 0 where
  pub refuted : refutes formula log ≡ true
  pub in_budget : length log ≤ budget
  pub formed : All (λ s. IsClause s.clause) log
  pub over : list_all (is_over formula) (clauses_of log) ≡ true

-- a log of as many clauses as the budget, none empty, each of which follows, is new, and is over the formula's variables
pub record IsExhaustion (formula : List (List Literal)) (budget : ℕ) (log : List Step) : Type 0 where
  pub spent : length log ≡ budget
  pub no_empty : has_no_empty log ≡ true
  pub follows : follows_all formula log ≡ true
  pub fresh : is_fresh formula log ≡ true
  pub formed : All (λ s. IsClause s.clause) log
  pub over : list_all (is_over formula) (clauses_of log) ≡ true

-- an answer carries what shows it
abbrev pub IsAnswer : (formula : List (List Literal)) → (budget : ℕ) → Answer → Type 0
IsAnswer formula budget (Found values) = satisfies (valuation values) formula ≡ true
IsAnswer formula budget (Refuted log) = IsRefutation formula budget log
IsAnswer formula budget (Spent log) = IsExhaustion formula budget log

-- what a search keeps: its clauses are the formula's and those learnt, each of which follows, was new and has no variable
-- but the formula's, the trail is one over these clauses, and the first n of them are calm
pub record IsSearch (formula : List (List Literal)) (clauses : List (List Literal))
    (log : List Step) (now : Assignment) (n : ℕ) : Type 0 where
  pub all : clauses ≡ formula ++ clauses_of log
  pub follows : follows_all formula log ≡ true
  pub fresh : is_fresh formula log ≡ true
  pub no_empty : has_no_empty log ≡ true
  pub over : list_all (is_over formula) (clauses_of log) ≡ true
  pub below : list_all (is_below (length now.marks)) clauses ≡ true
  pub trail : IsTrail clauses now.entries
  pub calm : AreCalmFirst n (trail_values now.entries) clauses

-- where choices and propagation end: at a clause that is false, or with each clause satisfied
abbrev pub IsDescent : List (List Literal) → (ℕ → Option Bool) → Option ℕ → Type 0
IsDescent clauses a (Some k) = hint_is_falsified a (numbered clauses k) ≡ true
IsDescent clauses a None = list_all (has_true a) clauses ≡ true

-- a step that may be learnt: its clause follows, has no variable but those of the clauses, and is new unless it is empty
pub record IsLesson (clauses : List (List Literal)) (step : Step) : Type 0 where
  pub follows : follows clauses step.clause step.hints ≡ true
  pub is_new : is_empty_clause step.clause ≡ false → is_new clauses step.clause ≡ true
  pub over : is_over clauses step.clause ≡ true
