-- Lines of clauses that refute a question.
use Rattle.std.specs.Prelude.{◌≡◌, ◌++◌, ◌∷◌, [], Bool, true, false, List, map}
use Rattle.cnf_form.specs.Literals.{Literal}
use Rattle.cnf_form.specs.Propagation.{follows}
use Rattle.cnf_form.specs.Refutations.{Step, refutes}
use Rattle.bv_dag.specs.Queries.{Condition, IsUnsatisfiable}
use Rattle.circuit_spec.specs.Circuits.{clauses}
use Rattle.cert_form.specs.declared.line.CertLine.{CertLine}
use Rattle.cert_form.specs.declared.line.CertLine.TheVariants.{Clause}
use Rattle.cert_query.specs.ClauseLines.{clauses_at, behind_clauses}

-- the first lines are clauses, and the others begin with none
pub record AreClauseLines (lines : List CertLine) (log : List Step) (rest : List CertLine) : Type 0 where
  pub split : lines ≡ map Clause log ++ rest
  pub all : log ≡ clauses_at lines
  pub others : rest ≡ behind_clauses lines

-- clauses that refute a formula, and the lines behind them
pub record IsRefutation (formula : List (List Literal)) (lines rest : List CertLine) : Type 0 where
  pub log : List Step
  pub lines_are : AreClauseLines lines log rest
  pub refuting : refutes formula log ≡ true

-- clauses that refute a question, so that no input meets it, and the lines behind them
pub record IsRefutedBy (q : Condition) (lines rest : List CertLine) : Type 0 where
  pub refutation : IsRefutation (clauses q) lines rest
  pub unsatisfiable : IsUnsatisfiable q

-- whether a step's clause follows; if so, it is put behind the others. Only a private function speaks of this
abbrev pub IsNoted : (old new : List (List Literal)) → Step → Bool → Type 0
IsNoted old new step true = (follows old step.clause step.hints ≡ true) × (new ≡ old ++ step.clause ∷ [])
IsNoted old new step false = follows old step.clause step.hints ≡ false
