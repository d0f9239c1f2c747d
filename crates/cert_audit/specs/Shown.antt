-- Lines behind which nothing more is named: proofs that a run stands for no assignment.
use Rattle.std.specs.Prelude.{◌≡◌, ℕ, ◌<◌, ◌≤◌, false, List, ◌∷◌, ◌++◌, length, None}
use Rattle.cert_form.specs.declared.line.CertLine.{CertLine}
use Rattle.sym_state.specs.Symbolic.{Symbolic, stands_for}
use Rattle.cert_audit.specs.Names.{Ahead, named_from}
use Rattle.cert_audit.specs.Passing.{PassesUncut}

-- the first of some lines show that a run stands for no assignment, and the rest is behind them
pub record IsShownEmpty (s : Symbolic) (lines rest : List CertLine) : Type 0 where
  pub none : (input : List ℕ) → stands_for s input ≡ false
  pub quiet : (a : Ahead) (ahead : List Ahead) → a.cut ≡ None
      → named_from (a ∷ ahead) lines ≡ named_from (a ∷ ahead) rest
  pub shorter : length rest < length lines
  pub ends : PassesUncut lines rest

-- the first of some lines, if any, name nothing of what comes next, and the rest is behind them
pub record ArePassed (next : List Ahead) (lines rest : List CertLine) : Type 0 where
  pub quiet : (ahead : List Ahead)
      → named_from (next ++ ahead) lines ≡ named_from (next ++ ahead) rest
  pub no_longer : length rest ≤ length lines
  pub ends : PassesUncut lines rest
