-- The lines of clauses that come next.
use Rattle.std.proofs.Common.{◌≡◌, false, List, [], ◌∷◌, ◌++◌, map, refl, ap, sym, append_assoc, ◌∙◌}
use Rattle.std.proofs.lemmas.List.{map-append}
use Rattle.cnf_form.specs.Literals.{Literal}
use Rattle.cnf_form.specs.Refutations.{Step, clauses_of}
use Rattle.cert_form.specs.declared.line.CertLine.{CertLine}
use Rattle.cert_form.specs.declared.line.CertLine.TheVariants.{One, Split, Tried, Inputs, Nodes, Logic, Input, Base, Node, Assert, Check, Exit, Clause, Value, Witness, End, CutSteps, CutNodes}
use Rattle.cert_query.specs.ClauseLines.{begins_with_clause, behind_clauses, clauses_at}
use Rattle.cert_query.specs.Refuting.{AreClauseLines}
use Rattle.cert_query.proofs.Passing.{one_more}

in_two : (lines : List CertLine) → lines ≡ map Clause (clauses_at lines) ++ behind_clauses lines
in_two [] = refl
in_two (One _ ∷ lines) = refl
in_two (Split _ ∷ lines) = refl
in_two (Tried ∷ lines) = refl
in_two (Inputs _ ∷ lines) = refl
in_two (Nodes _ ∷ lines) = refl
in_two (Logic ∷ lines) = refl
in_two (Input _ ∷ lines) = refl
in_two (Base ∷ lines) = refl
in_two (Node _ ∷ lines) = refl
in_two (Assert _ ∷ lines) = refl
in_two (Check ∷ lines) = refl
in_two (Exit ∷ lines) = refl
in_two (Clause step ∷ lines) = ap (λ (ls : List CertLine). Clause step ∷ ls) (in_two lines)
in_two (Value _ ∷ lines) = refl
in_two (Witness _ ∷ lines) = refl
in_two (End _ ∷ lines) = refl
in_two (CutSteps _ ∷ lines) = refl
in_two (CutNodes ∷ lines) = refl

-- the clauses of lines, and what is behind them
pub are_clause_lines : (lines : List CertLine) (log : List Step) (rest : List CertLine) → log ≡ clauses_at lines → rest ≡ behind_clauses lines → AreClauseLines lines log rest
are_clause_lines lines log rest all others = rw (all, others) record { split = in_two lines; all = refl; others = refl }

-- behind lines of clauses
pub clauses_behind : (log : List Step) (rest : List CertLine) → clauses_at (map Clause log ++ rest) ≡ log ++ clauses_at rest
clauses_behind [] rest = refl
clauses_behind (s ∷ ss) rest = ap (λ (ts : List Step). s ∷ ts) (clauses_behind ss rest)

pub others_behind : (log : List Step) (rest : List CertLine) → behind_clauses (map Clause log ++ rest) ≡ behind_clauses rest
others_behind [] rest = refl
others_behind (s ∷ ss) rest = others_behind ss rest

-- lines of clauses that came so far, and one more
pub one_more_clause : (lines rest more : List CertLine) (log : List Step) (s : Step) → lines ≡ map Clause log ++ rest → rest ≡ Clause s ∷ more → lines ≡ map Clause (log ++ s ∷ []) ++ more
one_more_clause lines rest more log s passed next =
    one_more lines (map Clause log) rest (Clause s) more passed next
    ∙ ap (λ (ls : List CertLine). ls ++ more) (sym (map-append Clause log (s ∷ [])))

pub one_more_noted : (before old new : List (List Literal)) (log : List Step) (s : Step) → old ≡ before ++ clauses_of log → new ≡ old ++ s.clause ∷ [] → new ≡ before ++ clauses_of (log ++ s ∷ [])
one_more_noted before old new log s noted next =
    next ∙ ap (λ (cs : List (List Literal)). cs ++ s.clause ∷ []) noted ∙ append_assoc before (clauses_of log) (s.clause ∷ [])
    ∙ ap (λ (cs : List (List Literal)). before ++ cs) (sym (map-append (λ (t : Step). t.clause) log (s ∷ [])))

-- lines that begin with no clause
pub record BeginsWithNone (lines : List CertLine) : Type 0 where
  pub none : clauses_at lines ≡ []
  pub all : lines ≡ behind_clauses lines

pub begins_with_none : (lines : List CertLine) → begins_with_clause lines ≡ false → BeginsWithNone lines
begins_with_none [] h = record { none = refl; all = refl }
begins_with_none (One _ ∷ lines) h = record { none = refl; all = refl }
begins_with_none (Split _ ∷ lines) h = record { none = refl; all = refl }
begins_with_none (Tried ∷ lines) h = record { none = refl; all = refl }
begins_with_none (Inputs _ ∷ lines) h = record { none = refl; all = refl }
begins_with_none (Nodes _ ∷ lines) h = record { none = refl; all = refl }
begins_with_none (Logic ∷ lines) h = record { none = refl; all = refl }
begins_with_none (Input _ ∷ lines) h = record { none = refl; all = refl }
begins_with_none (Base ∷ lines) h = record { none = refl; all = refl }
begins_with_none (Node _ ∷ lines) h = record { none = refl; all = refl }
begins_with_none (Assert _ ∷ lines) h = record { none = refl; all = refl }
begins_with_none (Check ∷ lines) h = record { none = refl; all = refl }
begins_with_none (Exit ∷ lines) h = record { none = refl; all = refl }
begins_with_none (Clause step ∷ lines) h = cc
begins_with_none (Value _ ∷ lines) h = record { none = refl; all = refl }
begins_with_none (Witness _ ∷ lines) h = record { none = refl; all = refl }
begins_with_none (End _ ∷ lines) h = record { none = refl; all = refl }
begins_with_none (CutSteps _ ∷ lines) h = record { none = refl; all = refl }
begins_with_none (CutNodes ∷ lines) h = record { none = refl; all = refl }
