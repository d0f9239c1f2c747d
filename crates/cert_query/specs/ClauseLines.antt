-- The lines of clauses that come next.
use Rattle.std.specs.Prelude.{Bool, true, false, List, [], ◌∷◌}
use Rattle.cnf_form.specs.Refutations.{Step}
use Rattle.cert_form.specs.declared.line.CertLine.{CertLine}
use Rattle.cert_form.specs.declared.line.CertLine.TheVariants.{Clause}

-- the clauses of the first lines, up to one that is no clause's
abbrev pub clauses_at : List CertLine → List Step
clauses_at [] = []
clauses_at (Clause step ∷ lines) = step ∷ clauses_at lines
clauses_at (_ ∷ lines) = []

-- the lines from that one on
abbrev pub behind_clauses : List CertLine → List CertLine
behind_clauses [] = []
behind_clauses (Clause step ∷ lines) = behind_clauses lines
behind_clauses (line ∷ lines) = line ∷ lines

-- whether the first line is a clause's
abbrev pub begins_with_clause : List CertLine → Bool
begins_with_clause [] = false
begins_with_clause (Clause step ∷ lines) = true
begins_with_clause (_ ∷ lines) = false
