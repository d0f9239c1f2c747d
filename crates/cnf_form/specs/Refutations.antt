-- Logs: clauses that follow one after the other, each new, and logs that refute a formula.
use Rattle.std.specs.Prelude.{ℕ, Bool, true, false, not, ◌&&◌, List, [], ◌∷◌, ◌++◌, map}
use Rattle.std.specs.List.{list_all, list_any}
use Rattle.cnf_form.specs.Literals.{Literal}
use Rattle.cnf_form.specs.Clauses.{is_subset}
use Rattle.cnf_form.specs.Propagation.{follows}

-- a step of a log: a clause, and numbers of clauses by which it follows. The clauses of the formula are numbered from
-- 1 in their order, and the log's go on
pub record Step : Type 0 where
  pub clause : List Literal
  pub hints : List ℕ

abbrev pub clauses_of : List Step → List (List Literal)
clauses_of log = map (λ s. s.clause) log

-- whether each clause of the log follows by its hints from those before it
unfoldable pub follows_all : List (List Literal) → List Step → Bool
follows_all before [] = true
follows_all before (s ∷ ss) =
    follows before s.clause s.hints && follows_all (before ++ s.clause ∷ []) ss

-- whether none of the clauses is a subset of this one
unfoldable pub is_new : List (List Literal) → List Literal → Bool
is_new clauses c = not (list_any (λ d. is_subset d c) clauses)

-- whether no clause of the log is a superset of one before it
unfoldable pub is_fresh : List (List Literal) → List Step → Bool
is_fresh before [] = true
is_fresh before (s ∷ ss) = is_new before s.clause && is_fresh (before ++ s.clause ∷ []) ss

abbrev pub is_empty_clause : List Literal → Bool
is_empty_clause [] = true
is_empty_clause (l ∷ ls) = false

-- whether no clause of the log is empty
unfoldable pub has_no_empty : List Step → Bool
has_no_empty log = list_all (λ s. not (is_empty_clause s.clause)) log

-- whether the log's last clause is empty
unfoldable pub ends_empty : List Step → Bool
ends_empty [] = false
ends_empty (s ∷ []) = is_empty_clause s.clause
ends_empty (s ∷ t ∷ ss) = ends_empty (t ∷ ss)

-- whether the log shows that no valuation satisfies the formula
abbrev pub refutes : List (List Literal) → List Step → Bool
refutes formula log = follows_all formula log && ends_empty log
