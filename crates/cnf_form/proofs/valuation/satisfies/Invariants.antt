use Rattle.std.proofs.Common.{◌≡◌, drop}
use Rattle.std.specs.List.{list_all}
use Rattle.cnf_form.specs.Valuations.{satisfies_clause, satisfies, valuation}
use Rattle.cnf_form.proofs.valuation.satisfies.Given as goal

abbrev pub invariant-loop-place : goal.invariant-loop-place
invariant-loop-place l = list_all (satisfies_clause (valuation l.values)) (drop l.place l.clauses) ≡ satisfies (valuation l.values) l.clauses
