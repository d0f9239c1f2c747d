use Rattle.circuit_spec.proofs.EarlierClauses.{node_before, asserted_before}
use Rattle.circuit_spec.proofs.laws.circuits.terms_only_add_clauses.Goals as goal

pub returns-clause-term : goal.returns-clause-term
returns-clause-term c = node_before

pub returns-clause-asserted : goal.returns-clause-asserted
returns-clause-asserted c = asserted_before
