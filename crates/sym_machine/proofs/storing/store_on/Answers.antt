use Rattle.std.proofs.Common.{◌∙◌, sym}
use Rattle.bv_dag.specs.Graphs.{number_of}
use Rattle.term_trees.specs.Trees.{tree_of}
use Rattle.sym_state.specs.Expressions.{Unknown}
use Rattle.sym_machine.proofs.Stores.{Keeps-stored, carries_refused, carries_stored, mapped_as, stored_is, stored_terms}
use Rattle.sym_machine.proofs.storing.store_on.Goals as goal

pub returns-then-not-can_write : goal.returns-then-not-can_write
returns-then-not-can_write c = λ of is.
    let s = c.args.state.now in
    rw c.trapped.ensures (carries_refused s of (λ input. number_of s.terms c.args.term input) is c.args.width c.args.rs2 (Unknown (tree_of s.terms c.args.term))
    c.args.page c.requires.aligned c.requires.page (sym c.can_write.ensures ∙ c.if-not-can_write.true))

pub store_on-requires-clause-mapped : goal.store_on-requires-clause-mapped
store_on-requires-clause-mapped c = mapped_as _ (sym c.if-not-can_write.ensures)

pub returns : goal.returns
returns c = λ of is.
    let s = c.args.state.now in
    let t = c.store_on.new.self in
    let v = c.value-value.result in
    let made = c.in_ok-store_on.ensures in
    carries_stored s of (λ input. number_of s.terms c.args.term input) is c.args.width c.args.rs2 (Unknown (tree_of s.terms c.args.term))
    c.args.page c.requires.aligned c.requires.page t c.go_on.new.state c.go_on.result (sym c.if-not-can_write.ensures)
    (Keeps-stored s t c.args.width c.args.page c.args.term v made)
    (stored_is s t c.args.width c.args.page c.args.term c.args.rs2 v c.value-value.ensures.value c.requires.aligned c.requires.page made)
    (stored_terms s t c.args.width c.args.page c.args.term c.args.rs2 v c.value-value.ensures.value made)
    c.go_on.ensures.running c.go_on.ensures.state
