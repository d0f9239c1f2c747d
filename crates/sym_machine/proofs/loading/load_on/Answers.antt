use Rattle.std.proofs.Common.{◌∙◌, ap, sym}
use Rattle.std.specs.Prelude.{is_some, not}
use Rattle.bv_dag.specs.Graphs.{number_of}
use Rattle.term_trees.specs.Trees.{tree_of}
use Rattle.sym_state.specs.Expressions.{Unknown}
use Rattle.sym_machine.proofs.Loads.{carries_loaded, carries_unmapped, loaded_worth}
use Rattle.sym_machine.proofs.loading.load_on.Goals as goal

pub returns-then-is_none : goal.returns-then-is_none
returns-then-is_none c = λ of is.
    let s = c.args.state.now in
    rw c.trapped.ensures (carries_unmapped s of (λ input. number_of s.terms c.args.term input) is c.args.width c.args.rd (Unknown (tree_of s.terms c.args.term))
    c.args.page c.requires.aligned c.requires.page (ap is_some (sym c.flags.ensures) ∙ c.is_none.ensures ∙ ap not c.if-is_none.true))

pub returns : goal.returns
returns c = λ of is.
    let s = c.args.state.now in
    let made = c.in_ok-value.ensures.ok in
    carries_loaded s of (λ input. number_of s.terms c.args.term input) is c.args.width c.args.rd (Unknown (tree_of s.terms c.args.term))
    c.args.page c.requires.aligned c.requires.page c.loaded_on.new.self c.go_on_with.new.state c.go_on_with.result c.in_ok-value.value
    (ap is_some (sym c.flags.ensures) ∙ c.is_none.ensures ∙ ap not c.if-is_none.false)
    made.grown (loaded_worth s c.loaded_on.new.self c.args.width c.args.page c.args.term c.in_ok-value.value c.requires.aligned c.requires.page made)
    made.expression c.go_on_with.ensures.running c.go_on_with.ensures.state
