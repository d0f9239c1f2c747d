use Rattle.std.proofs.Common.{◌∙◌, sym}
use Rattle.term_trees.specs.Trees.{tree_of}
use Rattle.sym_state.proofs.Choosing.{first_chosen, gives_first}
use Rattle.sym_state.proofs.bytes.choice.Goals as goal

pub returns-then-are_equal-clause-ok : goal.returns-then-are_equal-clause-ok
returns-then-are_equal-clause-ok c =
    gives_first c.args.terms.now c.args.bit c.args.first c.args.second c.requires.first
    (sym (c.are_equal.ensures c.args.terms.now) ∙ c.if-are_equal.true)

pub returns-then-are_equal-clause-expression : goal.returns-then-are_equal-clause-expression
returns-then-are_equal-clause-expression c =
    first_chosen c.args.terms.now (tree_of c.args.terms.now c.args.bit) c.args.first c.args.second
    (sym (c.are_equal.ensures c.args.terms.now) ∙ c.if-are_equal.true)
