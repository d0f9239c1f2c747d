use Rattle.term_trees.specs.Trees.{tree_of}
use Rattle.term_simplify.proofs.ValueRules.{no_operation, no_value, some_value, worth_value}
use Rattle.term_simplify.proofs.values.value_of.Goals as goal

pub returns-in-Binary-clause-tree : goal.returns-in-Binary-clause-tree
returns-in-Binary-clause-tree c =
    let k = c.in-Binary in
    rw k.is (some_value c.args.terms.now k.op k.a k.b c.two_told.result c.two_told.ensures.is)

pub returns-in-Binary-clause-worth : goal.returns-in-Binary-clause-worth
returns-in-Binary-clause-worth c =
    let k = c.in-Binary in
    rw k.is (worth_value c.args.terms.now k.op k.a k.b c.two_told.ensures.fit (rw k.is at c.requires) c.two_told.result c.two_told.ensures.is)

pub returns-in-Binary-clause-none : goal.returns-in-Binary-clause-none
returns-in-Binary-clause-none c = λ none.
    let k = c.in-Binary in
    rw k.is (no_value c.args.terms.now k.op k.a k.b c.two_told.result c.two_told.ensures.is none)

pub returns-in_default-clause-none : goal.returns-in_default-clause-none
returns-in_default-clause-none c = λ none. no_operation (tree_of c.args.terms.now) c.args.node c.in_default.not-Binary
