use Rattle.term_trees.specs.Trees.{tree_of}
use Rattle.term_simplify.proofs.ComparisonPlans.{test_first-eq, test_first-slt, test_first-ult, Makes-plain_test}
use Rattle.term_simplify.proofs.Reading.{Makes-same}
use Rattle.term_simplify.proofs.comparisons.test_first.Goals as goal

pub returns-in-Ult : goal.returns-in-Ult
returns-in-Ult c =
    Makes-same c.args.terms.now _ _ _ (c.number_if.ensures c.args.terms.now _
    (Makes-plain_test c.args.terms.now c.args.op c.args.a c.args.b c.requires.fits))
    (test_first-ult c.args.op c.args.x c.number-value.result (tree_of c.args.terms.now c.args.a)
    (tree_of c.args.terms.now c.args.b) c.number-value.ensures.value c.excludes.result
    c.zero.result c.excludes.ensures c.zero.ensures c.in-Ult.is)

pub returns-in-Slt : goal.returns-in-Slt
returns-in-Slt c =
    Makes-same c.args.terms.now _ _ _ (c.number_if-in-Slt.ensures c.args.terms.now _
    (Makes-plain_test c.args.terms.now c.args.op c.args.a c.args.b c.requires.fits))
    (test_first-slt c.args.op c.args.x c.number-value.result (tree_of c.args.terms.now c.args.a)
    (tree_of c.args.terms.now c.args.b) c.number-value.ensures.value c.excludes-in-Slt.result
    c.is_negative.result c.from_bool-is_below.result c.excludes-in-Slt.ensures
    c.is_negative.ensures c.from_bool-is_below.ensures c.in-Slt.is)

pub returns-in-Eq : goal.returns-in-Eq
returns-in-Eq c =
    Makes-same c.args.terms.now _ _ _ (c.equality.ensures _
    (Makes-plain_test c.args.terms.now c.args.op c.args.a c.args.b c.requires.fits))
    (test_first-eq c.args.op c.args.x c.number-value.result (tree_of c.args.terms.now c.args.a)
    (tree_of c.args.terms.now c.args.b) c.number-value.ensures.value c.in-Eq.is)
