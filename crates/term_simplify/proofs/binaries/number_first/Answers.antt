use Rattle.term_trees.specs.Trees.{tree_of}
use Rattle.term_simplify.proofs.BinaryPlans.{number_first-add, number_first-and, number_first-mul, number_first-or, number_first-plain, number_first-shift, Makes-plain}
use Rattle.term_simplify.proofs.Reading.{Makes-same}
use Rattle.term_simplify.proofs.binaries.number_first.Goals as goal

pub returns-in-Add : goal.returns-in-Add
returns-in-Add c = λ g at_a at_b fits.
    Makes-same g _ _ _ (c.term_if.ensures g _ at_b (Makes-plain g c.args.op c.args.a c.args.b fits))
    (number_first-add c.args.op c.args.x c.number-value.result (tree_of g c.args.a)
    (tree_of g c.args.b) c.number-value.ensures.value c.in-Add.is)

pub returns-in-Mul : goal.returns-in-Mul
returns-in-Mul c = λ g at_a at_b fits.
    Makes-same g _ _ _ (c.term_if-in-Mul-2.ensures g _ at_a
    (c.term_if-in-Mul.ensures g _ at_b (Makes-plain g c.args.op c.args.a c.args.b fits)))
    (number_first-mul c.args.op c.args.x c.number-value.result (tree_of g c.args.a)
    (tree_of g c.args.b) c.number-value.ensures.value c.in-Mul.is)

pub returns-in-And : goal.returns-in-And
returns-in-And c = λ g at_a at_b fits.
    Makes-same g _ _ _ (c.term_if-in-And-2.ensures g _ at_a
    (c.term_if-in-And.ensures g _ at_b (Makes-plain g c.args.op c.args.a c.args.b fits)))
    (number_first-and c.args.op c.args.x c.number-value.result (tree_of g c.args.a)
    (tree_of g c.args.b) c.number-value.ensures.value c.is_ones.result c.is_ones.ensures
    c.in-And.is)

pub returns-in-Or : goal.returns-in-Or
returns-in-Or c = λ g at_a at_b fits.
    Makes-same g _ _ _ (c.term_if-in-Or-2.ensures g _ at_b
    (c.term_if-in-Or.ensures g _ at_a (Makes-plain g c.args.op c.args.a c.args.b fits)))
    (number_first-or c.args.op c.args.x c.number-value.result (tree_of g c.args.a)
    (tree_of g c.args.b) c.number-value.ensures.value c.is_ones-in-Or.result
    c.is_ones-in-Or.ensures c.in-Or.is)

pub returns-in-Shl : goal.returns-in-Shl
returns-in-Shl c = λ g at_a at_b fits.
    Makes-same g _ _ _ (c.term_if-in-Shl.ensures g _ at_a (Makes-plain g c.args.op c.args.a c.args.b fits))
    (number_first-shift c.args.op c.args.x c.number-value.result (tree_of g c.args.a)
    (tree_of g c.args.b) c.number-value.ensures.value c.in-Shl.is)

pub returns-in-Udiv : goal.returns-in-Udiv
returns-in-Udiv c = λ g at_a at_b fits.
    Makes-same g _ _ _ (Makes-plain g c.args.op c.args.a c.args.b fits)
    (number_first-plain c.args.op c.args.x c.number-value.result (tree_of g c.args.a)
    (tree_of g c.args.b) c.number-value.ensures.value c.in-Udiv.is)
