use Rattle.term_trees.specs.Trees.{tree_of}
use Rattle.term_simplify.proofs.BinaryPlans.{Makes-plain, number_second-add, number_second-and, number_second-mul, number_second-or, number_second-shift, number_second-udiv, number_second-urem}
use Rattle.term_simplify.proofs.Reading.{Makes-same}
use Rattle.term_simplify.proofs.binaries.number_second.Goals as goal

pub returns-in-Add : goal.returns-in-Add
returns-in-Add c = λ g at_a at_b fits.
    Makes-same g _ _ _ (c.term_if.ensures g _ at_a (Makes-plain g c.args.op c.args.a c.args.b fits))
    (number_second-add c.args.op c.args.y c.number-value.result (tree_of g c.args.a)
    (tree_of g c.args.b) c.number-value.ensures.value c.in-Add.is)

pub returns-in-Mul : goal.returns-in-Mul
returns-in-Mul c = λ g at_a at_b fits.
    Makes-same g _ _ _ (c.term_if-in-Mul-2.ensures g _ at_b
    (c.term_if-in-Mul.ensures g _ at_a (Makes-plain g c.args.op c.args.a c.args.b fits)))
    (number_second-mul c.args.op c.args.y c.number-value.result (tree_of g c.args.a)
    (tree_of g c.args.b) c.number-value.ensures.value c.in-Mul.is)

pub returns-in-Udiv : goal.returns-in-Udiv
returns-in-Udiv c = λ g at_a at_b fits.
    Makes-same g _ _ _ (c.number_if.ensures g _ (c.term_if-in-Udiv.ensures g _ at_a
    (Makes-plain g c.args.op c.args.a c.args.b fits)))
    (number_second-udiv c.args.op c.args.y c.number-value.result (tree_of g c.args.a)
    (tree_of g c.args.b) c.number-value.ensures.value c.width-width.result c.ones.result
    c.width-width.ensures.value c.ones.ensures c.in-Udiv.is)

pub returns-in-Urem : goal.returns-in-Urem
returns-in-Urem c = λ g at_a at_b fits.
    Makes-same g _ _ _ (c.term_if-in-Urem.ensures g _ at_a
    (c.number_if-in-Urem.ensures g _ (Makes-plain g c.args.op c.args.a c.args.b fits)))
    (number_second-urem c.args.op c.args.y c.number-value.result (tree_of g c.args.a)
    (tree_of g c.args.b) c.number-value.ensures.value c.width-width.result c.zero.result
    c.width-width.ensures.value c.zero.ensures c.in-Urem.is)

pub returns-in-And : goal.returns-in-And
returns-in-And c = λ g at_a at_b fits.
    Makes-same g _ _ _ (c.term_if-in-And-2.ensures g _ at_b
    (c.term_if-in-And.ensures g _ at_a (Makes-plain g c.args.op c.args.a c.args.b fits)))
    (number_second-and c.args.op c.args.y c.number-value.result (tree_of g c.args.a)
    (tree_of g c.args.b) c.number-value.ensures.value c.is_ones.result c.is_ones.ensures
    c.in-And.is)

pub returns-in-Or : goal.returns-in-Or
returns-in-Or c = λ g at_a at_b fits.
    Makes-same g _ _ _ (c.term_if-in-Or-2.ensures g _ at_a
    (c.term_if-in-Or.ensures g _ at_b (Makes-plain g c.args.op c.args.a c.args.b fits)))
    (number_second-or c.args.op c.args.y c.number-value.result (tree_of g c.args.a)
    (tree_of g c.args.b) c.number-value.ensures.value c.is_ones-in-Or.result
    c.is_ones-in-Or.ensures c.in-Or.is)

pub returns-in-Shl : goal.returns-in-Shl
returns-in-Shl c = λ g at_a at_b fits.
    Makes-same g _ _ _ (c.term_if-in-Shl.ensures g _ at_a
    (c.number_if-in-Shl.ensures g _ (Makes-plain g c.args.op c.args.a c.args.b fits)))
    (number_second-shift c.args.op c.args.y c.number-value.result (tree_of g c.args.a)
    (tree_of g c.args.b) c.number-value.ensures.value c.width-width.result c.from.result
    c.zero-in-Shl.result c.width-width.ensures.value c.from.ensures c.zero-in-Shl.ensures
    c.in-Shl.is)
