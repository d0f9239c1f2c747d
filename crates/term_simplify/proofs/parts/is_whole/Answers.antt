use Rattle.std.proofs.Common.{◌∙◌, ◌+◌, ◌==◌, ap, sym}
use Rattle.term_trees.proofs.TreeLaws.{width-tree_of}
use Rattle.term_simplify.proofs.Words.{tests_equal}
use Rattle.term_simplify.proofs.parts.is_whole.Goals as goal

pub returns-then-span-eq0 : goal.returns-then-span-eq0
returns-then-span-eq0 c =
    rw (tests_equal c.args.span.low 0 c.if-span-eq0.true)
    (ap (λ w. c.args.span.high + 1 == w) (c.width_of-width.ensures.value ∙ sym (width-tree_of c.args.terms.now c.args.span.operand)))
