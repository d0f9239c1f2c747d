use Rattle.std.proofs.Common.{◌∙◌, ap, arith}
use Rattle.bv_dag.specs.BitVectors.{BitVector}
use Rattle.bv_dag.specs.Graphs.{val}
use Rattle.term_trees.specs.Trees.{tree_of}
use Rattle.term_trees.proofs.TreeLaws.{width-tree_of}
use Rattle.term_simplify.proofs.PartTerms.{narrow, zero_fits}
use Rattle.term_simplify.proofs.RunNumbers.{and_ones, and_zeros, or_ones, or_zeros, xor_ones, xor_zeros}
use Rattle.term_simplify.proofs.RunSteps.{own_word}
use Rattle.term_simplify.proofs.Stepping.{Stands-itself, Stands-worth, at_width, if_ok}
use Rattle.term_simplify.proofs.builder.Builder.under_run.Goals as goal

pub plain_step-requires : goal.plain_step-requires
plain_step-requires c =
    let g = c.args.self.now in
    zero_fits c.args.width c.requires.some (omega (arith, narrow g.inputs (tree_of g c.args.operand) c.requires.term, width-tree_of g c.args.operand, c.requires.wide))

pub ones-requires-clause-at_most_64 : goal.ones-requires-clause-at_most_64
ones-requires-clause-at_most_64 c =
    let g = c.args.self.now in
    omega (arith, narrow g.inputs (tree_of g c.args.operand) c.requires.term, width-tree_of g c.args.operand, c.requires.wide)

pub returns-then-zeros-clause-ok : goal.returns-then-zeros-clause-ok
returns-then-zeros-clause-ok c =
    let g = c.args.self.now in
    rw (c.in-And.is, c.if-zeros.true) (if_ok _ _ _ c.plain_step.ensures.ok (λ id n.
    Stands-worth (λ input bytes. and_zeros c.args.width (val g c.args.operand input) (own_word g c.args.operand c.args.width input bytes c.requires.term c.requires.wide)) n))

pub returns-else-zeros-clause-ok : goal.returns-else-zeros-clause-ok
returns-else-zeros-clause-ok c =
    let g = c.args.self.now in
    rw (c.in-And.is, c.if-zeros.false) (Stands-worth (λ input bytes. and_ones c.args.width (val g c.args.operand input)
    (own_word g c.args.operand c.args.width input bytes c.requires.term c.requires.wide)) (Stands-itself g c.args.operand c.args.width c.requires.wide c.requires.some))

pub returns-then-zeros-2-clause-ok : goal.returns-then-zeros-2-clause-ok
returns-then-zeros-2-clause-ok c =
    let g = c.args.self.now in
    rw (c.in-Or.is, c.if-zeros-2.true) (Stands-worth (λ input bytes. or_zeros c.args.width (val g c.args.operand input)
    (own_word g c.args.operand c.args.width input bytes c.requires.term c.requires.wide)) (Stands-itself g c.args.operand c.args.width c.requires.wide c.requires.some))

pub returns-else-zeros-2-clause-ok : goal.returns-else-zeros-2-clause-ok
returns-else-zeros-2-clause-ok c =
    let g = c.args.self.now in
    let e = c.number-value.ensures.value ∙ ap (λ (x : BitVector). x.number) c.ones.ensures in
    let made = rw e at c.plain_step-else-zeros-2.ensures.ok in
    rw (c.in-Or.is, c.if-zeros-2.false) (if_ok _ _ _ made (λ id n.
    Stands-worth (λ input bytes. or_ones c.args.width (val g c.args.operand input) (own_word g c.args.operand c.args.width input bytes c.requires.term c.requires.wide)) n))

pub returns-then-zeros-3-clause-ok : goal.returns-then-zeros-3-clause-ok
returns-then-zeros-3-clause-ok c =
    let g = c.args.self.now in
    rw (c.in-Xor.is, c.if-zeros-3.true) (Stands-worth (λ input bytes. xor_zeros c.args.width (val g c.args.operand input)
    (own_word g c.args.operand c.args.width input bytes c.requires.term c.requires.wide)) (Stands-itself g c.args.operand c.args.width c.requires.wide c.requires.some))

pub returns-else-zeros-3-clause-ok : goal.returns-else-zeros-3-clause-ok
returns-else-zeros-3-clause-ok c =
    let g = c.args.self.now in
    rw (c.in-Xor.is, c.if-zeros-3.false) (if_ok _ _ _ c.plain_step-else-zeros-3.ensures.ok (λ id n.
    at_width c.requires.wide (Stands-worth (λ input bytes. xor_ones c.args.width (val g c.args.operand input)
    (own_word g c.args.operand c.args.width input bytes c.requires.term c.requires.wide)) n)))
