use Rattle.std.proofs.Common.{◌∙◌, arith, refl}
use Rattle.bv_dag.specs.BitVectors.{bvadd, bvsub}
use Rattle.bv_dag.specs.Graphs.{width_of}
use Rattle.bv_dag.specs.declared.nodes.BinaryOp.TheVariants.{Add, Sub}
use Rattle.term_simplify.specs.Simplified.{narrowed}
use Rattle.term_simplify.proofs.Stepping.{Stands-grown, at_width, if_ok, two_step}
use Rattle.term_simplify.proofs.builder.Builder.sum.Goals as goal

pub unsummed_step-requires : goal.unsummed_step-requires
unsummed_step-requires c =
    let g = c.args.self.now in
    let o = c.args.o in
    let some = c.requires.number.not_empty in
    let term = Stands-grown o.term (width_of g o.term) c.plain_step.ensures.continues refl (omega (arith, c.requires.wide, some)) in
    let number = c.in_ok-number.ensures.ok in
    (omega (arith, number.width, c.width.ensures.value, some, c.requires.number.width), omega (arith, number.width, c.width.ensures.value, term.width, c.requires.wide, c.requires.number.width))

pub unsummed_step-requires-else-o : goal.unsummed_step-requires-else-o
unsummed_step-requires-else-o c =
    let g = c.args.self.now in
    let o = c.args.o in
    let some = c.requires.number.not_empty in
    let term = Stands-grown o.term (width_of g o.term) c.plain_step.ensures.continues refl (omega (arith, c.requires.wide, some)) in
    let number = c.in_ok-number.ensures.ok in
    (omega (arith, term.width, c.requires.wide, some), omega (arith, number.width, c.width.ensures.value, term.width, c.requires.wide, c.requires.number.width))

pub returns-then-o-clause-ok : goal.returns-then-o-clause-ok
returns-then-o-clause-ok c =
    let g = c.args.self.now in
    let o = c.args.o in
    let term = Stands-grown o.term (width_of g o.term) c.plain_step.ensures.continues refl (omega (arith, c.requires.wide, c.requires.number.not_empty)) in
    let number = rw (c.width.ensures.value, c.number.ensures.value) at c.in_ok-number.ensures.ok in
    rw c.if-o.true (if_ok _ _ _ c.unsummed_step.ensures.ok (λ id n. at_width (number.width ∙ c.requires.number.width) (two_step (narrowed Sub) bvsub number term n)))

pub returns-else-o-clause-ok : goal.returns-else-o-clause-ok
returns-else-o-clause-ok c =
    let g = c.args.self.now in
    let o = c.args.o in
    let term = Stands-grown o.term (width_of g o.term) c.plain_step.ensures.continues refl (omega (arith, c.requires.wide, c.requires.number.not_empty)) in
    let number = rw (c.width.ensures.value, c.number.ensures.value) at c.in_ok-number.ensures.ok in
    rw c.if-o.false (if_ok _ _ _ c.unsummed_step-else-o.ensures.ok (λ id n. at_width (term.width ∙ c.requires.wide) (two_step (narrowed Add) bvadd term number n)))
