use Rattle.std.proofs.Common.{◌∙◌, ap, sym}
use Rattle.bv_dag.specs.BitVectors.{BitVector}
use Rattle.term_simplify.proofs.Telling.{low_room, widened_no, widened_yes}
use Rattle.term_simplify.proofs.equalities.undone_widened.Goals as goal

pub extended-requires : goal.extended-requires
extended-requires c =
    low_room c.args.terms.now c.args.by c.args.signed c.args.a c.width_of.result c.args.n c.extracted-low.result c.width_of.ensures.value c.extracted-low.ensures
    c.width_of.ensures.not_empty c.requires.wide c.requires.at_most_64

pub returns-then-number-clause-is : goal.returns-then-number-clause-is
returns-then-number-clause-is c =
    widened_yes c.args.terms.now c.args.by c.args.signed c.args.a c.width_of.result c.args.n c.extracted-low.result c.width_of.ensures.value c.extracted-low.ensures
    (ap (λ (v : BitVector). v.number) (sym c.extended.ensures) ∙ sym c.number.ensures.value ∙ c.if-number.true ∙ c.number-2.ensures.value)

pub returns-else-number-clause-is : goal.returns-else-number-clause-is
returns-else-number-clause-is c =
    widened_no c.args.terms.now c.args.by c.args.signed c.args.a c.width_of.result c.args.n c.extracted-low.result c.width_of.ensures.value c.extracted-low.ensures
    (λ e. c.if-number.false (c.number.ensures.value ∙ ap (λ (v : BitVector). v.number) c.extended.ensures ∙ e ∙ sym c.number-2.ensures.value))
