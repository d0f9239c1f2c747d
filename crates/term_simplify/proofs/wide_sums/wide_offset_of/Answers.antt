use Rattle.std.proofs.Common.{◌≡◌, ◌∙◌, Some, subst, sym}
use Rattle.std.specs.List.{slice_get}
use Rattle.bv_dag.specs.declared.nodes.Node.TheVariants.{Extend}
use Rattle.term_simplify.specs.WideSums.{IsWideSummand}
use Rattle.term_simplify.proofs.Reading.{extended_width}
use Rattle.term_simplify.proofs.Telling.{if_some, widened_fits}
use Rattle.term_simplify.proofs.WideReading.{not_widened_here, signed_here, widened_here}
use Rattle.term_simplify.proofs.wide_sums.wide_offset_of.Goals as goal

pub widened_offset-requires : goal.widened_offset-requires
widened_offset-requires c = record { fits = widened_fits c.args.terms.now c.args.id c.node.ensures.fit _ _ _ c.in-Extend.ensures.is }

pub returns-then-signed-clause-is : goal.returns-then-signed-clause-is
returns-then-signed-clause-is c =
    signed_here c.args.terms.now c.args.id c.node.ensures.fit _ _
    (subst (λ s. slice_get c.args.terms.now.nodes c.args.id ≡ Some (Extend c.in-Extend.by s c.in-Extend.operand)) c.if-signed.true c.in-Extend.ensures.is)

pub returns-else-signed-clause-some : goal.returns-else-signed-clause-some
returns-else-signed-clause-some c =
    let g = c.args.terms.now in
    if_some _ _ _ c.widened_offset.ensures.some (λ o is. subst (λ w. IsWideSummand g w o)
    (sym (extended_width g c.args.id _ _ _ c.node.ensures.fit c.in-Extend.ensures.is)) is)

pub returns-else-signed-clause-is : goal.returns-else-signed-clause-is
returns-else-signed-clause-is c =
    c.widened_offset.ensures.is ∙ widened_here c.args.terms.now c.args.id c.node.ensures.fit _ _
    (subst (λ s. slice_get c.args.terms.now.nodes c.args.id ≡ Some (Extend c.in-Extend.by s c.in-Extend.operand)) c.if-signed.false c.in-Extend.ensures.is)

pub returns-in-None : goal.returns-in-None
returns-in-None c = record {
  some = tt;
  is = sym (sym (not_widened_here c.args.terms.now c.args.id c.node.ensures.fit c.node.result c.node.ensures.is c.in_default.not-Extend) ∙ sym c.in-None.ensures.is);
}
