use Rattle.std.proofs.Common.{◌∙◌, ◌+◌, ap, arith, subst}
use Rattle.term_simplify.specs.Offsets.{offset_of}
use Rattle.term_simplify.specs.WideSums.{IsWideSummand}
use Rattle.term_simplify.proofs.Reading.{has_term}
use Rattle.term_simplify.proofs.Telling.{if_some, operands_fit}
use Rattle.term_simplify.proofs.WideReading.{two_within, within_none, within_two}
use Rattle.term_simplify.proofs.wide_sums.widened_offset.Goals as goal

pub node-requires : goal.node-requires
node-requires c = has_term c.args.terms.now c.args.id c.requires.fits.0

pub wide_two-requires-clause-fits : goal.wide_two-requires-clause-fits
wide_two-requires-clause-fits c = operands_fit c.args.terms.now c.args.id c.node.ensures.fit _ _ _ c.in-Binary.ensures.is

pub wide_two-requires-clause-room : goal.wide_two-requires-clause-room
wide_two-requires-clause-room c =
    omega (arith, two_within c.args.terms.now c.args.id c.node.ensures.fit _ _ _ c.in-Binary.ensures.is, c.requires.fits.2)

pub returns-in-Binary-clause-some : goal.returns-in-Binary-clause-some
returns-in-Binary-clause-some c =
    let g = c.args.terms.now in
    if_some _ _ _ c.wide_two.ensures.some (λ o is. subst (λ w. IsWideSummand g (w + c.args.by) o)
    (two_within g c.args.id c.node.ensures.fit _ _ _ c.in-Binary.ensures.is) is)

pub returns-in-Binary-clause-is : goal.returns-in-Binary-clause-is
returns-in-Binary-clause-is c =
    c.wide_two.ensures.is ∙ ap offset_of (within_two c.args.terms.now c.args.id c.node.ensures.fit c.args.by _ _ _ c.in-Binary.ensures.is)

pub returns-in_default : goal.returns-in_default
returns-in_default c = record {
  some = tt;
  is = within_none c.args.terms.now c.args.id c.node.ensures.fit c.args.by c.node.result c.node.ensures.is c.in_default.not-Binary;
}
