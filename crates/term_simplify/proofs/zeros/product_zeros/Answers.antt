use Rattle.std.proofs.Common.{◌≡◌, ◌∙◌, false, ap, sym}
use Rattle.std.specs.Prelude.{◌||◌, is_some}
use Rattle.term_trees.specs.Trees.{tree_of}
use Rattle.term_simplify.specs.Plain.{tree_number}
use Rattle.term_simplify.proofs.ZeroReading.{product_read}
use Rattle.term_simplify.proofs.zeros.product_zeros.Goals as goal

pub returns-clause-is : goal.returns-clause-is
returns-clause-is c =
    let g = c.args.terms.now in
    let first : is_some (tree_number (tree_of g c.args.a)) ≡ false = sym (c.is_some.ensures ∙ ap is_some c.number_at.ensures.number) ∙ c.if-is_some.false in
    let second : is_some (tree_number (tree_of g c.args.b)) ≡ false =
    sym (c.is_some-else-is_some.ensures ∙ ap is_some c.number_at-else-is_some.ensures.number) ∙ c.if-is_some-2.false in
    product_read g c.args.a c.args.b _ _ _ c.low_zeros-first.ensures.is c.low_zeros-second.ensures.is c.width_of.ensures.value _ _
    (ap (λ k. k || is_some (tree_number (tree_of g c.args.b))) first ∙ second) c.leaving_some.ensures
