use Rattle.std.proofs.Common.{◌≡◌, ◌∙◌, ◌<◌, Some, None, ap, arith, length, subst, sym}
use Rattle.std.specs.Prelude.{option_map}
use Rattle.bv_dag.specs.BitVectors.{BitVector}
use Rattle.bv_dag.specs.Graphs.{Graph, val, width_of}
use Rattle.bv_dag.proofs.TermLaws.{there}
use Rattle.term_trees.specs.Trees.{tree_of}
use Rattle.term_simplify.specs.Plans.{under_signs}
use Rattle.term_simplify.specs.Steps.{signed_word}
use Rattle.term_simplify.proofs.Magnitudes.{as_narrow, under_none}
use Rattle.term_simplify.proofs.Reading.{has_bits}
use Rattle.term_simplify.proofs.Stepping.{Stands-worth, at_tree, if_ok}
use Rattle.term_simplify.proofs.builder.Builder.magnitude.Goals as goal

pub under_signs-requires : goal.under_signs-requires
under_signs-requires c =
    subst (λ (g : Graph). c.args.a < length g.nodes) (sym c.known.ensures) (there c.args.self.now c.args.a 32 c.requires.whole (omega arith))

pub narrow_magnitude-requires-clause-not_empty : goal.narrow_magnitude-requires-clause-not_empty
narrow_magnitude-requires-clause-not_empty c =
    subst (λ (g : Graph). 0 < width_of g c.in-Some.narrow) c.known.ensures
    (has_bits c.known.result.now c.in-Some.narrow c.under_signs.ensures.fit c.in-Some.ensures.there).0

pub narrow_magnitude-requires-clause-below_32 : goal.narrow_magnitude-requires-clause-below_32
narrow_magnitude-requires-clause-below_32 c =
    omega (arith, c.requires.whole, subst (λ (g : Graph). width_of g c.in-Some.narrow < width_of g c.args.a) c.known.ensures c.in-Some.ensures.narrower)

pub returns-in-Some-clause-ok : goal.returns-in-Some-clause-ok
returns-in-Some-clause-ok c =
    let g = c.args.self.now in
    let under : Some (tree_of g c.in-Some.narrow) ≡ under_signs (tree_of g c.args.a) =
    subst (λ (h : Graph). Some (tree_of h c.in-Some.narrow) ≡ under_signs (tree_of h c.args.a)) c.known.ensures
    (sym (ap (option_map (tree_of c.known.result.now)) c.in-Some.is) ∙ c.under_signs.ensures.tree) in
    let fewer : width_of g c.in-Some.narrow < 32 =
    omega (arith, c.requires.whole, subst (λ (h : Graph). width_of h c.in-Some.narrow < width_of h c.args.a) c.known.ensures c.in-Some.ensures.narrower) in
    if_ok _ _ _ c.narrow_magnitude.ensures.ok (λ id made. as_narrow g c.narrow_magnitude.new.self c.args.negative c.args.a c.in-Some.narrow id
    under c.requires.whole fewer c.narrow_magnitude.ensures.term c.requires.sign made)

pub returns-in-None-clause-ok : goal.returns-in-None-clause-ok
returns-in-None-clause-ok c =
    let g = c.args.self.now in
    let none : None ≡ under_signs (tree_of g c.args.a) =
    subst (λ (h : Graph). None ≡ under_signs (tree_of h c.args.a)) c.known.ensures
    (sym (ap (option_map (tree_of c.known.result.now)) c.in-None.is) ∙ c.under_signs.ensures.tree) in
    if_ok _ _ _ c.with_sign.ensures.ok (λ id made. at_tree (under_none (tree_of g c.args.a) _ _ c.requires.sign.tree none)
    (Stands-worth (λ input bytes. ap (λ (b : BitVector). signed_word b (val g c.args.a input)) (c.requires.sign.value input bytes)) made))
