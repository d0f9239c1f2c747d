use Rattle.std.proofs.Common.{◌≡◌, ◌∙◌, ◌<◌, ap, arith, length, refl, subst, sym}
use Rattle.bv_dag.specs.BitVectors.{BitVector}
use Rattle.bv_dag.specs.Graphs.{Graph, val, width_of}
use Rattle.bv_dag.specs.Nodes.{binary}
use Rattle.bv_dag.proofs.TermLaws.{there}
use Rattle.term_trees.specs.Trees.{tree_of}
use Rattle.term_simplify.specs.Narrowing.{IsFewer}
use Rattle.term_simplify.specs.Times.{own_binary}
use Rattle.term_simplify.proofs.NarrowSteps.{low_step, or_ones_step, result_by_zero, result_widened, second_fewer, second_grown, some_by_low, widened_step}
use Rattle.term_simplify.proofs.NarrowTerms.{binary_fewer, binary_here, by_zero_here}
use Rattle.term_simplify.proofs.Stepping.{Stands-kept, Stands-worth, at_tree, at_width, if_ok, two_step}
use Rattle.term_simplify.proofs.builder.Builder.narrow_binary.Goals as goal

pub width_of-width-requires : goal.width_of-width-requires
width_of-width-requires c =
    let g = c.args.self.now in
    let fewer = binary_fewer g c.args.n c.args.op c.args.a c.args.b c.requires.term c.requires.is in
    subst (λ (g : Graph). c.args.a < length g.nodes) (sym c.known.ensures) (there g c.args.a _ refl (omega (arith, fewer.fewer)))

pub low-requires : goal.low-requires
low-requires c =
    binary_fewer c.args.self.now c.args.n c.args.op c.args.a c.args.b c.requires.term c.requires.is

pub low-requires-2 : goal.low-requires-2
low-requires-2 c =
    let g = c.args.self.now in
    let fewer = binary_fewer g c.args.n c.args.op c.args.a c.args.b c.requires.term c.requires.is in
    second_fewer c.args.a c.args.b c.args.n c.low.ensures.continues fewer c.requires.fits.1

pub own_step-requires : goal.own_step-requires
own_step-requires c =
    let g = c.args.self.now in
    let fewer = binary_fewer g c.args.n c.args.op c.args.a c.args.b c.requires.term c.requires.is in
    let left = Stands-kept c.low-2.ensures.continues c.in_ok-left.ensures.ok in
    (omega (arith, left.width, fewer.some), left.width ∙ sym c.in_ok-right.ensures.ok.width)

pub widened_to-requires-clause-low : goal.widened_to-requires-clause-low
widened_to-requires-clause-low c = c.in_ok-low.ensures.ok.width ∙ (Stands-kept c.low-2.ensures.continues c.in_ok-left.ensures.ok).width

pub widened_to-requires-clause-fewer : goal.widened_to-requires-clause-fewer
widened_to-requires-clause-fewer c =
    let g = c.args.self.now in
    let fewer = binary_fewer g c.args.n c.args.op c.args.a c.args.b c.requires.term c.requires.is in
    let wide : c.width_of-width.result ≡ width_of g c.args.a = c.width_of-width.ensures.value ∙ ap (λ (k : Graph). width_of k c.args.a) c.known.ensures in
    subst (IsFewer c.args.n) (sym wide) fewer

pub or_ones_at-requires-clause-divisor : goal.or_ones_at-requires-clause-divisor
or_ones_at-requires-clause-divisor c =
    (Stands-kept c.widened_to.ensures.continues (Stands-kept c.own_step.ensures.continues c.in_ok-right.ensures.ok)).width

pub or_ones_at-requires-clause-fewer : goal.or_ones_at-requires-clause-fewer
or_ones_at-requires-clause-fewer c =
    let g = c.args.self.now in
    let fewer = binary_fewer g c.args.n c.args.op c.args.a c.args.b c.requires.term c.requires.is in
    let wide : c.width_of-width.result ≡ width_of g c.args.a = c.width_of-width.ensures.value ∙ ap (λ (k : Graph). width_of k c.args.a) c.known.ensures in
    subst (IsFewer c.args.n) (sym wide) fewer

pub returns-then-may_divide_by_zero-clause-ok : goal.returns-then-may_divide_by_zero-clause-ok
returns-then-may_divide_by_zero-clause-ok c =
    let g = c.args.self.now in
    let n = c.args.n in
    let op = c.args.op in
    let s = tree_of g c.args.a in
    let t = tree_of g c.args.b in
    let fewer = binary_fewer g n op c.args.a c.args.b c.requires.term c.requires.is in
    let wide : c.width_of-width.result ≡ width_of g c.args.a = c.width_of-width.ensures.value ∙ ap (λ (k : Graph). width_of k c.args.a) c.known.ensures in
    let left = Stands-kept c.low-2.ensures.continues c.in_ok-left.ensures.ok in
    let right = low_step n (second_grown c.args.a c.args.b n c.low.ensures.continues fewer c.requires.fits.1) c.in_ok-right.ensures.ok in
    let low = at_width left.width (two_step (own_binary op) (binary op) left right c.in_ok-low.ensures.ok) in
    let result = widened_step g c.args.a c.width_of-width.result n wide low c.in_ok-result.ensures.ok in
    let divisor = Stands-kept c.widened_to.ensures.continues (Stands-kept c.own_step.ensures.continues right) in
    let there = ap (λ (k : Graph). tree_of k c.in_ok-right.right) c.known-2.ensures ∙ divisor.tree in
    if_ok _ _ _ c.or_ones_at.ensures.ok (λ id last.
    at_tree (result_by_zero op s t _ n c.requires.is there c.may_divide_by_zero.ensures.is c.if-may_divide_by_zero.true)
    (Stands-worth (λ input bytes. by_zero_here g n input bytes op c.args.a c.args.b (c.may_divide_by_zero.ensures.quotient c.if-may_divide_by_zero.true) c.requires.term c.requires.is)
    (or_ones_step g c.args.a c.width_of-width.result n wide divisor result last)))

pub returns-else-may_divide_by_zero-clause-ok : goal.returns-else-may_divide_by_zero-clause-ok
returns-else-may_divide_by_zero-clause-ok c =
    let g = c.args.self.now in
    let n = c.args.n in
    let op = c.args.op in
    let s = tree_of g c.args.a in
    let t = tree_of g c.args.b in
    let fewer = binary_fewer g n op c.args.a c.args.b c.requires.term c.requires.is in
    let wide : c.width_of-width.result ≡ width_of g c.args.a = c.width_of-width.ensures.value ∙ ap (λ (k : Graph). width_of k c.args.a) c.known.ensures in
    let left = Stands-kept c.low-2.ensures.continues c.in_ok-left.ensures.ok in
    let right = low_step n (second_grown c.args.a c.args.b n c.low.ensures.continues fewer c.requires.fits.1) c.in_ok-right.ensures.ok in
    let low = at_width left.width (two_step (own_binary op) (binary op) left right c.in_ok-low.ensures.ok) in
    let result = widened_step g c.args.a c.width_of-width.result n wide low c.in_ok-result.ensures.ok in
    let divisor = Stands-kept c.widened_to.ensures.continues (Stands-kept c.own_step.ensures.continues right) in
    let there = ap (λ (k : Graph). tree_of k c.in_ok-right.right) c.known-2.ensures ∙ divisor.tree in
    at_tree (result_widened op s t _ n c.requires.is there c.may_divide_by_zero.ensures.is c.if-may_divide_by_zero.false)
    (Stands-worth (λ input bytes. (binary_here g n input bytes op c.args.a c.args.b c.requires.term c.requires.is).1
    (λ quotient. some_by_low n (val g c.args.b input) fewer.some
    (subst (λ (v : BitVector). 0 < v.number) (ap (λ (k : Graph). val k c.in_ok-right.right input) c.known-2.ensures ∙ divisor.value input bytes)
    (c.may_divide_by_zero.ensures.divides c.if-may_divide_by_zero.false quotient input bytes)))) result)
