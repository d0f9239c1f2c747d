use Rattle.std.proofs.Common.{◌≡◌, ◌∙◌, ◌-◌, ap, arith, refl, sym}
use Rattle.bv_dag.specs.Graphs.{Graph, val, width_of}
use Rattle.bv_dag.specs.Nodes.{binary}
use Rattle.bv_dag.proofs.TermLaws.{there}
use Rattle.term_trees.specs.Trees.{Constant, tree_of}
use Rattle.term_trees.proofs.TreeLaws.{width-tree_of}
use Rattle.term_simplify.specs.Plain.{joined_of, plain_binary}
use Rattle.term_simplify.specs.Zeros.{bits_from, word_above, word_from}
use Rattle.term_simplify.proofs.Stepping.{Stands-grown, Stands-kept, Stands-worth, at_tree, at_width, concat_step, if_ok, one_step, two_step}
use Rattle.term_simplify.proofs.builder.Builder.binary_above.Goals as goal

pub width_of-requires : goal.width_of-requires
width_of-requires c = rw c.known.ensures (there c.args.self.now c.args.a (width_of c.args.self.now c.args.a) refl (omega (arith, c.requires.leaves.fewer)))

pub bits_from-requires-2-clause-within : goal.bits_from-requires-2-clause-within
bits_from-requires-2-clause-within c =
    let g = c.args.self.now in
    let wide : c.width_of.result ≡ width_of g c.args.a = c.width_of.ensures.value ∙ ap (λ (h : Graph). width_of h c.args.a) c.known.ensures in
    let second = Stands-grown c.args.b (width_of g c.args.a) c.bits_from.ensures.continues (sym c.requires.second) (omega (arith, c.requires.leaves.fewer)) in
    omega (arith, second.width, wide, c.requires.leaves.second, c.requires.leaves.fewer)

pub bits_from-requires-2-clause-at_most_64 : goal.bits_from-requires-2-clause-at_most_64
bits_from-requires-2-clause-at_most_64 c =
    let g = c.args.self.now in
    let second = Stands-grown c.args.b (width_of g c.args.a) c.bits_from.ensures.continues (sym c.requires.second) (omega (arith, c.requires.leaves.fewer)) in
    omega (arith, second.width, c.requires.at_most_64)

pub plain_step-requires : goal.plain_step-requires
plain_step-requires c =
    let g = c.args.self.now in
    let wide : c.width_of.result ≡ width_of g c.args.a = c.width_of.ensures.value ∙ ap (λ (h : Graph). width_of h c.args.a) c.known.ensures in
    let left = Stands-kept c.bits_from-2.ensures.continues c.in_ok-left.ensures.ok in
    (omega (arith, left.width, wide, c.requires.leaves.fewer), left.width ∙ sym c.in_ok-right.ensures.ok.width)

pub plain_step-requires-3 : goal.plain_step-requires-3
plain_step-requires-3 c =
    let g = c.args.self.now in
    let wide : c.width_of.result ≡ width_of g c.args.a = c.width_of.ensures.value ∙ ap (λ (h : Graph). width_of h c.args.a) c.known.ensures in
    let left = Stands-kept c.bits_from-2.ensures.continues c.in_ok-left.ensures.ok in
    let upper = Stands-kept c.plain_step-2.ensures.continues (at_width left.width c.in_ok-upper.ensures.ok) in
    let zeros = c.in_ok-zeros.ensures.ok in (
      omega (arith, upper.width, wide, c.requires.leaves.fewer),
      omega (arith, zeros.width, c.requires.leaves.some),
      omega (arith, upper.width, zeros.width, wide, c.requires.at_most_64, c.requires.leaves.fewer),
    )

pub returns-clause-ok : goal.returns-clause-ok
returns-clause-ok c =
    let g = c.args.self.now in
    let op = c.args.op in
    let z = c.args.z in
    let s = tree_of g c.args.a in
    let t = tree_of g c.args.b in
    let w = width_of g c.args.a in
    let wide : c.width_of.result ≡ w = c.width_of.ensures.value ∙ ap (λ (h : Graph). width_of h c.args.a) c.known.ensures in
    let bits = c.width_of.result - z.result in
    let second = Stands-grown c.args.b w c.bits_from.ensures.continues (sym c.requires.second) (omega (arith, c.requires.leaves.fewer)) in
    let left = Stands-kept c.bits_from-2.ensures.continues c.in_ok-left.ensures.ok in
    let right = one_step (bits_from z.second bits) (word_from z.second bits) second c.in_ok-right.ensures.ok in
    let upper = Stands-kept c.plain_step-2.ensures.continues (at_width left.width (two_step (plain_binary op) (binary op) left right c.in_ok-upper.ensures.ok)) in
    if_ok _ _ _ c.plain_step-3.ensures.ok (λ id n. at_width (omega (arith, wide, c.requires.leaves.fewer))
    (at_tree (ap (λ k. joined_of (plain_binary op (bits_from z.first (k - z.result) s) (bits_from z.second (k - z.result) t)) (Constant z.result 0))
    (wide ∙ sym (width-tree_of g c.args.a)))
    (Stands-worth (λ input bytes. ap (λ k. word_above (k - z.result) z op (val g c.args.a input) (val g c.args.b input)) wide)
    (concat_step upper c.in_ok-zeros.ensures.ok n))))
