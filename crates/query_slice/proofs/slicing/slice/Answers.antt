use Rattle.std.proofs.Common.{◌≡◌, ◌∙◌, ℕ, List, map, sym, ap, subst, arith}
use Rattle.std.specs.Prelude.{Contains, Err, IfOk, Ok, Result}
use Rattle.std.proofs.lemmas.List.Elements.{All-contains}
use Rattle.bv_dag.specs.Queries.{AreBits, Condition}
use Rattle.term_trees.specs.Trees.{tree_of}
use Rattle.query_pick.specs.Picks.{IsFromCone}
use Rattle.query_slice.specs.Classes.{is_reached}
use Rattle.query_slice.specs.Slices.{IsCut}
use Rattle.query_slice.proofs.Asked.{bits_there, kept_bits}
use Rattle.query_slice.proofs.Reached.{cut}
use Rattle.query_slice.proofs.slicing.slice.Goals as goal

pub links_of-requires : goal.links_of-requires
links_of-requires g c = bits_there (g.T.Table.graph c.args.terms.now) c.args.asserted.now c.requires.bits

pub reached-requires-clause-new : goal.reached-requires-clause-new
reached-requires-clause-new g c =
    All-contains (Contains c.in_ok-links.links.places.items) c.args.asserted.now c.args.new c.in_ok-links.ensures.cone.tops_in c.requires.there

pub pick-requires : goal.pick-requires
pick-requires g c =
    let graph = g.T.Table.graph c.args.terms.now in
    subst (AreBits graph) (sym c.deref.ensures.value)
    (kept_bits graph c.args.asserted.now c.in_ok-kept.kept.items (is_reached graph c.in_ok-links.links.classes c.args.new) (c.in_ok-kept.ensures graph c.in_ok-links.ensures.each) c.requires.bits)

-- three facts of an answer, together
with_three : {E : Type 0} (r : Result Condition E) (P Q R S : Condition → Type 0) → IfOk r P → IfOk r Q → IfOk r R → ((s : Condition) → P s → Q s → R s → S s) → IfOk r S
with_three (Ok s) P Q R S p q r all = all s p q r
with_three (Err e) P Q R S p q r all = tt

pub returns : goal.returns
returns g c =
    let graph = g.T.Table.graph c.args.terms.now in
    let links = c.in_ok-links.links in
    let kept = c.in_ok-kept.kept.items in
    let are = c.in_ok-kept.ensures graph c.in_ok-links.ensures.each in
    let new_there = All-contains (Contains links.places.items) c.args.asserted.now c.args.new c.in_ok-links.ensures.cone.tops_in c.requires.there in
    let fit = c.in_ok-links.ensures.fit (omega (arith, new_there.1)) in
    let q : Condition = record { graph = graph; asserted = c.args.asserted.now } in
    with_three c.pick.result
    (λ (s : Condition). s.graph.inputs ≡ graph.inputs) (λ (s : Condition). map (tree_of s.graph) s.asserted ≡ map (tree_of graph) c.deref.result.now)
    (λ (s : Condition). IsFromCone graph c.deref.result.now s.graph) (IsCut q c.args.new)
    c.pick.ensures.inputs c.pick.ensures.same_trees c.pick.ensures.only_cone
    (λ s inputs same only.
    cut q c.args.new links.classes fit c.requires.there c.in_ok-links.ensures.classes s kept are inputs
    (same ∙ ap (map (tree_of graph)) c.deref.ensures.value)
    (subst (λ (ids : List ℕ). IsFromCone graph ids s.graph) c.deref.ensures.value only))
