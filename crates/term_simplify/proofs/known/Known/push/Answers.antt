use Rattle.std.proofs.Common.{◌∙◌, ◌∷◌, ◌++◌, [], ap, subst, sym, take}
use Rattle.bv_dag.specs.Graphs.{Graph}
use Rattle.bv_dag.specs.Nodes.{Fits, widths_of}
use Rattle.term_trees.specs.Trees.{node_tree, tree_of}
use Rattle.term_simplify.specs.Kept.{bounds_of}
use Rattle.term_simplify.specs.declared.known.Bounds.{Bounds}
use Rattle.term_simplify.proofs.Keeping.{bounds_same, kept_again, kept_more}
use Rattle.term_simplify.proofs.known.Known.push.Goals as goal

pub invariant_of-self-in-Ok : goal.invariant_of-self-in-Ok
invariant_of-self-in-Ok c =
    let g = c.self.inside.terms in
    let fits = subst (λ (h : Graph). Fits h.inputs (widths_of h.nodes) c.args.node) (sym c.self.view_is) c.requires in
    let told = bounds_same (node_tree (tree_of c.args.self.now) c.args.node) c.node_ends-ends.result c.number.result c.number-2.result c.node_ends-ends.ensures
    c.number.ensures.value c.number-2.ensures.value
    ∙ ap (λ (h : Graph). bounds_of (node_tree (tree_of h) c.args.node)) (sym c.self.view_is) in
    rw (c.in-Ok.ensures.ok, c.in_ok-push.ensures.ok)
    (kept_more g c.self.inside.ends c.args.node _ c.self.invariant fits told)

pub invariant_of-self-in-Err : goal.invariant_of-self-in-Err
invariant_of-self-in-Err c =
    let g = c.self.inside.terms in
    let new : Bounds = record { least = c.number.result; greatest = c.number-2.result } in
    let back = c.truncate.ensures ∙ ap (take c.len-len.result) c.in_ok-push.ensures.ok
    ∙ ap (λ n. take n (c.self.inside.ends ++ new ∷ [])) c.len-len.ensures
    ∙ kept_again g c.self.inside.ends new c.self.invariant in
    rw (c.in-Err.ensures.err, back) c.self.invariant
