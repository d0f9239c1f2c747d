use Rattle.std.proofs.Common.{◌≡◌, ◌<◌, ◌+◌, ◌/◌, List, Some, length, set, ap, sym, subst, ◌∙◌, arith}
use Rattle.std.specs.List.{slice_get}
use Rattle.std.proofs.lemmas.List.{length-map, map-set}
use Rattle.tree_core.specs.Orders.{Candidate}
use Rattle.free_nodes.specs.declared.sum.FreeSum.{FreeSum}
use Rattle.free_nodes.specs.Sums.{sum_of}
use Rattle.free_nodes.specs.Entries.{AreSameFrom}
use Rattle.free_nodes.specs.Listings.{candidate_of, candidates_of, Listed}
use Rattle.free_nodes.proofs.Leaves.{IsOver-set, depth_read, written_back}
use Rattle.free_nodes.proofs.nodes.FreeNodes.set_free.Goals as goal

pub invariant_of-self : goal.invariant_of-self
invariant_of-self c =
    let i = c.self.inside in
    let nodes : List Candidate = candidates_of i.nodes.items in
    let node : Candidate = record { depth = c.index.result.now.depth; is_free = c.args.is_free } in
    let new = c.put_leaf.new.entries in
    let there : c.args.node < length nodes = subst (λ (k : Listed). c.args.node < length k.nodes) (sym c.self.view_is) c.requires.there in
    let long : length new ≡ length i.entries.items = c.put_leaf.auto.entries ∙ ap length c.deref_mut.ensures.value in
    let same : AreSameFrom (length i.entries.items / 2) (set i.entries.items (i.capacity + c.args.node) (sum_of (Some node))) new =
    subst (λ (es : List FreeSum). AreSameFrom (length es / 2) (set es (i.capacity + c.args.node) (sum_of (Some node))) new) c.deref_mut.ensures.value
    c.put_leaf.ensures.same in (
      c.self.invariant.0,
      rw (written_back new i.entries.items i.entries.len i.entries.ok.0 long, map-set candidate_of i.nodes.items c.args.node)
          (IsOver-set nodes node i.capacity c.args.node i.entries.items new c.self.invariant.1 there long c.put_leaf.ensures.joined same),
    )

pub returns-clause-nodes : goal.returns-clause-nodes
returns-clause-nodes c =
    let all = c.self.inside.nodes.items in
    λ (old : Candidate) found.
    let there : c.args.node < length (candidates_of all) = subst (λ (k : Listed). c.args.node < length k.nodes) (sym c.self.view_is) c.requires.there in
    let seen : slice_get (candidates_of all) c.args.node ≡ Some old = subst (λ (k : Listed). slice_get k.nodes c.args.node ≡ Some old) (sym c.self.view_is) found in
    let deep : c.index.result.now.depth ≡ old.depth = depth_read all c.args.node c.index.result.now old (omega (arith, there, length-map all candidate_of)) c.index.ensures seen in
    rw (← c.self.view_is)
    (map-set candidate_of all c.args.node (record { depth = c.index.result.now.depth; is_free = c.args.is_free })
    ∙ ap (λ d. set (candidates_of all) c.args.node (record { depth = d; is_free = c.args.is_free })) deep)
