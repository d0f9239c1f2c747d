use Rattle.std.proofs.Common.{◌≡◌, ◌<◌, ◌+◌, ◌/◌, ℕ, List, Some, length, set, ap, sym, subst, ◌∙◌, arith}
use Rattle.std.proofs.lemmas.List.{length-map, map-append}
use Rattle.tree_core.specs.Orders.{Candidate}
use Rattle.free_nodes.specs.declared.sum.FreeSum.{FreeSum}
use Rattle.free_nodes.specs.Sums.{sum_of}
use Rattle.free_nodes.specs.Entries.{AreSameFrom}
use Rattle.free_nodes.specs.Listings.{candidate_of, candidates_of, Listed}
use Rattle.free_nodes.proofs.Leaves.{IsOver-push, written_back}
use Rattle.free_nodes.proofs.nodes.FreeNodes.push.Goals as goal

pub invariant_of-self : goal.invariant_of-self
invariant_of-self c =
    let i = c.self.inside in
    let nodes : List Candidate = candidates_of i.nodes.items in
    let node : Candidate = record { depth = c.args.depth; is_free = c.args.is_free } in
    let new = c.put_leaf.new.entries in
    let room : length nodes < i.capacity = subst (λ (k : Listed). length k.nodes < k.capacity) (sym c.self.view_is) c.requires.room in
    let len : c.len.result ≡ length nodes = c.len.ensures ∙ (i.nodes.ok.0 ∙ sym (length-map i.nodes.items candidate_of)) in
    let long : length new ≡ length i.entries.items = c.put_leaf.auto.entries ∙ ap length c.deref_mut.ensures.value in
    let same : AreSameFrom (length i.entries.items / 2) (set i.entries.items (i.capacity + length nodes) (sum_of (Some node))) new =
    subst (λ (es : List FreeSum). AreSameFrom (length es / 2) (set es (i.capacity + length nodes) (sum_of (Some node))) new) c.deref_mut.ensures.value
    (subst (λ (n : ℕ). AreSameFrom (length c.deref_mut.result.now / 2) (set c.deref_mut.result.now (i.capacity + n) (sum_of (Some node))) new) len c.put_leaf.ensures.same) in (
      omega (arith, c.push_reserved.ensures.capacity, c.self.invariant.0),
      rw (written_back new i.entries.items i.entries.len i.entries.ok.0 long, c.push_reserved.ensures.items, map-append candidate_of i.nodes.items)
          (IsOver-push nodes node i.capacity i.entries.items new c.self.invariant.1 room long c.put_leaf.ensures.joined same),
    )
