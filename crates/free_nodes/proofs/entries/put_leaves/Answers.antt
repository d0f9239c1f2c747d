use Rattle.std.proofs.Common.{◌≡◌, ◌<◌, ◌≤◌, ◌+◌, ◌*◌, ◌/◌, false, Some, length, set, get_or, arith}
use Rattle.std.proofs.lemmas.List.{length-set}
use Rattle.free_nodes.specs.declared.claimable.Claimable.{Claimable}
use Rattle.free_nodes.specs.Sums.{sum_of}
use Rattle.free_nodes.specs.Listings.{candidate_of}
use Rattle.free_nodes.proofs.Leaves.{HasLeaves-more, IsJoined-leaf, IsJoined-leaves}
use Rattle.free_nodes.proofs.entries.put_leaves.Goals as goal

pub loop-i-preserved : goal.loop-i-preserved
loop-i-preserved c =
    let d : Claimable = record { depth = 0; is_free = false } in
    let leaf = length c.args.entries.now / 2 + c.loop-i.i in
    let same : length c.loop-i.entries ≡ length c.args.entries.now = c.loop-i.auto.entries in
    let there : leaf < length c.loop-i.entries = omega (arith, same, c.loop-i-test.true, c.requires.within, c.requires.even) in
    let at_leaf : length c.loop-i.entries ≤ leaf * 2 = omega (arith, same, c.requires.even) in
    let o = Some (candidate_of (get_or c.args.nodes.now c.loop-i.i d)) in
    rw (c.of.ensures)
    record {
      joined =
          IsJoined-leaves (set c.loop-i.entries leaf (sum_of o)) (length c.args.entries.now / 2) (leaf / 2)
          (IsJoined-leaf c.loop-i.entries (length c.args.entries.now / 2) leaf o c.loop-i.invariant.joined there at_leaf)
          (omega (arith, same, length-set c.loop-i.entries leaf (sum_of o)));
      leaves = HasLeaves-more c.args.nodes.now c.loop-i.entries (length c.args.entries.now / 2) c.loop-i.i d c.loop-i.invariant.leaves c.loop-i-test.true there;
    }
