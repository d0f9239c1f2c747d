use Rattle.std.proofs.Common.{◌<◌, ◌^◌, ◌*◌, ◌/◌, ◌+◌, length, arith}
use Rattle.free_nodes.proofs.Joining.{AreSameFrom-set, IsJoined-join, children_fit}
use Rattle.free_nodes.proofs.entries.join_above.Goals as goal

pub join_at-requires : goal.join_at-requires
join_at-requires c =
    let long : length c.loop-at.entries < 2 ^ 64 = omega (arith, c.loop-at.auto.entries, c.requires.long) in
    let there : c.loop-at.at * 2 + 1 < length c.loop-at.entries = omega (arith, c.loop-at.auto.entries, c.loop-at.invariant.above, c.requires.even) in
    record {
      there = there;
      fits = children_fit c.loop-at.entries 1 c.loop-at.at c.loop-at.at c.loop-at.invariant.joined c.loop-at-test.true there long;
    }

pub loop-at-preserved : goal.loop-at-preserved
loop-at-preserved c =
    let there : c.loop-at.at * 2 + 1 < length c.loop-at.entries = omega (arith, c.loop-at.auto.entries, c.loop-at.invariant.above, c.requires.even) in
    record {
      above = omega (arith, c.loop-at.invariant.above);
      joined = rw (c.join_at.ensures)
          (IsJoined-join c.loop-at.entries 1 c.loop-at.at c.loop-at.at 1 (c.loop-at.at / 2) c.loop-at.invariant.joined c.loop-at-test.true there
          (λ k from hole other. (from, other, hole)));
      same = rw (c.join_at.ensures)
          (AreSameFrom-set _ c.loop-at.at c.args.entries.now c.loop-at.entries _ c.loop-at.invariant.same (omega (arith, c.loop-at.invariant.above, c.requires.even)));
    }
