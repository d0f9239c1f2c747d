use Rattle.std.proofs.Common.{◌<◌, ◌^◌, ◌*◌, ◌+◌, ◌-◌, length, arith}
use Rattle.free_nodes.proofs.Joining.{AreSameFrom-set, IsJoined-all, IsJoined-join, children_fit}
use Rattle.free_nodes.proofs.entries.join_all.Goals as goal

pub join_at-requires : goal.join_at-requires
join_at-requires c =
    let long : length c.loop-at.entries < 2 ^ 64 = omega (arith, c.loop-at.auto.entries, c.requires.long) in
    let there : (c.loop-at.at - 1) * 2 + 1 < length c.loop-at.entries = omega (arith, c.loop-at.auto.entries, c.loop-at.invariant.above, c.loop-at-test.true) in
    record {
      there = there;
      fits = children_fit c.loop-at.entries c.loop-at.at 0 (c.loop-at.at - 1) c.loop-at.invariant.joined (omega (arith, c.loop-at-test.true)) there long;
    }

pub loop-at-preserved : goal.loop-at-preserved
loop-at-preserved c =
    let at = c.loop-at.at - 1 in
    let more : 1 < c.loop-at.at = c.loop-at-test.true in
    let there : (c.loop-at.at - 1) * 2 + 1 < length c.loop-at.entries = omega (arith, c.loop-at.auto.entries, c.loop-at.invariant.above, c.loop-at-test.true) in
    record {
      above = omega (arith, c.loop-at.invariant.above);
      joined = rw (c.join_at.ensures)
          (IsJoined-join c.loop-at.entries c.loop-at.at 0 (c.loop-at.at - 1) (c.loop-at.at - 1) 0 c.loop-at.invariant.joined (omega (arith, more)) there
          (λ k from hole other. (omega (arith, from, other), hole, λ e. absurd (omega (arith, e, from, more)))));
      same = rw (c.join_at.ensures)
          (AreSameFrom-set _ (c.loop-at.at - 1) c.args.entries.now c.loop-at.entries _ c.loop-at.invariant.same (omega (arith, c.loop-at.invariant.above, more)));
    }

pub returns : goal.returns
returns c = record {
  joined = IsJoined-all c.loop-at.entries c.loop-at.at c.loop-at.invariant.joined c.loop-at-test.false;
  same = c.loop-at.invariant.same;
}
