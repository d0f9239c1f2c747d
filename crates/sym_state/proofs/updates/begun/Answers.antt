use Rattle.std.proofs.Common.{◌≤◌, ◌+◌, sym}
use Rattle.sym_state.specs.KeptUpdates.{KeptUpdates}
use Rattle.sym_state.proofs.Noted.{found_is}
use Rattle.sym_state.proofs.updates.begun.Goals as goal

pub gone_on-requires : goal.gone_on-requires
gone_on-requires c =
    let found = rw c.in-Some.is at c.updates_at.ensures in
    record {
      short = (found_is (λ (t : KeptUpdates). t.site.stride.scale + t.site.stride.count ≤ 31) c.args.site c.in-Some.list.now c.args.updates.now
          c.requires.short (sym found)).1;
    }
