use Rattle.std.proofs.Common.{◌∙◌, refl, arith}
use Rattle.rv_machine.specs.Pages.{byte_on}
use Rattle.rv_machine.proofs.Addresses.{bytes_none, bytes-more}
use Rattle.rv_machine.proofs.hart.append_bytes.Goals as goal

pub loop-i-init : goal.loop-i-init
loop-i-init c = record {
  same = refl;
  room = omega (arith, c.in_ok-reserve.ensures.ok);
  bytes = c.reserve.ensures.items ∙ bytes_none (byte_on c.args.memory.now) c.args.start c.args.output.now.items;
}

pub loop-i-preserved : goal.loop-i-preserved
loop-i-preserved c = record {
  same = c.read.ensures.same ∙ c.loop-i.invariant.same;
  room = omega (arith, c.push_reserved.ensures.len, c.push_reserved.ensures.capacity, c.loop-i.invariant.room);
  bytes = c.push_reserved.ensures.items
      ∙ bytes-more (byte_on c.args.memory.now) c.args.start c.loop-i.i c.read.result c.args.output.now.items c.loop-i.output.items (omega arith) c.loop-i.invariant.bytes
      (rw c.loop-i.invariant.same at c.read.ensures.value);
}
