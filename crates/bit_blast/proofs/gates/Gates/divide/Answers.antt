use Rattle.std.proofs.Common.{◌-◌, arith, length}
use Rattle.bit_blast.proofs.Multiplying.{division_more, division_start}
use Rattle.bit_blast.proofs.gates.Gates.divide.Goals as goal

pub loop-i-init : goal.loop-i-init
loop-i-init c =
    rw (c.in_ok-quotient.ensures.items, c.in_ok-push.ensures.items, c.in_ok-rest.ensures, c.constant.ensures, c.constant-2.ensures)
    (division_start c.args.a.now c.in_ok-divisor.divisor.items _ (length c.args.a.now) (omega arith))

pub loop-i-preserved : goal.loop-i-preserved
loop-i-preserved c =
    rw c.in_ok-push-2.ensures.items
    (division_more c.args.a.now c.in_ok-divisor.divisor.items c.loop-i.quotient.items c.loop-i.rest.items c.in_ok-bit.left.items _ (c.loop-i.i - 1) c.loop-i.i _ _ _ _
    (omega arith) (omega arith) c.index-a-i.is (rw (c.deref.ensures.value, c.deref-in-loop-i.ensures.value) at c.in_ok-bit.ensures) c.loop-i.invariant)
