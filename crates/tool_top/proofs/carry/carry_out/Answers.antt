use Rattle.std.proofs.Common.{Err, inl, inr, refl, ap}
use Rattle.tool_io.proofs.Counts.{rose_earlier}
use Rattle.tool_io.proofs.Deeds.{then_says, IsPrefix-whole}
use Rattle.tool_top.proofs.carry.carry_out.Goals as goal

pub returns-in-Ok-clause-ok : goal.returns-in-Ok-clause-ok
returns-in-Ok-clause-ok g c =
    let put = rw c.as_slice.ensures.value at c.in_ok-put_all.ensures.ok in
    record {
      said = c.args.plan.now.text;
      begins = IsPrefix-whole _;
      whole = inl refl;
      changes = then_says _ _ _ _ _ _ put (rw c.as_slice-2.ensures at c.in-Ok.ensures.ok);
    }

pub returns-then-eq-clause-failed : goal.returns-then-eq-clause-failed
returns-then-eq-clause-failed g c = λ _.
    let put = rw c.as_slice.ensures.value at c.in_ok-put_all.ensures.ok in
    let some = (rw c.as_slice-2.ensures at c.in-Err-Failed.ensures.failed) (ap Err c.in-Err-Failed.field-0-is) in
    record {
      puts = c.args.plan.now.files.items;
      said = some.0;
      files = inl (IsPrefix-whole _);
      begins = some.1;
      in_order = inr refl;
      changes = then_says _ _ _ _ _ _ put some.2;
    }

pub returns-else-eq-clause-ok : goal.returns-else-eq-clause-ok
returns-else-eq-clause-ok g c =
    let put = rw c.as_slice.ensures.value at c.in_ok-put_all.ensures.ok in
    let some = (rw c.as_slice-2.ensures at c.in-Err-Failed.ensures.failed) (ap Err c.in-Err-Failed.field-0-is) in
    record {
      said = some.0;
      begins = some.1;
      whole = inr (
        rose_earlier _ _ _ c.in_ok-put_all.ensures.cause.later (c.in-Err-Failed.ensures.cause.failed (ap Err c.in-Err-Failed.field-0-is)),
        λ is. let differ = rw is at c.eq.ensures in cc,
      );
      changes = then_says _ _ _ _ _ _ put some.2;
    }
