use Rattle.cert_audit.proofs.Parting.{all_kids}
use Rattle.cert_audit.proofs.Went.{values_passed}
use Rattle.cert_audit.proofs.pin.part_by_all.Goals as goal

pub returns-in-Ok-clause-put : goal.returns-in-Ok-clause-put
returns-in-Ok-clause-put c =
    let s = c.args.run.now in
    let vs = c.args.values.now in
    let rest = c.in_ok-rest.rest in
    let shown = rw c.in-Ok.is at c.in_ok-rest-2.ensures.taken in record {
      are_kids = all_kids s c.args.pin.now.term vs c.in_ok-kids.kids.items rest c.in_ok-rest.ensures.formed c.requires.increasing c.in_ok-kids.ensures
          c.in_ok-rest.ensures.without shown.none;
      passed = values_passed s rest vs c.args.lines.now c.in-Ok.rest.now c.requires.some shown;
    }

pub returns-clause-cause : goal.returns-clause-cause
returns-clause-cause c =
    let last = c.in_ok-rest.ensures.last c.requires.some in
    record {
      rest = c.in_ok-rest.rest;
      without = c.in_ok-rest.ensures.without;
      refused = rw c.in-Err.is at (c.in_ok-rest-2.ensures.cause last);
    }
