use Rattle.std.proofs.Common.{◌∷◌, [], subst}
use Rattle.run_leaves.specs.Values.{IsWithout}
use Rattle.run_sides.proofs.Pinning.{pin_settled}
use Rattle.sym_state.specs.Symbolic.{Symbolic}
use Rattle.cert_audit.proofs.Parting.{one_only}
use Rattle.cert_audit.proofs.pin.one_value.Goals as goal

pub go_on-requires : goal.go_on-requires
go_on-requires c =
    let s = c.args.run.now in
    let term = c.args.pin.now.term in
    let shown = rw c.in-Ok.is at c.in_ok-rest.ensures.taken in
    pin_settled s c.args.pin.now.place term c.args.value c.requires
    (one_only s term c.args.value c.leave_out.new.run c.in_ok-other.ensures.formed
    (subst (λ (r : Symbolic). IsWithout r term (c.args.value ∷ []) c.leave_out.new.run) c.in_ok-other.ensures.same c.in_ok-new.ensures.without) shown.none)

pub returns-clause-cause : goal.returns-clause-cause
returns-clause-cause c =
    let without = subst (λ (r : Symbolic). IsWithout r c.args.pin.now.term (c.args.value ∷ []) c.leave_out.new.run) c.in_ok-other.ensures.same c.in_ok-new.ensures.without in
    record {
      rest = c.leave_out.new.run;
      without = without;
      refused = rw c.in-Err.is at (c.in_ok-rest.ensures.cause c.in_ok-new.ensures.last);
    }
