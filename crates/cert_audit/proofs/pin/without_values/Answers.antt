use Rattle.std.proofs.Common.{ℕ, List, [], get_or, take, sym, subst, arith}
use Rattle.std.proofs.lemmas.Grind.{take_at_read}
use Rattle.run_leaves.specs.Values.{IsWithout}
use Rattle.run_leaves.proofs.Without.{without_none}
use Rattle.sym_state.specs.Symbolic.{Symbolic}
use Rattle.sym_state.proofs.Growing.{IsUnknown-grown}
use Rattle.cert_audit.proofs.Leaving.{without_next}
use Rattle.cert_audit.proofs.pin.without_values.Goals as goal

pub loop-value-init : goal.loop-value-init
loop-value-init c = record {
  without = subst (λ (r : Symbolic). IsWithout c.args.run.now c.args.term [] r) (sym c.in_ok-rest.ensures.same) (without_none c.args.run.now c.args.term);
  asserted = λ some. absurd (omega (arith, some));
  last = λ some. absurd (omega (arith, some));
}

pub leave_out-requires : goal.leave_out-requires
leave_out-requires c =
    IsUnknown-grown c.args.run.now.terms c.loop-value.rest.terms 32 c.args.term c.loop-value.invariant.without.continues (omega arith) c.requires

pub loop-value-preserved : goal.loop-value-preserved
loop-value-preserved c =
    let values = c.args.values.now in
    let at = c.loop-value.value-index in record {
      without = subst (λ (vs : List ℕ). IsWithout c.args.run.now c.args.term vs c.leave_out.new.run)
          (sym (take_at_read values at 0 c.loop-value-test.true).1)
          (without_next c.args.run.now c.loop-value.rest c.leave_out.new.run c.args.term (take at values) (get_or values at 0) c.requires.width
          c.loop-value.invariant.without c.in_ok-last.ensures.without);
      asserted = λ some. c.in_ok-last.ensures.asserted;
      last = λ some. c.in_ok-last.ensures.last;
    }
