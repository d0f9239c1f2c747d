use Rattle.std.proofs.Common.{rules, ◌≡◌, ◌∙◌, arith, length, sym}
use Rattle.std.proofs.lemmas.Bool.{false≢true}
use Rattle.cert_audit.proofs.SidesRead.{no_rest, no_values, not_increasing}
use Rattle.cert_audit.proofs.values.value_sides.Goals as goal
use Rattle.cert_audit.proofs.values.value_sides.Goals.{then-is_empty-via-then-is_empty, then-is_empty-via-else-is_empty+then-sides-lt2, then-is_empty-via-else-is_empty+else-sides-lt2+then-not-are_increasing}

pub returns-in_default-clause-cause : goal.returns-in_default-clause-cause
returns-in_default-clause-cause c =
    no_rest c.args.sides.now c.in_ok-values.others.now c.in_ok-values.values.items c.in_ok-values.ensures.split c.in_ok-values.ensures.all c.in_default.ensures

pub returns-then-is_empty-clause-cause : goal.returns-then-is_empty-clause-cause
returns-then-is_empty-clause-cause c =
    let values = c.in_ok-values.values.items in
    let others = c.in_ok-values.others.now in
    let split = c.in_ok-values.ensures.split in
    let all = c.in_ok-values.ensures.all in
    elim c.then-is_empty.branch [
      | then-is_empty-via-then-is_empty w ↦
          let none : length c.in_ok-values.values.items ≡ 0 = search rules in
          no_values c.args.sides.now others values split all none
      | then-is_empty-via-else-is_empty+then-sides-lt2 w ↦ λ ws rest are. absurd (omega (arith, are.two, w.if-sides-lt2.true))
      | then-is_empty-via-else-is_empty+else-sides-lt2+then-not-are_increasing w ↦
          not_increasing c.args.sides.now others values split all
          (λ increasing. false≢true (sym w.if-not-are_increasing.true ∙ w.are_increasing.ensures.1 (rw w.deref.ensures.value increasing)))
    ]
