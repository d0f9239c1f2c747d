use Rattle.std.proofs.Common.{rules, ◌≡◌, arith}
use Rattle.std.specs.Prelude.{None}
use Rattle.elf_load.specs.Fits.{unfit}
use Rattle.sym_state.proofs.Opening.{fitting_few}
use Rattle.cert_audit.proofs.Settling.{audited_by, caused_by, not_walked}
use Rattle.cert_audit.proofs.auditing.audit.Goals as goal

pub walk-requires-clause-few_inputs : goal.walk-requires-clause-few_inputs
walk-requires-clause-few_inputs c =
    let fits : unfit c.args.image c.in_ok-try_clone.field-0 ≡ None = search rules in
    rw c.new-program.ensures (omega (arith, fitting_few c.args.image c.in_ok-try_clone.field-0 fits))

pub returns-in-Ok-clause-audited : goal.returns-in-Ok-clause-audited
returns-in-Ok-clause-audited c =
    let walked =
    rw (c.new-program.ensures, c.in_ok-try_clone.ensures, c.budgets_of.ensures, c.as_slice-lines.ensures.value, c.in-Ok.is) at c.in_ok-tally.ensures.walked in
    rw (← c.cert.view_is) (audited_by c.args.image _ c.in-Ok.tally walked c.said_of.result
    (rw c.as_slice-lines.ensures.value at c.said_of.ensures))

pub returns-in-Ok-clause-has_cause : goal.returns-in-Ok-clause-has_cause
returns-in-Ok-clause-has_cause c =
    let walked =
    rw (c.new-program.ensures, c.in_ok-try_clone.ensures, c.budgets_of.ensures, c.as_slice-lines.ensures.value, c.in-Ok.is) at c.in_ok-tally.ensures.walked in
    let fits : unfit c.args.image c.cert.inside.regions ≡ None = search rules in
    let within = c.are_within.ensures.0 c.if-not-are_within.false in
    rw (← c.cert.view_is) (caused_by c.args.image _ c.in-Ok.tally walked fits within c.said_of.result
    (rw c.as_slice-lines.ensures.value at c.said_of.ensures))

pub returns-clause-has_cause : goal.returns-clause-has_cause
returns-clause-has_cause c =
    let refused =
    rw (c.new-program.ensures, c.in_ok-try_clone.ensures, c.budgets_of.ensures, c.as_slice-lines.ensures.value, c.in-Err.is) at c.in_ok-tally.ensures.cause in
    let fits : unfit c.args.image c.cert.inside.regions ≡ None = search rules in
    let within = c.are_within.ensures.0 c.if-not-are_within.false in
    rw (← c.cert.view_is) (not_walked c.args.image _ c.in-Err.fault fits within refused c.line_at.result
    (rw c.as_slice-lines.ensures.value at c.line_at.ensures))
