use Rattle.std.proofs.Common.{rules, ◌≡◌, arith}
use Rattle.std.specs.Prelude.{None}
use Rattle.elf_load.specs.Fits.{unfit}
use Rattle.sym_state.proofs.Opening.{fitting_few}
use Rattle.cert_complete.proofs.completing.complete.Goals as goal

pub walk_on-requires-clause-few_inputs : goal.walk_on-requires-clause-few_inputs
walk_on-requires-clause-few_inputs g c =
    let fits : unfit c.args.image c.in_ok-try_clone.field-0 ≡ None = search rules in
    rw c.new-program.ensures (omega (arith, fitting_few c.args.image c.in_ok-try_clone.field-0 fits))
