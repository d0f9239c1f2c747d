use Rattle.std.proofs.lemmas.Result.{IfOk-weaker}
use Rattle.test_files.proofs.Bounded.{read_bounded}
use Rattle.test_files.proofs.Upgrades.{kept, reads_alike}
use Rattle.test_files.proofs.upgrading.upgrade_test.Goals as goal

pub write_upgraded-requires : goal.write_upgraded-requires
write_upgraded-requires c = (read_bounded c.args.text.now c.in_ok-test.test c.in_ok-test.ensures.read).legible.input_long

pub returns-clause-reads_alike : goal.returns-clause-reads_alike
returns-clause-reads_alike c =
    IfOk-weaker c.write_upgraded.result _ _ (λ new written. reads_alike c.args.text.now c.in_ok-test.test new c.in_ok-test.ensures.read written) c.write_upgraded.ensures.written

pub returns-clause-keeps_written : goal.returns-clause-keeps_written
returns-clause-keeps_written c = λ test writable same.
    IfOk-weaker c.write_upgraded.result _ _ (λ new written. kept c.args.text.now test c.in_ok-test.test new writable same c.in_ok-test.ensures.read written) c.write_upgraded.ensures.written
