use Rattle.tool_io.specs.Told.{reads}
use Rattle.tool_io.proofs.Deeds.{after_two, gives_after_reads}
use Rattle.tool_top.proofs.TwoNames.{first_failed, on_err, second_failed}
use Rattle.tool_top.proofs.reading.read_both.Goals as goal

pub returns-in_err-bytes-clause-err : goal.returns-in_err-bytes-clause-err
returns-in_err-bytes-clause-err g c =
    on_err c.from_residual.result (first_failed c.args.program.now c.args.other.now _ _ c.in_err-bytes.field-0.0 c.in_err-bytes.ensures.failed c.in_err-bytes.ensures.no_memory)

pub returns-in_err-text-clause-err : goal.returns-in_err-text-clause-err
returns-in_err-text-clause-err g c =
    on_err c.from_residual-in_err-text.result
    (second_failed c.args.program.now c.args.other.now _ (g.F.Files.seen c.read.new.self) _ c.in_err-text.field-0.0 c.in_ok-bytes.ensures.ok c.in_err-text.ensures.failed c.in_err-text.ensures.no_memory)

pub returns-clause-told : goal.returns-clause-told
returns-clause-told g c = after_two _ (g.F.Files.seen c.read.new.self).told _ (reads c.args.program.now) (reads c.args.other.now) c.in_ok-bytes.ensures.ok c.in_ok-text.ensures.ok

pub returns-clause-other : goal.returns-clause-other
returns-clause-other g c = gives_after_reads _ (g.F.Files.seen c.read.new.self).told c.args.program.now c.args.other.now c.in_ok-text.text c.args.most c.in_ok-bytes.ensures.ok c.in_ok-text.ensures.bytes
