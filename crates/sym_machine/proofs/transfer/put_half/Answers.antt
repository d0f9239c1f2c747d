use Rattle.std.proofs.Common.{ap}
use Rattle.sym_state.specs.Expressions.{register_byte, value_expression}
use Rattle.sym_state.specs.Unfolded.{unfolded}
use Rattle.sym_state.proofs.Expressing.{expression-grown}
use Rattle.sym_machine.proofs.Putting.{puts_half, puts_wide}
use Rattle.sym_machine.proofs.Unfolds.{put_two}
use Rattle.sym_machine.proofs.transfer.put_half.Goals as goal

pub put_byte-requires-2-clause-wide : goal.put_byte-requires-2-clause-wide
put_byte-requires-2-clause-wide c =
    puts_wide c.args.state.now c.put_byte.new.state c.args.address _ c.args.value
    c.in_ok-put_byte.ensures.puts c.requires.wide

pub returns-clause-puts : goal.returns-clause-puts
returns-clause-puts c =
    puts_half c.args.state.now c.put_byte.new.state c.put_byte-2.new.state c.args.address
    c.args.value c.put_byte-2.result
    c.requires.wide c.in_ok-put_byte.ensures.puts c.put_byte-2.ensures.puts

pub returns-clause-terms : goal.returns-clause-terms
returns-clause-terms c =
    let v = value_expression c.args.state.now.terms c.args.value in
    put_two (unfolded c.args.state.now) (unfolded c.put_byte.new.state) (unfolded c.put_byte-2.new.state) c.args.address (register_byte 0 v) (register_byte 1 v)
    (register_byte 1 (value_expression c.put_byte.new.state.terms c.args.value)) c.put_byte-2.result
    c.in_ok-put_byte.ensures.terms c.put_byte-2.ensures.terms
    (ap (register_byte 1) (expression-grown _ _ c.args.value c.in_ok-put_byte.ensures.puts.continues c.requires.wide))
