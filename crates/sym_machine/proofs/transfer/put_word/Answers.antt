use Rattle.std.proofs.Common.{◌+◌}
use Rattle.sym_state.specs.Expressions.{value_expression}
use Rattle.sym_state.specs.Unfolded.{unfolded}
use Rattle.sym_state.proofs.Expressing.{expression-grown}
use Rattle.sym_state.proofs.Growing.{Continues-trans}
use Rattle.sym_machine.proofs.Putting.{puts_wide, puts_word}
use Rattle.sym_machine.proofs.Unfolds.{put_four}
use Rattle.sym_machine.proofs.transfer.put_word.Goals as goal

pub put_byte-requires-2-clause-wide : goal.put_byte-requires-2-clause-wide
put_byte-requires-2-clause-wide c =
    puts_wide c.args.state.now c.put_byte.new.state c.args.address _ c.args.value
    c.in_ok-put_byte.ensures.puts c.requires.wide

pub put_byte-requires-3-clause-wide : goal.put_byte-requires-3-clause-wide
put_byte-requires-3-clause-wide c =
    puts_wide c.put_byte.new.state c.put_byte-2.new.state (c.args.address + 1) _ c.args.value
    c.in_ok-put_byte-2.ensures.puts
    (puts_wide c.args.state.now c.put_byte.new.state c.args.address _ c.args.value
    c.in_ok-put_byte.ensures.puts c.requires.wide)

pub put_byte-requires-4-clause-wide : goal.put_byte-requires-4-clause-wide
put_byte-requires-4-clause-wide c =
    puts_wide c.put_byte-2.new.state c.put_byte-3.new.state (c.args.address + 2) _ c.args.value
    c.in_ok-put_byte-3.ensures.puts
    (puts_wide c.put_byte.new.state c.put_byte-2.new.state (c.args.address + 1) _ c.args.value
    c.in_ok-put_byte-2.ensures.puts
    (puts_wide c.args.state.now c.put_byte.new.state c.args.address _ c.args.value
    c.in_ok-put_byte.ensures.puts c.requires.wide))

pub returns-clause-puts : goal.returns-clause-puts
returns-clause-puts c =
    puts_word c.args.state.now c.put_byte.new.state c.put_byte-2.new.state
    c.put_byte-3.new.state c.put_byte-4.new.state
    c.args.address c.args.value c.put_byte-4.result c.requires.wide
    c.in_ok-put_byte.ensures.puts c.in_ok-put_byte-2.ensures.puts c.in_ok-put_byte-3.ensures.puts
    c.put_byte-4.ensures.puts

pub returns-clause-terms : goal.returns-clause-terms
returns-clause-terms c =
    let one = c.in_ok-put_byte.ensures.puts.continues in
    let two = Continues-trans one c.in_ok-put_byte-2.ensures.puts.continues in
    let three = Continues-trans two c.in_ok-put_byte-3.ensures.puts.continues in
    put_four (unfolded c.args.state.now) (unfolded c.put_byte.new.state) (unfolded c.put_byte-2.new.state) (unfolded c.put_byte-3.new.state)
    (unfolded c.put_byte-4.new.state) c.args.address (value_expression c.args.state.now.terms c.args.value)
    (value_expression c.put_byte.new.state.terms c.args.value) (value_expression c.put_byte-2.new.state.terms c.args.value)
    (value_expression c.put_byte-3.new.state.terms c.args.value) c.put_byte-4.result
    (expression-grown _ _ c.args.value one c.requires.wide) (expression-grown _ _ c.args.value two c.requires.wide)
    (expression-grown _ _ c.args.value three c.requires.wide)
    c.in_ok-put_byte.ensures.terms c.in_ok-put_byte-2.ensures.terms c.in_ok-put_byte-3.ensures.terms c.put_byte-4.ensures.terms
