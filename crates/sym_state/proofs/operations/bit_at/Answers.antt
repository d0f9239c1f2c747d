use Rattle.std.proofs.Common.{arith, ap, ◌∙◌}
use Rattle.sym_state.specs.Expressions.{settled}
use Rattle.sym_state.proofs.Choosing.{bit_width, gives_bit}
use Rattle.sym_state.proofs.operations.bit_at.Goals as goal

pub build-requires : goal.build-requires
build-requires c = (omega arith, c.requires.within)

pub bit_of-requires : goal.bit_of-requires
bit_of-requires c = record { bit = c.in_ok-bit.ensures.ok.width ∙ bit_width c.args.at }

pub returns-clause-ok : goal.returns-clause-ok
returns-clause-ok c =
    gives_bit c.args.terms.now c.build.new.self c.args.id c.args.at c.in_ok-bit.bit c.bit_of.result c.in_ok-bit.ensures.ok
    c.bit_of.ensures.is_bit c.bit_of.ensures.worth

pub returns-clause-expression : goal.returns-clause-expression
returns-clause-expression c = c.bit_of.ensures.expression ∙ ap settled c.in_ok-bit.ensures.ok.tree
