use Rattle.std.proofs.Common.{arith, refl, sym, ap, ◌∙◌}
use Rattle.std.specs.Prelude.{◌==◌}
use Rattle.bv_dag.proofs.TermLaws.{there}
use Rattle.sym_state.specs.Expressions.{Number}
use Rattle.sym_state.proofs.Expressing.{settled_number, settled_unknown}
use Rattle.sym_state.proofs.Naming.{number-bit, number_below, number_is, unknown_node}
use Rattle.sym_state.proofs.operations.bit_of.Goals as goal

pub node-requires : goal.node-requires
node-requires c = rw c.terms.ensures (there c.args.terms.now c.args.id 1 c.requires.bit (omega arith))

pub returns-in-Num-clause-worth : goal.returns-in-Num-clause-worth
returns-in-Num-clause-worth c =
    let is = rw (c.in-Num.is, c.terms.ensures) at c.node.ensures.is in
    let dag = rw c.terms.ensures at c.node.ensures.fit in
    λ input. sym (ap (λ n. n == 1) (number_is c.args.terms.now c.args.id c.in-Num.width c.in-Num.value input dag is))

pub returns-in-Num-clause-expression : goal.returns-in-Num-clause-expression
returns-in-Num-clause-expression c =
    let is = rw (c.in-Num.is, c.terms.ensures) at c.node.ensures.is in
    let dag = rw c.terms.ensures at c.node.ensures.fit in
    ap Number (number-bit c.in-Num.value
    (number_below c.args.terms.now c.args.id c.in-Num.width c.in-Num.value 1 dag is c.requires.bit (omega arith)))
    ∙ settled_number c.args.terms.now c.args.id c.in-Num.width c.in-Num.value dag is

pub returns-in_default : goal.returns-in_default
returns-in_default c =
    let is = rw c.terms.ensures at c.node.ensures.is in
    let dag = rw c.terms.ensures at c.node.ensures.fit in
    let unknown = unknown_node c.args.terms.now c.args.id 1 c.node.result dag is c.requires.bit c.in_default.not-Num in
    record {
      is_bit = unknown;
      worth = λ input. refl;
      expression = settled_unknown c.args.terms.now 1 c.args.id unknown;
    }
