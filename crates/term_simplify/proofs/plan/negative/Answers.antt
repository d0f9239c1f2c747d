use Rattle.term_simplify.proofs.Reading.{Makes-same, operand, has_bits, negative_number, negative_twice, negative_at}
use Rattle.term_simplify.proofs.plan.negative.Goals as goal

pub new-requires : goal.new-requires
new-requires c = c.node.ensures.fit.all_fit c.args.id _ c.in-Num.ensures.is

pub returns-in-Num-clause-makes : goal.returns-in-Num-clause-makes
returns-in-Num-clause-makes c =
    Makes-same c.args.terms.now _ _ _ (c.number.ensures c.args.terms.now)
    (negative_number c.args.terms.now c.args.id c.node.ensures.fit _ _ c.new.result _
    c.in-Num.ensures.is c.new.ensures c.negated.ensures)

pub returns-in-Neg-clause-makes : goal.returns-in-Neg-clause-makes
returns-in-Neg-clause-makes c = record {
  is = let twice = negative_twice c.args.terms.now c.args.id c.node.ensures.fit _ c.in-Neg.ensures.is in cc;
  fits = (operand c.args.terms.now c.args.id _ _ c.node.ensures.fit c.in-Neg.ensures.is
      (c.node.ensures.fit.all_fit c.args.id _ c.in-Neg.ensures.is)).there;
}

pub returns-in_default-clause-makes : goal.returns-in_default-clause-makes
returns-in_default-clause-makes c = record {
  is = let plain = negative_at c.args.terms.now c.args.id c.node.ensures.fit c.node.result
      c.node.ensures.is c.in_default.not-Num c.in_default.not-Neg in cc;
  fits = (has_bits c.args.terms.now c.args.id c.node.ensures.fit c.requires).0;
}
