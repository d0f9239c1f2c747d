use Rattle.std.proofs.Common.{refl}
use Rattle.term_simplify.proofs.Building.{is_term_of}
use Rattle.term_simplify.proofs.Reading.{has_term}
use Rattle.term_simplify.proofs.builder.plan.Goals as goal

pub complement-requires : goal.complement-requires
complement-requires c = has_term c.args.terms.now c.in-Not.a (rw c.in-Not.is at c.requires)

pub negative-requires : goal.negative-requires
negative-requires c = has_term c.args.terms.now c.in-Neg.a (rw c.in-Neg.is at c.requires)

pub returns-in-Not-clause-term : goal.returns-in-Not-clause-term
returns-in-Not-clause-term c = is_term_of c.args.terms.now c.args.node c.complement.ensures.fit c.requires

pub returns-in-Neg-clause-term : goal.returns-in-Neg-clause-term
returns-in-Neg-clause-term c = is_term_of c.args.terms.now c.args.node c.negative.ensures.fit c.requires

pub returns-in-Binary-clause-term : goal.returns-in-Binary-clause-term
returns-in-Binary-clause-term c = is_term_of c.args.terms.now c.args.node c.binary.ensures.fit c.requires

pub returns-in-Compare-clause-term : goal.returns-in-Compare-clause-term
returns-in-Compare-clause-term c = is_term_of c.args.terms.now c.args.node c.comparison.ensures.fit c.requires

pub returns-in-Ite-clause-term : goal.returns-in-Ite-clause-term
returns-in-Ite-clause-term c = is_term_of c.args.terms.now c.args.node c.choice.ensures.fit c.requires

pub returns-in-Extract-clause-term : goal.returns-in-Extract-clause-term
returns-in-Extract-clause-term c = is_term_of c.args.terms.now c.args.node c.part.ensures.fit c.requires

pub returns-in-Extend-clause-term : goal.returns-in-Extend-clause-term
returns-in-Extend-clause-term c = is_term_of c.args.terms.now c.args.node c.extension.ensures.fit c.requires

pub returns-in-Concat-clause-term : goal.returns-in-Concat-clause-term
returns-in-Concat-clause-term c = is_term_of c.args.terms.now c.args.node c.joined.ensures.fit c.requires

pub returns-in-Not-clause-makes : goal.returns-in-Not-clause-makes
returns-in-Not-clause-makes c = rw c.in-Not.is (c.alone-in-Not.ensures c.args.terms.now _ c.complement.ensures.makes)

pub returns-in-Neg-clause-makes : goal.returns-in-Neg-clause-makes
returns-in-Neg-clause-makes c = rw c.in-Neg.is (c.alone-in-Neg.ensures c.args.terms.now _ c.negative.ensures.makes)

pub returns-in-Binary-clause-makes : goal.returns-in-Binary-clause-makes
returns-in-Binary-clause-makes c = rw c.in-Binary.is (c.alone-in-Binary.ensures c.args.terms.now _ c.binary.ensures.makes)

pub returns-in-Compare-clause-makes : goal.returns-in-Compare-clause-makes
returns-in-Compare-clause-makes c = rw c.in-Compare.is (c.alone-in-Compare.ensures c.args.terms.now _ c.comparison.ensures.makes)

pub returns-in-Ite-clause-makes : goal.returns-in-Ite-clause-makes
returns-in-Ite-clause-makes c = rw c.in-Ite.is (c.alone-in-Ite.ensures c.args.terms.now _ c.choice.ensures.makes)

pub returns-in-Extend-clause-makes : goal.returns-in-Extend-clause-makes
returns-in-Extend-clause-makes c = rw c.in-Extend.is (c.alone-in-Extend.ensures c.args.terms.now _ c.extension.ensures.makes)

pub returns-in-Num-clause-makes : goal.returns-in-Num-clause-makes
returns-in-Num-clause-makes c = rw c.in-Num.is (c.alone.ensures c.args.terms.now _ (record { is = refl; fits = rw c.in-Num.is at c.requires }))

pub returns-in-Input-clause-makes : goal.returns-in-Input-clause-makes
returns-in-Input-clause-makes c = rw c.in-Input.is (c.alone-in-Input.ensures c.args.terms.now _ (record { is = refl; fits = rw c.in-Input.is at c.requires }))
