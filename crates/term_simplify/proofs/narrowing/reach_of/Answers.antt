use Rattle.std.proofs.Common.{◌∙◌, ap, true}
use Rattle.term_simplify.specs.declared.ends.Ends.{Ends}
use Rattle.term_simplify.proofs.NarrowReading.{number_reach_at, plain_reach_at, signed_reach_at}
use Rattle.term_simplify.proofs.Reading.{operand}
use Rattle.term_simplify.proofs.narrowing.reach_of.Goals as goal

pub new-requires : goal.new-requires
new-requires c = c.node.ensures.fit.all_fit c.args.id _ c.in-Num.ensures.is

pub width_of-requires : goal.width_of-requires
width_of-requires c =
    (operand c.args.terms.now c.args.id _ _ c.node.ensures.fit c.in-Extend.ensures.is
    (c.node.ensures.fit.all_fit c.args.id _ c.in-Extend.ensures.is).0).there

pub returns-in-Num-clause-is : goal.returns-in-Num-clause-is
returns-in-Num-clause-is c = number_reach_at c.args.terms.now c.args.id c.node.ensures.fit _ _
    c.new.result _ c.in-Num.ensures.is c.new.ensures c.number_reach.ensures.is

pub returns-then-signed-clause-is : goal.returns-then-signed-clause-is
returns-then-signed-clause-is c =
    c.reach_up_to.ensures.is
    ∙ signed_reach_at c.args.terms.now c.args.id c.node.ensures.fit c.number-greatest.result
    (c.number-greatest.ensures.value ∙ ap (λ (e : Ends). e.greatest.number) c.ends_of.ensures.is)
    _ _ _ (rw c.if-signed.true at c.in-Extend.ensures.is) c.width_of.ensures.value

pub returns-else-signed-clause-is : goal.returns-else-signed-clause-is
returns-else-signed-clause-is c =
    c.reach_up_to-else-signed.ensures.is
    ∙ plain_reach_at c.args.terms.now c.args.id c.node.ensures.fit c.number-greatest.result
    (c.number-greatest.ensures.value ∙ ap (λ (e : Ends). e.greatest.number) c.ends_of.ensures.is)
    _ _ c.in-Extend.ensures.is (λ _ _ e. cc) (λ _ _ e. cc) c.width_of-width.ensures.value

pub returns-in_default-clause-is : goal.returns-in_default-clause-is
returns-in_default-clause-is c =
    c.reach_up_to-in_default.ensures.is
    ∙ plain_reach_at c.args.terms.now c.args.id c.node.ensures.fit c.number-greatest.result
    (c.number-greatest.ensures.value ∙ ap (λ (e : Ends). e.greatest.number) c.ends_of.ensures.is)
    c.node.result _ c.node.ensures.is c.in_default.not-Num (λ by a. c.in_default.not-Extend by true a) c.width_of-width.ensures.value
