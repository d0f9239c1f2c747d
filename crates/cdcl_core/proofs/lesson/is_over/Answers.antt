use Rattle.std.proofs.Common.{◌∙◌, ap, refl, sym}
use Rattle.std.proofs.lemmas.Bool.{and_from}
use Rattle.std.proofs.lemmas.List.{take_all}
use Rattle.std.proofs.lemmas.List.Folds.{list_all_more}
use Rattle.cnf_form.specs.Literals.{Literal}
use Rattle.cnf_form.specs.Variables.{occurs, is_over}
use Rattle.cdcl_core.proofs.lesson.is_over.Goals as goal

pub loop-literal-init : goal.loop-literal-init
unfolding is_over
loop-literal-init c = refl

pub loop-literal-preserved : goal.loop-literal-preserved
unfolding is_over
loop-literal-preserved c =
    let q = λ (l : Literal). occurs c.args.clauses.now l.variable in
    list_all_more q c.literals-literal-items.result.now c.loop-literal.literal-index c.literal-item.result c.loop-literal-test.true
    ∙ and_from _ _ c.loop-literal.invariant (ap q (sym c.literal-item.is) ∙ c.mentions.ensures c.if-not-mentions.false)

pub returns : goal.returns
returns c =
    λ yes. ap (is_over c.args.clauses.now) (sym (take_all c.loop-literal.literal-index c.literals-literal-items.result.now c.loop-literal-test.false ∙ c.literals-literal-items.ensures.value)) ∙ c.loop-literal.invariant
