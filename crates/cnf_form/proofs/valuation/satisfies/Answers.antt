use Rattle.std.proofs.Common.{◌∙◌, ◌+◌, ◌&&◌, List, drop, refl, ap, sym, arith}
use Rattle.std.specs.List.{list_all}
use Rattle.std.proofs.lemmas.List.{drop_all}
use Rattle.cnf_form.specs.Literals.{Literal}
use Rattle.cnf_form.specs.Valuations.{satisfies_clause, satisfies, valuation}
use Rattle.cnf_form.proofs.Pieces.{all_further}
use Rattle.cnf_form.proofs.valuation.satisfies.Goals as goal

pub loop-place-init : goal.loop-place-init
unfolding satisfies
loop-place-init c = refl

pub returns-then-not-satisfies_clause : goal.returns-then-not-satisfies_clause
returns-then-not-satisfies_clause c =
    let p = satisfies_clause (valuation c.args.values.now) in
    sym (all_further p c.args.clauses.now c.loop-place.place c.at.result.now c.at.ensures.value
    ∙ ap (λ b. b && list_all p (drop (c.loop-place.place + 1) c.args.clauses.now)) (sym c.satisfies_clause.ensures ∙ c.if-not-satisfies_clause.true))
    ∙ c.loop-place.invariant

pub loop-place-preserved : goal.loop-place-preserved
loop-place-preserved c =
    let p = satisfies_clause (valuation c.args.values.now) in
    sym (all_further p c.args.clauses.now c.loop-place.place c.at.result.now c.at.ensures.value
    ∙ ap (λ b. b && list_all p (drop (c.loop-place.place + 1) c.args.clauses.now)) (sym c.satisfies_clause.ensures ∙ c.if-not-satisfies_clause.false))
    ∙ c.loop-place.invariant

pub returns : goal.returns
returns c =
    let p = satisfies_clause (valuation c.args.values.now) in
    sym (ap (λ (cs : List (List Literal)). list_all p cs) (drop_all c.loop-place.place c.args.clauses.now (omega (arith, c.len-place-end.ensures, c.loop-place-test.false))))
    ∙ c.loop-place.invariant
