use Rattle.std.proofs.Common.{◌∙◌, ◌++◌, ◌∷◌, [], List, ap, sym, arith}
use Rattle.std.proofs.lemmas.List.{take_all}
use Rattle.cnf_form.specs.Literals.{Literal}
use Rattle.cnf_form.proofs.Pieces.{take_next}
use Rattle.cdcl_core.proofs.clause_list.clause_list.Goals as goal

pub loop-place-preserved : goal.loop-place-preserved
loop-place-preserved c =
    c.in_ok-push.ensures.ok ∙ ap (λ (cs : List (List Literal)). cs ++ c.at.result.now ∷ []) c.loop-place.invariant
    ∙ sym (take_next c.args.formula.now c.loop-place.place c.at.result.now c.at.ensures.value)

pub returns : goal.returns
returns c = c.loop-place.invariant ∙ take_all c.loop-place.place c.args.formula.now (omega (arith, c.len-place-end.ensures, c.loop-place-test.false))
