use Rattle.std.proofs.Common.{sym, ap, subst, ◌∙◌, arith}
use Rattle.fork_spec.specs.Evidence.{Found}
use Rattle.sym_state.specs.declared.decided.Decided.TheVariants.{Number}
use Rattle.run_sides.specs.Narrowing.{IsForced}
use Rattle.node_split.specs.Values.{IsLeft}
use Rattle.node_split.proofs.SidesOfValues.{value_settled}
use Rattle.node_split.proofs.pin.at_pin.Goals as goal

pub returns-then-len-eq1 : goal.returns-then-len-eq1
returns-then-len-eq1 g c =
    subst (λ v. IsForced c.args.state.now c.args.pin.now.place (Number v)) (sym (ap (λ (f : Found). f.value) (c.behind-values.view_is ∙ c.index.ensures)))
    (value_settled c.args.state.now c.args.pin.now.place c.args.pin.now.term c.in_ok-values.values.found.items c.index.result.now c.requires.at
    (omega (arith, c.if-len-eq1.true, c.len.ensures, c.in_ok-values.values.found.ok.0))
    (subst (IsLeft c.args.state.now c.args.pin.now.term c.args.budgets.now c.in_ok-values.values.found.items c.in_ok-values.values.rest) (c.is_nothing.ensures.0 c.if-is_nothing.true) c.in_ok-values.ensures.left))

pub part-requires-clause-formed : goal.part-requires-clause-formed
part-requires-clause-formed g c = c.in_ok-values.ensures.formed
