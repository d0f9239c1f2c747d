use Rattle.std.proofs.Common.{◌≡◌, ℕ, List, true, false, get_or, refl, sym, ◌∙◌, subst}
use Rattle.std.specs.Prelude.{Contains}
use Rattle.std.proofs.lemmas.List.{take_all}
use Rattle.query_pick.specs.Shapes.{AreAmong}
use Rattle.query_pick.proofs.OneShape.{Contains-where_any, among_more, among_none, any-where_contains, not_among}
use Rattle.query_pick.proofs.comparing.are_among.Goals as goal

pub loop-number-init : goal.loop-number-init
loop-number-init c = among_none c.args.others.now

pub loop-number-preserved : goal.loop-number-preserved
loop-number-preserved c =
    let number = get_or c.args.some.now c.loop-number.number-index 0 in
    let there : Contains c.args.others.now number = Contains-where_any c.args.others.now number (sym c.contains.ensures.value ∙ c.if-not-contains.false) in
    among_more c.args.some.now c.args.others.now c.loop-number.number-index c.loop-number-test.true c.loop-number.invariant there

pub returns-then-not-contains : goal.returns-then-not-contains
returns-then-not-contains c =
    let number = get_or c.args.some.now c.loop-number.number-index 0 in
    let lacks : Contains c.args.others.now number → ⊥ =
    λ h. let both : true ≡ false = sym (any-where_contains c.args.others.now number h) ∙ sym c.contains.ensures.value ∙ c.if-not-contains.true in cc in (
      λ no. let both : false ≡ true = no in cc,
      λ among. absurd (not_among c.args.some.now c.args.others.now c.loop-number.number-index c.loop-number-test.true lacks among),
    )

pub returns : goal.returns
returns c = (
  λ yes. subst (λ (ks : List ℕ). AreAmong ks c.args.others.now) (take_all c.loop-number.number-index c.args.some.now c.loop-number-test.false) c.loop-number.invariant,
  λ among. refl,
)
