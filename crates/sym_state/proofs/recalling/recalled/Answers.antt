use Rattle.std.proofs.Common.{◌≡◌, ◌∙◌, ap, arith, length, subst, sym}
use Rattle.std.proofs.lemmas.List.{take_all}
use Rattle.std.specs.Prelude.{Some, slice_get}
use Rattle.sym_state.specs.KeptUpdates.{IsUpdate, KeptUpdates}
use Rattle.sym_state.specs.Recalling.{Recalls}
use Rattle.sym_state.proofs.Growing.{IsWide-grown, width-kept}
use Rattle.sym_state.proofs.LastStored.{All-at, none-past, recalls_more, recalls_none}
use Rattle.sym_state.proofs.recalling.recalled.Goals as goal

pub loop-at-init : goal.loop-at-init
loop-at-init c = recalls_none c.args.terms.now c.args.width c.args.bits c.args.before c.requires.before

pub after_one-requires-clause-some : goal.after_one-requires-clause-some
after_one-requires-clause-some c =
    let some = c.requires.some in
    let kept = width-kept _ _ c.args.bits _ c.loop-at.invariant.continues c.requires.bits some in
    omega (arith, kept, some)

-- what was stored at a place
one_is : (c : goal.After-after_one-arg-1) → IsUpdate c.args.terms.now c.args.list.now.site c.in-Some.one
one_is c =
    All-at (IsUpdate c.args.terms.now c.args.list.now.site) c.args.list.now.stored c.loop-at.at c.in-Some.one c.requires.each
    (ap (λ (t : KeptUpdates). slice_get t.stored c.loop-at.at) (sym c.list.view_is) ∙ sym c.get.ensures ∙ c.in-Some.is)

pub after_one-requires-clause-bits : goal.after_one-requires-clause-bits
after_one-requires-clause-bits c =
    let some = c.requires.some in
    let grown = c.loop-at.invariant.continues in
    width-kept _ _ c.in-Some.one.bits _ grown (one_is c).bits some ∙ sym (width-kept _ _ c.args.bits _ grown c.requires.bits some)

pub after_one-requires-clause-stored : goal.after_one-requires-clause-stored
after_one-requires-clause-stored c = IsWide-grown _ _ c.in-Some.one.value c.loop-at.invariant.continues (one_is c).wide

pub after_one-requires-clause-before : goal.after_one-requires-clause-before
after_one-requires-clause-before c = c.loop-at.invariant.wide

pub unreachable-requires : goal.unreachable-requires
unreachable-requires c =
    none-past c.list.inside.stored c.loop-at.at (sym c.get.ensures ∙ c.in_default.is)
    (let many = c.len-at-end.ensures in let below = c.loop-at-test.true in omega (arith, many, below))

pub loop-at-preserved : goal.loop-at-preserved
loop-at-preserved c =
    let there : slice_get c.args.list.now.stored c.loop-at.at ≡ Some c.in-Some.one =
    ap (λ (t : KeptUpdates). slice_get t.stored c.loop-at.at) (sym c.list.view_is) ∙ sym c.get.ensures ∙ c.in-Some.is in
    let is = All-at (IsUpdate c.args.terms.now c.args.list.now.site) c.args.list.now.stored c.loop-at.at c.in-Some.one c.requires.each there in
    recalls_more c.args.terms.now c.loop-at.terms c.after_one.new.terms c.args.width c.args.bits c.loop-at.at c.args.list.now.site c.args.list.now.stored
    c.in-Some.one c.args.before c.loop-at.loaded c.in_ok-loaded.loaded c.requires.some c.requires.bits there is c.loop-at.invariant c.in_ok-loaded.ensures.ok

pub returns-clause-ok : goal.returns-clause-ok
returns-clause-ok c =
    subst (λ stored. Recalls c.args.terms.now c.loop-at.terms c.args.width c.args.bits stored c.args.before c.loop-at.loaded)
    (take_all c.loop-at.at c.args.list.now.stored
    (let many = c.len-at-end.ensures ∙ ap (λ (t : KeptUpdates). length t.stored) c.list.view_is in let past = c.loop-at-test.false in omega (arith, many, past)))
    c.loop-at.invariant
