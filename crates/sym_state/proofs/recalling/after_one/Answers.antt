use Rattle.std.proofs.Common.{◌∙◌, arith, refl, sym}
use Rattle.sym_state.proofs.Growing.{Continues-trans, IsWide-grown, width-kept}
use Rattle.sym_state.proofs.LastStored.{recalls_one}
use Rattle.sym_state.proofs.recalling.after_one.Goals as goal

pub build-requires : goal.build-requires
build-requires c =
    let some = c.requires.some in
    let grown = c.in_ok-value.ensures.ok.continues in
    let first = width-kept _ _ c.args.one.bits _ grown c.requires.bits some in
    let second = width-kept _ _ c.args.bits _ grown refl some in
    (omega (arith, first, some), first ∙ sym second)

pub value_where-requires-clause-first : goal.value_where-requires-clause-first
value_where-requires-clause-first c = IsWide-grown _ _ c.in_ok-value.value c.in_ok-test.ensures.ok.continues c.in_ok-value.ensures.ok.wide

pub value_where-requires-clause-second : goal.value_where-requires-clause-second
value_where-requires-clause-second c =
    IsWide-grown _ _ c.args.before (Continues-trans c.in_ok-value.ensures.ok.continues c.in_ok-test.ensures.ok.continues) c.requires.before

pub returns-clause-ok : goal.returns-clause-ok
returns-clause-ok c =
    recalls_one c.args.terms.now c.as_loaded.new.terms c.build.new.self c.value_where.new.terms c.args.width c.args.bits c.in_ok-test.test c.args.one
    c.args.before c.in_ok-value.value c.bit_of-same.result c.requires.some c.requires.bits c.requires.before c.in_ok-value.ensures.ok
    c.in_ok-value.ensures.expression c.in_ok-test.ensures.ok c.bit_of-same.ensures.worth c.bit_of-same.ensures.expression
    c.value_where.result c.value_where.ensures.ok c.value_where.ensures.expression
