use Rattle.std.proofs.Common.{◌<◌, ◌^◌, ◌∙◌, arith, subst, sym}
use Rattle.sym_state.specs.Selecting.{as_way}
use Rattle.sym_state.specs.Storing.{stride_of}
use Rattle.sym_state.proofs.Coming.{gives_never, gives_test, may, never, never_expressed, steps_small, test_expressed}
use Rattle.sym_state.proofs.Growing.{width-kept}
use Rattle.sym_state.proofs.scattering.comes_to.Goals as goal

pub returns-in_default-clause-ok : goal.returns-in_default-clause-ok
returns-in_default-clause-ok c =
    let g = c.args.terms.now in
    gives_never g c.args.way c.args.address
    (never (stride_of (as_way g c.args.way)) c.args.address (rw (c.stride.ensures g) at c.in_default.ensures))

pub returns-in_default-clause-expression : goal.returns-in_default-clause-expression
returns-in_default-clause-expression c =
    let g = c.args.terms.now in
    never_expressed g c.args.way c.args.address
    (never (stride_of (as_way g c.args.way)) c.args.address (rw (c.stride.ensures g) at c.in_default.ensures))

pub steps_to-requires : goal.steps_to-requires
steps_to-requires c = rw (c.stride.ensures c.args.terms.now) (record { few = c.requires.few })

pub num-requires : goal.num-requires
num-requires c =
    let g = c.args.terms.now in
    let there = may (stride_of (as_way g c.args.way)) c.args.address c.in-Some.steps (rw (c.stride.ensures g) at c.in-Some.ensures) in
    record {
      not_empty = c.requires.bits.some;
      at_most_64 = omega (arith, c.requires.few);
      in_range = subst (λ n. n < 2 ^ c.args.way.count) (sym there.1) (steps_small (stride_of (as_way g c.args.way)) c.args.address there.0);
    }

pub build-requires : goal.build-requires
build-requires c =
    let some = c.requires.bits.some in
    let made = c.in_ok-number.ensures.ok in
    let kept = width-kept _ _ c.args.bits _ made.continues c.requires.bits.width some in
    (omega (arith, kept, some), kept ∙ sym made.width)

pub returns-clause-ok : goal.returns-clause-ok
returns-clause-ok c =
    let g = c.args.terms.now in
    let there = may (stride_of (as_way g c.args.way)) c.args.address c.in-Some.steps (rw (c.stride.ensures g) at c.in-Some.ensures) in
    gives_test g c.num.new.self c.build.new.self c.args.way c.args.bits c.in_ok-number.number c.in_ok-test.test c.args.address c.in-Some.steps
    c.requires.bits there.0 there.1 c.in_ok-number.ensures.ok c.in_ok-test.ensures.ok c.bit_of.result c.bit_of.ensures.is_bit c.bit_of.ensures.worth

pub returns-clause-expression : goal.returns-clause-expression
returns-clause-expression c =
    let g = c.args.terms.now in
    let there = may (stride_of (as_way g c.args.way)) c.args.address c.in-Some.steps (rw (c.stride.ensures g) at c.in-Some.ensures) in
    c.bit_of.ensures.expression
    ∙ test_expressed g c.num.new.self c.build.new.self c.args.way c.args.bits c.in_ok-number.number c.in_ok-test.test c.args.address c.in-Some.steps
    c.requires.bits there.0 there.1 c.in_ok-number.ensures.ok c.in_ok-test.ensures.ok
