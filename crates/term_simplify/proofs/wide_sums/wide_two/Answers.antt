use Rattle.std.proofs.Common.{◌≡◌, ◌∙◌, ◌+◌, ◌<◌, ap, false, length, sym, refl}
use Rattle.bv_dag.specs.Graphs.{width_of}
use Rattle.term_simplify.proofs.Reading.{has_bits, has_second_term, has_term}
use Rattle.term_simplify.proofs.Telling.{either}
use Rattle.term_simplify.proofs.WideReading.{none_apart, number_widened, some_apart}
use Rattle.term_simplify.specs.Plain.{extension_by}
use Rattle.term_trees.specs.Trees.{tree_of}
use Rattle.term_simplify.proofs.wide_sums.wide_two.Goals as goal

pub is_exact-requires-clause-first : goal.is_exact-requires-clause-first
is_exact-requires-clause-first c = has_term c.args.terms.now c.args.a c.requires.fits.0

pub is_exact-requires-clause-second : goal.is_exact-requires-clause-second
is_exact-requires-clause-second c = has_second_term c.args.terms.now c.args.a c.args.b c.requires.fits.0 c.requires.fits.1

pub wide_number-x-requires-clause-there : goal.wide_number-x-requires-clause-there
wide_number-x-requires-clause-there c = has_term c.args.terms.now c.args.a c.requires.fits.0

pub wide_number-y-requires-clause-there : goal.wide_number-y-requires-clause-there
wide_number-y-requires-clause-there c = has_second_term c.args.terms.now c.args.a c.args.b c.requires.fits.0 c.requires.fits.1

pub returns-in-Some-clause-some : goal.returns-in-Some-clause-some
returns-in-Some-clause-some c =
    let g = c.args.terms.now in
    let o = c.in-Some.o in
    let w = width_of g c.args.a in
    let first = has_term g c.args.a c.requires.fits.0 in
    let second = has_second_term g c.args.a c.args.b c.requires.fits.0 c.requires.fits.1 in
    let dag = c.wide_number-x.ensures.fit in
    let there : o.term < length g.nodes = either (λ k. k < length g.nodes) o.term c.args.a c.args.b c.in-Some.ensures.term first second in
    let wide : width_of g o.term ≡ w = either (λ k. width_of g k ≡ w) o.term c.args.a c.args.b c.in-Some.ensures.term refl (sym c.requires.fits.1) in
    let number = c.in-Some.ensures.number (w + c.args.by)
    (number_widened g dag c.args.by c.args.a w _ first c.requires.some refl c.requires.room c.wide_number-x.ensures.is)
    (number_widened g dag c.args.by c.args.b w _ second c.requires.some (sym c.requires.fits.1) c.requires.room c.wide_number-y.ensures.is) in
    rw c.widened.ensures (record { there = there; some = (has_bits g o.term dag there).0; wide = ap (λ k. k + c.args.by) wide; number = number })

pub returns-in-Some-clause-is : goal.returns-in-Some-clause-is
returns-in-Some-clause-is c =
    let g = c.args.terms.now in
    rw c.widened.ensures (some_apart g c.args.by c.args.op c.args.a c.args.b c.wide_number-x.result c.wide_number-y.result c.requires.some
    (sym c.is_exact.ensures ∙ c.if-not-is_exact.false) c.wide_number-x.ensures.is c.wide_number-y.ensures.is c.in-Some.o
    (c.in-Some.ensures.is (λ k. extension_by c.args.by false (tree_of g k))))

pub returns-in-None-clause-is : goal.returns-in-None-clause-is
returns-in-None-clause-is c =
    let g = c.args.terms.now in
    none_apart g c.args.by c.args.op c.args.a c.args.b c.wide_number-x.result c.wide_number-y.result c.requires.some
    (sym c.is_exact.ensures ∙ c.if-not-is_exact.false) c.wide_number-x.ensures.is c.wide_number-y.ensures.is
    (c.in-None.ensures.is (λ k. extension_by c.args.by false (tree_of g k)))
