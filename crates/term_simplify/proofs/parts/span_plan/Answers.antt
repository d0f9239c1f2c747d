use Rattle.std.proofs.Common.{arith, sym, ◌∙◌}
use Rattle.term_simplify.proofs.PartPlans.{span_all, span_low, span_high, span_number}
use Rattle.term_simplify.proofs.Reading.{Makes-same, has_bits, wide_number}
use Rattle.term_simplify.proofs.parts.span_plan.Goals as goal
use Rattle.term_simplify.proofs.parts.span_plan.Goals.{else-low-eq0-via-then-low-eq0+else-high-width_of, else-low-eq0-via-else-low-eq0}

pub extracted-requires-clause-within : goal.extracted-requires-clause-within
extracted-requires-clause-within c =
    omega (
      arith,
      c.requires.within,
      wide_number c.args.terms.now c.args.span.operand c.in-Some.x
          (sym c.in-Some.is ∙ c.number_at.ensures.number),
    )

pub overflow_add-high : goal.overflow_add-high
overflow_add-high c = omega (
  arith,
  c.requires.within,
  (has_bits c.args.terms.now
      c.args.span.operand c.number_at.ensures.fit c.requires.there).1,
)

pub returns-in-Some : goal.returns-in-Some
returns-in-Some c =
    Makes-same c.args.terms.now _ _ _ (c.number.ensures c.args.terms.now)
    (span_number c.args.terms.now c.args.span.operand c.args.span.high c.args.span.low
    c.number_at.result c.in-Some.x c.extracted.result c.in-Some.is c.number_at.ensures.number
    c.extracted.ensures)

pub returns-then-high-width_of : goal.returns-then-high-width_of
returns-then-high-width_of c = record {
  is = sym (span_all c.args.terms.now c.args.span.operand c.args.span.high c.args.span.low
      c.width_of.result c.number_at.result c.in-None.is c.number_at.ensures.number c.if-low-eq0.true
      c.if-high-width_of.true c.width_of.ensures.value);
  fits = c.requires.there;
}

pub returns-else-low-eq0 : goal.returns-else-low-eq0
returns-else-low-eq0 c = record {
  is =
      elim c.else-low-eq0.branch [
        | else-low-eq0-via-then-low-eq0+else-high-width_of w ↦
            sym (span_high c.args.terms.now c.args.span.operand c.args.span.high c.args.span.low
            w.width_of.result c.number_at.result c.in-None.is c.number_at.ensures.number
            w.if-low-eq0.true w.if-high-width_of.false w.width_of.ensures.value)
        | else-low-eq0-via-else-low-eq0 w ↦ sym (span_low c.args.terms.now c.args.span.operand
            c.args.span.high c.args.span.low c.number_at.result c.in-None.is
            c.number_at.ensures.number w.if-low-eq0.false)
      ];
  fits = (c.requires.order, c.requires.within);
}
