use Rattle.std.proofs.Common.{◌≡◌, arith, sym, ◌∙◌}
use Rattle.bv_dag.specs.Graphs.{width_of}
use Rattle.term_trees.specs.Trees.{tree_of}
use Rattle.term_simplify.proofs.ExtensionPlans.{join_numbers, join_zero, join_other, join_none}
use Rattle.term_simplify.proofs.Reading.{Makes-same, has_term, wide_number}
use Rattle.term_simplify.proofs.extensions.join.Goals as goal

pub number_at-requires : goal.number_at-requires
number_at-requires c = has_term c.args.terms.now c.args.high c.requires.0

pub number_at-requires-2 : goal.number_at-requires-2
number_at-requires-2 c = has_term c.args.terms.now c.args.low c.requires.1

pub above-requires : goal.above-requires
above-requires c =
    omega (
      arith,
      c.requires.2,
      wide_number c.args.terms.now c.args.high c.in-Some-Some.x (sym c.in-Some-Some.is-0 ∙ c.number_at.ensures.number),
      wide_number c.args.terms.now c.args.low c.in-Some-Some.y (sym c.in-Some-Some.is-1 ∙ c.number_at-2.ensures.number),
    )

pub extension-requires : goal.extension-requires
extension-requires c =
    let wide : c.in-Some-None.x.width ≡ width_of c.args.terms.now c.args.high = wide_number c.args.terms.now c.args.high c.in-Some-None.x (sym c.in-Some-None.is-0 ∙ c.number_at.ensures.number) in (
      c.requires.1,
      omega (arith, wide, c.requires.0, c.width.ensures.value),
      omega
          (arith, wide, c.requires.2, c.width.ensures.value),
    )

pub returns-in-Some-Some-clause-makes : goal.returns-in-Some-Some-clause-makes
returns-in-Some-Some-clause-makes c = Makes-same c.args.terms.now _ _ _
    (c.number.ensures c.args.terms.now) (join_numbers (tree_of c.args.terms.now c.args.high)
    (tree_of c.args.terms.now c.args.low) c.number_at.result c.number_at-2.result
    c.number_at.ensures.number c.number_at-2.ensures.number c.in-Some-Some.x c.in-Some-Some.y
    c.above.result c.in-Some-Some.is-0 c.in-Some-Some.is-1 c.above.ensures)

pub returns-then-number-eq0-clause-makes : goal.returns-then-number-eq0-clause-makes
returns-then-number-eq0-clause-makes c =
    Makes-same c.args.terms.now _ _ _ c.extension.ensures.makes
    (join_zero (tree_of c.args.terms.now c.args.high) (tree_of c.args.terms.now c.args.low)
    c.number_at.result c.number_at-2.result c.number_at.ensures.number
    c.number_at-2.ensures.number c.in-Some-None.x c.number-in-Some-None.result c.width.result
    c.in-Some-None.is-0 c.in-Some-None.is-1 c.number-in-Some-None.ensures.value
    c.if-number-eq0.true c.width.ensures.value)

pub returns-else-number-eq0-clause-makes : goal.returns-else-number-eq0-clause-makes
returns-else-number-eq0-clause-makes c = record {
  is = sym (join_other (tree_of c.args.terms.now c.args.high) (tree_of c.args.terms.now c.args.low)
      c.number_at.result c.number_at-2.result c.number_at.ensures.number
      c.number_at-2.ensures.number c.in-Some-None.x c.number-in-Some-None.result c.in-Some-None.is-0
      c.in-Some-None.is-1 c.number-in-Some-None.ensures.value c.if-number-eq0.false);
  fits = c.requires;
}

pub returns-in-None-default-clause-makes : goal.returns-in-None-default-clause-makes
returns-in-None-default-clause-makes c = record {
  is = sym
      (join_none (tree_of c.args.terms.now c.args.high) (tree_of c.args.terms.now c.args.low)
      c.number_at.result c.number_at-2.result c.number_at.ensures.number c.number_at-2.ensures.number
      c.in-None-default.is-0);
  fits = c.requires;
}
