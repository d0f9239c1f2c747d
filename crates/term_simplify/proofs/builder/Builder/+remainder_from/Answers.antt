use Rattle.std.proofs.Common.{◌∙◌, ◌-◌, ap, arith, sym}
use Rattle.bv_dag.specs.Graphs.{val}
use Rattle.term_trees.specs.Trees.{tree_of}
use Rattle.term_simplify.specs.Divisions.{next_remainder, next_remainder_word, remainder_from, upper_remainder}
use Rattle.term_simplify.proofs.DivisionSteps.{remainder_more, remainder_none, some_left, stage_worth, still_divided}
use Rattle.term_simplify.proofs.Stepping.{Stands-grown, Stands-itself, Stands-kept, Stands-worth, at_tree, if_ok, one_step, two_step}
use Rattle.term_simplify.proofs.builder.Builder.+remainder_from.Goals as goal

pub returns-then-left-eq0-clause-ok : goal.returns-then-left-eq0-clause-ok
returns-then-left-eq0-clause-ok t c =
    let g = c.args.self.now in
    let d = c.args.d in
    let none = c.if-left-eq0.true in
    at_tree (remainder_none c.args.left d.bits d.divisor (tree_of g d.operand) (tree_of g c.args.remainder) none)
    (Stands-worth (λ input bytes. c.requires.worth input bytes ∙ ap (λ k. upper_remainder d.bits k d.divisor (val g d.operand input)) none)
    (Stands-itself g c.args.remainder d.bits c.requires.wide (omega (arith, c.requires.dividend.some))))

pub reduce-requires-clause-dividend : goal.reduce-requires-clause-dividend
reduce-requires-clause-dividend t c = still_divided c.args.d c.brought.ensures.continues c.requires.dividend

pub remainder_from-requires : goal.remainder_from-requires
remainder_from-requires t c =
    let g = c.args.self.now in
    let d = c.args.d in
    let is = c.requires.dividend in
    let left = c.args.left in
    let some = some_left left c.if-left-eq0.false in
    let next = one_step (next_remainder d.bits d.divisor) (next_remainder_word d.bits d.divisor) c.in_ok-brought.ensures.ok c.in_ok-reduced.ensures.remainder in
    let still = still_divided d c.reduce.ensures.continues (still_divided d c.brought.ensures.continues is) in
    let operand = Stands-kept c.reduce.ensures.continues (Stands-grown d.operand d.width c.brought.ensures.continues is.wide (omega (arith, is.some, is.within))) in (
      omega (arith, some, c.decreases),
      (
        still,
        (
          omega (arith, c.requires.within),
          (
            c.requires.few,
            (
              next.width,
              λ input bytes. next.value input bytes
                  ∙ stage_worth d left (val g d.operand input) (val g c.args.remainder input) is some (c.requires.worth input bytes)
                  ∙ ap (upper_remainder d.bits (left - 1) d.divisor) (sym (operand.value input bytes)),
            ),
          ),
        ),
      ),
    )

pub returns-clause-ok : goal.returns-clause-ok
returns-clause-ok t c =
    let g = c.args.self.now in
    let d = c.args.d in
    let is = c.requires.dividend in
    let left = c.args.left in
    let next = one_step (next_remainder d.bits d.divisor) (next_remainder_word d.bits d.divisor) c.in_ok-brought.ensures.ok c.in_ok-reduced.ensures.remainder in
    let operand = Stands-kept c.reduce.ensures.continues (Stands-grown d.operand d.width c.brought.ensures.continues is.wide (omega (arith, is.some, is.within))) in
    if_ok _ _ _ c.remainder_from.ensures.ok (λ id n. at_tree (remainder_more left d.bits d.divisor (tree_of g d.operand) (tree_of g c.args.remainder) c.if-left-eq0.false)
    (two_step (remainder_from (left - 1) d.bits d.divisor) (λ x r. upper_remainder d.bits 0 d.divisor x) operand next n))
