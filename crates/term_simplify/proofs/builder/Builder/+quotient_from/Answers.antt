use Rattle.std.proofs.Common.{◌∙◌, ◌-◌, ap, arith, sym}
use Rattle.bv_dag.specs.BitVectors.{bvnot}
use Rattle.bv_dag.specs.Graphs.{val}
use Rattle.term_trees.specs.Trees.{tree_of}
use Rattle.term_simplify.specs.Divisions.{borrow_of, borrow_word, next_remainder, next_remainder_word, quotient_from, upper_quotient, upper_remainder}
use Rattle.term_simplify.specs.Plain.{complement_of}
use Rattle.term_simplify.proofs.DivisionSteps.{longer_worth, quotient_more, quotient_none, some_left, stage_worth, still_divided}
use Rattle.term_simplify.proofs.Stepping.{Stands-grown, Stands-itself, Stands-kept, Stands-worth, at_tree, at_width, concat_step, if_ok, one_step, three_step}
use Rattle.term_simplify.proofs.builder.Builder.+quotient_from.Goals as goal

pub returns-then-left-eq0-clause-ok : goal.returns-then-left-eq0-clause-ok
returns-then-left-eq0-clause-ok t c =
    let g = c.args.self.now in
    let d = c.args.d in
    let none = c.if-left-eq0.true in
    let is = c.requires.dividend in
    at_width (omega (arith, none)) (at_tree (quotient_none c.args.left d.bits d.divisor (tree_of g d.operand) (tree_of g c.args.quotient) (tree_of g c.args.remainder) none)
    (Stands-worth (λ input bytes. c.requires.found input bytes ∙ ap (λ k. upper_quotient d.width k d.divisor (val g d.operand input)) none)
    (Stands-itself g c.args.quotient (d.width - c.args.left) c.requires.high (omega (arith, c.requires.within)))))

pub reduce-requires-clause-dividend : goal.reduce-requires-clause-dividend
reduce-requires-clause-dividend t c = still_divided c.args.d c.brought.ensures.continues c.requires.dividend

pub plain_step-requires-2 : goal.plain_step-requires-2
plain_step-requires-2 t c =
    let d = c.args.d in
    let within = c.requires.within in
    let quotient = Stands-kept c.plain_step.ensures.continues (Stands-kept c.reduce.ensures.continues
    (Stands-grown c.args.quotient (d.width - c.args.left) c.brought.ensures.continues c.requires.high (omega (arith, within)))) in
    let bit = at_width c.in_ok-reduced.ensures.borrow.width c.in_ok-bit.ensures.ok in (
      omega (arith, quotient.width, within),
      omega (arith, bit.width),
      omega (arith, quotient.width, bit.width, c.requires.dividend.at_most_64, some_left c.args.left c.if-left-eq0.false, within),
    )

pub quotient_from-requires : goal.quotient_from-requires
quotient_from-requires t c =
    let g = c.args.self.now in
    let d = c.args.d in
    let is = c.requires.dividend in
    let left = c.args.left in
    let within = c.requires.within in
    let some = some_left left c.if-left-eq0.false in
    let on = c.plain_step-2.ensures.continues in
    let kept = c.plain_step.ensures.continues in
    let brought = c.in_ok-brought.ensures.ok in
    let quotient = Stands-kept kept (Stands-kept c.reduce.ensures.continues
    (Stands-grown c.args.quotient (d.width - left) c.brought.ensures.continues c.requires.high (omega (arith, within)))) in
    let operand = Stands-kept on (Stands-kept kept (Stands-kept c.reduce.ensures.continues
    (Stands-grown d.operand d.width c.brought.ensures.continues is.wide (omega (arith, is.some, is.within))))) in
    let borrow = one_step (borrow_of d.bits d.divisor) (borrow_word d.bits d.divisor) brought c.in_ok-reduced.ensures.borrow in
    let bit = at_width borrow.width (one_step complement_of bvnot borrow c.in_ok-bit.ensures.ok) in
    let longer = concat_step quotient bit c.in_ok-longer.ensures.ok in
    let next = Stands-kept on (Stands-kept kept
    (one_step (next_remainder d.bits d.divisor) (next_remainder_word d.bits d.divisor) brought c.in_ok-reduced.ensures.remainder)) in
    let still = still_divided d on (still_divided d kept (still_divided d c.reduce.ensures.continues (still_divided d c.brought.ensures.continues is))) in (
      omega (arith, some, c.decreases),
      (
        still,
        (
          omega (arith, some, within),
          (
            c.requires.few,
            (
              omega (arith, longer.width, some, within),
              (
                next.width,
                (
                  λ input bytes. longer.value input bytes
                      ∙ longer_worth d left (val g d.operand input) (val g c.args.quotient input) (val g c.args.remainder input) is some within
                      (c.requires.found input bytes) (c.requires.worth input bytes)
                      ∙ ap (upper_quotient d.width (left - 1) d.divisor) (sym (operand.value input bytes)),
                  λ input bytes. next.value input bytes
                      ∙ stage_worth d left (val g d.operand input) (val g c.args.remainder input) is some (c.requires.worth input bytes)
                      ∙ ap (upper_remainder d.bits (left - 1) d.divisor) (sym (operand.value input bytes)),
                ),
              ),
            ),
          ),
        ),
      ),
    )

pub returns-clause-ok : goal.returns-clause-ok
returns-clause-ok t c =
    let g = c.args.self.now in
    let d = c.args.d in
    let is = c.requires.dividend in
    let left = c.args.left in
    let on = c.plain_step-2.ensures.continues in
    let kept = c.plain_step.ensures.continues in
    let brought = c.in_ok-brought.ensures.ok in
    let quotient = Stands-kept kept (Stands-kept c.reduce.ensures.continues
    (Stands-grown c.args.quotient (d.width - left) c.brought.ensures.continues c.requires.high (omega (arith, c.requires.within)))) in
    let operand = Stands-kept on (Stands-kept kept (Stands-kept c.reduce.ensures.continues
    (Stands-grown d.operand d.width c.brought.ensures.continues is.wide (omega (arith, is.some, is.within))))) in
    let borrow = one_step (borrow_of d.bits d.divisor) (borrow_word d.bits d.divisor) brought c.in_ok-reduced.ensures.borrow in
    let longer = concat_step quotient (one_step complement_of bvnot borrow c.in_ok-bit.ensures.ok) c.in_ok-longer.ensures.ok in
    let next = Stands-kept on (Stands-kept kept
    (one_step (next_remainder d.bits d.divisor) (next_remainder_word d.bits d.divisor) brought c.in_ok-reduced.ensures.remainder)) in
    if_ok _ _ _ c.quotient_from.ensures.ok (λ id n. at_tree (quotient_more left d.bits d.divisor (tree_of g d.operand) (tree_of g c.args.quotient) (tree_of g c.args.remainder) c.if-left-eq0.false)
    (three_step (quotient_from (left - 1) d.bits d.divisor) (λ x q r. upper_quotient d.width 0 d.divisor x) operand longer next n))
