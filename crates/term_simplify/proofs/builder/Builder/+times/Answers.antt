use Rattle.std.proofs.Common.{◌≡◌, ◌+◌, ◌-◌, ◌%◌, ◌<◌, ◌∙◌, arith, refl, sym}
use Rattle.bv_dag.specs.BitVectors.{bvneg}
use Rattle.bv_dag.specs.Graphs.{val, width_of}
use Rattle.bv_dag.specs.Nodes.{binary}
use Rattle.term_trees.specs.Trees.{tree_of}
use Rattle.term_simplify.specs.Plain.{plain_binary, plain_negative}
use Rattle.term_simplify.specs.Times.{times, times_word}
use Rattle.term_simplify.proofs.Multiples.{half_fits, has_bits, others_fit, others_some, tree_digit, tree_even, tree_minus, tree_one, word_digit, word_even, word_minus, word_one}
use Rattle.term_simplify.proofs.Multiplying.{raised_step}
use Rattle.term_simplify.proofs.Stepping.{Stands-grown, Stands-kept, Stands-worth, at_tree, at_width, if_ok, one_step, two_step}
use Rattle.term_simplify.proofs.Words.{is_number}
use Rattle.term_simplify.proofs.builder.Builder.+times.Goals as goal

pub times-requires : goal.times-requires
times-requires t c =
    let some : 0 < c.args.width = has_bits c.args.width c.args.number c.requires.some c.requires.in_range in (
      omega (arith, some, c.decreases),
      (
        omega (arith, c.if-number-eq0.true, c.requires.some),
        (half_fits c.args.width c.args.number some c.requires.in_range, (omega (arith, c.requires.wide), omega (arith, some, c.requires.fits))),
      ),
    )

pub returns-then-number-eq0-clause-ok : goal.returns-then-number-eq0-clause-ok
returns-then-number-eq0-clause-ok t c =
    let w = c.args.width in
    let by = c.args.by in
    let g = c.args.self.now in
    let some : 0 < w = has_bits w c.args.number c.requires.some c.requires.in_range in
    let even = c.if-number-eq0.true in
    if_ok _ _ _ c.times.ensures.ok (λ id n. at_width (omega (arith, some)) (at_tree (tree_even w by c.args.number (tree_of g c.args.operand) some even)
    (Stands-worth (λ input bytes. word_even w by c.args.number (val g c.args.operand input) some even) n)))

pub returns-then-number-eq1-clause-ok : goal.returns-then-number-eq1-clause-ok
returns-then-number-eq1-clause-ok t c =
    let w = c.args.width in
    let g = c.args.self.now in
    let some : 0 < w = has_bits w c.args.number c.requires.some c.requires.in_range in
    if_ok _ _ _ c.raised.ensures.ok (λ id n. raised_step w c.args.by c.args.number (λ input. val g c.args.operand input)
    c.in_ok-low.ensures.ok (omega (arith, some)) (tree_one w c.args.by c.args.number (tree_of g c.args.operand) some c.if-number-eq1.true)
    (λ input bytes. word_one w c.args.number (val g c.args.operand input) some c.if-number-eq1.true) n)

pub returns-then-is_minus_one-clause-ok : goal.returns-then-is_minus_one-clause-ok
returns-then-is_minus_one-clause-ok t c =
    let w = c.args.width in
    let g = c.args.self.now in
    let some : 0 < w = has_bits w c.args.number c.requires.some c.requires.in_range in
    let odd : c.args.number % 2 ≡ 1 = omega (arith, c.if-number-eq0.false) in
    let top = sym c.is_minus_one.ensures ∙ c.if-is_minus_one.true in
    let low = c.in_ok-low.ensures.ok in
    let negative = at_width low.width (one_step plain_negative bvneg low c.in_ok-negative.ensures.ok) in
    if_ok _ _ _ c.raised-then-is_minus_one.ensures.ok (λ id n. raised_step w c.args.by c.args.number (λ input. val g c.args.operand input)
    negative (omega (arith, some)) (tree_minus w c.args.by c.args.number (tree_of g c.args.operand) some odd c.if-number-eq1.false top)
    (λ input bytes. word_minus w c.args.number (val g c.args.operand input) some (is_number _ _ top)) n)

pub times-requires-2 : goal.times-requires-2
times-requires-2 t c =
    let w = c.args.width in
    let g = c.args.self.now in
    let some : 0 < w = has_bits w c.args.number c.requires.some c.requires.in_range in
    let odd : c.args.number % 2 ≡ 1 = omega (arith, c.if-number-eq0.false) in
    let operand = Stands-grown c.args.operand (width_of g c.args.operand) c.plain_step.ensures.continues refl (omega (arith, some, c.requires.wide)) in (
      omega (arith, some, c.decreases),
      (
        rw c.other_digits.ensures (others_some c.args.number odd c.if-number-eq1.false),
        (
          rw c.other_digits.ensures (others_fit w c.args.number some odd c.requires.in_range (sym c.is_minus_one.ensures ∙ c.if-is_minus_one.false)),
          (omega (arith, operand.width, c.requires.wide), omega (arith, some, c.requires.fits)),
        ),
      ),
    )

pub plain_step-requires-2 : goal.plain_step-requires-2
plain_step-requires-2 t c =
    let some : 0 < c.args.width = has_bits c.args.width c.args.number c.requires.some c.requires.in_range in
    let low = Stands-kept c.times-2.ensures.continues c.in_ok-low.ensures.ok in
    let others = c.in_ok-others.ensures.ok in
    (omega (arith, others.width, some), omega (arith, others.width, low.width, some))

pub returns-clause-ok : goal.returns-clause-ok
returns-clause-ok t c =
    let w = c.args.width in
    let g = c.args.self.now in
    let number = c.args.number in
    let rest = c.other_digits.result in
    let some : 0 < w = has_bits w number c.requires.some c.requires.in_range in
    let odd : number % 2 ≡ 1 = omega (arith, c.if-number-eq0.false) in
    let top = sym c.is_minus_one.ensures ∙ c.if-is_minus_one.false in
    let operand = Stands-grown c.args.operand (width_of g c.args.operand) c.plain_step.ensures.continues refl (omega (arith, some, c.requires.wide)) in
    let low = Stands-kept c.times-2.ensures.continues c.in_ok-low.ensures.ok in
    let others = one_step (times (w - 1) 1 rest) (times_word (w - 1) 1 rest) operand c.in_ok-others.ensures.ok in
    let sum = at_width others.width (two_step (plain_binary c.digit_op.result) (binary c.digit_op.result) others low c.in_ok-sum.ensures.ok) in
    let wide : w - 1 + 1 ≡ w = omega (arith, some) in
    if_ok _ _ _ c.raised-2.ensures.ok (λ id n. raised_step w c.args.by number (λ input. val g c.args.operand input)
    sum wide (rw (c.digit_op.ensures, c.other_digits.ensures) (tree_digit w c.args.by number (tree_of g c.args.operand) some odd c.if-number-eq1.false top))
    (λ input bytes. rw (c.digit_op.ensures, c.other_digits.ensures) (word_digit w number (val g c.args.operand input) some odd)) n)
