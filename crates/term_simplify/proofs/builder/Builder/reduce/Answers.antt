use Rattle.std.proofs.Common.{◌≡◌, ◌∙◌, ◌+◌, ◌-◌, sym, arith}
use Rattle.bv_dag.specs.BitVectors.{ite}
use Rattle.term_simplify.specs.Plain.{plain_choice}
use Rattle.term_simplify.proofs.Stepping.{Stands-grown, Stands-kept, at_width, extract_step, three_step}
use Rattle.term_simplify.proofs.builder.Builder.reduce.Goals as goal

pub plain_step-requires-2 : goal.plain_step-requires-2
plain_step-requires-2 c =
    let a = Stands-kept c.plain_step.ensures.continues
    (Stands-grown c.args.a (c.args.d.bits + 1) c.less_divisor.ensures.continues c.requires.wide (omega arith)) in
    (omega arith, omega (arith, a.width, c.requires.dividend.some))

pub plain_step-requires-3 : goal.plain_step-requires-3
plain_step-requires-3 c =
    let difference = Stands-kept c.plain_step-2.ensures.continues (Stands-kept c.plain_step.ensures.continues c.in_ok-difference.ensures.ok) in
    (omega arith, omega (arith, difference.width, c.requires.dividend.some))

pub plain_step-requires-4 : goal.plain_step-requires-4
plain_step-requires-4 c =
    let borrow = Stands-kept c.plain_step-3.ensures.continues (Stands-kept c.plain_step-2.ensures.continues c.in_ok-borrow.ensures.ok) in
    let kept = Stands-kept c.plain_step-3.ensures.continues c.in_ok-kept.ensures.ok in
    (omega (arith, borrow.width), omega (arith, kept.width), kept.width ∙ sym c.in_ok-less.ensures.ok.width)

pub returns-clause-borrow : goal.returns-clause-borrow
returns-clause-borrow c =
    let k = c.args.d.bits in
    Stands-kept c.plain_step-4.ensures.continues (Stands-kept c.plain_step-3.ensures.continues (Stands-kept c.plain_step-2.ensures.continues
    (extract_step k k 1 (omega arith) c.in_ok-difference.ensures.ok c.in_ok-borrow.ensures.ok)))

pub returns-clause-remainder : goal.returns-clause-remainder
returns-clause-remainder c =
    let k = c.args.d.bits in
    let wide : k ≡ k - 1 - 0 + 1 = omega (arith, c.requires.dividend.some) in
    let a = Stands-kept c.plain_step.ensures.continues (Stands-grown c.args.a (k + 1) c.less_divisor.ensures.continues c.requires.wide (omega arith)) in
    let difference = Stands-kept c.plain_step-2.ensures.continues (Stands-kept c.plain_step.ensures.continues c.in_ok-difference.ensures.ok) in
    let borrow = Stands-kept c.plain_step-3.ensures.continues (Stands-kept c.plain_step-2.ensures.continues
    (extract_step k k 1 (omega arith) c.in_ok-difference.ensures.ok c.in_ok-borrow.ensures.ok)) in
    let kept = Stands-kept c.plain_step-3.ensures.continues (extract_step (k - 1) 0 k wide a c.in_ok-kept.ensures.ok) in
    let less = extract_step (k - 1) 0 k wide difference c.in_ok-less.ensures.ok in
    at_width kept.width (three_step plain_choice ite borrow kept less c.in_ok-remainder.ensures.ok)
