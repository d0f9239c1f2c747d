use Rattle.std.proofs.Common.{rules, arith, ◌≡◌, ◌∙◌, sym, ap, ◌+◌, ◌*◌, ◌<◌, ◌^◌, length, get_or, take, Some, false}
use Rattle.std.specs.Str.Parse.{digits_value}
use Rattle.std.proofs.lemmas.Int.Digits.{digits_value_more}
use Rattle.text_parts.specs.Digits.{has_leading_zero}
use Rattle.std.proofs.lemmas.Str.{digit_value_digit}
use Rattle.std.proofs.lemmas.Str.Parse.{digit_at}
use Rattle.leaf_reader.proofs.CursorSteps.{no_digits, overflows, whole_number, zero_leads}
use Rattle.leaf_reader.proofs.cursor.plain_number.Goals.{then-is_empty-via-then-is_empty, then-is_empty-via-else-is_empty+then-has_leading_zero}
use Rattle.leaf_reader.proofs.cursor.plain_number.Goals as goal

pub returns-then-is_empty : goal.returns-then-is_empty
returns-then-is_empty c =
    elim c.then-is_empty.branch [
      | then-is_empty-via-then-is_empty w ↦ search (rules, no_digits c.args.digits.now)
      | then-is_empty-via-else-is_empty+then-has_leading_zero w ↦ search (rules, zero_leads c.args.digits.now)
    ]

pub overflow_sub-digit : goal.overflow_sub-digit
overflow_sub-digit c =
    let digit = digit_at c.args.digits.now c.loop-digit.digit-index c.requires c.loop-digit-test.true in
    omega (arith, digit.0)

pub returns-in_err-checked_mul : goal.returns-in_err-checked_mul
returns-in_err-checked_mul c =
    let no : c.loop-digit.value * 10 < 2 ^ 64 → ⊥ = c.in_err-checked_mul.ensures in
    let same : c.loop-digit.value ≡ digits_value 10 (take c.loop-digit.digit-index c.args.digits.now) = c.loop-digit.invariant.0 in
    c.from_residual.ensures
    ∙ sym (overflows c.args.digits.now c.loop-digit.digit-index c.loop-digit-test.true (omega (arith, no, same)))

pub returns-in_err-value : goal.returns-in_err-value
returns-in_err-value c =
    let digit = digit_at c.args.digits.now c.loop-digit.digit-index c.requires c.loop-digit-test.true in
    let value = digit_value_digit (get_or c.args.digits.now c.loop-digit.digit-index 0) digit in
    let no : c.in_ok-checked_mul.field-0 + c.from.result < 2 ^ 64 → ⊥ = c.in_err-value.ensures in
    let ten : (c.loop-digit.value * 10 < 2 ^ 64) × (c.in_ok-checked_mul.field-0 ≡ c.loop-digit.value * 10) = c.in_ok-checked_mul.ensures in
    let same : c.loop-digit.value ≡ digits_value 10 (take c.loop-digit.digit-index c.args.digits.now) = c.loop-digit.invariant.0 in
    c.from_residual-in_err-value.ensures
    ∙ sym (overflows c.args.digits.now c.loop-digit.digit-index c.loop-digit-test.true (omega (arith, no, ten.1, same, value, c.from.ensures)))

pub loop-digit-preserved : goal.loop-digit-preserved
loop-digit-preserved c =
    let digit = digit_at c.args.digits.now c.loop-digit.digit-index c.requires c.loop-digit-test.true in
    let value = digit_value_digit (get_or c.args.digits.now c.loop-digit.digit-index 0) digit in
    let ten : (c.loop-digit.value * 10 < 2 ^ 64) × (c.in_ok-checked_mul.field-0 ≡ c.loop-digit.value * 10) = c.in_ok-checked_mul.ensures in
    let sum : (c.in_ok-checked_mul.field-0 + c.from.result < 2 ^ 64) × (c.in_ok-value.value ≡ c.in_ok-checked_mul.field-0 + c.from.result) = c.in_ok-value.ensures in
    let same : c.loop-digit.value ≡ digits_value 10 (take c.loop-digit.digit-index c.args.digits.now) = c.loop-digit.invariant.0 in
    let more = digits_value_more 10 c.args.digits.now c.loop-digit.digit-index c.loop-digit-test.true in
    (omega (arith, more, same, ten.1, sum.1, value, c.from.ensures), omega (arith, sum.0, sum.1))

pub returns : goal.returns
returns c =
    let some : 0 < length c.args.digits.now = search (rules, arith, c.if-is_empty.false) in
    let leads : has_leading_zero c.args.digits.now ≡ false = search rules in
    let same : c.loop-digit.value ≡ digits_value 10 (take c.loop-digit.digit-index c.args.digits.now) = c.loop-digit.invariant.0 in
    ap Some same
    ∙ sym (whole_number c.args.digits.now c.loop-digit.digit-index some leads c.loop-digit-test.false (omega (arith, same, c.loop-digit.invariant.1)))
