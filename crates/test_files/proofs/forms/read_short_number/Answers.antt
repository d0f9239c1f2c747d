use Rattle.std.proofs.Common.{rules, arith, ◌<◌, ◌≤◌, ◌≡◌, false, get_or, length}
use Rattle.std.specs.Char.{digit_value}
use Rattle.std.proofs.lemmas.Int.Digits.{digits_more, digits_value_more}
use Rattle.text_parts.specs.Digits.{has_leading_zero}
use Rattle.test_files.proofs.ShortNumbers.{short_absent, short_there, nothing, room, too_long, zero_first}
use Rattle.test_files.proofs.forms.read_short_number.Goals.{then-is_empty-via-then-is_empty, then-is_empty-via-else-is_empty+then-digits-gt-MOST_DIGITS, then-is_empty-via-else-is_empty+else-digits-gt-MOST_DIGITS+then-has_leading_zero}
use Rattle.test_files.proofs.forms.read_short_number.Goals as goal

pub returns-then-is_empty : goal.returns-then-is_empty
returns-then-is_empty c =
    elim c.then-is_empty.branch [
      | then-is_empty-via-then-is_empty w ↦ search (rules, nothing c.args.digits.now)
      | then-is_empty-via-else-is_empty+then-digits-gt-MOST_DIGITS w ↦ search (rules, too_long c.args.digits.now)
      | then-is_empty-via-else-is_empty+else-digits-gt-MOST_DIGITS+then-has_leading_zero w ↦ search (rules, arith, zero_first c.args.digits.now)
    ]

pub overflow_mul-value : goal.overflow_mul-value
overflow_mul-value c =
    let short : length c.args.digits.now ≤ 4 = search (rules, arith) in
    let fits = room c.args.digits.now c.loop-digit.digit-index c.loop-digit.invariant.0 (search rules) short in
    search (rules, arith, fits)

pub returns-in_err-value : goal.returns-in_err-value
returns-in_err-value c =
    let some : 1 ≤ length c.args.digits.now = search (rules, arith) in
    let short : length c.args.digits.now ≤ 4 = search (rules, arith) in
    let plain : has_leading_zero c.args.digits.now ≡ false = search rules in
    let no : digit_value (get_or c.args.digits.now c.loop-digit.digit-index 0) < 10 → ⊥ = search (rules, c.in_err-value.ensures.value) in
    search (rules, short_absent c.args.digits.now c.loop-digit.digit-index (search rules) (omega (arith, no)) some short plain)

pub overflow_add-value : goal.overflow_add-value
overflow_add-value c =
    let short : length c.args.digits.now ≤ 4 = search (rules, arith) in
    let fits = room c.args.digits.now c.loop-digit.digit-index c.loop-digit.invariant.0 (search rules) short in
    let below : c.in_ok-value.field-0 < 10 = search (rules, c.in_ok-value.ensures.value) in
    search (rules, arith, fits, below)

pub loop-digit-preserved : goal.loop-digit-preserved
loop-digit-preserved c = (
  digits_more 10 c.args.digits.now c.loop-digit.digit-index (search rules) c.loop-digit.invariant.0 (search (rules, c.in_ok-value.ensures.value)),
  search (rules, digits_value_more 10 c.args.digits.now c.loop-digit.digit-index (search rules), c.in_ok-value.ensures.value),
)

pub returns : goal.returns
returns c =
    let some : 1 ≤ length c.args.digits.now = search (rules, arith) in
    let short : length c.args.digits.now ≤ 4 = search (rules, arith) in
    let plain : has_leading_zero c.args.digits.now ≡ false = search rules in
    search (rules, short_there c.args.digits.now c.loop-digit.digit-index some short plain)
