use Rattle.std.proofs.Common.{rules, arith, ◌<◌, get_or}
use Rattle.std.specs.Char.{digit_value}
use Rattle.std.proofs.lemmas.Int.Digits.{digits_more, digits_value_more}
use Rattle.tool_words.proofs.Numbers.{number_absent, number_there, room}
use Rattle.tool_words.proofs.region.read_number.Goals as goal

pub overflow_mul-value : goal.overflow_mul-value
overflow_mul-value c =
    let fits = room c.args.base c.args.digits.now c.loop-digit.digit-index c.requires.most c.loop-digit.invariant.0 (search rules) c.requires.short in
    search (rules, arith, fits)

pub returns-in_err-value : goal.returns-in_err-value
returns-in_err-value c =
    let no : digit_value (get_or c.args.digits.now c.loop-digit.digit-index 0) < c.args.base → ⊥ = search (rules, c.in_err-value.ensures.value) in
    search (rules, number_absent c.args.base c.args.digits.now c.loop-digit.digit-index (search rules) (omega (arith, no)))

pub overflow_add-value : goal.overflow_add-value
overflow_add-value c =
    let fits = room c.args.base c.args.digits.now c.loop-digit.digit-index c.requires.most c.loop-digit.invariant.0 (search rules) c.requires.short in
    let below : c.in_ok-value.field-0 < c.args.base = search (rules, c.in_ok-value.ensures.value) in
    search (rules, arith, fits, below, c.requires.most)

pub loop-digit-preserved : goal.loop-digit-preserved
loop-digit-preserved c = (
  digits_more c.args.base c.args.digits.now c.loop-digit.digit-index (search rules) c.loop-digit.invariant.0 (search (rules, c.in_ok-value.ensures.value)),
  search (rules, digits_value_more c.args.base c.args.digits.now c.loop-digit.digit-index (search rules), c.in_ok-value.ensures.value),
)

pub returns : goal.returns
returns c = search (rules, number_there c.args.base c.args.digits.now c.loop-digit.digit-index)
