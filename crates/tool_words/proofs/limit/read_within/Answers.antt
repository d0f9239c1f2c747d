use Rattle.std.proofs.Common.{rules, ◌≡◌, ◌≢◌, ◌<◌, arith, length, get_or, Some, None, Ok}
use Rattle.std.proofs.lemmas.Bool.Decides.{nat_tests}
use Rattle.std.specs.Result.{result_ok}
use Rattle.tool_words.specs.Limits.{within}
use Rattle.tool_words.proofs.PlainNumbers.{at_least_one, in_limit, not_parsed, nothing_said, out_of_limit, parsed, plus_first, zero_first}
use Rattle.tool_words.proofs.limit.read_within.Goals.{then-is_empty-via-then-is_empty, then-is_empty-via-else-is_empty+then-digits-eq43, then-is_empty-via-else-is_empty+else-digits-eq43+then-digits-eq48}
use Rattle.tool_words.proofs.limit.read_within.Goals as goal

pub returns-then-is_empty : goal.returns-then-is_empty
returns-then-is_empty c =
    elim c.then-is_empty.branch [
      | then-is_empty-via-then-is_empty w ↦ search (rules, nothing_said c.args.limit c.args.value.now)
      | then-is_empty-via-else-is_empty+then-digits-eq43 w ↦ search (rules, plus_first c.args.limit c.args.value.now)
      | then-is_empty-via-else-is_empty+else-digits-eq43+then-digits-eq48 w ↦ search (rules, zero_first c.args.limit c.args.value.now)
    ]

pub returns-in_err-number : goal.returns-in_err-number
returns-in_err-number c =
    let some : 0 < length c.args.value.now = search (rules, arith, c.if-is_empty.false) in
    let no_plus : get_or c.args.value.now 0 0 ≢ 43 = search rules in
    let no_zero : get_or c.args.value.now 0 0 ≢ 48 = search rules in
    let none : result_ok c.parse.result ≡ None = search (rules, c.ok.ensures.value, c.in_err-number.was) in
    search (rules, not_parsed c.args.value.now c.parse.result c.parse.ensures.value.0 some no_plus no_zero c.args.limit (search rules) none)

pub returns-then-limit-number : goal.returns-then-limit-number
returns-then-limit-number c =
    let some : 0 < length c.args.value.now = search (rules, arith, c.if-is_empty.false) in
    let no_plus : get_or c.args.value.now 0 0 ≢ 43 = search rules in
    let no_zero : get_or c.args.value.now 0 0 ≢ 48 = search rules in
    let is : c.parse.result ≡ Ok c.in_ok-number.number = search rules in
    let plain = parsed c.args.value.now c.parse.result c.parse.ensures.value.0 some no_plus no_zero c.in_ok-number.number is in
    let over : c.args.limit.most < c.in_ok-number.number = search rules in
    let out : within c.args.limit c.in_ok-number.number ≡ None = grind (arith, nat_tests, over) in
    search (rules, out_of_limit c.args.limit c.args.value.now c.in_ok-number.number plain out)

pub returns : goal.returns
returns c =
    let some : 0 < length c.args.value.now = search (rules, arith, c.if-is_empty.false) in
    let no_plus : get_or c.args.value.now 0 0 ≢ 43 = search rules in
    let no_zero : get_or c.args.value.now 0 0 ≢ 48 = search rules in
    let is : c.parse.result ≡ Ok c.in_ok-number.number = search rules in
    let plain = parsed c.args.value.now c.parse.result c.parse.ensures.value.0 some no_plus no_zero c.in_ok-number.number is in
    let least = at_least_one c.args.value.now c.parse.result c.parse.ensures.value.0 some no_plus no_zero c.in_ok-number.number is in
    let inside : within c.args.limit c.in_ok-number.number ≡ Some c.in_ok-number.number = grind (arith, nat_tests, least, c.if-limit-number.false) in
    search (rules, in_limit c.args.limit c.args.value.now c.in_ok-number.number plain inside)
