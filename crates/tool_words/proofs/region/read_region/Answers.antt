use Rattle.std.proofs.Common.{rules, ◌≡◌, true, take, drop, Some, None}
use Rattle.tool_words.specs.Region.{has_colon, digits_number, region_said}
use Rattle.tool_words.proofs.Numbers.{region_there, to_end}
use Rattle.tool_words.proofs.region.read_region.Goals as goal

pub returns-then-word-lt10 : goal.returns-then-word-lt10
unfolding region_said
returns-then-word-lt10 c = search rules

pub returns-in_err-start : goal.returns-in_err-start
unfolding region_said
returns-in_err-start c = search rules

pub returns-in_err-count : goal.returns-in_err-count
returns-in_err-count c =
    let colon : has_colon c.args.word.now ≡ true = search rules in
    let start : digits_number 16 (take 8 c.args.word.now) ≡ Some c.in_ok-start.start = search rules in
    let count : digits_number 10 (drop 9 c.args.word.now) ≡ None = search (rules, to_end c.args.word.now 9) in
    search (rules, region_there c.args.word.now (Some c.in_ok-start.start) None colon start count)

pub returns : goal.returns
returns c =
    let colon : has_colon c.args.word.now ≡ true = search rules in
    let start : digits_number 16 (take 8 c.args.word.now) ≡ Some c.in_ok-start.start = search rules in
    let count : digits_number 10 (drop 9 c.args.word.now) ≡ Some c.in_ok-count.count = search (rules, to_end c.args.word.now 9) in
    region_there c.args.word.now (Some c.in_ok-start.start) (Some c.in_ok-count.count) colon start count
