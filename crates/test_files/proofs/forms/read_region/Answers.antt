use Rattle.std.proofs.Common.{rules, ◌≡◌, ◌==◌, true, take, drop, get_or, Some, None}
use Rattle.text_parts.specs.Digits.{hex_number}
use Rattle.test_files.specs.Forms.{short_number}
use Rattle.test_files.proofs.RegionForms.{no_colon, no_start, too_short, region_there, to_end}
use Rattle.test_files.proofs.forms.read_region.Goals.{then-text-lt9-via-then-text-lt9, then-text-lt9-via-else-text-lt9+then-text-ne58}
use Rattle.test_files.proofs.forms.read_region.Goals as goal

pub returns-then-text-lt9 : goal.returns-then-text-lt9
returns-then-text-lt9 c =
    elim c.then-text-lt9.branch [
      | then-text-lt9-via-then-text-lt9 w ↦ search (rules, too_short c.args.text.now)
      | then-text-lt9-via-else-text-lt9+then-text-ne58 w ↦ search (rules, no_colon c.args.text.now)
    ]

pub returns-in_err-start : goal.returns-in_err-start
returns-in_err-start c =
    let colon : (get_or c.args.text.now 8 0 == 58) ≡ true = search rules in
    let start : hex_number (take 8 c.args.text.now) ≡ None = search rules in
    search (rules, no_start c.args.text.now colon start)

pub returns-in_err-count : goal.returns-in_err-count
returns-in_err-count c =
    let colon : (get_or c.args.text.now 8 0 == 58) ≡ true = search rules in
    let start : hex_number (take 8 c.args.text.now) ≡ Some c.in_ok-start.start = search rules in
    let count : short_number (drop 9 c.args.text.now) ≡ None = search (rules, to_end c.args.text.now 9) in
    search (rules, region_there c.args.text.now (Some c.in_ok-start.start) None colon start count)

pub returns : goal.returns
returns c =
    let colon : (get_or c.args.text.now 8 0 == 58) ≡ true = search rules in
    let start : hex_number (take 8 c.args.text.now) ≡ Some c.in_ok-start.start = search rules in
    let count : short_number (drop 9 c.args.text.now) ≡ Some c.in_ok-count.count = search (rules, to_end c.args.text.now 9) in
    region_there c.args.text.now (Some c.in_ok-start.start) (Some c.in_ok-count.count) colon start count
