use Rattle.std.proofs.Common.{rules, arith, ◌≡◌, ◌≤◌, None, Some, drop, get_or, length, take}
use Rattle.text_parts.specs.Digits.{hex_number}
use Rattle.elf_load.specs.Regions.{put_first}
use Rattle.test_files.specs.Forms.{branch_of, path_of}
use Rattle.test_files.proofs.PathForms.{branch_at, short_at, target_at, with_address, with_branch}
use Rattle.test_files.proofs.path_form.read_step.Goals.{then-text-ne64-via-then-text-ne64, then-text-ne64-via-else-text-ne64+then-text-lt9}
use Rattle.test_files.proofs.path_form.read_step.Goals as goal

pub returns-in_err-read_branch-clause-cases : goal.returns-in_err-read_branch-clause-cases
returns-in_err-read_branch-clause-cases c =
    let text = c.args.text.now in
    let alone : path_of text ≡ put_first (branch_of (get_or text 0 0)) (path_of (drop 1 text)) =
    elim c.then-text-ne64.branch [
      | then-text-ne64-via-then-text-ne64 w ↦ search (rules, branch_at text)
      | then-text-ne64-via-else-text-ne64+then-text-lt9 w ↦ search (rules, short_at text)
    ] in
    let letter : branch_of (get_or text 0 0) ≡ None = search rules in
    let none : path_of text ≡ None = with_branch text None alone letter in
    search (rules, none)

pub returns-then-text-ne64-clause-cases : goal.returns-then-text-ne64-clause-cases
returns-then-text-ne64-clause-cases c =
    let text = c.args.text.now in
    let alone : path_of text ≡ put_first (branch_of (get_or text 0 0)) (path_of (drop 1 text)) =
    elim c.then-text-ne64.branch [
      | then-text-ne64-via-then-text-ne64 w ↦ search (rules, branch_at text)
      | then-text-ne64-via-else-text-ne64+then-text-lt9 w ↦ search (rules, short_at text)
    ] in
    let letter : branch_of (get_or text 0 0) ≡ Some c.in_ok-read_branch.field-0 = search rules in
    with_branch text (Some c.in_ok-read_branch.field-0) alone letter

pub returns-in_err-target-clause-cases : goal.returns-in_err-target-clause-cases
returns-in_err-target-clause-cases c =
    let text = c.args.text.now in
    let enough : 9 ≤ length text = search (rules, arith) in
    let first : get_or text 0 0 ≡ 64 = search rules in
    let digits : hex_number (take 8 (drop 1 text)) ≡ None = search rules in
    let none : path_of text ≡ None = with_address text None (target_at text enough first) digits in
    search (rules, none)

pub returns-clause-cases : goal.returns-clause-cases
returns-clause-cases c =
    let text = c.args.text.now in
    let enough : 9 ≤ length text = search (rules, arith) in
    let first : get_or text 0 0 ≡ 64 = search rules in
    let digits : hex_number (take 8 (drop 1 text)) ≡ Some c.in_ok-target.target = search rules in
    with_address text (Some c.in_ok-target.target) (target_at text enough first) digits
