use Rattle.std.proofs.Common.{rules, length}
use Rattle.test_files.proofs.InputChecks.{all_checked, empty_checked, none_checked}
use Rattle.test_files.proofs.inputs.have_input.Goals.{then-not-is_empty, else-not-is_empty}
use Rattle.test_files.proofs.inputs.have_input.Goals as goal

pub returns-then-none_is_empty : goal.returns-then-none_is_empty
returns-then-none_is_empty c =
    elim c.if-not-is_empty.branch [
      | then-not-is_empty w ↦ search (rules, all_checked c.args.regions.now (length c.args.input.now) c.requires)
      | else-not-is_empty w ↦ search rules
    ]

pub returns-else-none_is_empty : goal.returns-else-none_is_empty
returns-else-none_is_empty c =
    elim c.if-not-is_empty.branch [
      | then-not-is_empty w ↦ search (rules, empty_checked c.args.regions.now)
      | else-not-is_empty w ↦ search (rules, none_checked c.args.regions.now)
    ]
