use Rattle.std.proofs.Common.{[], Err, sym, ◌∙◌, ap}
use Rattle.tool_io.proofs.Deeds.{after-nothing, IsPrefix-nothing}
use Rattle.tool_top.proofs.upgrading.plan_upgrade.Goals as goal

pub returns-in-Err-NoMemory-clause-err : goal.returns-in-Err-NoMemory-clause-err
returns-in-Err-NoMemory-clause-err g c = record {
  names = [];
  begins = IsPrefix-nothing _;
  changes = c.in-Err-NoMemory.ensures.no_memory (ap Err c.in-Err-NoMemory.field-0-is) ∙ sym (after-nothing _);
}
