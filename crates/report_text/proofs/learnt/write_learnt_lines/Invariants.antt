use Rattle.std.proofs.Common.{◌≡◌, ◌++◌, string_bytes, take}
use Rattle.std.specs.Prelude.{All}
use Rattle.std.specs.List.{flat_map}
use Rattle.spent_text.specs.LearntLine.{learnt_line}
use Rattle.spent_text.specs.Legible.{HasSmallNumbers}
use Rattle.report_text.proofs.learnt.write_learnt_lines.Given as goal

abbrev pub invariant-loop-step : goal.invariant-loop-step
invariant-loop-step l = record {
  written : string_bytes l.text ≡ string_bytes l.fn.text ++ flat_map learnt_line (take l.step-index l.log);
  small : All HasSmallNumbers (take l.step-index l.log);
}
