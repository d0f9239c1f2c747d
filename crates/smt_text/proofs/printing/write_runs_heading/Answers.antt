use Rattle.std.proofs.Common.{codes, string_bytes}
use Rattle.text_parts.proofs.Made.{appended}
use Rattle.smt_text.proofs.TextParts.{runs_text}
use Rattle.smt_text.proofs.printing.write_runs_heading.Goals as goal

pub returns : goal.returns
returns c = record {
  ok = appended c.push_str-7.result (string_bytes c.push_str-6.new.self) _ (codes "\n") _ c.push_str-7.ensures.bytes
      (runs_text c.args.choices.now c.args.path.now c.args.steps c.args.end _ _ _ _ _ _ _ _ _ _ _ _
      c.kind_name.ensures c.end_name.ensures
      c.in_ok-push_str.ensures.bytes c.in_ok-push_str-2.ensures.bytes c.in_ok-push_str-3.ensures.bytes c.in_ok-write_choices.ensures.ok c.in_ok-push_str-4.ensures.bytes c.in_ok-write_path.ensures.ok
      c.in_ok-push_numbered.ensures.ok c.in_ok-push_str-5.ensures.bytes c.in_ok-push_str-6.ensures.bytes);
}
