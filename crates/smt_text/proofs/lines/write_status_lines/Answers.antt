use Rattle.std.proofs.Common.{◌≡◌, ◌++◌, ◌∙◌, ap, append_assoc, codes, inl, inr, refl, string_bytes, sym}
use Rattle.smt_text.specs.LeafLines.{status_lines}
use Rattle.smt_text.specs.Lines.{StatusLine, line_text, lines_text}
use Rattle.smt_text.proofs.TextLines.{no_lines, one_line}
use Rattle.text_parts.proofs.Made.{appended}
use Rattle.smt_text.proofs.lines.write_status_lines.Goals as goal

pub returns-in_ok-push_numbered-in-Exits : goal.returns-in_ok-push_numbered-in-Exits
returns-in_ok-push_numbered-in-Exits c =
    let old = string_bytes c.args.text.now in
    let line : string_bytes c.push_numbered.new.text ++ codes ")\n" ≡ old ++ line_text (StatusLine c.in-Exits.status) =
    simp (c.in_ok-push_numbered-in-Exits.ensures.ok, append_assoc) in
    record {
      ok = appended c.push_str.result (string_bytes c.push_numbered.new.text) _ (codes ")\n") _ c.push_str.ensures.bytes
          (line ∙ ap (λ t. old ++ t) (one_line (StatusLine c.in-Exits.status))
          ∙ ap (λ end. old ++ lines_text (status_lines end)) (sym c.in-Exits.is));
    }

pub returns-in-Traps : goal.returns-in-Traps
returns-in-Traps c = record {
  ok = let old = string_bytes c.args.text.now in
      no_lines old old refl
      ∙ elim c.in-Traps.is [ inl trap ↦ ap (λ end. old ++ lines_text (status_lines end)) (sym trap.1) | inr cut ↦ ap (λ end. old ++ lines_text (status_lines end)) (sym cut.1) ];
}
