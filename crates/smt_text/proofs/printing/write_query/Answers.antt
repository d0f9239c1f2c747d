use Rattle.std.proofs.Common.{◌≡◌, ◌++◌, ◌∷◌, ◌∙◌, [], ap, codes, map, string_bytes}
use Rattle.smt_text.specs.LeafLines.{assertions, query_lines, query_text, term_lines}
use Rattle.smt_text.specs.Lines.{AssertLine, CheckLine, ExitLine, lines_text}
use Rattle.text_parts.proofs.Made.{appended, pushed}
use Rattle.smt_text.proofs.TextParts.{behind_text, check_text}
use Rattle.smt_text.proofs.printing.write_query.Goals as goal

pub returns : goal.returns
unfolding query_text query_lines
returns c =
    let condition = c.args.condition.now in
    let terms : lines_text (term_lines c.dag.result.now) ≡ lines_text (term_lines condition.graph) =
    ap (λ g. lines_text (term_lines g)) c.dag.ensures in
    let asserted : lines_text (map AssertLine c.asserted.result.now) ≡ lines_text (assertions condition) =
    ap (λ ids. lines_text (map AssertLine ids)) c.asserted.ensures.value in
    record {
      ok = appended c.push_str.result (string_bytes c.write_assert_lines.new.text) _ (codes "(check-sat)\n(exit)\n") _ c.push_str.ensures.bytes
          (ap (λ t. string_bytes c.write_assert_lines.new.text ++ t) check_text
          ∙ behind_text (term_lines condition.graph) (assertions condition) (CheckLine ∷ ExitLine ∷ []) _ _ _
          (pushed _ _ _ _ c.in_ok-write_terms.ensures.ok terms) (pushed _ _ _ _ c.in_ok-write_assert_lines.ensures.ok asserted));
    }
