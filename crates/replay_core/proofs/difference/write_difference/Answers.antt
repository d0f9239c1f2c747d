use Rattle.std.proofs.Common.{◌≡◌, ◌∙◌, ◌++◌, ap, codes, string_bytes}
use Rattle.std.specs.Prelude.{decimal}
use Rattle.text_parts.specs.Names.{path_text}
use Rattle.replay_core.proofs.Telling.{joined, of_run}
use Rattle.replay_core.proofs.difference.write_difference.Goals as goal

pub returns : goal.returns
returns c =
    let ran = c.args.ran.now in
    let first : string_bytes c.in_ok-text.text ≡ codes "differs\nend " ++ (string_bytes c.in_ok-end.end ++ (codes "\nsteps " ++ (decimal ran.steps ++ codes "\npath "))) =
    c.in_ok-text.ensures.ok ∙ ap (λ steps. codes "differs\nend " ++ (string_bytes c.in_ok-end.end ++ (codes "\nsteps " ++ (steps ++ codes "\npath ")))) c.format-steps.ensures.text in
    let last : string_bytes c.write.new.self ≡ string_bytes c.write_path.new.text ++ (codes ".\noutput " ++ (string_bytes c.in_ok-output.output ++ codes ".\n")) = c.in_ok-write.ensures.bytes in
    λ r is. c.from_vec.ensures ∙ ap (λ v. v.items) c.into_bytes.ensures.value
    ∙ joined ran (string_bytes c.in_ok-end.end) (string_bytes c.in_ok-output.output) (string_bytes c.in_ok-text.text) (string_bytes c.write_path.new.text) (string_bytes c.write.new.self)
    c.in_ok-end.ensures c.in_ok-output.ensures first (c.in_ok-write_path.ensures.ok ∙ ap (λ path. string_bytes c.in_ok-text.text ++ path_text path) c.deref.ensures.value) last ∙ of_run ran r is
