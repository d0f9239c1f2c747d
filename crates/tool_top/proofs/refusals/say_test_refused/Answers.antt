use Rattle.std.proofs.Common.{◌≡◌, ◌∙◌, ◌++◌, ℕ, List, Vec, Global, ap, append_assoc, codes, decimal, string_bytes}
use Rattle.test_files.specs.Refusals.{test_refused_number}
use Rattle.tool_top.proofs.refusals.say_test_refused.Goals as goal

flat : (a number b name c : List ℕ) → a ++ (number ++ (b ++ (name ++ c))) ≡ a ++ number ++ b ++ name ++ c
flat a number b name c = simp append_assoc

pub returns : goal.returns
returns c =
    let line : string_bytes c.in_ok-line.line ≡ codes "test refused " ++ (decimal c.number.result ++ (codes " " ++ (c.name-name.result.now ++ codes "\n"))) =
    c.in_ok-line.ensures.ok ∙ ap (λ digits. codes "test refused " ++ (digits ++ (codes " " ++ (c.name-name.result.now ++ codes "\n")))) c.format-number.ensures.text in
    ap (λ (v : Vec ℕ Global). v.items) c.into_bytes.ensures.value ∙ line ∙ flat (codes "test refused ") (decimal c.number.result) (codes " ") c.name-name.result.now (codes "\n")
    ∙ ap (λ number. codes "test refused " ++ decimal number ++ codes " " ++ c.name-name.result.now ++ codes "\n") c.number.ensures
    ∙ ap (λ name. codes "test refused " ++ decimal (test_refused_number c.args.why) ++ codes " " ++ name ++ codes "\n") c.name-name.ensures
