use Rattle.std.proofs.Common.{◌≡◌, ◌∙◌, ◌++◌, ℕ, List, codes, decimal, ap, Vec, Global, string_bytes}
use Rattle.std.proofs.Common.{◌≡◌, ◌∙◌, ℕ, List, ◌++◌, ap, append_assoc, codes, decimal}
use Rattle.tool_top.specs.Lines.{program_refused}
use Rattle.tool_top.proofs.refusals.program_refused.Goals as goal

pub returns : goal.returns
returns c =
    let number = c.args.number in
    let name : List ℕ = c.args.name.now in
    let line : string_bytes c.in_ok-line.line ≡ codes "program refused " ++ (decimal number ++ (codes " " ++ (name ++ codes "\n"))) =
    c.in_ok-line.ensures.ok ∙ ap (λ digits. codes "program refused " ++ (digits ++ (codes " " ++ (name ++ codes "\n")))) c.format-number.ensures.text in
    let flat : codes "program refused " ++ (decimal number ++ (codes " " ++ (name ++ codes "\n"))) ≡ program_refused number name = simp append_assoc in
    ap (λ (v : Vec ℕ Global). v.items) c.into_bytes.ensures.value ∙ line ∙ flat
