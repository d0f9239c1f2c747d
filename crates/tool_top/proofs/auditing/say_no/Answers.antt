use Rattle.std.proofs.Common.{◌≡◌, ◌∙◌, ◌++◌, ℕ, List, Vec, Global, ap, append_assoc, codes, decimal}
use Rattle.cert_query.specs.Faults.{number_of}
use Rattle.tool_top.proofs.auditing.say_no.Goals as goal

-- the line, from its numbers
made_of : (at number : ℕ) (a b : List ℕ) → a ≡ decimal at → b ≡ decimal number
    → codes "audit no " ++ (a ++ (codes " " ++ (b ++ codes "\n"))) ≡ codes "audit no " ++ decimal at ++ codes " " ++ decimal number ++ codes "\n"
made_of at number a b ea eb = rw (ea, eb) (simp append_assoc)

pub returns : goal.returns
returns c =
    ap (λ (v : Vec ℕ Global). v.items) c.into_bytes.ensures.value
    ∙ c.in_ok-line.ensures.ok
    ∙ made_of c.args.at (number_of c.args.reason) _ _ c.format-at_line.ensures.text (c.format-number.ensures.text ∙ ap decimal c.number.ensures)
