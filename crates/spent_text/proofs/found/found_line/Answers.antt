use Rattle.std.proofs.Common.{◌≡◌, ◌∙◌, ◌++◌, List, ℕ, ap, append_assoc, codes, string_bytes}
use Rattle.std.specs.Int.{to_be_bytes, w32}
use Rattle.hex.specs.Hex.{encode_lower}
use Rattle.fork_spec.specs.Evidence.{Found}
use Rattle.text_parts.specs.Names.{eight_digits}
use Rattle.text_parts.proofs.Made.{made_text}
use Rattle.spent_text.proofs.found.found_line.Goals as goal

regroup : (v value s input e : List ℕ) → v ++ (value ++ (s ++ (input ++ e)))
    ≡ v ++ value ++ s ++ input ++ e
regroup v value s input e = simp append_assoc

pub returns : goal.returns
returns c =
    let found = c.args.found.now in
    let value : string_bytes c.in_ok-value.value ≡ eight_digits found.value =
    c.in_ok-value.ensures
    ∙ ap encode_lower (c.to_be_bytes.ensures ∙ ap (λ (f : Found). to_be_bytes w32 f.value) c.found.view_is) in
    let input : string_bytes c.in_ok-input.input ≡ encode_lower found.input =
    c.in_ok-input.ensures
    ∙ ap encode_lower (c.as_slice.ensures ∙ ap (λ (f : Found). f.input) c.found.view_is) in
    made_text c.format.result _ _ c.format.ensures.ok (rw (value, input) (regroup (codes "v ") (eight_digits found.value) (codes " ") (encode_lower found.input) (codes "\n")))
