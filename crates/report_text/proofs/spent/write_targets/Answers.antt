use Rattle.std.proofs.Common.{◌≡◌, ◌∙◌, ◌++◌, ℕ, List, Vec, Global, ap, append_assoc, arith, codes, decimal, length, string_bytes}
use Rattle.std.specs.List.{flat_map}
use Rattle.fork_spec.specs.Evidence.{Spent}
use Rattle.spent_text.specs.FoundLine.{found_text}
use Rattle.report_text.specs.Spent.{targets_text}
use Rattle.report_text.proofs.spent.write_targets.Goals as goal

regroup : (a count n b term last : List ℕ) → a ++ (count ++ ((n ++ b) ++ (term ++ (n ++ last))))
    ≡ a ++ count ++ n ++ b ++ term ++ n ++ last
regroup a count n b term last = simp append_assoc

-- the text, from its parts
made_of : (spent : Spent) (a b c : List ℕ) → a ≡ decimal (length spent.found) →
    b ≡ decimal spent.term → c ≡ flat_map found_text spent.found →
    codes "; spent targets " ++ (a ++ (codes "\n; term n" ++ (b ++ (codes "\n" ++ c))))
    ≡ targets_text spent
unfolding targets_text
made_of spent a b c ea eb ec =
    rw (ea, eb, ec) (regroup (codes "; spent targets ") (decimal (length spent.found)) (codes "\n") (codes "; term n") (decimal spent.term) (flat_map found_text spent.found))

pub returns : goal.returns
returns c =
    let spent = c.args.spent.now in
    let many : c.len.result ≡ length spent.found =
    omega (arith, c.spent.inside.found.ok.0, c.len.ensures, ap (λ (s : Spent). length s.found) c.spent.view_is) in
    let count : c.format-count.result.now ≡ decimal (length spent.found) =
    c.format-count.ensures.text ∙ ap decimal many in
    let term : c.format-term.result.now ≡ decimal spent.term =
    c.format-term.ensures.text ∙ ap (λ (s : Spent). decimal s.term) c.spent.view_is in
    let lines : string_bytes c.in_ok-lines.lines ≡ flat_map found_text spent.found =
    c.in_ok-lines.ensures
    ∙ ap (flat_map found_text) (c.deref.ensures.value ∙ ap (λ (s : Spent). s.found) c.spent.view_is) in
    c.from_vec.ensures ∙ ap (λ (v : Vec ℕ Global). v.items) c.into_bytes.ensures.value
    ∙ c.in_ok-text.ensures.ok
    ∙ made_of spent _ _ _ count term lines
