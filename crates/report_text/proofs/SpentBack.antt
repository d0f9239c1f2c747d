-- Values that were spent are told by their text, and so is a number of nodes.
use Rattle.std.proofs.Common.{◌≡◌, ◌∙◌, ℕ, List, ◌++◌, Some, append_assoc, ap, arith, codes, decimal, length, refl, sym}
use Rattle.std.specs.List.{flat_map}
use Rattle.std.proofs.lemmas.List.{append_cancel_left}
use Rattle.std.proofs.lemmas.Option.{same_Some}
use Rattle.fork_spec.specs.Evidence.{Spent}
use Rattle.fork_spec.specs.Leaves.{IsSmall}
use Rattle.text_parts.specs.Pieces.{number, two}
use Rattle.text_parts.proofs.Words.{number_back, two_back}
use Rattle.spent_text.proofs.ListsBack.{lines_told}
use Rattle.spent_text.specs.FoundLine.{found_text}
use Rattle.spent_text.specs.Legible.{IsLegibleFound}
use Rattle.spent_text.proofs.FoundBack.{found_told, some_found}
use Rattle.report_text.specs.Legible.{IsLegibleSpent}
use Rattle.report_text.specs.Spent.{nodes_text, targets_text}

-- ---- all of it

heading_pieces : (h a n p b rest : List ℕ) → (((((h ++ a) ++ n) ++ p) ++ b) ++ n) ++ rest ≡ h ++ (a ++ ((n ++ p) ++ (b ++ (n ++ rest))))
heading_pieces h a n p b rest = simp append_assoc

-- the text behind its first word
abbrev behind_first : Spent → List ℕ
behind_first spent =
    decimal (length spent.found) ++ (codes "\n; term n" ++ (decimal spent.term ++ (codes "\n" ++ flat_map found_text spent.found)))

in_order : (spent : Spent) → targets_text spent ≡ codes "; spent targets " ++ behind_first spent
unfolding targets_text
in_order spent =
    heading_pieces (codes "; spent targets ") (decimal (length spent.found)) (codes "\n") (codes "; term n") (decimal spent.term) (flat_map found_text spent.found)

heading_back : (spent : Spent) → IsLegibleSpent spent →
    two (codes "\n; term n") (codes "\n") (behind_first spent) ≡ Some ((length spent.found, spent.term), flat_map found_text spent.found)
heading_back spent legible =
    two_back (codes "\n; term n") (codes "\n") (length spent.found) spent.term (flat_map found_text spent.found)
    (omega (arith, legible.0)) legible.1 refl refl

-- values of one text are the same
pub spent_told : (spent other : Spent) → IsLegibleSpent spent → IsLegibleSpent other → targets_text spent ≡ targets_text other → spent ≡ other
spent_told spent other legible also e =
    let text : behind_first spent ≡ behind_first other =
    append_cancel_left (codes "; spent targets ") (behind_first spent) (behind_first other) (sym (in_order spent) ∙ e ∙ in_order other) in
    let both : Some ((length spent.found, spent.term), flat_map found_text spent.found) ≡ Some ((length other.found, other.term), flat_map found_text other.found) =
    sym (heading_back spent legible) ∙ ap (two (codes "\n; term n") (codes "\n")) text ∙ heading_back other also in
    let pair = same_Some ((length spent.found, spent.term), flat_map found_text spent.found) ((length other.found, other.term), flat_map found_text other.found) both in
    let term : spent.term ≡ other.term = ap (λ (p : (ℕ × ℕ) × List ℕ). p.0.1) pair in
    let found : spent.found ≡ other.found =
    lines_told found_text IsLegibleFound found_told some_found spent.found other.found legible.2 also.2 (ap (λ (p : (ℕ × ℕ) × List ℕ). p.1) pair) in
    λ k. record { term = term k; found = found k }

-- ---- a number of nodes

-- numbers of one text are the same
pub nodes_told : (count other : ℕ) → IsSmall count → IsSmall other → nodes_text count ≡ nodes_text other → count ≡ other
unfolding nodes_text
nodes_told count other small also e =
    let text : decimal count ++ codes "\n" ≡ decimal other ++ codes "\n" =
    append_cancel_left (codes "; spent nodes ") (decimal count ++ codes "\n") (decimal other ++ codes "\n")
    (sym (append_assoc (codes "; spent nodes ") (decimal count) (codes "\n")) ∙ e ∙ append_assoc (codes "; spent nodes ") (decimal other) (codes "\n")) in
    let both : Some (count, codes "\n") ≡ Some (other, codes "\n") =
    sym (number_back count (codes "\n") (omega (arith, small)) refl) ∙ ap number text ∙ number_back other (codes "\n") (omega (arith, also)) refl in
    ap (λ (p : ℕ × List ℕ). p.0) (same_Some (count, codes "\n") (other, codes "\n") both)
