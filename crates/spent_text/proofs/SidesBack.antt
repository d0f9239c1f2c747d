-- Sides are told by their text.
use Rattle.std.proofs.Common.{◌≡◌, ◌∙◌, ℕ, List, ◌++◌, Option, None, Some, ap, codes, refl}
use Rattle.std.specs.Prelude.{All}
use Rattle.std.proofs.lemmas.List.{append_cancel_left}
use Rattle.tree_core.specs.declared.cause.Cause.{Cause}
use Rattle.tree_core.specs.declared.cause.Cause.TheVariants.{Steps, Targets, Conflicts, Nodes}
use Rattle.tree_core.specs.Choices.{IsSmallChoice}
use Rattle.fork_spec.specs.Walks.{Side}
use Rattle.text_parts.specs.Names.{choice_text}
use Rattle.text_parts.specs.Pieces.{behind, named}
use Rattle.text_parts.proofs.ItemsBack.{choice_back}
use Rattle.text_parts.proofs.Joined.{three_pieces}
use Rattle.text_parts.proofs.Words.{behind_word}
use Rattle.spent_text.specs.LineReading.{mark, side}
use Rattle.spent_text.specs.Sides.{mark_text, side_text, sides_text}
use Rattle.spent_text.proofs.ListsBack.{items_told}

-- no mark stands there
abbrev pub HasNoMark : List ℕ → Type 0
HasNoMark text = behind (codes "!") text ≡ None

mark_back : (cut : Option Cause) (rest : List ℕ) → HasNoMark rest → mark (mark_text cut ++ rest) ≡ Some (cut, rest)
unfolding named behind
mark_back None rest none = rw none refl
mark_back (Some Steps) rest none = refl
mark_back (Some Targets) rest none = refl
mark_back (Some Conflicts) rest none = refl
mark_back (Some Nodes) rest none = refl

pub side_back : (s : Side) (rest : List ℕ) → IsSmallChoice s.choice → HasNoMark rest → side (side_text s ++ rest) ≡ Some (s, rest)
unfolding side
side_back s rest small none =
    ap side (three_pieces (codes " ") (choice_text s.choice) (mark_text s.cut) rest)
    ∙ rw (behind_word (codes " ") (choice_text s.choice ++ (mark_text s.cut ++ rest)), choice_back s.choice (mark_text s.cut ++ rest) small, mark_back s.cut rest none) refl

pub no_mark_behind : (s : Side) (rest : List ℕ) → HasNoMark (side_text s ++ rest)
unfolding behind
no_mark_behind s rest = refl

pub no_mark_at_end : (rest : List ℕ) → HasNoMark (codes "\n" ++ rest)
unfolding behind
no_mark_at_end rest = refl

pub no_side_at_end : (rest : List ℕ) → side (codes "\n" ++ rest) ≡ None
unfolding behind side
no_side_at_end rest = refl

-- sides up to the end of their line
pub sides_told : (sides others : List Side) (more rest : List ℕ) → All (λ (s : Side). IsSmallChoice s.choice) sides → All (λ (s : Side). IsSmallChoice s.choice) others →
    sides_text sides ++ (codes "\n" ++ more) ≡ sides_text others ++ (codes "\n" ++ rest) → (sides ≡ others) × (more ≡ rest)
sides_told sides others more rest small also e =
    let both = items_told side side_text (λ (s : Side). IsSmallChoice s.choice) HasNoMark side_back no_mark_behind sides others (codes "\n" ++ more) (codes "\n" ++ rest)
    small also (no_mark_at_end more) (no_mark_at_end rest) (no_side_at_end more) (no_side_at_end rest) e in
    (both.0, append_cancel_left (codes "\n") more rest both.1)
