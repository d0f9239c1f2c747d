-- Events are told by their text.
use Rattle.std.proofs.Common.{◌≡◌, ◌∙◌, ℕ, ◌<◌, true, List, [], ◌∷◌, ◌++◌, Option, None, Some, append_assoc, ap, arith, codes, decimal, length, refl, sym}
use Rattle.std.proofs.lemmas.Option.{same_Some}
use Rattle.tree_core.specs.declared.cause.Cause.{Cause}
use Rattle.tree_core.specs.declared.cause.Cause.TheVariants.{Steps, Targets, Conflicts, Nodes}
use Rattle.tree_core.specs.declared.event.Deed.{Deed}
use Rattle.tree_core.specs.declared.event.Deed.TheVariants.{Claim, Split, Finish, Cut, Release}
use Rattle.fork_spec.specs.Leaves.{IsSmall}
use Rattle.fork_spec.specs.Walks.{Line, Side, Sides}
use Rattle.text_parts.specs.Pieces.{behind, named, number, two}
use Rattle.text_parts.proofs.Words.{number_back, starts_plain, two_back}
use Rattle.spent_text.proofs.ListsBack.{lines_told}
use Rattle.spent_text.specs.Sides.{sides_text}
use Rattle.spent_text.proofs.SidesBack.{sides_told}
use Rattle.report_text.specs.Events.{actors_text, cut_text, deed_text, event_text, events_text}
use Rattle.report_text.specs.Legible.{AreLegible, IsLegibleDeed, IsLegibleLine}

-- ---- the worker and the node

four_pieces : (a s b e rest : List ℕ) → (((a ++ s) ++ b) ++ e) ++ rest ≡ a ++ (s ++ (b ++ (e ++ rest)))
four_pieces a s b e rest = simp append_assoc

actors_back : (end : List ℕ) (by node : ℕ) (rest : List ℕ) → IsSmall by → IsSmall node → starts_plain (end ++ rest) ≡ true →
    two (codes " ") end ((actors_text by node ++ end) ++ rest) ≡ Some ((by, node), rest)
actors_back end by node rest small also plain =
    ap (two (codes " ") end) (four_pieces (decimal by) (codes " ") (decimal node) end rest)
    ∙ two_back (codes " ") end by node rest (omega (arith, small)) (omega (arith, also)) refl plain

-- what two lines say that are told by their text: of the same worker and of the same node, and the same behind them
pub record SayAlike (line other : Line) (more rest : List ℕ) : Type 0 where
  pub by : line.by ≡ other.by
  pub node : line.node ≡ other.node
  pub behind_both : more ≡ rest

actors_told : (end : List ℕ) (line other : Line) (more rest : List ℕ) → IsLegibleLine line → IsLegibleLine other →
    starts_plain (end ++ more) ≡ true → starts_plain (end ++ rest) ≡ true →
    (actors_text line.by line.node ++ end) ++ more ≡ (actors_text other.by other.node ++ end) ++ rest → SayAlike line other more rest
actors_told end line other more rest legible also plain too e =
    let both : Some ((line.by, line.node), more) ≡ Some ((other.by, other.node), rest) =
    sym (actors_back end line.by line.node more legible.0 legible.1 plain) ∙ ap (two (codes " ") end) e
    ∙ actors_back end other.by other.node rest also.0 also.1 too in
    let pair = same_Some ((line.by, line.node), more) ((other.by, other.node), rest) both in
    record {
      by = ap (λ (p : (ℕ × ℕ) × List ℕ). p.0.0) pair;
      node = ap (λ (p : (ℕ × ℕ) × List ℕ). p.0.1) pair;
      behind_both = ap (λ (p : (ℕ × ℕ) × List ℕ). p.1) pair;
    }

-- ---- deeds

data Word : Type 0 where
  claims : Word
  splits : Word
  finishes : Word
  cuts : Word
  releases : Word

abbrev words : List (List ℕ × Word)
words = (codes "claim ", claims) ∷ (codes "split ", splits) ∷ (codes "finish ", finishes) ∷ (codes "cut ", cuts) ∷ (codes "release ", releases) ∷ []

abbrev word_of : Deed (Option Cause) Sides → Word
word_of Claim = claims
word_of (Split sides) = splits
word_of (Finish cut) = finishes
word_of (Cut cut) = cuts
word_of Release = releases

-- what stands behind the word of a deed
abbrev behind_word_of : (by node : ℕ) → Deed (Option Cause) Sides → List ℕ
behind_word_of by node Claim = actors_text by node ++ codes "\n"
behind_word_of by node (Split sides) = actors_text by node ++ codes " " ++ decimal sides.first ++ sides_text sides.sides ++ codes "\n"
behind_word_of by node (Finish cut) = actors_text by node ++ codes "\n"
behind_word_of by node (Cut cut) = actors_text by node ++ codes " " ++ cut_text cut ++ codes "\n"
behind_word_of by node Release = actors_text by node ++ codes "\n"

deed_named : (by node : ℕ) (deed : Deed (Option Cause) Sides) (rest : List ℕ) →
    named words (deed_text by node deed ++ rest) ≡ Some (word_of deed, behind_word_of by node deed ++ rest)
unfolding named behind
deed_named by node Claim rest = refl
deed_named by node (Split sides) rest = refl
deed_named by node (Finish cut) rest = refl
deed_named by node (Cut cut) rest = refl
deed_named by node Release rest = refl

abbrev cut_words : List (List ℕ × Option Cause)
cut_words = (codes "\n", None) ∷ (codes "steps\n", Some Steps) ∷ (codes "targets\n", Some Targets) ∷ (codes "conflicts\n", Some Conflicts) ∷ (codes "nodes\n", Some Nodes) ∷ []

cut_named : (cut : Option Cause) (rest : List ℕ) → named cut_words (cut_text cut ++ (codes "\n" ++ rest)) ≡ Some (cut, rest)
unfolding named behind
cut_named None rest = refl
cut_named (Some Steps) rest = refl
cut_named (Some Targets) rest = refl
cut_named (Some Conflicts) rest = refl
cut_named (Some Nodes) rest = refl

cut_told : (cut other : Option Cause) (more rest : List ℕ) →
    cut_text cut ++ (codes "\n" ++ more) ≡ cut_text other ++ (codes "\n" ++ rest) → (cut ≡ other) × (more ≡ rest)
cut_told cut other more rest e =
    let both : Some (cut, more) ≡ Some (other, rest) = sym (cut_named cut more) ∙ ap (named cut_words) e ∙ cut_named other rest in
    let pair = same_Some (cut, more) (other, rest) both in
    (ap (λ (p : Option Cause × List ℕ). p.0) pair, ap (λ (p : Option Cause × List ℕ). p.1) pair)

sides_plain : (sides : List Side) (rest : List ℕ) → starts_plain (sides_text sides ++ (codes "\n" ++ rest)) ≡ true
sides_plain [] rest = refl
sides_plain (s ∷ sides) rest = refl

-- the number of the first side, and the sides
split_told : (sides others : Sides) (more rest : List ℕ) → IsLegibleDeed (Split sides) → IsLegibleDeed (Split others) →
    decimal sides.first ++ (sides_text sides.sides ++ (codes "\n" ++ more)) ≡ decimal others.first ++ (sides_text others.sides ++ (codes "\n" ++ rest)) →
    (sides ≡ others) × (more ≡ rest)
split_told sides others more rest legible also e =
    let both : Some (sides.first, sides_text sides.sides ++ (codes "\n" ++ more)) ≡ Some (others.first, sides_text others.sides ++ (codes "\n" ++ rest)) =
    sym (number_back sides.first _ (omega (arith, legible.0)) (sides_plain sides.sides more)) ∙ ap number e
    ∙ number_back others.first _ (omega (arith, also.0)) (sides_plain others.sides rest) in
    let pair = same_Some (sides.first, sides_text sides.sides ++ (codes "\n" ++ more)) (others.first, sides_text others.sides ++ (codes "\n" ++ rest)) both in
    let first : sides.first ≡ others.first = ap (λ (p : ℕ × List ℕ). p.0) pair in
    let told = sides_told sides.sides others.sides more rest legible.1 also.1 (ap (λ (p : ℕ × List ℕ). p.1) pair) in
    let same : sides.sides ≡ others.sides = told.0 in
    (λ k. record { first = first k; sides = same k }, told.1)

-- ---- lines

cut_pieces : (a s c n rest : List ℕ) → (((a ++ s) ++ c) ++ n) ++ rest ≡ (a ++ s) ++ (c ++ (n ++ rest))
cut_pieces a s c n rest = simp append_assoc

split_pieces : (a s f c n rest : List ℕ) → ((((a ++ s) ++ f) ++ c) ++ n) ++ rest ≡ (a ++ s) ++ (f ++ (c ++ (n ++ rest)))
split_pieces a s f c n rest = simp append_assoc

-- two lines whose deeds are the same too
same_line : (line other : Line) (more rest : List ℕ) → SayAlike line other more rest → line.deed ≡ other.deed → line ≡ other
same_line line other more rest alike deed =
    let by : line.by ≡ other.by = alike.by in
    let node : line.node ≡ other.node = alike.node in
    λ k. record { by = by k; node = node k; deed = deed k }

-- what stands behind the words of two lines tells their deeds, where the words are the same
deeds_told : (deed other : Deed (Option Cause) Sides) (by node by' node' : ℕ) (more rest : List ℕ) →
    IsLegibleLine (record { by = by; node = node; deed = deed }) → IsLegibleLine (record { by = by'; node = node'; deed = other }) → word_of deed ≡ word_of other →
    behind_word_of by node deed ++ more ≡ behind_word_of by' node' other ++ rest →
    (◌≡◌ {A = Line} (record { by = by; node = node; deed = deed }) (record { by = by'; node = node'; deed = other })) × (more ≡ rest)
deeds_told Claim Claim by node by' node' more rest legible also word e =
    let line : Line = record { by = by; node = node; deed = Claim } in
    let next : Line = record { by = by'; node = node'; deed = Claim } in
    let alike = actors_told (codes "\n") line next more rest legible also refl refl e in
    (same_line line next more rest alike refl, alike.behind_both)
deeds_told Release Release by node by' node' more rest legible also word e =
    let line : Line = record { by = by; node = node; deed = Release } in
    let next : Line = record { by = by'; node = node'; deed = Release } in
    let alike = actors_told (codes "\n") line next more rest legible also refl refl e in
    (same_line line next more rest alike refl, alike.behind_both)
deeds_told (Finish cut) (Finish other) by node by' node' more rest legible also word e =
    let line : Line = record { by = by; node = node; deed = Finish cut } in
    let next : Line = record { by = by'; node = node'; deed = Finish other } in
    let alike = actors_told (codes "\n") line next more rest legible also refl refl e in
    let finished : ◌≡◌ {A = Deed (Option Cause) Sides} (Finish cut) (Finish other) = ap (λ (c : Option Cause). Finish c) (legible.2 ∙ sym also.2) in
    (same_line line next more rest alike finished, alike.behind_both)
deeds_told (Cut cut) (Cut other) by node by' node' more rest legible also word e =
    let line : Line = record { by = by; node = node; deed = Cut cut } in
    let next : Line = record { by = by'; node = node'; deed = Cut other } in
    let text : (actors_text by node ++ codes " ") ++ (cut_text cut ++ (codes "\n" ++ more)) ≡ (actors_text by' node' ++ codes " ") ++ (cut_text other ++ (codes "\n" ++ rest)) =
    sym (cut_pieces (actors_text by node) (codes " ") (cut_text cut) (codes "\n") more) ∙ e
    ∙ cut_pieces (actors_text by' node') (codes " ") (cut_text other) (codes "\n") rest in
    let alike = actors_told (codes " ") line next (cut_text cut ++ (codes "\n" ++ more)) (cut_text other ++ (codes "\n" ++ rest)) legible also refl refl text in
    let told = cut_told cut other more rest alike.behind_both in
    (same_line line next _ _ alike (ap (λ (c : Option Cause). Cut c) told.0), told.1)
deeds_told (Split sides) (Split others) by node by' node' more rest legible also word e =
    let line : Line = record { by = by; node = node; deed = Split sides } in
    let next : Line = record { by = by'; node = node'; deed = Split others } in
    let behind_line : List ℕ = decimal sides.first ++ (sides_text sides.sides ++ (codes "\n" ++ more)) in
    let behind_next : List ℕ = decimal others.first ++ (sides_text others.sides ++ (codes "\n" ++ rest)) in
    let text : (actors_text by node ++ codes " ") ++ behind_line ≡ (actors_text by' node' ++ codes " ") ++ behind_next =
    sym (split_pieces (actors_text by node) (codes " ") (decimal sides.first) (sides_text sides.sides) (codes "\n") more) ∙ e
    ∙ split_pieces (actors_text by' node') (codes " ") (decimal others.first) (sides_text others.sides) (codes "\n") rest in
    let alike = actors_told (codes " ") line next behind_line behind_next legible also refl refl text in
    let told = split_told sides others more rest legible.2 also.2 alike.behind_both in
    (same_line line next behind_line behind_next alike (ap (λ (s : Sides). Split s) told.0), told.1)
deeds_told _ _ by node by' node' more rest legible also word e = cc

line_told : (line other : Line) (more rest : List ℕ) → IsLegibleLine line → IsLegibleLine other → event_text line ++ more ≡ event_text other ++ rest →
    (line ≡ other) × (more ≡ rest)
line_told line other more rest legible also e =
    let left : List ℕ = behind_word_of line.by line.node line.deed ++ more in
    let also_left : List ℕ = behind_word_of other.by other.node other.deed ++ rest in
    let both : Some (word_of line.deed, left) ≡ Some (word_of other.deed, also_left) =
    sym (deed_named line.by line.node line.deed more) ∙ ap (named words) e ∙ deed_named other.by other.node other.deed rest in
    let pair = same_Some (word_of line.deed, left) (word_of other.deed, also_left) both in
    deeds_told line.deed other.deed line.by line.node other.by other.node more rest legible also (ap (λ (p : Word × List ℕ). p.0) pair) (ap (λ (p : Word × List ℕ). p.1) pair)

some_line : (line : Line) → 0 < length (event_text line)
some_line line = some line.by line.node line.deed
  where
    some : (by node : ℕ) (deed : Deed (Option Cause) Sides) → 0 < length (deed_text by node deed)
    some by node Claim = omega arith
    some by node (Split sides) = omega arith
    some by node (Finish cut) = omega arith
    some by node (Cut cut) = omega arith
    some by node Release = omega arith

-- events of one text are the same
pub events_told : (lines others : List Line) → AreLegible lines → AreLegible others → events_text lines ≡ events_text others → lines ≡ others
unfolding events_text
events_told lines others legible also e = lines_told event_text IsLegibleLine line_told some_line lines others legible also e
