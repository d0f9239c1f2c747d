-- Sides, literals, hints and regions: what was written is read back, and what was read was written so.
use Rattle.std.proofs.Common.{◌≡◌, ◌∙◌, inl, inr, ℕ, ◌<◌, ◌^◌, Bool, true, false, ◌&&◌, ◌==◌, nat_lt, List, [], ◌∷◌, ◌++◌, length, get_or, Option, None, Some, option_map, refl, sym, ap, subst, arith, codes, decimal, append_assoc}
use Rattle.std.specs.Prelude.{All, if◌then◌else◌, option_and_then}
use Rattle.std.specs.List.{flat_map}
use Rattle.std.specs.Option.{option_or}
use Rattle.std.proofs.lemmas.Bool.{and_parts, ne_eqb}
use Rattle.std.proofs.lemmas.Bool.Decides.{nat_tests}
use Rattle.std.proofs.lemmas.Fmt.{first_decimal}
use Rattle.std.proofs.lemmas.Option.{same_Some}
use Rattle.cnf_form.specs.Literals.{Literal}
use Rattle.elf_load.specs.declared.region.Region.{Region}
use Rattle.fork_spec.specs.Leaves.{IsSmall}
use Rattle.tree_core.specs.Choices.{IsSmallChoice}
use Rattle.fork_spec.specs.Walks.{Side}
use Rattle.leaf_reader.proofs.ItemsFrom.{from_choice, from_eight}
use Rattle.leaf_reader.proofs.LinesFrom.{made_from, word_from}
use Rattle.leaf_reader.proofs.TermsSmall.{word_small}
use Rattle.smt_text.specs.LineReading.{if_word}
use Rattle.spent_text.specs.LearntLine.{hint_text, literal_text}
use Rattle.spent_text.specs.LineReading.{causes, hint, literal, literal_of, literal_read, mark, marked, negated_literal, plain_literal, side}
use Rattle.spent_text.specs.Sides.{mark_text, side_text, sides_text}
use Rattle.spent_text.proofs.ClauseBack.{IsHint, IsLiteral, IsSpaced, hint_back, hint_spaced, literal_back, literal_spaced, zero_back}
use Rattle.spent_text.proofs.SidesBack.{HasNoMark, no_mark_at_end, no_mark_behind, side_back}
use Rattle.text_parts.specs.Items.{choice}
use Rattle.text_parts.specs.Names.{cause_text, choice_text, eight_digits}
use Rattle.text_parts.specs.Pieces.{behind, eight, made, named, number}
use Rattle.text_parts.proofs.ItemsBack.{eight_back}
use Rattle.text_parts.proofs.Joined.{three_pieces}
use Rattle.text_parts.proofs.Options.{map_from, or_from, then_from}
use Rattle.text_parts.proofs.Tests.{lt_from}
use Rattle.text_parts.proofs.Words.{behind_word, from_behind, from_named, from_number, number_back, starts_plain}
use Rattle.tree_core.specs.declared.cause.Cause.{Cause}
use Rattle.tree_core.specs.declared.choice.Choice.{Choice}
use Rattle.cert_text.specs.Texts.{blank_region}
use Rattle.cert_text.specs.Legible.{IsSmallRegion}
use Rattle.cert_text.specs.LineReading.{all, region, region_from}
use Rattle.cert_text.proofs.Listed.{all_back, from_all}

-- ---- sides

from_mark : (text : List ℕ) (cut : Option Cause) (rest : List ℕ) → mark text ≡ Some (cut, rest) → text ≡ mark_text cut ++ rest
from_mark text cut rest h =
    elim (or_from (made Some (marked text)) (Some (None, text)) (cut, rest) h) [
      | inl there ↦
          let a = made_from Some (marked text) cut rest there in
          let b = then_from (named causes) (behind (codes "!") text) (a.0, rest) a.1 in
          from_behind (codes "!") text b.0 b.1
          ∙ ap (λ (t : List ℕ). codes "!" ++ t) (from_named cause_text causes (refl, (refl, (refl, (refl, tt)))) b.0 a.0 rest b.2)
          ∙ ap (λ (o : Option Cause). mark_text o ++ rest) a.2
      | inr none ↦
          let same = same_Some (None, text) (cut, rest) none in
          ap (λ (p : Option Cause × List ℕ). mark_text p.0 ++ p.1) same
    ]

from_side : (text : List ℕ) (s : Side) (rest : List ℕ) → side text ≡ Some (s, rest) → (text ≡ side_text s ++ rest) × IsSmallChoice s.choice
unfolding side
from_side text s rest h =
    let a = then_from (λ ((c, r) : Choice × List ℕ). made (λ (cut : Option Cause). record { choice = c; cut = cut }) (mark r))
    (option_and_then choice (behind (codes " ") text)) (s, rest) h in
    let b = then_from choice (behind (codes " ") text) a.0 a.1 in
    let c = made_from (λ (cut : Option Cause). record { choice = a.0.0; cut = cut }) (mark a.0.1) s rest a.2 in
    let one = from_choice b.0 a.0.0 a.0.1 b.2 in (
      from_behind (codes " ") text b.0 b.1
          ∙ ap (λ (t : List ℕ). codes " " ++ t) (one.0 ∙ ap (λ (t : List ℕ). choice_text a.0.0 ++ t) (from_mark a.0.1 c.0 rest c.1))
          ∙ sym (three_pieces (codes " ") (choice_text a.0.0) (mark_text c.0) rest) ∙ ap (λ (x : Side). side_text x ++ rest) c.2,
      subst (λ (x : Side). IsSmallChoice x.choice) c.2 one.1,
    )

no_side_end : (s : Side) (rest : List ℕ) → IsSmallChoice s.choice → HasNoMark rest → behind (codes "\n") (side_text s ++ rest) ≡ None
unfolding behind
no_side_end s rest small on = refl

some_side : (s : Side) → 0 < length (side_text s)
some_side s = omega arith

pub sides_back : (sides : List Side) (rest : List ℕ) → All (λ (s : Side). IsSmallChoice s.choice) sides →
    all side (codes "\n") (sides_text sides ++ (codes "\n" ++ rest)) ≡ Some (sides, rest)
sides_back sides rest small =
    all_back side side_text (codes "\n") (λ (s : Side). IsSmallChoice s.choice) HasNoMark side_back no_mark_behind no_side_end some_side sides rest small (no_mark_at_end rest)

pub from_sides : (text : List ℕ) (sides : List Side) (rest : List ℕ) → all side (codes "\n") text ≡ Some (sides, rest) →
    (text ≡ sides_text sides ++ (codes "\n" ++ rest)) × All (λ (s : Side). IsSmallChoice s.choice) sides
from_sides text sides rest h = from_all side side_text (codes "\n") (λ (s : Side). IsSmallChoice s.choice) from_side text sides rest h

-- ---- literals

from_literal_of : (positive : Bool) (n : ℕ) (l : Literal) → literal_of positive n ≡ Some l →
    (IsLiteral l) × (l ≡ record { variable = n; positive = positive })
from_literal_of positive n l h = go (nat_lt 0 n && nat_lt n (2 ^ 32)) refl h
  where
    go : (b : Bool) → (nat_lt 0 n && nat_lt n (2 ^ 32)) ≡ b → (if b then Some (record { variable = n; positive = positive }) else None) ≡ Some l →
        (IsLiteral l) × (l ≡ record { variable = n; positive = positive })
    go true is h =
        let parts = and_parts (nat_lt 0 n) (nat_lt n (2 ^ 32)) is in
        let same : ◌≡◌ {A = Literal} (record { variable = n; positive = positive }) l = same_Some (record { variable = n; positive = positive }) l h in
        (subst IsLiteral same (lt_from 0 n parts.0, lt_from n (2 ^ 32) parts.1), sym same)
    go false is h = cc

from_literal_read : (positive : Bool) (o : Option (ℕ × List ℕ)) (l : Literal) (rest : List ℕ) → literal_read positive o ≡ Some (l, rest) →
    (n : ℕ) × (o ≡ Some (n, rest)) × IsLiteral l × (l ≡ record { variable = n; positive = positive })
from_literal_read positive o l rest h =
    let a = then_from (λ ((n, r) : ℕ × List ℕ). option_map (λ (k : Literal). (k, r)) (literal_of positive n)) o (l, rest) h in
    let b = map_from (λ (k : Literal). (k, a.0.1)) (literal_of positive a.0.0) (l, rest) a.2 in
    let same : b.0 ≡ l = ap (λ (p : Literal × List ℕ). p.0) b.2 in
    let end : a.0.1 ≡ rest = ap (λ (p : Literal × List ℕ). p.1) b.2 in
    let made = from_literal_of positive a.0.0 b.0 b.1 in
    (a.0.0, a.1 ∙ ap (λ (t : List ℕ). Some (a.0.0, t)) end, subst IsLiteral same made.0, sym same ∙ made.1)

from_literal : (text : List ℕ) (l : Literal) (rest : List ℕ) → literal text ≡ Some (l, rest) → (text ≡ literal_text l ++ rest) × IsLiteral l
unfolding literal
from_literal text l rest h =
    let a = then_from (λ (r : List ℕ). option_or (plain_literal r) (negated_literal r)) (behind (codes " ") text) (l, rest) h in
    let blank = from_behind (codes " ") text a.0 a.1 in
    elim (or_from (plain_literal a.0) (negated_literal a.0) (l, rest) a.2) [
      | inl plain ↦
          let b = from_literal_read true (number a.0) l rest plain in (
            blank ∙ ap (λ (t : List ℕ). codes " " ++ t) (from_number a.0 b.0 rest b.1).0
                ∙ sym (append_assoc (codes " ") (decimal b.0) rest) ∙ ap (λ (k : Literal). literal_text k ++ rest) (sym b.3),
            b.2,
          )
      | inr negated ↦
          let b = from_literal_read false (option_and_then number (behind (codes "-") a.0)) l rest negated in
          let d = then_from number (behind (codes "-") a.0) (b.0, rest) b.1 in (
            blank ∙ ap (λ (t : List ℕ). codes " " ++ t) (from_behind (codes "-") a.0 d.0 d.1 ∙ ap (λ (t : List ℕ). codes "-" ++ t) (from_number d.0 b.0 rest d.2).0)
                ∙ sym (append_assoc (codes " -") (decimal b.0) rest) ∙ ap (λ (k : Literal). literal_text k ++ rest) (sym b.3),
            b.2,
          )
    ]

not_zero_first : (digits rest : List ℕ) → 48 < get_or digits 0 0 → behind (codes "0") (digits ++ rest) ≡ None
unfolding behind
not_zero_first [] rest first = absurd (omega (arith, first))
not_zero_first (d ∷ digits) rest first =
    let other : (48 == d) ≡ false = ne_eqb 48 d (λ is. absurd (omega (arith, first, is))) in
    rw other refl

blank : (t : List ℕ) → behind (codes " 0") (codes " " ++ t) ≡ behind (codes "0") t
unfolding behind
blank t = refl

minus : (t : List ℕ) → behind (codes " 0") (codes " -" ++ t) ≡ None
unfolding behind
minus t = refl

no_literal_end : (l : Literal) (rest : List ℕ) → IsLiteral l → IsSpaced rest → behind (codes " 0") (literal_text l ++ rest) ≡ None
no_literal_end l rest is spaced = go l.positive
  where
    first : 48 < get_or (decimal l.variable) 0 0
    first = first_decimal l.variable is.0 (omega (arith, is.1))

    go : (b : Bool) → behind (codes " 0") (((if b then codes " " else codes " -") ++ decimal l.variable) ++ rest) ≡ None
    go true = ap (behind (codes " 0")) (append_assoc (codes " ") (decimal l.variable) rest) ∙ blank (decimal l.variable ++ rest) ∙ not_zero_first (decimal l.variable) rest first
    go false = ap (behind (codes " 0")) (append_assoc (codes " -") (decimal l.variable) rest) ∙ minus (decimal l.variable ++ rest)

some_literal : (l : Literal) → 0 < length (literal_text l)
some_literal l = go l.positive
  where
    go : (b : Bool) → 0 < length ((if b then codes " " else codes " -") ++ decimal l.variable)
    go true = omega arith
    go false = omega arith

pub literals_back : (ls : List Literal) (rest : List ℕ) → All IsLiteral ls → IsSpaced rest →
    all literal (codes " 0") (flat_map literal_text ls ++ (codes " 0" ++ rest)) ≡ Some (ls, rest)
literals_back ls rest each spaced =
    all_back literal literal_text (codes " 0") IsLiteral IsSpaced literal_back literal_spaced no_literal_end some_literal ls rest each (codes "0" ++ rest, refl)

pub from_literals : (text : List ℕ) (ls : List Literal) (rest : List ℕ) → all literal (codes " 0") text ≡ Some (ls, rest) →
    (text ≡ flat_map literal_text ls ++ (codes " 0" ++ rest)) × All IsLiteral ls
from_literals text ls rest h = from_all literal literal_text (codes " 0") IsLiteral from_literal text ls rest h

-- ---- hints

from_hint : (text : List ℕ) (n : ℕ) (rest : List ℕ) → hint text ≡ Some (n, rest) → (text ≡ hint_text n ++ rest) × IsHint n
unfolding hint
from_hint text n rest h =
    let a = then_from (λ ((k, r) : ℕ × List ℕ). option_map (λ (more : List ℕ). (k, r)) (behind (codes " ") r)) (option_and_then number (behind (codes " ") text)) (n, rest) h in
    let b = map_from (λ (more : List ℕ). a.0) (behind (codes " ") a.0.1) (n, rest) a.2 in
    let d = then_from number (behind (codes " ") text) a.0 a.1 in
    let e = from_number d.0 a.0.0 a.0.1 d.2 in (
      from_behind (codes " ") text d.0 d.1 ∙ ap (λ (t : List ℕ). codes " " ++ t) e.0
          ∙ sym (append_assoc (codes " ") (decimal a.0.0) a.0.1) ∙ ap (λ (p : ℕ × List ℕ). hint_text p.0 ++ p.1) b.2,
      subst (λ (p : ℕ × List ℕ). IsHint p.0) b.2 e.1,
    )

no_hint_end : (n : ℕ) (rest : List ℕ) → IsHint n → IsSpaced rest → behind (codes " 0\n") (hint_text n ++ rest) ≡ None
no_hint_end n rest small spaced = go (behind (codes " 0\n") (hint_text n ++ rest)) refl
  where
    feed : (r : List ℕ) → IsSpaced (codes "\n" ++ r) → ⊥
    feed r (more, is) = let e : ◌≡◌ {A = ℕ} 10 32 = cc in absurd (omega (arith, e))

    go : (o : Option (List ℕ)) → behind (codes " 0\n") (hint_text n ++ rest) ≡ o → o ≡ None
    go None is = refl
    go (Some r) is =
        let text : codes " " ++ (decimal n ++ rest) ≡ codes " 0\n" ++ r =
        sym (append_assoc (codes " ") (decimal n) rest) ∙ from_behind (codes " 0\n") (hint_text n ++ rest) r is in
        let digits : decimal n ++ rest ≡ codes "0" ++ (codes "\n" ++ r) = cc in
        let plain : starts_plain rest ≡ true = ap starts_plain spaced.1 in
        let both : Some (n, rest) ≡ Some (0, codes "\n" ++ r) =
        sym (number_back n rest small plain) ∙ ap number digits ∙ zero_back (codes "\n" ++ r) refl in
        let end : rest ≡ codes "\n" ++ r = ap (λ (p : ℕ × List ℕ). p.1) (same_Some (n, rest) (0, codes "\n" ++ r) both) in
        absurd (feed r (subst IsSpaced end spaced))

some_hint : (n : ℕ) → 0 < length (hint_text n)
some_hint n = omega arith

pub hints_back : (ns : List ℕ) (rest : List ℕ) → All IsHint ns →
    all hint (codes " 0\n") (flat_map hint_text ns ++ (codes " 0\n" ++ rest)) ≡ Some (ns, rest)
hints_back ns rest each =
    all_back hint hint_text (codes " 0\n") IsHint IsSpaced hint_back hint_spaced no_hint_end some_hint ns rest each (codes "0\n" ++ rest, refl)

pub from_hints : (text : List ℕ) (ns : List ℕ) (rest : List ℕ) → all hint (codes " 0\n") text ≡ Some (ns, rest) →
    (text ≡ flat_map hint_text ns ++ (codes " 0\n" ++ rest)) × All IsHint ns
from_hints text ns rest h = from_all hint hint_text (codes " 0\n") IsHint from_hint text ns rest h

-- ---- regions

-- no digit stands there
abbrev IsPlain : List ℕ → Type 0
IsPlain text = starts_plain text ≡ true

region_pieces : (b d c n rest : List ℕ) → (b ++ ((d ++ c) ++ n)) ++ rest ≡ b ++ (d ++ (c ++ (n ++ rest)))
region_pieces b d c n rest = simp append_assoc

pub word_true : (n : ℕ) → IsSmall n → nat_lt n (2 ^ 32) ≡ true
word_true n small = grind (arith, nat_tests)

region_back : (r : Region) (rest : List ℕ) → IsSmallRegion r → IsPlain rest → region (blank_region r ++ rest) ≡ Some (r, rest)
unfolding region
region_back r rest small plain =
    ap region (region_pieces (codes " ") (eight_digits r.start) (codes ":") (decimal r.count) rest)
    ∙ rw (
      behind_word (codes " ") (eight_digits r.start ++ (codes ":" ++ (decimal r.count ++ rest))),
      eight_back r.start (codes ":" ++ (decimal r.count ++ rest)) small.0,
      behind_word (codes ":") (decimal r.count ++ rest),
      number_back r.count rest (omega (arith, small.1)) plain,
      word_true r.count small.1,
    ) refl

from_region : (text : List ℕ) (r : Region) (rest : List ℕ) → region text ≡ Some (r, rest) → (text ≡ blank_region r ++ rest) × IsSmallRegion r
unfolding region
from_region text r rest h =
    let a = then_from (λ ((start, t) : ℕ × List ℕ). option_and_then (region_from start) (behind (codes ":") t)) (option_and_then eight (behind (codes " ") text)) (r, rest) h in
    let b = then_from eight (behind (codes " ") text) a.0 a.1 in
    let d = then_from (region_from a.0.0) (behind (codes ":") a.0.1) (r, rest) a.2 in
    let start = from_eight b.0 a.0.0 a.0.1 b.2 in
    let e = then_from (λ ((count, t) : ℕ × List ℕ). if_word count (Some (record { start = a.0.0; count = count }, t))) (number d.0) (r, rest) d.2 in
    let count = from_number d.0 e.0.0 e.0.1 e.1 in
    let found : Region = record { start = a.0.0; count = e.0.0 } in
    let same = same_Some (found, e.0.1) (r, rest) (word_from e.0.0 (Some (found, e.0.1)) (r, rest) e.2) in
    let small : IsSmallRegion found = (start.1, word_small e.0.0 (Some (found, e.0.1)) (r, rest) e.2) in (
      from_behind (codes " ") text b.0 b.1
          ∙ ap (λ (t : List ℕ). codes " " ++ t) (start.0 ∙ ap (λ (t : List ℕ). eight_digits a.0.0 ++ t) (from_behind (codes ":") a.0.1 d.0 d.1 ∙ ap (λ (t : List ℕ). codes ":" ++ t) count.0))
          ∙ sym (region_pieces (codes " ") (eight_digits a.0.0) (codes ":") (decimal e.0.0) e.0.1)
          ∙ ap (λ (p : Region × List ℕ). blank_region p.0 ++ p.1) same,
      subst (λ (p : Region × List ℕ). IsSmallRegion p.0) same small,
    )

plain_behind : (r : Region) (rest : List ℕ) → IsPlain (blank_region r ++ rest)
plain_behind r rest = refl

no_region_end : (r : Region) (rest : List ℕ) → IsSmallRegion r → IsPlain rest → behind (codes "\n") (blank_region r ++ rest) ≡ None
unfolding behind
no_region_end r rest small on = refl

some_region : (r : Region) → 0 < length (blank_region r)
some_region r = omega arith

pub regions_back : (rs : List Region) (rest : List ℕ) → All IsSmallRegion rs →
    all region (codes "\n") (flat_map blank_region rs ++ (codes "\n" ++ rest)) ≡ Some (rs, rest)
regions_back rs rest small =
    all_back region blank_region (codes "\n") IsSmallRegion IsPlain region_back plain_behind no_region_end some_region rs rest small refl

pub from_regions : (text : List ℕ) (rs : List Region) (rest : List ℕ) → all region (codes "\n") text ≡ Some (rs, rest) →
    (text ≡ flat_map blank_region rs ++ (codes "\n" ++ rest)) × All IsSmallRegion rs
from_regions text rs rest h = from_all region blank_region (codes "\n") IsSmallRegion from_region text rs rest h
