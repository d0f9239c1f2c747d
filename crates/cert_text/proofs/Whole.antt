-- A text is a certificate's in one way, and none that is one is refused.
use Rattle.std.proofs.Common.{◌≡◌, ◌⊎◌, ◌∙◌, inl, inr, ℕ, suc, ◌+◌, ◌<◌, List, [], ◌∷◌, ◌++◌, length, map, None, Some, refl, sym, ap, subst, arith, append_assoc, append-nil, length-append}
use Rattle.std.specs.Prelude.{All}
use Rattle.std.proofs.lemmas.Grind.{flat_map-append}
use Rattle.std.proofs.lemmas.List.{length-map}
use Rattle.std.proofs.lemmas.List.Elements.{All-head, All-tail}
use Rattle.std.proofs.lemmas.Option.{none-some, same_Some}
use Rattle.cert_form.specs.Certificates.{Certificate}
use Rattle.cert_form.specs.declared.cert.Limits.{Limits}
use Rattle.cert_form.specs.declared.line.CertLine.{CertLine}
use Rattle.elf_load.specs.declared.region.Region.{Region}
use Rattle.text_parts.specs.Pieces.{behind}
use Rattle.text_parts.proofs.Words.{from_behind}
use Rattle.cert_text.specs.Texts.{TextLine, FormatLine, RegionsLine, BudgetsLine, WalkLine, cert_text, lines_of, lines_text, text_of}
use Rattle.cert_text.specs.Legible.{AreSmallLimits, IsLegible, IsLegibleLine, IsSmallRegion}
use Rattle.cert_text.specs.LineReading.{budgets_line, line_behind, regions_line}
use Rattle.cert_text.specs.Parts.{AreRead, HasHeading, IsRefusedBehind}
use Rattle.cert_text.specs.Refusals.{AllStand, BeginsWithNone, EndsEarly, GoesOnOtherwise, IsRefusedAt}
use Rattle.cert_text.proofs.LinesBack.{line_back}
use Rattle.cert_text.proofs.LinesFrom.{from_budgets_line, from_regions_line}
use Rattle.cert_text.proofs.Walking.{some_line, walk_text}

-- each line has some bytes
some_text : (line : TextLine) → 0 < length (text_of line)
some_text FormatLine = omega arith
some_text (RegionsLine regions) = omega arith
some_text (BudgetsLine budgets) = omega arith
some_text (WalkLine line) = some_line line

no_text : (line : TextLine) (more : List ℕ) {X : Type 0} → [] ≡ text_of line ++ more → X
no_text line more e = absurd (omega (arith, ap length e, length-append (text_of line) more, some_text line))

-- ---- lines that stand

walk_stands : (before : ℕ) (lines : List CertLine) → All IsLegibleLine lines → AllStand (suc (suc (suc before))) (map WalkLine lines)
unfolding AllStand
walk_stands before [] legible = tt
walk_stands before (line ∷ lines) legible =
    (All-head IsLegibleLine line lines legible, walk_stands (suc before) lines (All-tail IsLegibleLine line lines legible))

-- the lines of the heading
abbrev heading_of : List Region → Limits → List TextLine
heading_of regions budgets = FormatLine ∷ RegionsLine regions ∷ BudgetsLine budgets ∷ []

all_stand : (regions : List Region) (budgets : Limits) (lines : List CertLine) → All IsSmallRegion regions → AreSmallLimits budgets →
    All IsLegibleLine lines → AllStand 0 (heading_of regions budgets ++ map WalkLine lines)
unfolding AllStand
all_stand regions budgets lines small few legible = (tt, (small, (few, walk_stands 0 lines legible)))

pub cert_stands : (c : Certificate) → IsLegible c → AllStand 0 (lines_of c)
cert_stands c legible = all_stand c.regions c.budgets c.lines legible.regions legible.budgets legible.lines

-- what is left of lines behind the first of them
left_over : (before after : ℕ) (lines all : List TextLine) (rest : List ℕ) → after ≡ before + length lines → AllStand before lines → AllStand before all →
    lines_text all ≡ lines_text lines ++ rest →
    (left : List TextLine) × (all ≡ lines ++ left) × (rest ≡ lines_text left) × AllStand after left
unfolding AllStand lines_text
left_over before after [] all rest counted one whole e =
    let same : before ≡ after = omega (arith, counted) in
    (all, refl, sym e, subst (λ (n : ℕ). AllStand n all) same whole)
left_over before after (line ∷ lines) [] rest counted one whole e =
    no_text line (lines_text lines ++ rest) (e ∙ append_assoc (text_of line) (lines_text lines) rest)
left_over before after (line ∷ lines) (first ∷ all) rest counted one whole e =
    let text : text_of first ++ lines_text all ≡ text_of line ++ (lines_text lines ++ rest) =
    e ∙ append_assoc (text_of line) (lines_text lines) rest in
    let read : Some (first, lines_text all) ≡ Some (line, lines_text lines ++ rest) =
    sym (line_back before first (lines_text all) whole.0) ∙ ap (line_behind before) text
    ∙ line_back before line (lines_text lines ++ rest) one.0 in
    let pair = same_Some (first, lines_text all) (line, lines_text lines ++ rest) read in
    let same : first ≡ line = ap (λ (p : TextLine × List ℕ). p.0) pair in
    let more : after ≡ suc before + length lines = omega (arith, counted) in
    let left = left_over (suc before) after lines all rest more one.1 whole.1 (ap (λ (p : TextLine × List ℕ). p.1) pair) in
    (left.0, ap (λ (l : TextLine). l ∷ all) same ∙ ap (λ (ls : List TextLine). line ∷ ls) left.1, left.2, left.3)

none_left : (left : List TextLine) → [] ≡ lines_text left → left ≡ []
unfolding lines_text
none_left [] e = refl
none_left (line ∷ left) e = no_text line (lines_text left) e

goes_on : (after : ℕ) (left : List TextLine) (rest : List ℕ) → rest ≡ lines_text left → AllStand after left → GoesOnOtherwise after rest → ⊥
unfolding lines_text AllStand
goes_on after [] rest e stand otherwise = otherwise.0 e
goes_on after (line ∷ left) rest e stand otherwise = otherwise.1 line (lines_text left) stand.0 e

pub never_refused : (text : List ℕ) (n : ℕ) (c : Certificate) → IsRefusedAt text n → IsLegible c → text ≡ cert_text c → ⊥
unfolding cert_text
never_refused text n c refused legible e =
    let counted : length refused.lines ≡ 0 + length refused.lines = omega arith in
    let left = left_over 0 (length refused.lines) refused.lines (lines_of c) refused.rest counted refused.all_stand (cert_stands c legible) (sym e ∙ refused.split) in
    elim refused.why [
      | inl early ↦
          let none : left.0 ≡ [] = none_left left.0 (sym early.0 ∙ left.2) in
          let whole : lines_of c ≡ refused.lines = left.1 ∙ ap (λ (ls : List TextLine). refused.lines ++ ls) none ∙ append-nil refused.lines in
          absurd (omega (arith, ap length whole, early.1))
      | inr otherwise ↦ goes_on (length refused.lines) left.0 refused.rest left.2 left.3 otherwise
    ]

-- ---- one reading

walk_lines_same : (lines others : List CertLine) → map WalkLine lines ≡ map WalkLine others → lines ≡ others
walk_lines_same [] [] e = refl
walk_lines_same [] (other ∷ others) e = cc
walk_lines_same (line ∷ lines) [] e = cc
walk_lines_same (line ∷ lines) (other ∷ others) e =
    let first : line ≡ other = cc in
    let later : map WalkLine lines ≡ map WalkLine others = cc in
    let left : lines ≡ others = walk_lines_same lines others later in
    ap (λ (l : CertLine). l ∷ lines) first ∙ ap (λ (ls : List CertLine). other ∷ ls) left

pub one_cert : (c d : Certificate) → IsLegible c → IsLegible d → cert_text c ≡ cert_text d → c ≡ d
unfolding cert_text
one_cert c d legible also e =
    let counted : length (lines_of d) ≡ 0 + length (lines_of d) = omega arith in
    let left = left_over 0 (length (lines_of d)) (lines_of d) (lines_of c) [] counted (cert_stands d also) (cert_stands c legible) (e ∙ sym (append-nil (lines_text (lines_of d)))) in
    let same : lines_of c ≡ lines_of d =
    left.1 ∙ ap (λ (ls : List TextLine). lines_of d ++ ls) (none_left left.0 left.2) ∙ append-nil (lines_of d) in
    let regions : c.regions ≡ d.regions = cc in
    let budgets : c.budgets ≡ d.budgets = cc in
    let walks : map WalkLine c.lines ≡ map WalkLine d.lines = cc in
    let lines : c.lines ≡ d.lines = walk_lines_same c.lines d.lines walks in
    λ k. record { regions = regions k; budgets = budgets k; lines = lines k }

-- ---- the heading and the walk

pub whole_text : (text : List ℕ) (regions : List Region) (budgets : Limits) (rest : List ℕ) (lines : List CertLine) → HasHeading text regions budgets rest →
    AreRead rest lines → text ≡ cert_text (record { regions = regions; budgets = budgets; lines = lines })
unfolding cert_text lines_text
whole_text text regions budgets rest lines heading walk =
    heading.split ∙ ap (λ t. lines_text (heading_of regions budgets) ++ t) (walk.is_theirs ∙ sym (walk_text lines))
    ∙ sym (flat_map-append text_of (heading_of regions budgets) (map WalkLine lines))

pub whole_legible : (text : List ℕ) (regions : List Region) (budgets : Limits) (rest : List ℕ) (lines : List CertLine) → HasHeading text regions budgets rest →
    AreRead rest lines → IsLegible (record { regions = regions; budgets = budgets; lines = lines })
whole_legible text regions budgets rest lines heading walk =
    record { regions = heading.small_regions; budgets = heading.small_budgets; lines = walk.legible }

pub refused_behind : (text : List ℕ) (regions : List Region) (budgets : Limits) (rest : List ℕ) (n : ℕ) → HasHeading text regions budgets rest →
    IsRefusedBehind rest n → IsRefusedAt text n
unfolding lines_text
refused_behind text regions budgets rest n heading refused =
    let count : length (map WalkLine refused.lines) ≡ length refused.lines = length-map refused.lines WalkLine in
    record {
      lines = heading_of regions budgets ++ map WalkLine refused.lines;
      rest = refused.rest;
      split = heading.split ∙ ap (λ t. lines_text (heading_of regions budgets) ++ t) (refused.split ∙ ap (λ t. t ++ refused.rest) (sym (walk_text refused.lines)))
          ∙ sym (append_assoc (lines_text (heading_of regions budgets)) (lines_text (map WalkLine refused.lines)) refused.rest)
          ∙ ap (λ t. t ++ refused.rest) (sym (flat_map-append text_of (heading_of regions budgets) (map WalkLine refused.lines)));
      all_stand = all_stand regions budgets refused.lines heading.small_regions heading.small_budgets refused.legible;
      nth = omega (arith, refused.nth, count);
      why = inr (refused.some, subst (λ (k : ℕ). BeginsWithNone (suc (suc (suc k))) refused.rest) (sym count) refused.none);
    }

-- ---- the heading, line by line

refused_at : (lines : List TextLine) (text rest : List ℕ) (n : ℕ) → text ≡ lines_text lines ++ rest → AllStand 0 lines → length lines < 3 →
    n ≡ length lines + 1 → line_behind (length lines) rest ≡ None → IsRefusedAt text n
refused_at lines text rest n split stand few nth none = record {
  lines = lines;
  rest = rest;
  split = split;
  all_stand = stand;
  nth = nth;
  why = early rest refl;
}
  where
    otherwise : BeginsWithNone (length lines) rest
    otherwise line more may e = none-some (line, more) (sym none ∙ ap (line_behind (length lines)) e ∙ line_back (length lines) line more may)

    early : (r : List ℕ) → rest ≡ r → EndsEarly (length lines) rest ⊎ GoesOnOtherwise (length lines) rest
    early [] is = inl (is, few)
    early (c ∷ r) is = inr ((λ empty. let e : c ∷ r ≡ [] = sym is ∙ empty in cc), otherwise)

pub refused_first : (text : List ℕ) → behind (text_of FormatLine) text ≡ None → IsRefusedAt text 1
unfolding AllStand lines_text
refused_first text none =
    refused_at [] text text 1 refl tt (omega arith) refl (rw none refl)

pub refused_second : (text rest : List ℕ) → behind (text_of FormatLine) text ≡ Some rest → regions_line rest ≡ None → IsRefusedAt text 2
unfolding AllStand lines_text
refused_second text rest first none =
    refused_at (FormatLine ∷ []) text rest 2 (from_behind (text_of FormatLine) text rest first) (tt, tt) (omega arith) refl (rw none refl)

pub refused_third : (text rest : List ℕ) (regions : List Region) (more : List ℕ) → behind (text_of FormatLine) text ≡ Some rest →
    regions_line rest ≡ Some (regions, more) → budgets_line more ≡ None → IsRefusedAt text 3
unfolding AllStand lines_text
refused_third text rest regions more first second none =
    let found = from_regions_line rest regions more second in
    refused_at (FormatLine ∷ RegionsLine regions ∷ []) text more 3
    (from_behind (text_of FormatLine) text rest first ∙ ap (λ t. text_of FormatLine ++ t) found.0
    ∙ two (text_of FormatLine) (text_of (RegionsLine regions)) more)
    (tt, (found.1, tt)) (omega arith) refl (rw none refl)
  where
    two : (f r t : List ℕ) → f ++ (r ++ t) ≡ (f ++ (r ++ [])) ++ t
    two f r t = simp (append_assoc, append-nil)

pub heading_read : (text rest : List ℕ) (regions : List Region) (more : List ℕ) (budgets : Limits) (end : List ℕ) → behind (text_of FormatLine) text ≡ Some rest →
    regions_line rest ≡ Some (regions, more) → budgets_line more ≡ Some (budgets, end) → HasHeading text regions budgets end
unfolding lines_text
heading_read text rest regions more budgets end first second third =
    let found = from_regions_line rest regions more second in
    let last = from_budgets_line more budgets end third in
    record {
      split = from_behind (text_of FormatLine) text rest first
          ∙ ap (λ t. text_of FormatLine ++ t) (found.0 ∙ ap (λ t. text_of (RegionsLine regions) ++ t) last.0)
          ∙ three (text_of FormatLine) (text_of (RegionsLine regions)) (text_of (BudgetsLine budgets)) end;
      small_regions = found.1;
      small_budgets = last.1;
    }
  where
    three : (f r b t : List ℕ) → f ++ (r ++ (b ++ t)) ≡ (f ++ (r ++ (b ++ []))) ++ t
    three f r b t = simp (append_assoc, append-nil)
