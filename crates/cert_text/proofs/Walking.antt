-- The loop over the lines of a walk, and the line at which a text is refused.
use Rattle.std.proofs.Common.{◌≡◌, ◌∙◌, ℕ, suc, ◌+◌, ◌<◌, List, [], ◌∷◌, ◌++◌, length, map, None, Some, refl, sym, ap, arith, append_assoc, append-nil, length-append}
use Rattle.std.specs.Prelude.{All}
use Rattle.std.specs.List.{flat_map}
use Rattle.std.proofs.lemmas.Grind.{flat_map-append}
use Rattle.std.proofs.lemmas.List.{nil_from_length}
use Rattle.std.proofs.lemmas.List.Elements.{All-append, All-cons, All-nil}
use Rattle.std.proofs.lemmas.Option.{none-some}
use Rattle.cert_form.specs.Certificates.{Certificate}
use Rattle.cert_form.specs.declared.line.CertLine.{CertLine}
use Rattle.cert_form.specs.declared.line.CertLine.TheVariants.{One, Split, Tried, Inputs, Nodes, Logic, Input, Base, Node, Assert, Check, Exit, Clause, Value, Witness, End, CutSteps, CutNodes}
use Rattle.cert_text.specs.Texts.{FormatLine, RegionsLine, BudgetsLine, WalkLine, cert_text, lines_text, text_of}
use Rattle.cert_text.specs.Legible.{IsLegibleLine}
use Rattle.cert_text.specs.LineReading.{walk_line}
use Rattle.cert_text.specs.Lines.{line_text}
use Rattle.cert_text.specs.Parts.{AreRead, IsRefusedBehind}
use Rattle.cert_text.specs.Refusals.{BeginsWithNone}
use Rattle.cert_text.proofs.LinesBack.{walk_back}
use Rattle.cert_text.proofs.LinesFrom.{from_walk}

-- each line has some bytes
pub some_line : (line : CertLine) → 0 < length (line_text line)
some_line (One choice) = omega arith
some_line (Split sides) = omega arith
some_line Tried = omega arith
some_line (Inputs inputs) = omega arith
some_line (Nodes nodes) = omega arith
some_line Logic = omega arith
some_line (Input i) = omega arith
some_line Base = omega arith
some_line (Node defined) = omega arith
some_line (Assert id) = omega arith
some_line Check = omega arith
some_line Exit = omega arith
some_line (Clause step) = omega arith
some_line (Value found) = omega arith
some_line (Witness input) = omega arith
some_line (End input) = omega arith
some_line (CutSteps input) = omega arith
some_line CutNodes = omega arith

-- these lines were read, and the rest is left
pub record HasRead (text : List ℕ) (lines : List CertLine) (rest : List ℕ) : Type 0 where
  pub split : text ≡ flat_map line_text lines ++ rest
  pub legible : All IsLegibleLine lines

pub read_none : (text : List ℕ) → HasRead text [] text
read_none text = record { split = refl; legible = All-nil IsLegibleLine }

pub shorter : (text : List ℕ) (line : CertLine) (rest : List ℕ) → walk_line text ≡ Some (line, rest) → length rest < length text
shorter text line rest h =
    omega (arith, ap length (from_walk text line rest h).0, length-append (line_text line) rest, some_line line)

pub read_one_more : (text : List ℕ) (lines : List CertLine) (rest : List ℕ) (line : CertLine) (more : List ℕ) → HasRead text lines rest →
    walk_line rest ≡ Some (line, more) → HasRead text (lines ++ line ∷ []) more
read_one_more text lines rest line more has h =
    let one = from_walk rest line more h in
    record {
      split = has.split ∙ ap (λ t. flat_map line_text lines ++ t) one.0
          ∙ sym (append_assoc (flat_map line_text lines) (line_text line) more)
          ∙ ap (λ t. t ++ more) (ap (λ t. flat_map line_text lines ++ t) (sym (append-nil (line_text line))) ∙ sym (flat_map-append line_text lines (line ∷ [])));
      legible = All-append IsLegibleLine lines (line ∷ []) has.legible (All-cons IsLegibleLine line [] one.1 (All-nil IsLegibleLine));
    }

pub read_all : (text : List ℕ) (lines : List CertLine) (rest : List ℕ) → HasRead text lines rest → length rest ≡ 0 → AreRead text lines
read_all text lines rest has none = record {
  is_theirs = has.split ∙ ap (λ t. flat_map line_text lines ++ t) (nil_from_length rest none) ∙ append-nil (flat_map line_text lines);
  legible = has.legible;
}

-- where none was read, none may stand
begins_with_none : (before : ℕ) (text : List ℕ) → walk_line text ≡ None → BeginsWithNone (suc (suc (suc before))) text
begins_with_none before text none FormatLine more may e = elim may [ ]
begins_with_none before text none (RegionsLine regions) more may e = elim may [ ]
begins_with_none before text none (BudgetsLine budgets) more may e = elim may [ ]
begins_with_none before text none (WalkLine line) more may e =
    none-some (line, more) (sym none ∙ ap walk_line e ∙ walk_back line more may)

pub refused_here : (text : List ℕ) (lines : List CertLine) (rest : List ℕ) (n : ℕ) → HasRead text lines rest → 0 < length rest →
    walk_line rest ≡ None → n ≡ length lines + 4 → IsRefusedBehind text n
refused_here text lines rest n has some none nth = record {
  lines = lines;
  rest = rest;
  split = has.split;
  legible = has.legible;
  nth = nth;
  some = λ is. absurd (omega (arith, some, ap length is));
  none = begins_with_none (length lines) rest none;
}

-- ---- the text of a walk

pub walk_text : (lines : List CertLine) → flat_map text_of (map WalkLine lines) ≡ flat_map line_text lines
walk_text [] = refl
walk_text (line ∷ lines) = ap (λ t. line_text line ++ t) (walk_text lines)

in_three : (f r b rest : List ℕ) → f ++ (r ++ (b ++ rest)) ≡ ((f ++ r) ++ b) ++ rest
in_three f r b rest = simp append_assoc

-- the heading, and then the walk
pub in_parts : (c : Certificate) →
    cert_text c ≡ ((text_of FormatLine ++ text_of (RegionsLine c.regions)) ++ text_of (BudgetsLine c.budgets)) ++ flat_map line_text c.lines
unfolding cert_text lines_text
in_parts c =
    ap (λ t. text_of FormatLine ++ (text_of (RegionsLine c.regions) ++ (text_of (BudgetsLine c.budgets) ++ t))) (walk_text c.lines)
    ∙ in_three (text_of FormatLine) (text_of (RegionsLine c.regions)) (text_of (BudgetsLine c.budgets)) (flat_map line_text c.lines)
