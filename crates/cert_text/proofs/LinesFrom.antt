-- What was read as a line is its text, and it is legible.
use Rattle.std.proofs.Common.{◌≡◌, ◌∙◌, inl, inr, ℕ, ◌<◌, ◌^◌, Bool, true, false, nat_lt, List, ◌++◌, Option, None, Some, option_map, refl, sym, ap, subst, codes, decimal}
use Rattle.std.specs.Prelude.{All, if◌then◌else◌, option_and_then}
use Rattle.std.specs.List.{flat_map, list_all}
use Rattle.std.proofs.lemmas.Bool.{and_parts}
use Rattle.std.proofs.lemmas.Option.{same_Some}
use Rattle.cert_form.specs.declared.cert.Limits.{Limits}
use Rattle.cert_form.specs.declared.line.CertLine.{CertLine}
use Rattle.cert_form.specs.declared.line.CertLine.TheVariants.{One, Split, Tried, Inputs, Nodes, Logic, Input, Base, Node, Assert, Check, Exit, Clause, Value, Witness, End, CutSteps, CutNodes}
use Rattle.cert_form.specs.declared.node_line.DefinedNode.{DefinedNode}
use Rattle.cnf_form.specs.Clauses.{are_increasing, rise_above}
use Rattle.cnf_form.specs.Literals.{Literal}
use Rattle.cnf_form.specs.Refutations.{Step}
use Rattle.elf_load.specs.declared.region.Region.{Region}
use Rattle.fork_spec.specs.Evidence.{Found}
use Rattle.fork_spec.specs.Leaves.{IsSmall}
use Rattle.hex.specs.Hex.{encode_lower}
use Rattle.leaf_reader.proofs.ItemsFrom.{from_choice, from_eight}
use Rattle.leaf_reader.proofs.LinesFrom.{from_node_line, made_from, word_from}
use Rattle.leaf_reader.proofs.TermsSmall.{IsSmallNodeLine, node_line_small, word_small}
use Rattle.smt_text.specs.LineReading.{count_to_end, if_word, node_line}
use Rattle.smt_text.specs.Lines.{LeafLine, FormatLine, KindLine, ChoicesLine, PathLine, StepsLine, EndLine, InputsLine, NodesLine, OutputsLine, LogicLine, InputLine, BaseLine, NodeLine, StatusLine, OutputLine, AssertLine, CheckLine, ExitLine}
use Rattle.smt_text.specs.Lines as leaf
use Rattle.spent_text.specs.LearntLine.{hint_text, literal_text}
use Rattle.spent_text.specs.LineReading.{hint, literal, side}
use Rattle.spent_text.specs.Sides.{sides_text}
use Rattle.spent_text.proofs.ClauseBack.{IsHint, IsLiteral}
use Rattle.text_parts.specs.Items.{choice}
use Rattle.text_parts.specs.Names.{choice_text, eight_digits}
use Rattle.text_parts.specs.Pieces.{before, behind, eight, made, one, three}
use Rattle.text_parts.proofs.Joined.{five_pieces, three_pieces}
use Rattle.text_parts.proofs.Options.{map_from, or_from, then_from}
use Rattle.text_parts.proofs.Words.{from_before, from_behind, from_one, from_three}
use Rattle.cert_text.specs.Texts.{RegionsLine, BudgetsLine, blank_region, text_of}
use Rattle.cert_text.specs.Legible.{AreInput, AreSmallLimits, IsLegibleLine, IsSmallRegion}
use Rattle.cert_text.specs.LineReading.{all, budgets_line, budgets_of, budgets_read, clause_read, defined_in, fixed_line, found_from, hints_read, input_line, input_to_end, kind_at, line_of, node_read, region, regions_line, value_read, walk_line, worded_input}
use Rattle.cert_text.specs.Lines.{input_text, line_defining, line_text}
use Rattle.cert_text.specs.declared.kind.LineKind.{LineKind}
use Rattle.cert_text.specs.declared.kind.LineKind.TheVariants as kind
use Rattle.cert_text.proofs.BytesBack.{from_input}
use Rattle.cert_text.proofs.ItemsBack.{from_hints, from_literals, from_regions, from_sides}
use Rattle.cert_text.proofs.LinesBack.{budget_pieces, clause_pieces}

-- a text that is that of a legible line, and the rest
abbrev pub IsLine : List ℕ → CertLine → List ℕ → Type 0
IsLine text line rest = (text ≡ line_text line ++ rest) × IsLegibleLine line

same_line : (text : List ℕ) (line other : CertLine) (rest : List ℕ) → line ≡ other → IsLine text line rest → IsLine text other rest
same_line text line other rest e is = subst (λ (l : CertLine). IsLine text l rest) e is

from_fixed : (said : CertLine) (text : List ℕ) (line : CertLine) (rest : List ℕ) → IsLegibleLine said → fixed_line said text ≡ Some (line, rest) → IsLine text line rest
from_fixed said text line rest legible h =
    let b = map_from (λ (r : List ℕ). (said, r)) (behind (line_text said) text) (line, rest) h in
    same_line text said line rest (ap (λ (p : CertLine × List ℕ). p.0) b.2)
    (from_behind (line_text said) text b.0 b.1 ∙ ap (λ (p : CertLine × List ℕ). line_text said ++ p.1) b.2, legible)

from_numbered : (make : ℕ → CertLine) (word end text : List ℕ) (line : CertLine) (rest : List ℕ) →
    ((n : ℕ) → line_text (make n) ≡ (word ++ decimal n) ++ end) → ((n : ℕ) → n < 2 ^ 64 → IsLegibleLine (make n)) →
    made make (option_and_then (one end) (behind word text)) ≡ Some (line, rest) → IsLine text line rest
from_numbered make word end text line rest shape small h =
    let a = made_from make (option_and_then (one end) (behind word text)) line rest h in
    let b = then_from (one end) (behind word text) (a.0, rest) a.1 in
    let n = from_one end b.0 a.0 rest b.2 in
    same_line text (make a.0) line rest a.2 (
      from_behind word text b.0 b.1 ∙ ap (λ t. word ++ t) n.0 ∙ sym (three_pieces word (decimal a.0) end rest) ∙ ap (λ t. t ++ rest) (sym (shape a.0)),
      small a.0 n.1,
    )

from_count : (text : List ℕ) (n : ℕ) (rest : List ℕ) → count_to_end text ≡ Some (n, rest) → (text ≡ decimal n ++ (codes "\n" ++ rest)) × IsSmall n
from_count text n rest h =
    let a = then_from (λ ((k, r) : ℕ × List ℕ). if_word k (Some (k, r))) (one (codes "\n") text) (n, rest) h in
    let b = from_one (codes "\n") text a.0.0 a.0.1 a.1 in
    let same = same_Some a.0 (n, rest) (word_from a.0.0 (Some a.0) (n, rest) a.2) in (
      b.0 ∙ ap (λ (p : ℕ × List ℕ). decimal p.0 ++ (codes "\n" ++ p.1)) same,
      subst (λ (p : ℕ × List ℕ). IsSmall p.0) same (word_small a.0.0 (Some a.0) (n, rest) a.2),
    )

from_inputs : (text : List ℕ) (line : CertLine) (rest : List ℕ) →
    made Inputs (option_and_then count_to_end (behind (codes "; inputs ") text)) ≡ Some (line, rest) → IsLine text line rest
from_inputs text line rest h =
    let a = made_from Inputs (option_and_then count_to_end (behind (codes "; inputs ") text)) line rest h in
    let b = then_from count_to_end (behind (codes "; inputs ") text) (a.0, rest) a.1 in
    let n = from_count b.0 a.0 rest b.2 in
    same_line text (Inputs a.0) line rest a.2 (
      from_behind (codes "; inputs ") text b.0 b.1 ∙ ap (λ t. codes "; inputs " ++ t) n.0 ∙ sym (three_pieces (codes "; inputs ") (decimal a.0) (codes "\n") rest),
      n.1,
    )

from_one_line : (text : List ℕ) (line : CertLine) (rest : List ℕ) →
    made One (option_and_then (before choice (codes "\n")) (behind (codes "one ") text)) ≡ Some (line, rest) → IsLine text line rest
from_one_line text line rest h =
    let a = made_from One (option_and_then (before choice (codes "\n")) (behind (codes "one ") text)) line rest h in
    let b = then_from (before choice (codes "\n")) (behind (codes "one ") text) (a.0, rest) a.1 in
    let d = from_before choice (codes "\n") b.0 a.0 rest b.2 in
    let e = from_choice b.0 a.0 d.0 d.1 in
    same_line text (One a.0) line rest a.2 (
      from_behind (codes "one ") text b.0 b.1
          ∙ ap (λ t. codes "one " ++ t) (e.0 ∙ ap (λ t. choice_text a.0 ++ t) d.2)
          ∙ sym (three_pieces (codes "one ") (choice_text a.0) (codes "\n") rest),
      e.1,
    )

from_split : (text : List ℕ) (line : CertLine) (rest : List ℕ) →
    made Split (option_and_then (all side (codes "\n")) (behind (codes "split") text)) ≡ Some (line, rest) → IsLine text line rest
from_split text line rest h =
    let a = made_from Split (option_and_then (all side (codes "\n")) (behind (codes "split") text)) line rest h in
    let b = then_from (all side (codes "\n")) (behind (codes "split") text) (a.0, rest) a.1 in
    let d = from_sides b.0 a.0 rest b.2 in
    same_line text (Split a.0) line rest a.2 (
      from_behind (codes "split") text b.0 b.1 ∙ ap (λ t. codes "split" ++ t) d.0 ∙ sym (three_pieces (codes "split") (sides_text a.0) (codes "\n") rest),
      d.1,
    )

from_defined : (line : LeafLine) (defined : DefinedNode) → defined_in line ≡ Some defined → line ≡ line_defining defined
from_defined (NodeLine id width node) defined h =
    ap line_defining (same_Some (record { id = id; width = width; node = node }) defined h)
from_defined FormatLine defined h = cc
from_defined (KindLine kind) defined h = cc
from_defined (ChoicesLine choices) defined h = cc
from_defined (PathLine path) defined h = cc
from_defined (StepsLine steps) defined h = cc
from_defined (EndLine word) defined h = cc
from_defined (InputsLine n) defined h = cc
from_defined (NodesLine n) defined h = cc
from_defined (OutputsLine n) defined h = cc
from_defined LogicLine defined h = cc
from_defined (InputLine i) defined h = cc
from_defined BaseLine defined h = cc
from_defined (StatusLine id) defined h = cc
from_defined (OutputLine i id) defined h = cc
from_defined (AssertLine id) defined h = cc
from_defined CheckLine defined h = cc
from_defined ExitLine defined h = cc

from_node : (text : List ℕ) (line : CertLine) (rest : List ℕ) → made Node (node_read text) ≡ Some (line, rest) → IsLine text line rest
from_node text line rest h =
    let a = made_from Node (node_read text) line rest h in
    let b = then_from (λ ((l, r) : LeafLine × List ℕ). option_map (λ (defined : DefinedNode). (defined, r)) (defined_in l)) (node_line text) (a.0, rest) a.1 in
    let d = map_from (λ (defined : DefinedNode). (defined, b.0.1)) (defined_in b.0.0) (a.0, rest) b.2 in
    let same : b.0.0 ≡ line_defining a.0 = from_defined b.0.0 d.0 d.1 ∙ ap (λ (p : DefinedNode × List ℕ). line_defining p.0) d.2 in
    let small : IsSmallNodeLine (line_defining a.0) = subst IsSmallNodeLine same (node_line_small text b.0.0 b.0.1 b.1) in
    same_line text (Node a.0) line rest a.2 (
      from_node_line text b.0.0 b.0.1 b.1 ∙ ap (λ (l : LeafLine). leaf.line_text l ++ b.0.1) same ∙ ap (λ (p : DefinedNode × List ℕ). leaf.line_text (line_defining a.0) ++ p.1) d.2,
      small,
    )

from_worded : (make : List ℕ → CertLine) (word text : List ℕ) (line : CertLine) (rest : List ℕ) →
    ((input : List ℕ) → line_text (make input) ≡ input_text word input) → ((input : List ℕ) → AreInput input → IsLegibleLine (make input)) →
    made make (worded_input word text) ≡ Some (line, rest) → IsLine text line rest
from_worded make word text line rest shape bytes h =
    let a = made_from make (worded_input word text) line rest h in
    let b = then_from input_to_end (behind word text) (a.0, rest) a.1 in
    let d = from_input b.0 a.0 rest b.2 in
    same_line text (make a.0) line rest a.2 (
      from_behind word text b.0 b.1 ∙ ap (λ t. word ++ t) d.0 ∙ sym (three_pieces word (encode_lower a.0) (codes "\n") rest) ∙ ap (λ t. t ++ rest) (sym (shape a.0)),
      bytes a.0 d.1,
    )

from_value : (text : List ℕ) (line : CertLine) (rest : List ℕ) →
    made Value (option_and_then (λ (value, r). found_from value r) (value_read text)) ≡ Some (line, rest) → IsLine text line rest
from_value text line rest h =
    let a = made_from Value (option_and_then (λ ((value, r) : ℕ × List ℕ). found_from value r) (value_read text)) line rest h in
    let b = then_from (λ ((value, r) : ℕ × List ℕ). found_from value r) (value_read text) (a.0, rest) a.1 in
    let d = then_from (before eight (codes " ")) (behind (codes "v ") text) b.0 b.1 in
    let e = from_before eight (codes " ") d.0 b.0.0 b.0.1 d.2 in
    let value = from_eight d.0 b.0.0 e.0 e.1 in
    let f = made_from (λ (input : List ℕ). record { value = b.0.0; input = input }) (input_to_end b.0.1) a.0 rest b.2 in
    let input = from_input b.0.1 f.0 rest f.1 in
    let found : Found = record { value = b.0.0; input = f.0 } in
    same_line text (Value found) line rest (ap Value f.2 ∙ a.2) (
      from_behind (codes "v ") text d.0 d.1
          ∙ ap (λ t. codes "v " ++ t) (value.0 ∙ ap (λ t. eight_digits b.0.0 ++ t) (e.2 ∙ ap (λ t. codes " " ++ t) input.0))
          ∙ sym (five_pieces (codes "v ") (eight_digits b.0.0) (codes " ") (encode_lower f.0) (codes "\n") rest),
      (value.1, input.1),
    )

-- ---- clauses

from_above : (ls : List Literal) → rise_above 0 ls ≡ true → are_increasing ls ≡ true
from_above ls h = (and_parts (list_all (λ (l : Literal). nat_lt 0 l.variable) ls) (are_increasing ls) h).1

from_hints_read : (ls : List Literal) (text : List ℕ) (step : Step) (rest : List ℕ) → hints_read ls text ≡ Some (step, rest) →
    (rise_above 0 ls ≡ true) × (step.clause ≡ ls) × (text ≡ flat_map hint_text step.hints ++ (codes " 0\n" ++ rest)) × All IsHint step.hints
from_hints_read ls text step rest h = go (rise_above 0 ls) refl h
  where
    go : (b : Bool) → rise_above 0 ls ≡ b → (if b then made (λ (hints : List ℕ). record { clause = ls; hints = hints }) (all hint (codes " 0\n") text) else None) ≡ Some (step, rest) →
        (rise_above 0 ls ≡ true) × (step.clause ≡ ls) × (text ≡ flat_map hint_text step.hints ++ (codes " 0\n" ++ rest)) × All IsHint step.hints
    go true is h =
        let a = made_from (λ (hints : List ℕ). record { clause = ls; hints = hints }) (all hint (codes " 0\n") text) step rest h in
        let b = from_hints text a.0 rest a.1 in
        let hints : a.0 ≡ step.hints = ap (λ (s : Step). s.hints) a.2 in (
          is,
          sym (ap (λ (s : Step). s.clause) a.2),
          b.0 ∙ ap (λ (ns : List ℕ). flat_map hint_text ns ++ (codes " 0\n" ++ rest)) hints,
          subst (All IsHint) hints b.1,
        )
    go false is h = cc

from_clause : (text : List ℕ) (line : CertLine) (rest : List ℕ) →
    made Clause (option_and_then clause_read (behind (codes "c") text)) ≡ Some (line, rest) → IsLine text line rest
from_clause text line rest h =
    let a = made_from Clause (option_and_then clause_read (behind (codes "c") text)) line rest h in
    let b = then_from clause_read (behind (codes "c") text) (a.0, rest) a.1 in
    let d = then_from (λ ((ls, r) : List Literal × List ℕ). hints_read ls r) (all literal (codes " 0") b.0) (a.0, rest) b.2 in
    let literals = from_literals b.0 d.0.0 d.0.1 d.1 in
    let step : Step = a.0 in
    let hints = from_hints_read d.0.0 d.0.1 step rest d.2 in
    let same : step.clause ≡ d.0.0 = hints.1 in
    let each : All IsLiteral step.clause = subst (All IsLiteral) (sym same) literals.1 in
    let rising : rise_above 0 step.clause ≡ true = ap (rise_above 0) same ∙ hints.0 in
    same_line text (Clause step) line rest a.2 (
      from_behind (codes "c") text b.0 b.1
          ∙ ap (λ t. codes "c" ++ t) (literals.0
          ∙ ap (λ (ls : List Literal). flat_map literal_text ls ++ (codes " 0" ++ d.0.1)) (sym same)
          ∙ ap (λ t. flat_map literal_text step.clause ++ (codes " 0" ++ t)) hints.2)
          ∙ sym (clause_pieces step rest),
      (
        record { from_one = λ k l within. (each k l within).0; increasing = from_above step.clause rising },
        record { variables = λ k l within. (each k l within).1; hints = hints.3 },
      ),
    )

-- ---- each kind

from_kind : (found : LineKind) (text : List ℕ) (line : CertLine) (rest : List ℕ) → line_of found text ≡ Some (line, rest) → IsLine text line rest
unfolding line_of
from_kind kind.One text line rest h = from_one_line text line rest h
from_kind kind.Split text line rest h = from_split text line rest h
from_kind kind.Tried text line rest h = from_fixed Tried text line rest tt h
from_kind kind.Inputs text line rest h = from_inputs text line rest h
from_kind kind.Nodes text line rest h = from_numbered Nodes (codes "; nodes ") (codes "\n") text line rest (λ n. refl) (λ n small. small) h
from_kind kind.Logic text line rest h = from_fixed Logic text line rest tt h
from_kind kind.Declare text line rest h =
    elim (or_from (input_line text) (fixed_line Base text) (line, rest) h) [
      | inl input ↦ from_numbered Input (codes "(declare-fun b") (codes " () (_ BitVec 8))\n") text line rest (λ n. refl) (λ n small. small) input
      | inr base ↦ from_fixed Base text line rest tt base
    ]
from_kind kind.Node text line rest h = from_node text line rest h
from_kind kind.Assert text line rest h = from_numbered Assert (codes "(assert (= n") (codes " (_ bv1 1)))\n") text line rest (λ n. refl) (λ n small. small) h
from_kind kind.Check text line rest h = from_fixed Check text line rest tt h
from_kind kind.Exit text line rest h = from_fixed Exit text line rest tt h
from_kind kind.Clause text line rest h = from_clause text line rest h
from_kind kind.Value text line rest h = from_value text line rest h
from_kind kind.Witness text line rest h = from_worded Witness (codes "w ") text line rest (λ input. refl) (λ input bytes. bytes) h
from_kind kind.End text line rest h = from_worded End (codes "end ") text line rest (λ input. refl) (λ input bytes. bytes) h
from_kind kind.CutSteps text line rest h = from_worded CutSteps (codes "cut steps ") text line rest (λ input. refl) (λ input bytes. bytes) h
from_kind kind.CutNodes text line rest h = from_fixed CutNodes text line rest tt h

pub from_walk : (text : List ℕ) (line : CertLine) (rest : List ℕ) → walk_line text ≡ Some (line, rest) → IsLine text line rest
unfolding walk_line
from_walk text line rest h =
    let a = then_from (λ (found : LineKind). line_of found text) (kind_at text) (line, rest) h in
    from_kind a.0 text line rest a.2

-- ---- the heading

pub from_regions_line : (text : List ℕ) (regions : List Region) (rest : List ℕ) → regions_line text ≡ Some (regions, rest) →
    (text ≡ text_of (RegionsLine regions) ++ rest) × All IsSmallRegion regions
from_regions_line text regions rest h =
    let b = then_from (all region (codes "\n")) (behind (codes "regions") text) (regions, rest) h in
    let d = from_regions b.0 regions rest b.2 in
    (from_behind (codes "regions") text b.0 b.1 ∙ ap (λ t. codes "regions" ++ t) d.0 ∙ sym (three_pieces (codes "regions") (flat_map blank_region regions) (codes "\n") rest), d.1)

from_budgets_of : (s t c n : ℕ) (budgets : Limits) → budgets_of s t c n ≡ Some budgets →
    (budgets ≡ record { steps = s; targets = t; conflicts = c; nodes = n }) × AreSmallLimits budgets
from_budgets_of s t c n budgets h =
    let made : Limits = record { steps = s; targets = t; conflicts = c; nodes = n } in
    let last : Option Limits = Some made in
    let without_t = word_from s (if_word t (if_word c (if_word n last))) budgets h in
    let without_c = word_from t (if_word c (if_word n last)) budgets without_t in
    let without_n = word_from c (if_word n last) budgets without_c in
    let same : made ≡ budgets = same_Some made budgets (word_from n last budgets without_n) in
    let small : AreSmallLimits made = record {
      steps = word_small s (if_word t (if_word c (if_word n last))) budgets h;
      targets = word_small t (if_word c (if_word n last)) budgets without_t;
      conflicts = word_small c (if_word n last) budgets without_c;
      nodes = word_small n last budgets without_n;
    } in
    (sym same, subst AreSmallLimits same small)

pub from_budgets_line : (text : List ℕ) (budgets : Limits) (rest : List ℕ) → budgets_line text ≡ Some (budgets, rest) →
    (text ≡ text_of (BudgetsLine budgets) ++ rest) × AreSmallLimits budgets
from_budgets_line text budgets rest h =
    let blank : List ℕ = codes " " in
    let a = then_from budgets_read (behind (codes "budgets ") text) (budgets, rest) h in
    let b = then_from (λ ((p, r) : (ℕ × ℕ × ℕ) × List ℕ). option_and_then (λ ((n, more) : ℕ × List ℕ). option_map (λ (x : Limits). (x, more)) (budgets_of p.0 p.1 p.2 n)) (one (codes "\n") r))
    (three blank blank blank a.0) (budgets, rest) a.2 in
    let d = then_from (λ ((n, more) : ℕ × List ℕ). option_map (λ (x : Limits). (x, more)) (budgets_of b.0.0.0 b.0.0.1 b.0.0.2 n)) (one (codes "\n") b.0.1) (budgets, rest) b.2 in
    let e = map_from (λ (x : Limits). (x, d.0.1)) (budgets_of b.0.0.0 b.0.0.1 b.0.0.2 d.0.0) (budgets, rest) d.2 in
    let first = from_three blank blank blank a.0 b.0.0 b.0.1 b.1 in
    let last = from_one (codes "\n") b.0.1 d.0.0 d.0.1 d.1 in
    let is = from_budgets_of b.0.0.0 b.0.0.1 b.0.0.2 d.0.0 e.0 e.1 in
    let found : Limits = record { steps = b.0.0.0; targets = b.0.0.1; conflicts = b.0.0.2; nodes = d.0.0 } in
    let same : e.0 ≡ budgets = ap (λ (p : Limits × List ℕ). p.0) e.2 in (
      from_behind (codes "budgets ") text a.0 a.1
          ∙ ap (λ t. codes "budgets " ++ t) (first.0
          ∙ ap (λ t. decimal b.0.0.0 ++ (blank ++ (decimal b.0.0.1 ++ (blank ++ (decimal b.0.0.2 ++ (blank ++ t)))))) last.0)
          ∙ sym (budget_pieces (codes "budgets ") (decimal found.steps) blank (decimal found.targets) (decimal found.conflicts) (decimal found.nodes) (codes "\n") d.0.1)
          ∙ ap (λ (x : Limits). text_of (BudgetsLine x) ++ d.0.1) (sym is.0 ∙ same)
          ∙ ap (λ (p : Limits × List ℕ). text_of (BudgetsLine budgets) ++ p.1) e.2,
      subst AreSmallLimits same is.1,
    )
