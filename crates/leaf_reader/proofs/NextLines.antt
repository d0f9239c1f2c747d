-- The next line of a text, at its place.
use Rattle.std.proofs.Common.{◌≡◌, ◌∙◌, ℕ, suc, ◌<◌, ◌≤◌, Bool, true, false, ◌&&◌, ◌==◌, nat_lt, List, ◌∷◌, [], ◌++◌, length, Option, None, Some, refl, sym, ap, arith, codes}
use Rattle.std.specs.Prelude.{if◌then◌else◌, option_and_then}
use Rattle.std.proofs.lemmas.Bool.{eq-eqb, eqb-false, eqb-true, ne_eqb}
use Rattle.std.proofs.lemmas.Bool.Decides.{nat_tests}
use Rattle.std.proofs.lemmas.Option.{same_Some}
use Rattle.bv_dag.specs.Graphs.{width_of, with_node}
use Rattle.bv_dag.specs.Nodes.{Fits, node_width, widths_of}
use Rattle.bv_dag.specs.declared.nodes.Node.{Node}
use Rattle.bv_dag.proofs.TermLaws.{there, width_of-new}
use Rattle.rv_decode.specs.declared.ends.PathStep.{PathStep}
use Rattle.tree_core.specs.declared.cause.Cause.{Cause}
use Rattle.tree_core.specs.declared.choice.Choice.{Choice}
use Rattle.fork_spec.specs.declared.end.LeafEnd.{LeafEnd}
use Rattle.smt_text.specs.Grammar.{Reading, agree, end_by, graph_of, is_wide, next_state, stands, with_line}
use Rattle.smt_text.specs.LineReading.{end_said, end_word, kind_said, line_at, next_line, word_said}
use Rattle.leaf_reader.specs.ReadingState.{IsPushed}
use Rattle.text_parts.specs.Items.{all_choices, all_steps}
use Rattle.smt_text.specs.Lines.{LeafLine, ChoicesLine, EndLine, NodeLine, PathLine}
use Rattle.smt_text.specs.NodeFits.{fits}
use Rattle.text_parts.specs.Names.{Kind}
use Rattle.text_parts.specs.Pieces.{behind}
use Rattle.smt_text.specs.declared.ending.Ending.{Ending}
use Rattle.smt_text.specs.declared.spot.Spot.{Spot}
use Rattle.smt_text.specs.declared.spot.Spot.TheVariants.{AmongNodes, AtChoices, AtEnd, AtInputs, AtPath}
use Rattle.smt_text.proofs.Fitting.{fits_where_it_fits}
use Rattle.leaf_reader.proofs.ItemsFrom.{from_choices, from_steps}
use Rattle.text_parts.proofs.Options.{then_from}
use Rattle.smt_text.proofs.Reading.{small_choices, small_path}

-- ---- at any place

pub next_none : (place : Spot) (r : Reading) (text : List ℕ) → r.place ≡ place → line_at place text ≡ None → next_line r text ≡ None
unfolding next_line
next_none place r text here none =
    let e : line_at r.place text ≡ None = ap (λ (p : Spot). line_at p text) here ∙ none in
    rw e refl

pub next_some : (place : Spot) (r : Reading) (text : List ℕ) (line : LeafLine) (rest : List ℕ) → r.place ≡ place →
    line_at place text ≡ Some (line, rest) → stands place r line ≡ true → next_line r text ≡ Some (with_line r line, rest)
unfolding next_line next_state
next_some place r text line rest here read may =
    let e : line_at r.place text ≡ Some (line, rest) = ap (λ (p : Spot). line_at p text) here ∙ read in
    let s : stands r.place r line ≡ true = ap (λ (p : Spot). stands p r line) here ∙ may in
    rw (e, s) refl

pub next_refused : (place : Spot) (r : Reading) (text : List ℕ) (line : LeafLine) (rest : List ℕ) → r.place ≡ place →
    line_at place text ≡ Some (line, rest) → stands place r line ≡ false → next_line r text ≡ None
unfolding next_line next_state
next_refused place r text line rest here read may =
    let e : line_at r.place text ≡ Some (line, rest) = ap (λ (p : Spot). line_at p text) here ∙ read in
    let s : stands r.place r line ≡ false = ap (λ (p : Spot). stands p r line) here ∙ may in
    rw (e, s) refl

-- ---- the heading

pub next_choices : (r : Reading) (text : List ℕ) (cs : List Choice) (rest : List ℕ) → r.place ≡ AtChoices →
    option_and_then all_choices (behind (codes "; choices ") text) ≡ Some (cs, rest) →
    next_line r text ≡ Some (with_line r (ChoicesLine cs), rest)
next_choices r text cs rest here read =
    let a = then_from all_choices (behind (codes "; choices ") text) (cs, rest) read in
    next_some AtChoices r text (ChoicesLine cs) rest here (rw read refl)
    (small_choices cs (from_choices (suc (length a.0)) a.0 cs rest a.2).1)

pub next_path : (r : Reading) (text : List ℕ) (steps : List PathStep) (rest : List ℕ) → r.place ≡ AtPath →
    option_and_then all_steps (behind (codes "; path ") text) ≡ Some (steps, rest) →
    next_line r text ≡ Some (with_line r (PathLine steps), rest)
next_path r text steps rest here read =
    let a = then_from all_steps (behind (codes "; path ") text) (steps, rest) read in
    next_some AtPath r text (PathLine steps) rest here (rw read refl)
    (small_path steps (from_steps (suc (length a.0)) a.0 steps rest a.2).1)

pub next_end : (r : Reading) (kind : Option Cause) (text : List ℕ) (said : Ending) (end : LeafEnd) (rest : List ℕ) →
    r.place ≡ AtEnd → r.kind ≡ kind_said kind →
    option_and_then end_word (behind (codes "; end ") text) ≡ Some (said, rest) → end_said kind said ≡ Some end →
    next_line r text ≡ Some (record r { place = AtInputs; end = end }, rest)
next_end r kind text said end rest here kind_is read is = go (agree (kind_said kind) (word_said said)) refl is
  where
    go : (b : Bool) → agree (kind_said kind) (word_said said) ≡ b →
        (if b then Some (end_by (kind_said kind) (word_said said)) else None) ≡ Some end →
        next_line r text ≡ Some (record r { place = AtInputs; end = end }, rest)
    go false agrees h = cc
    go true agrees h =
        let same : end_by (kind_said kind) (word_said said) ≡ end = same_Some (end_by (kind_said kind) (word_said said)) end h in
        next_some AtEnd r text (EndLine (word_said said)) rest here (rw read refl) (rw kind_is agrees)
        ∙ ap (λ (k : Kind). Some (record r { place = AtInputs; end = end_by k (word_said said) }, rest)) kind_is
        ∙ ap (λ (e : LeafEnd). Some (record r { place = AtInputs; end = e }, rest)) same

-- ---- widths

lt_false : (a b : ℕ) → b ≤ a → nat_lt a b ≡ false
lt_false a b h = grind (arith, nat_tests)

-- no term stands past the last one
pub past_terms : (r : Reading) (id width count : ℕ) → count ≡ length r.nodes → count ≤ id → 0 < width →
    nat_lt id count ≡ is_wide r id width
past_terms r id width count all past some = lt_false id count past ∙ go (is_wide r id width) refl
  where
    go : (b : Bool) → is_wide r id width ≡ b → false ≡ b
    go false is = refl
    go true is = absurd (omega (arith, there (graph_of r) id width (eqb-true (width_of (graph_of r) id) width is) some, past, all))

-- ---- nodes

turned : (a b : ℕ) → (a == b) ≡ (b == a)
turned a b = go (a == b) refl
  where
    go : (d : Bool) → (a == b) ≡ d → d ≡ (b == a)
    go true e = sym (eq-eqb b a (sym (eqb-true a b e)))
    go false e = sym (ne_eqb b a (λ is. eqb-false a b e (sym is)))

-- a node that is the next and fits, and how wide it is
pub pushed_node : (r : Reading) (id width wide : ℕ) (node : Node) → id ≡ length r.nodes →
    Fits r.inputs (widths_of r.nodes) node → wide ≡ width_of (with_node (graph_of r) node) (length r.nodes) →
    IsPushed r (NodeLine id width node) (record r { nodes = r.nodes ++ node ∷ [] }) (wide == width)
pushed_node r id width wide node next fit is = go (wide == width) refl
  where
    both : (a b c d : Bool) → a ≡ true → b ≡ true → c ≡ d → (a && b && c) ≡ d
    both a b c d at_a at_b e = rw (at_a, at_b) e

    whole : wide ≡ node_width (widths_of r.nodes) node
    whole = is ∙ width_of-new (graph_of r) node

    tests : (d : Bool) → (wide == width) ≡ d → stands AmongNodes r (NodeLine id width node) ≡ d
    tests d e =
        both (id == length r.nodes) (fits r.inputs (widths_of r.nodes) node) (width == node_width (widths_of r.nodes) node) d
        (eq-eqb id (length r.nodes) next) (fits_where_it_fits r.inputs (widths_of r.nodes) node fit)
        (ap (λ w. width == w) (sym whole) ∙ turned width wide ∙ e)

    go : (d : Bool) → (wide == width) ≡ d → IsPushed r (NodeLine id width node) (record r { nodes = r.nodes ++ node ∷ [] }) d
    go true e = (tests true e, refl)
    go false e = tests false e
