-- What was read as a line or as a term is its text.
use Rattle.std.proofs.Common.{◌≡◌, ◌∙◌, inl, inr, ℕ, suc, ◌^◌, Bool, true, false, nat_lt, List, ◌++◌, length, Option, None, Some, refl, sym, ap, codes, decimal}
use Rattle.std.specs.Prelude.{if◌then◌else◌, option_and_then}
use Rattle.std.proofs.lemmas.Option.{same_Some}
use Rattle.bv_dag.specs.declared.nodes.Comparison.TheVariants.{Eq}
use Rattle.bv_dag.specs.declared.nodes.Node.{Node}
use Rattle.bv_dag.specs.declared.nodes.Node.TheVariants.{Num, Input, Not, Neg, Binary, Compare, Ite, Extract, Extend, Concat}
use Rattle.smt_text.specs.LineReading.{answers, endings, equal_operands, fixed, heads, if_word, ite_operands, kind_said, kinds, line_at, node_line, read_operands, term, word_said}
use Rattle.text_parts.specs.Items.{all_choices, all_steps}
use Rattle.smt_text.specs.Lines.{LeafLine, FormatLine, KindLine, ChoicesLine, PathLine, StepsLine, EndLine, InputsLine, NodesLine, OutputsLine, LogicLine, InputLine, BaseLine, NodeLine, StatusLine, OutputLine, AssertLine, CheckLine, ExitLine, line_text}
use Rattle.text_parts.specs.Names.{choices_text, kind_text, path_text, word_text}
use Rattle.smt_text.specs.NodeText.{binary_name, comparison_name, extension_name, node_text}
use Rattle.text_parts.specs.Pieces.{before, behind, list_end, made, named, number, one, three, two}
use Rattle.smt_text.specs.declared.head.Head.{Head}
use Rattle.smt_text.specs.declared.head.Head.TheVariants as head
use Rattle.smt_text.specs.declared.spot.Spot.{Spot}
use Rattle.smt_text.specs.declared.spot.Spot.TheVariants.{AtFormat, AtKind, AtChoices, AtPath, AtSteps, AtEnd, AtInputs, AtNodes, AtOutputs, AtLogic, AmongInputs, AtBase, AmongNodes, AtStatus, AmongOutputs, AmongAssertions, AtExit, Closed}
use Rattle.leaf_reader.proofs.ItemsFrom.{from_choices, from_steps}
use Rattle.smt_text.proofs.LinesBack.{head_piece}
use Rattle.text_parts.proofs.Options.{map_from, or_from, then_from}
use Rattle.text_parts.proofs.Joined.{five_pieces, seven_pieces, three_pieces, two_pieces}
use Rattle.text_parts.proofs.Words.{Says, from_before, from_behind, from_named, from_number, from_one, from_three, from_two}

-- something that was made of what was read
pub made_from : {X Y : Type 0} (make : X → Y) (o : Option (X × List ℕ)) (y : Y) (rest : List ℕ) →
    made make o ≡ Some (y, rest) → (x : X) × (o ≡ Some (x, rest)) × (make x ≡ y)
made_from make None y rest h = cc
made_from {X} {Y} make (Some p) y rest h =
    let same = same_Some (make p.0, p.1) (y, rest) h in
    let parts : (X × List ℕ) → List ℕ → X × List ℕ = λ q t. (q.0, t) in
    (p.0, ap (λ (t : List ℕ). Some (parts p t)) (ap (λ (q : Y × List ℕ). q.1) same), ap (λ (q : Y × List ℕ). q.0) same)

pub word_from : {X : Type 0} (n : ℕ) (o : Option X) (x : X) → if_word n o ≡ Some x → o ≡ Some x
word_from n o x h = go (nat_lt n (2 ^ 32)) h
  where
    go : (b : Bool) → (if b then o else None) ≡ Some x → o ≡ Some x
    go true h = h
    go false h = cc

-- ---- terms

-- the text of a head
head_text : Head → List ℕ
head_text head.Num = codes "(_ bv"
head_text head.Input = codes "b"
head_text head.Not = codes "(bvnot n"
head_text head.Neg = codes "(bvneg n"
head_text (head.Binary op) = (codes "(" ++ binary_name op) ++ codes " n"
head_text (head.Test op) = (codes "(ite (" ++ comparison_name op) ++ codes " n"
head_text head.Equal = codes "(ite (= n"
head_text head.Extract = codes "((_ extract "
head_text (head.Extend signed) = (codes "((_ " ++ extension_name signed) ++ codes " "
head_text head.Concat = codes "(concat n"

heads_say : Says head_text heads
unfolding head_text
heads_say =
    (refl, (refl, (refl, (refl, (refl, (refl, (refl, (refl, (refl, (refl, (refl, (refl, (refl, (refl, (refl, (refl, (refl, (refl, (refl, (refl, (refl, (refl, tt))))))))))))))))))))))

number_term : (make : ℕ → Node) (word end text : List ℕ) (node : Node) (rest : List ℕ) →
    ((n : ℕ) → node_text (make n) ≡ (word ++ decimal n) ++ end) → made make (one end text) ≡ Some (node, rest) →
    word ++ text ≡ node_text node ++ rest
number_term make word end text node rest shape h =
    let a = made_from make (one end text) node rest h in
    let b = from_one end text a.0 rest a.1 in
    ap (λ t. word ++ t) b.0 ∙ sym (three_pieces word (decimal a.0) end rest) ∙ ap (λ t. t ++ rest) (sym (shape a.0))
    ∙ ap (λ (n : Node). node_text n ++ rest) a.2

numbers_term : (make : (ℕ × ℕ) → Node) (word middle end text : List ℕ) (node : Node) (rest : List ℕ) →
    ((p : ℕ × ℕ) → node_text (make p) ≡ (((word ++ decimal p.0) ++ middle) ++ decimal p.1) ++ end) →
    made make (two middle end text) ≡ Some (node, rest) → word ++ text ≡ node_text node ++ rest
numbers_term make word middle end text node rest shape h =
    let a = made_from make (two middle end text) node rest h in
    let b = from_two middle end text a.0 rest a.1 in
    ap (λ t. word ++ t) b.0 ∙ sym (five_pieces word (decimal a.0.0) middle (decimal a.0.1) end rest)
    ∙ ap (λ t. t ++ rest) (sym (shape a.0)) ∙ ap (λ (n : Node). node_text n ++ rest) a.2

from_operands : (found : Head) (text : List ℕ) (node : Node) (rest : List ℕ) → read_operands found text ≡ Some (node, rest) →
    head_text found ++ text ≡ node_text node ++ rest
unfolding read_operands head_text
from_operands head.Num text node rest h =
    let a = then_from (λ ((p, r) : (ℕ × ℕ) × List ℕ). if_word p.1 (Some (Num p.1 p.0, r))) (two (codes " ") (codes ")") text) (node, rest) h in
    let e = same_Some (Num a.0.0.1 a.0.0.0, a.0.1) (node, rest) (word_from a.0.0.1 (Some (Num a.0.0.1 a.0.0.0, a.0.1)) (node, rest) a.2) in
    let b = from_two (codes " ") (codes ")") text a.0.0 a.0.1 a.1 in
    ap (λ t. codes "(_ bv" ++ t) b.0 ∙ sym (five_pieces (codes "(_ bv") (decimal a.0.0.0) (codes " ") (decimal a.0.0.1) (codes ")") a.0.1)
    ∙ ap (λ (p : Node × List ℕ). node_text p.0 ++ p.1) e
from_operands head.Input text node rest h =
    let a = made_from Input (number text) node rest h in
    let b = from_number text a.0 rest a.1 in
    ap (λ t. codes "b" ++ t) b.0 ∙ sym (two_pieces (codes "b") (decimal a.0) rest) ∙ ap (λ (n : Node). node_text n ++ rest) a.2
from_operands head.Not text node rest h = number_term Not (codes "(bvnot n") (codes ")") text node rest (λ n. refl) h
from_operands head.Neg text node rest h = number_term Neg (codes "(bvneg n") (codes ")") text node rest (λ n. refl) h
from_operands (head.Binary op) text node rest h =
    numbers_term (λ (a, b). Binary op a b) ((codes "(" ++ binary_name op) ++ codes " n") (codes " n") (codes ")") text node rest (λ p. refl) h
from_operands (head.Test op) text node rest h =
    numbers_term (λ (a, b). Compare op a b) ((codes "(ite (" ++ comparison_name op) ++ codes " n") (codes " n") answers text node rest (λ p. refl) h
from_operands head.Equal text node rest h =
    elim (or_from (equal_operands text) (ite_operands text) (node, rest) h) [
      | inl equal ↦ numbers_term (λ (a, b). Compare Eq a b) (codes "(ite (= n") (codes " n") answers text node rest (λ p. refl) equal
      | inr ite ↦
          let a = made_from (λ ((c, x, y) : ℕ × ℕ × ℕ). Ite c x y) (three (codes " (_ bv1 1)) n") (codes " n") (codes ")") text) node rest ite in
          let b = from_three (codes " (_ bv1 1)) n") (codes " n") (codes ")") text a.0 rest a.1 in
          ap (λ t. codes "(ite (= n" ++ t) b.0
          ∙ sym (seven_pieces (codes "(ite (= n") (decimal a.0.0) (codes " (_ bv1 1)) n") (decimal a.0.1) (codes " n") (decimal a.0.2) (codes ")") rest)
          ∙ ap (λ (n : Node). node_text n ++ rest) a.2
    ]
from_operands head.Extract text node rest h =
    let a = then_from (λ ((p, r) : (ℕ × ℕ × ℕ) × List ℕ). if_word p.0 (if_word p.1 (Some (Extract p.0 p.1 p.2, r)))) (three (codes " ") (codes ") n") (codes ")") text) (node, rest) h in
    let e = same_Some (Extract a.0.0.0 a.0.0.1 a.0.0.2, a.0.1) (node, rest) (word_from a.0.0.1 (Some (Extract a.0.0.0 a.0.0.1 a.0.0.2, a.0.1)) (node, rest) (word_from a.0.0.0 (if_word a.0.0.1 (Some (Extract a.0.0.0 a.0.0.1 a.0.0.2, a.0.1))) (node, rest) a.2)) in
    let b = from_three (codes " ") (codes ") n") (codes ")") text a.0.0 a.0.1 a.1 in
    ap (λ t. codes "((_ extract " ++ t) b.0
    ∙ sym (seven_pieces (codes "((_ extract ") (decimal a.0.0.0) (codes " ") (decimal a.0.0.1) (codes ") n") (decimal a.0.0.2) (codes ")") a.0.1)
    ∙ ap (λ (p : Node × List ℕ). node_text p.0 ++ p.1) e
from_operands (head.Extend signed) text node rest h =
    let a = then_from (λ ((p, r) : (ℕ × ℕ) × List ℕ). if_word p.0 (Some (Extend p.0 signed p.1, r))) (two (codes ") n") (codes ")") text) (node, rest) h in
    let e = same_Some (Extend a.0.0.0 signed a.0.0.1, a.0.1) (node, rest) (word_from a.0.0.0 (Some (Extend a.0.0.0 signed a.0.0.1, a.0.1)) (node, rest) a.2) in
    let b = from_two (codes ") n") (codes ")") text a.0.0 a.0.1 a.1 in
    ap (λ t. ((codes "((_ " ++ extension_name signed) ++ codes " ") ++ t) b.0
    ∙ sym (five_pieces ((codes "((_ " ++ extension_name signed) ++ codes " ") (decimal a.0.0.0) (codes ") n") (decimal a.0.0.1) (codes ")") a.0.1)
    ∙ ap (λ (p : Node × List ℕ). node_text p.0 ++ p.1) e
from_operands head.Concat text node rest h =
    numbers_term (λ (a, b). Concat a b) (codes "(concat n") (codes " n") (codes ")") text node rest (λ p. refl) h

from_term : (text : List ℕ) (node : Node) (rest : List ℕ) → term text ≡ Some (node, rest) → text ≡ node_text node ++ rest
unfolding term
from_term text node rest h =
    let a = then_from (λ ((found, r) : Head × List ℕ). read_operands found r) (named heads text) (node, rest) h in
    from_named head_text heads heads_say text a.0.0 a.0.1 a.1 ∙ from_operands a.0.0 a.0.1 node rest a.2

-- ---- lines

from_fixed : (said : LeafLine) (text : List ℕ) (line : LeafLine) (rest : List ℕ) → fixed said text ≡ Some (line, rest) →
    text ≡ line_text line ++ rest
from_fixed said text line rest h =
    let b = map_from (λ (r : List ℕ). (said, r)) (behind (line_text said) text) (line, rest) h in
    from_behind (line_text said) text b.0 b.1 ∙ ap (λ (p : LeafLine × List ℕ). line_text p.0 ++ p.1) b.2

number_line : (make : ℕ → LeafLine) (word end text : List ℕ) (line : LeafLine) (rest : List ℕ) →
    ((n : ℕ) → line_text (make n) ≡ (word ++ decimal n) ++ end) →
    made make (option_and_then (one end) (behind word text)) ≡ Some (line, rest) → text ≡ line_text line ++ rest
number_line make word end text line rest shape h =
    let a = made_from make (option_and_then (one end) (behind word text)) line rest h in
    let b = then_from (one end) (behind word text) (a.0, rest) a.1 in
    let n = from_one end b.0 a.0 rest b.2 in
    from_behind word text b.0 b.1 ∙ ap (λ t. word ++ t) n.0 ∙ sym (three_pieces word (decimal a.0) end rest)
    ∙ ap (λ t. t ++ rest) (sym (shape a.0)) ∙ ap (λ (l : LeafLine). line_text l ++ rest) a.2

-- a line with a word out of a table
word_line : {X : Type 0} (make : X → LeafLine) (print : X → List ℕ) (table : List (List ℕ × X)) (word text : List ℕ) (line : LeafLine) (rest : List ℕ) →
    Says (λ x. print x ++ codes "\n") table → ((x : X) → line_text (make x) ≡ (word ++ print x) ++ codes "\n") →
    made make (option_and_then (named table) (behind word text)) ≡ Some (line, rest) → text ≡ line_text line ++ rest
word_line make print table word text line rest says shape h =
    let a = made_from make (option_and_then (named table) (behind word text)) line rest h in
    let b = then_from (named table) (behind word text) (a.0, rest) a.1 in
    from_behind word text b.0 b.1
    ∙ ap (λ t. word ++ t) (from_named (λ x. print x ++ codes "\n") table says b.0 a.0 rest b.2)
    ∙ sym (head_piece word (print a.0) (codes "\n") rest)
    ∙ ap (λ t. t ++ rest) (sym (shape a.0)) ∙ ap (λ (l : LeafLine). line_text l ++ rest) a.2

pub from_node_line : (text : List ℕ) (line : LeafLine) (rest : List ℕ) → node_line text ≡ Some (line, rest) →
    text ≡ line_text line ++ rest
unfolding node_line
from_node_line text line rest h =
    let a = then_from (λ ((p, r) : (ℕ × ℕ) × List ℕ). made (NodeLine p.0 p.1) (before term (codes ")\n") r))
    (option_and_then (two (codes " () (_ BitVec ") (codes ") ")) (behind (codes "(define-fun n") text)) (line, rest) h in
    let b = then_from (two (codes " () (_ BitVec ") (codes ") ")) (behind (codes "(define-fun n") text) a.0 a.1 in
    let numbers = from_two (codes " () (_ BitVec ") (codes ") ") b.0 a.0.0 a.0.1 b.2 in
    let d = made_from (NodeLine a.0.0.0 a.0.0.1) (before term (codes ")\n") a.0.1) line rest a.2 in
    let e = from_before term (codes ")\n") a.0.1 d.0 rest d.1 in
    from_behind (codes "(define-fun n") text b.0 b.1
    ∙ ap (λ t. codes "(define-fun n" ++ t) (numbers.0
    ∙ ap (λ t. decimal a.0.0.0 ++ (codes " () (_ BitVec " ++ (decimal a.0.0.1 ++ (codes ") " ++ t))))
    (from_term a.0.1 d.0 e.0 e.1 ∙ ap (λ t. node_text d.0 ++ t) e.2))
    ∙ sym (seven_pieces (codes "(define-fun n") (decimal a.0.0.0) (codes " () (_ BitVec ") (decimal a.0.0.1) (codes ") ") (node_text d.0) (codes ")\n") rest)
    ∙ ap (λ (l : LeafLine). line_text l ++ rest) d.2

pub from_line : (place : Spot) (text : List ℕ) (line : LeafLine) (rest : List ℕ) → line_at place text ≡ Some (line, rest) →
    text ≡ line_text line ++ rest
from_line AtFormat text line rest h = from_fixed FormatLine text line rest h
from_line AtKind text line rest h =
    word_line (λ cause. KindLine (kind_said cause)) (λ cause. kind_text (kind_said cause)) kinds (codes "; kind ") text line rest
    (refl, (refl, (refl, (refl, (refl, tt))))) (λ cause. refl) h
from_line AtChoices text line rest h =
    let a = made_from ChoicesLine (option_and_then all_choices (behind (codes "; choices ") text)) line rest h in
    let b = then_from all_choices (behind (codes "; choices ") text) (a.0, rest) a.1 in
    from_behind (codes "; choices ") text b.0 b.1
    ∙ ap (λ t. codes "; choices " ++ t) (from_choices (suc (length b.0)) b.0 a.0 rest b.2).0
    ∙ sym (three_pieces (codes "; choices ") (choices_text a.0) list_end rest) ∙ ap (λ (l : LeafLine). line_text l ++ rest) a.2
from_line AtPath text line rest h =
    let a = made_from PathLine (option_and_then all_steps (behind (codes "; path ") text)) line rest h in
    let b = then_from all_steps (behind (codes "; path ") text) (a.0, rest) a.1 in
    from_behind (codes "; path ") text b.0 b.1
    ∙ ap (λ t. codes "; path " ++ t) (from_steps (suc (length b.0)) b.0 a.0 rest b.2).0
    ∙ sym (three_pieces (codes "; path ") (path_text a.0) list_end rest) ∙ ap (λ (l : LeafLine). line_text l ++ rest) a.2
from_line AtSteps text line rest h = number_line StepsLine (codes "; steps ") (codes "\n") text line rest (λ n. refl) h
from_line AtEnd text line rest h =
    word_line (λ said. EndLine (word_said said)) (λ said. word_text (word_said said)) endings (codes "; end ") text line rest
    (refl, (refl, (refl, (refl, (refl, (refl, (refl, (refl, (refl, (refl, (refl, tt))))))))))) (λ said. refl) h
from_line AtInputs text line rest h = number_line InputsLine (codes "; inputs ") (codes "\n") text line rest (λ n. refl) h
from_line AtNodes text line rest h = number_line NodesLine (codes "; nodes ") (codes "\n") text line rest (λ n. refl) h
from_line AtOutputs text line rest h = number_line OutputsLine (codes "; outputs ") (codes "\n") text line rest (λ n. refl) h
from_line AtLogic text line rest h = from_fixed LogicLine text line rest h
from_line AmongInputs text line rest h =
    number_line InputLine (codes "(declare-fun b") (codes " () (_ BitVec 8))\n") text line rest (λ n. refl) h
from_line AtBase text line rest h = from_fixed BaseLine text line rest h
from_line AmongNodes text line rest h = from_node_line text line rest h
from_line AtStatus text line rest h =
    number_line StatusLine (codes "(define-fun status () (_ BitVec 8) n") (codes ")\n") text line rest (λ n. refl) h
from_line AmongOutputs text line rest h =
    let a = made_from (λ ((i, id) : ℕ × ℕ). OutputLine i id) (option_and_then (two (codes " () (_ BitVec 8) n") (codes ")\n")) (behind (codes "(define-fun out") text)) line rest h in
    let b = then_from (two (codes " () (_ BitVec 8) n") (codes ")\n")) (behind (codes "(define-fun out") text) (a.0, rest) a.1 in
    from_behind (codes "(define-fun out") text b.0 b.1
    ∙ ap (λ t. codes "(define-fun out" ++ t) (from_two (codes " () (_ BitVec 8) n") (codes ")\n") b.0 a.0 rest b.2).0
    ∙ sym (five_pieces (codes "(define-fun out") (decimal a.0.0) (codes " () (_ BitVec 8) n") (decimal a.0.1) (codes ")\n") rest)
    ∙ ap (λ (l : LeafLine). line_text l ++ rest) a.2
from_line AmongAssertions text line rest h =
    elim (or_from (made AssertLine (option_and_then (one (codes " (_ bv1 1)))\n")) (behind (codes "(assert (= n") text))) (fixed CheckLine text) (line, rest) h) [
      | inl assertion ↦ number_line AssertLine (codes "(assert (= n") (codes " (_ bv1 1)))\n") text line rest (λ n. refl) assertion
      | inr check ↦ from_fixed CheckLine text line rest check
    ]
from_line AtExit text line rest h = from_fixed ExitLine text line rest h
from_line Closed text line rest h = cc
