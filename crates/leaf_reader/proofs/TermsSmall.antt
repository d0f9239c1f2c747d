-- The numbers of a term that was read are those that texts may have.
use Rattle.std.proofs.Common.{◌≡◌, inl, inr, ℕ, ◌<◌, ◌^◌, Bool, true, false, nat_lt, List, Option, None, Some, refl, subst, codes}
use Rattle.std.specs.Prelude.{if◌then◌else◌, option_and_then}
use Rattle.std.proofs.lemmas.Option.{same_Some}
use Rattle.bv_dag.specs.declared.nodes.Comparison.TheVariants.{Eq}
use Rattle.bv_dag.specs.declared.nodes.Node.{Node}
use Rattle.bv_dag.specs.declared.nodes.Node.TheVariants.{Num, Input, Not, Neg, Binary, Compare, Ite, Extract, Extend, Concat}
use Rattle.smt_text.specs.LineReading.{answers, equal_operands, heads, if_word, ite_operands, node_line, read_operands, term}
use Rattle.smt_text.specs.Lines.{LeafLine, NodeLine}
use Rattle.smt_text.specs.NodeText.{IsSmallNode}
use Rattle.smt_text.specs.declared.head.Head.{Head}
use Rattle.smt_text.specs.declared.head.Head.TheVariants as head
use Rattle.text_parts.specs.Pieces.{before, behind, made, named, number, one, three, two}
use Rattle.text_parts.proofs.Options.{or_from, then_from}
use Rattle.text_parts.proofs.Tests.{lt_from}
use Rattle.text_parts.proofs.Words.{from_before, from_number, from_one, from_three, from_two}
use Rattle.leaf_reader.proofs.LinesFrom.{made_from, word_from}

-- a number of 32 bits
pub word_small : {X : Type 0} (n : ℕ) (o : Option X) (x : X) → if_word n o ≡ Some x → n < 2 ^ 32
word_small n o x h = go (nat_lt n (2 ^ 32)) refl h
  where
    go : (b : Bool) → nat_lt n (2 ^ 32) ≡ b → (if b then o else None) ≡ Some x → n < 2 ^ 32
    go true is h = lt_from n (2 ^ 32) is
    go false is h = cc

one_small : (make : ℕ → Node) (end text : List ℕ) (node : Node) (rest : List ℕ) → ((n : ℕ) → n < 2 ^ 64 → IsSmallNode (make n)) →
    made make (one end text) ≡ Some (node, rest) → IsSmallNode node
one_small make end text node rest each h =
    let a = made_from make (one end text) node rest h in
    subst IsSmallNode a.2 (each a.0 (from_one end text a.0 rest a.1).1)

two_small : (make : (ℕ × ℕ) → Node) (middle end text : List ℕ) (node : Node) (rest : List ℕ) →
    ((p : ℕ × ℕ) → p.0 < 2 ^ 64 → p.1 < 2 ^ 64 → IsSmallNode (make p)) →
    made make (two middle end text) ≡ Some (node, rest) → IsSmallNode node
two_small make middle end text node rest each h =
    let a = made_from make (two middle end text) node rest h in
    let b = from_two middle end text a.0 rest a.1 in
    subst IsSmallNode a.2 (each a.0 b.1 b.2)

operands_small : (found : Head) (text : List ℕ) (node : Node) (rest : List ℕ) → read_operands found text ≡ Some (node, rest) → IsSmallNode node
unfolding read_operands
operands_small head.Num text node rest h =
    let a = then_from (λ ((p, r) : (ℕ × ℕ) × List ℕ). if_word p.1 (Some (Num p.1 p.0, r))) (two (codes " ") (codes ")") text) (node, rest) h in
    let e = same_Some (Num a.0.0.1 a.0.0.0, a.0.1) (node, rest) (word_from a.0.0.1 (Some (Num a.0.0.1 a.0.0.0, a.0.1)) (node, rest) a.2) in
    let b = from_two (codes " ") (codes ")") text a.0.0 a.0.1 a.1 in
    subst (λ (p : Node × List ℕ). IsSmallNode p.0) e (word_small a.0.0.1 (Some (Num a.0.0.1 a.0.0.0, a.0.1)) (node, rest) a.2, b.1)
operands_small head.Input text node rest h =
    let a = made_from Input (number text) node rest h in
    subst IsSmallNode a.2 (from_number text a.0 rest a.1).1
operands_small head.Not text node rest h = one_small Not (codes ")") text node rest (λ n small. small) h
operands_small head.Neg text node rest h = one_small Neg (codes ")") text node rest (λ n small. small) h
operands_small (head.Binary op) text node rest h =
    two_small (λ (a, b). Binary op a b) (codes " n") (codes ")") text node rest (λ p small also. (small, also)) h
operands_small (head.Test op) text node rest h =
    two_small (λ (a, b). Compare op a b) (codes " n") answers text node rest (λ p small also. (small, also)) h
operands_small head.Equal text node rest h =
    elim (or_from (equal_operands text) (ite_operands text) (node, rest) h) [
      | inl equal ↦ two_small (λ (a, b). Compare Eq a b) (codes " n") answers text node rest (λ p small also. (small, also)) equal
      | inr ite ↦
          let a = made_from (λ ((c, x, y) : ℕ × ℕ × ℕ). Ite c x y) (three (codes " (_ bv1 1)) n") (codes " n") (codes ")") text) node rest ite in
          let b = from_three (codes " (_ bv1 1)) n") (codes " n") (codes ")") text a.0 rest a.1 in
          subst IsSmallNode a.2 (b.1, b.2, b.3)
    ]
operands_small head.Extract text node rest h =
    let a = then_from (λ ((p, r) : (ℕ × ℕ × ℕ) × List ℕ). if_word p.0 (if_word p.1 (Some (Extract p.0 p.1 p.2, r)))) (three (codes " ") (codes ") n") (codes ")") text) (node, rest) h in
    let low = word_from a.0.0.0 (if_word a.0.0.1 (Some (Extract a.0.0.0 a.0.0.1 a.0.0.2, a.0.1))) (node, rest) a.2 in
    let e = same_Some (Extract a.0.0.0 a.0.0.1 a.0.0.2, a.0.1) (node, rest) (word_from a.0.0.1 (Some (Extract a.0.0.0 a.0.0.1 a.0.0.2, a.0.1)) (node, rest) low) in
    let b = from_three (codes " ") (codes ") n") (codes ")") text a.0.0 a.0.1 a.1 in
    subst (λ (p : Node × List ℕ). IsSmallNode p.0) e (
      word_small a.0.0.0 (if_word a.0.0.1 (Some (Extract a.0.0.0 a.0.0.1 a.0.0.2, a.0.1))) (node, rest) a.2,
      word_small a.0.0.1 (Some (Extract a.0.0.0 a.0.0.1 a.0.0.2, a.0.1)) (node, rest) low,
      b.3,
    )
operands_small (head.Extend signed) text node rest h =
    let a = then_from (λ ((p, r) : (ℕ × ℕ) × List ℕ). if_word p.0 (Some (Extend p.0 signed p.1, r))) (two (codes ") n") (codes ")") text) (node, rest) h in
    let e = same_Some (Extend a.0.0.0 signed a.0.0.1, a.0.1) (node, rest) (word_from a.0.0.0 (Some (Extend a.0.0.0 signed a.0.0.1, a.0.1)) (node, rest) a.2) in
    let b = from_two (codes ") n") (codes ")") text a.0.0 a.0.1 a.1 in
    subst (λ (p : Node × List ℕ). IsSmallNode p.0) e (word_small a.0.0.0 (Some (Extend a.0.0.0 signed a.0.0.1, a.0.1)) (node, rest) a.2, b.2)
operands_small head.Concat text node rest h =
    two_small (λ (a, b). Concat a b) (codes " n") (codes ")") text node rest (λ p small also. (small, also)) h

term_small : (text : List ℕ) (node : Node) (rest : List ℕ) → term text ≡ Some (node, rest) → IsSmallNode node
unfolding term
term_small text node rest h =
    let a = then_from (λ ((found, r) : Head × List ℕ). read_operands found r) (named heads text) (node, rest) h in
    operands_small a.0.0 a.0.1 node rest a.2

-- the line of a node: its number, its width and the numbers of the term
abbrev pub IsSmallNodeLine : LeafLine → Type 0
IsSmallNodeLine (NodeLine id width node) = (id < 2 ^ 64) × (width < 2 ^ 64) × IsSmallNode node
IsSmallNodeLine _ = ⊥

pub node_line_small : (text : List ℕ) (line : LeafLine) (rest : List ℕ) → node_line text ≡ Some (line, rest) → IsSmallNodeLine line
unfolding node_line
node_line_small text line rest h =
    let a = then_from (λ ((p, r) : (ℕ × ℕ) × List ℕ). made (NodeLine p.0 p.1) (before term (codes ")\n") r))
    (option_and_then (two (codes " () (_ BitVec ") (codes ") ")) (behind (codes "(define-fun n") text)) (line, rest) h in
    let b = then_from (two (codes " () (_ BitVec ") (codes ") ")) (behind (codes "(define-fun n") text) a.0 a.1 in
    let numbers = from_two (codes " () (_ BitVec ") (codes ") ") b.0 a.0.0 a.0.1 b.2 in
    let d = made_from (NodeLine a.0.0.0 a.0.0.1) (before term (codes ")\n") a.0.1) line rest a.2 in
    let e = from_before term (codes ")\n") a.0.1 d.0 rest d.1 in
    subst IsSmallNodeLine d.2 (numbers.1, numbers.2, term_small a.0.1 d.0 e.0 e.1)
