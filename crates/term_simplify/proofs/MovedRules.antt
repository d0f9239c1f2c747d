-- An operation that moves the bits of a term is worth what it was before.
use Rattle.std.proofs.Common.{◌≡◌, ◌∙◌, ℕ, ◌-◌, ◌<◌, ◌≤◌, Bool, true, false, List, Some, None, ap, sym, refl, arith}
use Rattle.std.specs.Prelude.{Option, nat_lt}
use Rattle.std.specs.List.{All}
use Rattle.std.proofs.lemmas.Bool.{and_parts, ltb-true}
use Rattle.bv_dag.specs.BitVectors.{BitVector, concat, extract, sign_extend, zero_extend}
use Rattle.bv_dag.specs.Nodes.{binary}
use Rattle.bv_dag.specs.declared.nodes.BinaryOp.{BinaryOp}
use Rattle.bv_dag.specs.declared.nodes.BinaryOp.TheVariants.{Add, Sub, Mul, Udiv, Urem, And, Or, Xor, Shl, Lshr, Ashr}
use Rattle.term_trees.specs.Trees.{Tree, Constant, Two, Widened, tree_width, tree_value, IsTerm, IsOfWidth}
use Rattle.term_trees.proofs.Ranges.{in_range}
use Rattle.term_simplify.specs.Plain.{part_of, tree_number}
use Rattle.term_simplify.specs.Moves.{way_of, way_tree}
use Rattle.term_simplify.specs.Simplified.{moved, moved_down, moved_up, moves}
use Rattle.term_simplify.specs.declared.moves.Way.{Way}
use Rattle.term_simplify.proofs.ExtensionRules.{value-extension_by, value-joined_of}
use Rattle.term_simplify.proofs.Moved.{moves_so}
use Rattle.term_simplify.proofs.Moving.{ashr_moves, lshr_moves, shl_moves}
use Rattle.term_simplify.proofs.LiftRules.{term-part_of, value-part_of, width-part_of}
use Rattle.term_simplify.proofs.PartTerms.{zero_fits}
use Rattle.term_simplify.proofs.Words.{number_value, value_by_test}

module _ (inputs : ℕ) (input : List ℕ) (bytes : All (λ b. b < 256) input) (s t : Tree) (term : IsTerm inputs (Two Shl s t)) (y : BitVector) (is : tree_number t ≡ Some y) where
  value_is : tree_value input t ≡ y
  value_is = number_value input t y is

  left : IsOfWidth (tree_width s) (tree_value input s)
  left = in_range inputs input bytes s term.0

  right : IsOfWidth (tree_width s) y
  right = rw (← value_is, term.2) (in_range inputs input bytes t term.1)

  value-up : moves y ≡ true → tree_value input (moved_up y.width y.number s) ≡ binary Shl (tree_value input s) (tree_value input t)
  value-up h =
      let (some, within) = and_parts (nat_lt 0 y.number) (nat_lt y.number y.width) h in
      let low = ltb-true y.number y.width within in
      let top : y.width - 1 - y.number < tree_width s = omega (arith, right.width, right.not_empty) in
      value-joined_of inputs input (part_of (y.width - 1 - y.number) 0 s) (Constant y.number 0) bytes (
        term-part_of inputs s (y.width - 1 - y.number) 0 term.0 (omega arith) top,
        zero_fits y.number (ltb-true 0 y.number some) (omega (arith, right.width, right.at_most_64, low)),
        omega (arith, width-part_of inputs s (y.width - 1 - y.number) 0 term.0 (omega arith) top, right.width, right.at_most_64, low),
      )
      ∙ ap (λ v. concat v (record { width = y.number; number = 0 })) (value-part_of inputs input bytes s (y.width - 1 - y.number) 0 term.0 (omega arith) (omega (arith, right.width, right.not_empty)))
      ∙ shl_moves (tree_width s) (tree_value input s) y left right low
      ∙ ap (binary Shl (tree_value input s)) (sym value_is)

  value-down : (signed : Bool) → moves y ≡ true →
      tree_value input (moved_down y.width y.number signed s) ≡ tree_value input (Widened y.number signed (part_of (y.width - 1) y.number s))
  value-down signed h =
      let (some, within) = and_parts (nat_lt 0 y.number) (nat_lt y.number y.width) h in
      let positive = ltb-true 0 y.number some in
      let low = ltb-true y.number y.width within in
      let order : y.number ≤ y.width - 1 = omega (arith, low) in
      let top : y.width - 1 < tree_width s = omega (arith, right.width, right.not_empty) in
      value-extension_by inputs input y.number signed (part_of (y.width - 1) y.number s) bytes (
        term-part_of inputs s (y.width - 1) y.number term.0 order top,
        positive,
        omega (arith, width-part_of inputs s (y.width - 1) y.number term.0 order top, right.width, right.at_most_64, low),
      )

  upper : moves y ≡ true → tree_value input (part_of (y.width - 1) y.number s) ≡ extract (y.width - 1) y.number (tree_value input s)
  upper h =
      let (some, within) = and_parts (nat_lt 0 y.number) (nat_lt y.number y.width) h in
      let low = ltb-true y.number y.width within in
      value-part_of inputs input bytes s (y.width - 1) y.number term.0 (omega (arith, low)) (omega (arith, right.width, right.not_empty))

  value-logical : moves y ≡ true → tree_value input (moved_down y.width y.number false s) ≡ binary Lshr (tree_value input s) (tree_value input t)
  value-logical h =
      let (some, within) = and_parts (nat_lt 0 y.number) (nat_lt y.number y.width) h in
      value-down false h ∙ ap (zero_extend y.number) (upper h)
      ∙ lshr_moves (tree_width s) (tree_value input s) y left right (ltb-true y.number y.width within)
      ∙ ap (binary Lshr (tree_value input s)) (sym value_is)

  value-arithmetic : moves y ≡ true → tree_value input (moved_down y.width y.number true s) ≡ binary Ashr (tree_value input s) (tree_value input t)
  value-arithmetic h =
      let (some, within) = and_parts (nat_lt 0 y.number) (nat_lt y.number y.width) h in
      value-down true h ∙ ap (sign_extend y.number) (upper h)
      ∙ ashr_moves (tree_width s) (tree_value input s) y left right (ltb-true y.number y.width within)
      ∙ ap (binary Ashr (tree_value input s)) (sym value_is)

value-moved : (inputs : ℕ) (input : List ℕ) → All (λ b. b < 256) input → (op : BinaryOp) (x y : Option BitVector) (s t otherwise : Tree) →
    IsTerm inputs (Two op s t) → tree_number t ≡ y → tree_value input otherwise ≡ tree_value input (Two op s t) →
    tree_value input (moved op x y s otherwise) ≡ tree_value input (Two op s t)
value-moved inputs input bytes Shl None (Some y) s t otherwise term is plain =
    value_by_test input (moves y) (moved_up y.width y.number s) otherwise _ (value-up inputs input bytes s t term y is) (λ _. plain)
value-moved inputs input bytes Lshr None (Some y) s t otherwise term is plain =
    value_by_test input (moves y) (moved_down y.width y.number false s) otherwise _ (value-logical inputs input bytes s t term y is) (λ _. plain)
value-moved inputs input bytes Ashr None (Some y) s t otherwise term is plain =
    value_by_test input (moves y) (moved_down y.width y.number true s) otherwise _ (value-arithmetic inputs input bytes s t term y is) (λ _. plain)
value-moved inputs input bytes Shl (Some x) y s t otherwise term is plain = plain
value-moved inputs input bytes Shl None None s t otherwise term is plain = plain
value-moved inputs input bytes Lshr (Some x) y s t otherwise term is plain = plain
value-moved inputs input bytes Lshr None None s t otherwise term is plain = plain
value-moved inputs input bytes Ashr (Some x) y s t otherwise term is plain = plain
value-moved inputs input bytes Ashr None None s t otherwise term is plain = plain
value-moved inputs input bytes Add x y s t otherwise term is plain = plain
value-moved inputs input bytes Sub x y s t otherwise term is plain = plain
value-moved inputs input bytes Mul x y s t otherwise term is plain = plain
value-moved inputs input bytes Udiv x y s t otherwise term is plain = plain
value-moved inputs input bytes Urem x y s t otherwise term is plain = plain
value-moved inputs input bytes And x y s t otherwise term is plain = plain
value-moved inputs input bytes Or x y s t otherwise term is plain = plain
value-moved inputs input bytes Xor x y s t otherwise term is plain = plain

pub value-way : (inputs : ℕ) (input : List ℕ) → All (λ b. b < 256) input → (op : BinaryOp) (way : Way) (y : BitVector) (s t : Tree) →
    way_of op ≡ Some way → moves y ≡ true → IsTerm inputs (Two op s t) → tree_number t ≡ Some y →
    tree_value input (way_tree way y.width y.number s) ≡ tree_value input (Two op s t)
value-way inputs input bytes op way y s t is some term number =
    ap (tree_value input) (sym (moves_so op way y s (Two op s t) is some))
    ∙ value-moved inputs input bytes op None (Some y) s t (Two op s t) term number refl
