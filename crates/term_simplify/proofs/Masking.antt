-- A number that masks nothing of a term, as the plans find it, and what the term is worth with it.
use Rattle.std.proofs.Common.{◌≡◌, ℕ, ◌-◌, ◌^◌, ◌<◌, Bool, true, false, bit_and, nat_eq, List, refl, ap, sym, ◌∙◌, Some}
use Rattle.std.specs.Prelude.{Option, option_map, ◌==◌, if◌then◌else◌}
use Rattle.std.specs.List.{All}
use Rattle.std.proofs.Math.Nat.{mod-eq_of_lt}
use Rattle.std.proofs.lemmas.Nat.{and_assoc, and_comm, and_mask}
use Rattle.bv_dag.specs.BitVectors.{BitVector, bvand, zero_extend}
use Rattle.bv_dag.specs.Graphs.{Graph, width_of}
use Rattle.bv_dag.specs.declared.nodes.BinaryOp.{BinaryOp}
use Rattle.bv_dag.specs.declared.nodes.BinaryOp.TheVariants.{And}
use Rattle.term_trees.specs.Trees.{Tree, Two, Widened, tree_of, tree_width, tree_value, IsTerm}
use Rattle.term_trees.proofs.Ranges.{in_range}
use Rattle.term_trees.proofs.TreeLaws.{width-tree_of}
use Rattle.term_simplify.specs.Plans.{under_zeros}
use Rattle.term_simplify.specs.Plain.{tree_number, keeps, masked}
use Rattle.term_simplify.proofs.Words.{by_parts, by_number, number_value, value_by_test, is_number}

keeps_under : (y : BitVector) (t u : Tree) → Some u ≡ under_zeros t →
    keeps y t ≡ (bit_and y.number (2 ^ tree_width u - 1) == 2 ^ tree_width u - 1)
keeps_under y (Widened by false t) u e =
    let same : t ≡ u = cc in ap (λ k. bit_and y.number (2 ^ tree_width k - 1) == 2 ^ tree_width k - 1) same
keeps_under y (Widened by true t) u e = cc
keeps_under y t u e = cc

pub keeps_by_width : (g : Graph) (id k w all : ℕ) (y : BitVector) (r : Option ℕ) → r ≡ Some k →
    option_map (tree_of g) r ≡ under_zeros (tree_of g id) → w ≡ width_of g k → all ≡ 2 ^ w - 1 →
    nat_eq (bit_and y.number all) all ≡ keeps y (tree_of g id)
keeps_by_width g id k w all y r is e wide ones =
    let same : all ≡ 2 ^ tree_width (tree_of g k) - 1 = ones ∙ ap (λ j. 2 ^ j - 1) (wide ∙ sym (width-tree_of g k)) in
    ap (λ j. nat_eq (bit_and y.number j) j) same
    ∙ sym (keeps_under y (tree_of g id) (tree_of g k) (sym (ap (option_map (tree_of g)) is) ∙ e))

pub masked_and : (op : BinaryOp) (x : Option BitVector) (y : BitVector) (t otherwise : Tree) (b : Bool) → op ≡ And →
    x ≡ Some y → b ≡ keeps y t → (if b then t else otherwise) ≡ masked op x t otherwise
masked_and op x y t otherwise b e is k = rw (e, is, k) refl

-- ---- what the term is worth
-- n & m is n, where each bit that n may have is 1 in m
masks_nothing : (k n m : ℕ) → n < 2 ^ k → bit_and m (2 ^ k - 1) ≡ 2 ^ k - 1 → bit_and n m ≡ n
masks_nothing k n m small ones =
    let cut : bit_and n (2 ^ k - 1) ≡ n = and_mask n k ∙ mod-eq_of_lt small in
    ap (λ j. bit_and j m) (sym cut) ∙ and_assoc m n (2 ^ k - 1)
    ∙ ap (bit_and n) (and_comm (2 ^ k - 1) m ∙ ones) ∙ cut

kept : (inputs : ℕ) (input : List ℕ) (y : BitVector) (t : Tree) → All (λ b. b < 256) input →
    IsTerm inputs t → keeps y t ≡ true →
    bit_and (tree_value input t).number y.number ≡ (tree_value input t).number
unfolding zero_extend
kept inputs input y (Widened by false t) bytes term h =
    masks_nothing (tree_width t) (tree_value input t).number y.number
    (in_range inputs input bytes t term.0).in_range (is_number _ _ h)
kept inputs input y (Widened by true t) bytes term h = cc
kept inputs input y t bytes term h = cc

pub value-masked_first : (inputs : ℕ) (input : List ℕ) (op : BinaryOp) (x : Option BitVector) (s t otherwise : Tree) →
    All (λ b. b < 256) input → IsTerm inputs (Two op s t) → tree_number s ≡ x →
    tree_value input otherwise ≡ tree_value input (Two op s t) →
    tree_value input (masked op x t otherwise) ≡ tree_value input (Two op s t)
unfolding bvand
value-masked_first inputs input And (Some x) s t otherwise bytes term is rest =
    value_by_test input (keeps x t) t otherwise _
    (λ h. by_parts _ _ (tree_value input t)
    ((in_range inputs input bytes t term.1).width ∙ sym term.2 ∙ sym (in_range inputs input bytes s term.0).width)
    (sym (and_comm (tree_value input s).number (tree_value input t).number
    ∙ ap (λ (v : BitVector). bit_and (tree_value input t).number v.number) (number_value input s x is)
    ∙ kept inputs input x t bytes term.1 h)))
    (λ _. rest)
value-masked_first inputs input op x s t otherwise bytes term is rest = rest

pub value-masked_second : (inputs : ℕ) (input : List ℕ) (op : BinaryOp) (y : Option BitVector) (s t otherwise : Tree) →
    All (λ b. b < 256) input → IsTerm inputs (Two op s t) → tree_number t ≡ y →
    tree_value input otherwise ≡ tree_value input (Two op s t) →
    tree_value input (masked op y s otherwise) ≡ tree_value input (Two op s t)
unfolding bvand
value-masked_second inputs input And (Some y) s t otherwise bytes term is rest =
    value_by_test input (keeps y s) s otherwise _
    (λ h. by_number (tree_value input s) _
    (sym (ap (λ (v : BitVector). bit_and (tree_value input s).number v.number) (number_value input t y is)
    ∙ kept inputs input y s bytes term.0 h)))
    (λ _. rest)
value-masked_second inputs input op y s t otherwise bytes term is rest = rest
