-- The fingerprints of terms, made from those of the terms before them.
use Rattle.std.proofs.Common.{◌≡◌, ℕ, ◌+◌, ◌<◌, List, [], ◌∷◌, ◌++◌, fold, length, map, get_or, take, refl, sym, ap, ◌∙◌, arith, Some}
use Rattle.std.specs.Prelude.{All, Contains, bit_or}
use Rattle.std.specs.List.{slice_get}
use Rattle.std.proofs.lemmas.List.{get_or-map, length-map, length-take-le, map-append, take_more}
use Rattle.std.proofs.lemmas.List.Elements.{All-get_or}
use Rattle.std.proofs.lemmas.List.Sums.{fold-append}
use Rattle.std.proofs.lemmas.Option.{get_or_from_slice_get, slice_get_within}
use Rattle.bv_dag.specs.Graphs.{Graph, IsDag, width_of}
use Rattle.bv_dag.specs.Nodes.{map_in_turn}
use Rattle.bv_dag.specs.Queries.{AreBits}
use Rattle.bv_dag.specs.declared.nodes.Node.{Node}
use Rattle.bv_dag.specs.declared.nodes.Node.TheVariants.{Num, Input, Not, Neg, Binary, Compare, Ite, Extract, Extend, Concat}
use Rattle.bv_dag.proofs.Fitting.{has_place}
use Rattle.bv_dag.proofs.InTurn.{map_in_turn_more}
use Rattle.term_trees.specs.Trees.{Tree, Constant, node_tree, tree_at, tree_of, trees}
use Rattle.term_trees.proofs.TreeLaws.{length-trees}
use Rattle.query_pick.specs.Operands.{operands}
use Rattle.query_pick.proofs.Lists.{All-from_contains, Contains-here, Contains-later}
use Rattle.query_pick.proofs.Naming.{first_of_two, second_of_two}
use Rattle.query_pick.proofs.Searching.{operand_before}
use Rattle.query_cache.specs.Fingerprints.{bit_of, bits_of, digest_of, node_print, stirred_in, tree_print}

pub tree_print-node_tree : (f : ℕ → Tree) (n : Node) → tree_print (node_tree f n) ≡ node_print (λ k. tree_print (f k)) n
tree_print-node_tree f (Num w v) = refl
tree_print-node_tree f (Input i) = refl
tree_print-node_tree f (Not a) = refl
tree_print-node_tree f (Neg a) = refl
tree_print-node_tree f (Binary op a b) = refl
tree_print-node_tree f (Compare op a b) = refl
tree_print-node_tree f (Ite c a b) = refl
tree_print-node_tree f (Extract high low a) = refl
tree_print-node_tree f (Extend by signed a) = refl
tree_print-node_tree f (Concat a b) = refl

-- a node's fingerprint rests on those of its operands alone
node_print-same : (f g : ℕ → ℕ) (n : Node) → ((k : ℕ) → Contains (operands n) k → f k ≡ g k) → node_print f n ≡ node_print g n
node_print-same f g (Num w v) same = refl
node_print-same f g (Input i) same = refl
node_print-same f g (Not a) same = cc (same a (Contains-here a [] a refl))
node_print-same f g (Neg a) same = cc (same a (Contains-here a [] a refl))
node_print-same f g (Binary op a b) same = cc (same a (first_of_two a b), same b (second_of_two a b))
node_print-same f g (Compare op a b) same = cc (same a (first_of_two a b), same b (second_of_two a b))
node_print-same f g (Ite c a b) same = cc (same c (Contains-here c (a ∷ b ∷ []) c refl), same a (Contains-later c (a ∷ b ∷ []) a (first_of_two a b)), same b (Contains-later c (a ∷ b ∷ []) b (second_of_two a b)))
node_print-same f g (Extract high low a) same = cc (same a (Contains-here a [] a refl))
node_print-same f g (Extend by signed a) same = cc (same a (Contains-here a [] a refl))
node_print-same f g (Concat a b) same = cc (same a (first_of_two a b), same b (second_of_two a b))

trees_more : (nodes : List Node) (i : ℕ) (n : Node) → slice_get nodes i ≡ Some n → trees (take (i + 1) nodes) ≡ trees (take i nodes) ++ node_tree (tree_at (trees (take i nodes))) n ∷ []
unfolding trees
trees_more nodes i n is =
    map_in_turn_more _ nodes i n (slice_get_within nodes i n is)
    ∙ ap (λ m. trees (take i nodes) ++ node_tree (tree_at (trees (take i nodes))) m ∷ []) (get_or_from_slice_get nodes i n n is)

pub prints_of_none : map tree_print (trees []) ≡ []
unfolding trees map_in_turn
prints_of_none = refl

-- one more term has its fingerprint
module _ (g : Graph) (dag : IsDag g) (i : ℕ) (n : Node) (is : slice_get g.nodes i ≡ Some n)
    (prints : List ℕ) (so_far : prints ≡ map tree_print (trees (take i g.nodes))) where
  long : length prints ≡ i
  long =
      ap length so_far ∙ length-map (trees (take i g.nodes)) tree_print ∙ length-trees (take i g.nodes)
      ∙ length-take-le i g.nodes (omega (arith, slice_get_within g.nodes i n is))

  pub operands_printed : All (λ a. a < length prints) (operands n)
  operands_printed = All-from_contains (λ a. a < length prints) (operands n) (λ a h. omega (arith, long, operand_before g i a n dag is h))

  operand_print : (a : ℕ) → Contains (operands n) a → get_or prints a 0 ≡ tree_print (tree_at (trees (take i g.nodes)) a)
  operand_print a h =
      ap (λ (ps : List ℕ). get_or ps a 0) so_far
      ∙ get_or-map tree_print (trees (take i g.nodes)) a (Constant 0 0) 0
      (omega (arith, operand_before g i a n dag is h, length-trees (take i g.nodes), length-take-le i g.nodes (omega (arith, slice_get_within g.nodes i n is))))

  own_print : tree_print (node_tree (tree_at (trees (take i g.nodes))) n) ≡ node_print (λ a. get_or prints a 0) n
  own_print =
      tree_print-node_tree (tree_at (trees (take i g.nodes))) n
      ∙ sym (node_print-same (λ a. get_or prints a 0) (λ a. tree_print (tree_at (trees (take i g.nodes)) a)) n operand_print)

  pub prints_more : prints ++ node_print (λ a. get_or prints a 0) n ∷ [] ≡ map tree_print (trees (take (i + 1) g.nodes))
  prints_more =
      sym (
      ap (map tree_print) (trees_more g.nodes i n is)
      ∙ map-append tree_print (trees (take i g.nodes)) (node_tree (tree_at (trees (take i g.nodes))) n ∷ [])
      ∙ ap (λ (p : ℕ). map tree_print (trees (take i g.nodes)) ++ p ∷ []) own_print
      ∙ ap (λ (ps : List ℕ). ps ++ node_print (λ a. get_or prints a 0) n ∷ []) (sym so_far)
      )

-- an asserted term is there
pub bit_there : (g : Graph) (ids : List ℕ) (k : ℕ) → AreBits g ids → k < length ids → get_or ids k 0 < length g.nodes
bit_there g ids k bits there =
    let one : width_of g (get_or ids k 0) ≡ 1 = All-get_or (λ id. width_of g id ≡ 1) ids k 0 there bits in
    has_place g.nodes (get_or ids k 0) (omega (arith, one))

-- the fingerprint of a term, among those of all
pub print_at : (g : Graph) (all : List ℕ) (id : ℕ) → all ≡ map tree_print (trees g.nodes) → id < length g.nodes → get_or all id 0 ≡ tree_print (tree_of g id)
print_at g all id are there =
    ap (λ (ps : List ℕ). get_or ps id 0) are
    ∙ get_or-map tree_print (trees g.nodes) id (Constant 0 0) 0 (omega (arith, there, length-trees g.nodes))

pub asserted_more : (g : Graph) (ids prints all : List ℕ) (i : ℕ) → i < length ids → all ≡ map tree_print (trees g.nodes) → get_or ids i 0 < length g.nodes
    → prints ≡ map tree_print (map (tree_of g) (take i ids)) → prints ++ get_or all (get_or ids i 0) 0 ∷ [] ≡ map tree_print (map (tree_of g) (take (i + 1) ids))
asserted_more g ids prints all i within are there so_far =
    let id = get_or ids i 0 in
    ap (λ (p : ℕ). prints ++ p ∷ []) (print_at g all id are there)
    ∙ ap (λ (ps : List ℕ). ps ++ tree_print (tree_of g id) ∷ []) so_far
    ∙ sym (
    ap (λ (js : List ℕ). map tree_print (map (tree_of g) js)) (take_more ids i 0 within)
    ∙ ap (map tree_print) (map-append (tree_of g) (take i ids) (id ∷ []))
    ∙ map-append tree_print (map (tree_of g) (take i ids)) (tree_of g id ∷ [])
    )

pub bits_of-more : (prints : List ℕ) (i : ℕ) → i < length prints → bits_of (take (i + 1) prints) ≡ bit_or (bits_of (take i prints)) (bit_of (get_or prints i 0))
unfolding bits_of
bits_of-more prints i within =
    ap (fold (λ seen print. bit_or seen (bit_of print)) 0) (take_more prints i 0 within)
    ∙ fold-append (λ seen print. bit_or seen (bit_of print)) 0 (take i prints) (get_or prints i 0 ∷ [])

pub digest_of-more : (prints : List ℕ) (i : ℕ) → i < length prints → digest_of (take (i + 1) prints) ≡ stirred_in (digest_of (take i prints)) (get_or prints i 0)
unfolding digest_of
digest_of-more prints i within =
    ap (fold stirred_in 0) (take_more prints i 0 within)
    ∙ fold-append stirred_in 0 (take i prints) (get_or prints i 0 ∷ [])

pub bits_of-none : bits_of [] ≡ 0
unfolding bits_of
bits_of-none = refl

pub digest_of-none : digest_of [] ≡ 0
unfolding digest_of
digest_of-none = refl
