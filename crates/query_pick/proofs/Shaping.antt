-- Shapes, and the numbers of terms among them.
use Rattle.std.proofs.Common.{◌≡◌, ℕ, zero, suc, ◌+◌, ◌<◌, ◌≤◌, true, false, inl, inr, List, [], ◌∷◌, ◌++◌, length, get_or, take, refl, sym, ap, ◌∙◌, arith, subst, Some, length-append}
use Rattle.std.specs.Prelude.{All, Contains, if◌then◌else◌}
use Rattle.std.specs.List.{slice_get, list_any, IsDistinct}
use Rattle.std.proofs.lemmas.Bool.{cases_lt}
use Rattle.std.proofs.lemmas.List.{get_or_append_left, length-take, take_all, take-take}
use Rattle.std.proofs.lemmas.List.Elements.{All-from_recursion, All-get_or}
use Rattle.std.proofs.lemmas.Map.Keys.{IsDistinct-head, IsDistinct-tail}
use Rattle.std.proofs.lemmas.Option.{get_or_from_slice_get, slice_get_within}
use Rattle.std.proofs.Math.Seq.{get_or-append_seam, take-append_seam}
use Rattle.bv_dag.specs.Comparing.{node_eq}
use Rattle.bv_dag.specs.Graphs.{Graph, IsDag}
use Rattle.bv_dag.specs.contracts.nodes.NodeEq.TheImpl.Laws.{laws-law}
use Rattle.bv_dag.specs.declared.nodes.Node.{Node}
use Rattle.bv_dag.proofs.Fitting.{slice_get-push}
use Rattle.bv_dag.proofs.InTurn.{get_or-map_in_turn, get_or-map_in_turn-take}
use Rattle.bv_dag.proofs.Same.{node_same}
use Rattle.term_trees.specs.Growth.{Continues}
use Rattle.term_trees.specs.Trees.{node_tree, tree_at, tree_of, trees}
use Rattle.term_trees.proofs.TreeLaws.{tree_by_cases, tree-grown}
use Rattle.query_pick.specs.Operands.{operands, renamed}
use Rattle.query_pick.specs.Shapes.{AreNumbered, AreShapes, IsNumber}
use Rattle.query_pick.proofs.Lists.{All-from_contains, Contains-from_map}
use Rattle.query_pick.proofs.Naming.{node_tree-renamed, node_tree-same, operands-renamed}
use Rattle.query_pick.proofs.Searching.{operand_before}

-- a node that stands in front of others isn't one of them
not_later : (x : Node) (xs : List Node) (j : ℕ) (n : Node) → IsDistinct node_eq (x ∷ xs) → Some x ≡ Some n → slice_get xs j ≡ Some n → ⊥
not_later x xs j n distinct here later =
    let same : x ≡ n = cc in
    let others : All (λ y. node_eq x y ≡ false) xs = All-from_recursion (λ y. node_eq x y ≡ false) xs (IsDistinct-head node_eq x xs distinct) in
    let unequal : node_eq x n ≡ false =
    subst (λ (y : Node). node_eq x y ≡ false) (get_or_from_slice_get xs j n n later) (All-get_or (λ y. node_eq x y ≡ false) xs j n (slice_get_within xs j n later) others) in
    let equal : node_eq x n ≡ true = subst (λ (y : Node). node_eq x y ≡ true) same (laws-law.refl x) in
    let both : true ≡ false = sym equal ∙ unequal in cc

-- nodes of which no two are equal have each node once
pub distinct_apart : (nodes : List Node) (i j : ℕ) (n : Node) → IsDistinct node_eq nodes → slice_get nodes i ≡ Some n → slice_get nodes j ≡ Some n → i ≡ j
distinct_apart [] i j n distinct at_i at_j = cc
distinct_apart (x ∷ xs) zero zero n distinct at_i at_j = refl
distinct_apart (x ∷ xs) zero (suc j) n distinct at_i at_j = absurd (not_later x xs j n distinct at_i at_j)
distinct_apart (x ∷ xs) (suc i) zero n distinct at_i at_j = absurd (not_later x xs i n distinct at_j at_i)
distinct_apart (x ∷ xs) (suc i) (suc j) n distinct at_i at_j = ap suc (distinct_apart xs i j n (IsDistinct-tail node_eq x xs distinct) at_i at_j)

pub kept_none : (g : Graph) → Continues g g
kept_none g = record { inputs = refl; front = take_all (length g.nodes) g.nodes (omega arith) }

pub kept_longer : (old new : Graph) → Continues old new → length old.nodes ≤ length new.nodes
kept_longer old new kept = omega (arith, ap length kept.front, length-take (length old.nodes) new.nodes)

kept_again : (f g h : Graph) → Continues f g → Continues g h → Continues f h
kept_again f g h first second = record {
  inputs = second.inputs ∙ first.inputs;
  front = cc (take-take (length f.nodes) (length g.nodes) h.nodes (kept_longer f g first), second.front, first.front);
}

slice_get-front : {X : Type 0} (n : ℕ) (xs : List X) (k : ℕ) (x : X) → slice_get (take n xs) k ≡ Some x → slice_get xs k ≡ Some x
slice_get-front zero xs k x h = cc
slice_get-front (suc n) [] k x h = h
slice_get-front (suc n) (y ∷ xs) zero x h = h
slice_get-front (suc n) (y ∷ xs) (suc k) x h = slice_get-front n xs k x h

-- what stands among shapes stands there still
pub still_there : (old new : Graph) (k : ℕ) (n : Node) → Continues old new → slice_get old.nodes k ≡ Some n → slice_get new.nodes k ≡ Some n
still_there old new k n kept is = slice_get-front (length old.nodes) new.nodes k n (rw kept.front is)

-- one shape is put among others
pub put_shape : (old new : Graph) (m k : Node) (number : ℕ) → new.inputs ≡ old.inputs → new.nodes ≡ (if list_any (node_eq m) old.nodes then old.nodes else old.nodes ++ m ∷ [])
    → slice_get new.nodes number ≡ Some k → node_eq m k ≡ true → IsNumber old new m number
put_shape old new m k number inputs are stored equal = record {
  kept = record {
    inputs = inputs;
    front = (elim (list_any (node_eq m) old.nodes) as (λ b. new.nodes ≡ (if b then old.nodes else old.nodes ++ m ∷ []) → take (length old.nodes) new.nodes ≡ old.nodes) [
      | true ↦ λ e. ap (take (length old.nodes)) e ∙ take_all (length old.nodes) old.nodes (omega arith)
      | false ↦ λ e. ap (take (length old.nodes)) e ∙ take-append_seam old.nodes (m ∷ [])
    ]) are;
  };
  is = stored ∙ ap Some (sym (node_same m k equal));
}

earlier_pushed : (old : Graph) (m : Node) → AreShapes old → ((a : ℕ) → Contains (operands m) a → a < length old.nodes)
    → (i a : ℕ) (n : Node) → slice_get (old.nodes ++ m ∷ []) i ≡ Some n → Contains (operands n) a → a < i
earlier_pushed old m are behind i a n is h =
    elim (slice_get-push old.nodes m i n is) [
      | inl p ↦ are.earlier i a n p.1 h
      | inr p ↦ omega (arith, p.0, behind a (subst (λ (x : Node). Contains (operands x) a) (sym p.1) h))
    ]

-- and they are shapes still
pub shapes_put : (old new : Graph) (m : Node) → new.nodes ≡ (if list_any (node_eq m) old.nodes then old.nodes else old.nodes ++ m ∷ [])
    → AreShapes old → ((a : ℕ) → Contains (operands m) a → a < length old.nodes) → IsDistinct node_eq new.nodes → AreShapes new
shapes_put old new m put are behind distinct = record {
  apart = λ i j n at_i at_j. distinct_apart new.nodes i j n distinct at_i at_j;
  earlier = (elim (list_any (node_eq m) old.nodes) as (λ b. new.nodes ≡ (if b then old.nodes else old.nodes ++ m ∷ []) → (i a : ℕ) (n : Node) → slice_get new.nodes i ≡ Some n → Contains (operands n) a → a < i) [
    | true ↦ λ e i a n is h. are.earlier i a n (subst (λ (ns : List Node). slice_get ns i ≡ Some n) e is) h
    | false ↦ λ e i a n is h. earlier_pushed old m are behind i a n (subst (λ (ns : List Node). slice_get ns i ≡ Some n) e is) h
  ]) put;
}

pub shapes_none : (g : Graph) → g.nodes ≡ [] → AreShapes g
shapes_none g none = record {
  apart = λ i j n at_i at_j. let no : slice_get {X = Node} [] i ≡ Some n = subst (λ (ns : List Node). slice_get ns i ≡ Some n) none at_i in cc;
  earlier = λ i a n is h. let no : slice_get {X = Node} [] i ≡ Some n = subst (λ (ns : List Node). slice_get ns i ≡ Some n) none is in cc;
}

-- the tree of a shape is by its case
pub shape_tree : (g : Graph) (id : ℕ) (n : Node) → AreShapes g → slice_get g.nodes id ≡ Some n → tree_of g id ≡ node_tree (tree_of g) n
unfolding trees
shape_tree g id n are is =
    let there : id < length g.nodes = slice_get_within g.nodes id n is in
    get_or-map_in_turn _ g.nodes id n _ there
    ∙ ap (λ m. node_tree (tree_at (trees (take id g.nodes))) m) (get_or_from_slice_get g.nodes id n n is)
    ∙ node_tree-same (tree_at (trees (take id g.nodes))) (tree_of g) n
    (λ k h. get_or-map_in_turn-take _ g.nodes id k _ (are.earlier id k n is h) (omega (arith, there)))

-- the terms of a graph up to a place have their numbers
pub record SoFar (known shapes graph : Graph) (numbers : List ℕ) (i : ℕ) : Type 0 where
  pub kept : Continues known shapes
  pub long : length numbers ≡ i
  pub there : (id : ℕ) → id < i → get_or numbers id 0 < length shapes.nodes
  pub same : (id : ℕ) → id < i → tree_of shapes (get_or numbers id 0) ≡ tree_of graph id

-- one more has its number
module _ (known shapes g : Graph) (dag : IsDag g) (i : ℕ) (n : Node) (is : slice_get g.nodes i ≡ Some n)
    (numbers : List ℕ) (so_far : SoFar known shapes g numbers i) where
  pub operands_numbered : All (λ a. a < length numbers) (operands n)
  operands_numbered = All-from_contains (λ a. a < length numbers) (operands n) (λ a h. omega (arith, so_far.long, operand_before g i a n dag is h))

  pub shape_behind : (a : ℕ) → Contains (operands (renamed (λ k. get_or numbers k 0) n)) a → a < length shapes.nodes
  shape_behind a h =
      let from = Contains-from_map (λ k. get_or numbers k 0) (operands n) a (subst (λ (ks : List ℕ). Contains ks a) (operands-renamed (λ k. get_or numbers k 0) n) h) in
      subst (λ (b : ℕ). b < length shapes.nodes) from.2 (so_far.there from.0 (operand_before g i from.0 n dag is from.1))

  module _ (more : Graph) (number : ℕ) (put : IsNumber shapes more (renamed (λ k. get_or numbers k 0) n) number) (are : AreShapes more) where
    operand_same : (k : ℕ) → Contains (operands n) k → tree_of more (get_or numbers k 0) ≡ tree_of g k
    operand_same k h =
        let before : k < i = operand_before g i k n dag is h in
        tree-grown shapes more (get_or numbers k 0) put.kept (so_far.there k before) ∙ so_far.same k before

    own_same : tree_of more number ≡ tree_of g i
    own_same =
        shape_tree more number (renamed (λ k. get_or numbers k 0) n) are put.is
        ∙ sym (node_tree-renamed (tree_of more) (λ k. get_or numbers k 0) n)
        ∙ node_tree-same (λ k. tree_of more (get_or numbers k 0)) (tree_of g) n operand_same
        ∙ sym (tree_by_cases g i n dag is)

    old_number : (id : ℕ) → id < i → get_or (numbers ++ number ∷ []) id 0 ≡ get_or numbers id 0
    old_number id h = get_or_append_left numbers (number ∷ []) 0 id (omega (arith, h, so_far.long))

    new_number : (id : ℕ) → id ≡ i → get_or (numbers ++ number ∷ []) id 0 ≡ number
    new_number id e = ap (λ k. get_or (numbers ++ number ∷ []) k 0) (e ∙ sym so_far.long) ∙ get_or-append_seam numbers number [] 0

    pub one_more : SoFar known more g (numbers ++ number ∷ []) (i + 1)
    one_more = record {
      kept = kept_again known shapes more so_far.kept put.kept;
      long = omega (arith, so_far.long, length-append numbers (number ∷ []));
      there = λ id h. elim (cases_lt id i) [
        | inl l ↦ rw (old_number id l) (omega (arith, so_far.there id l, kept_longer shapes more put.kept))
        | inr l ↦ rw (new_number id (omega (arith, l, h))) (slice_get_within more.nodes number _ put.is)
      ];
      same = λ id h. elim (cases_lt id i) [
        | inl l ↦ ap (tree_of more) (old_number id l) ∙ tree-grown shapes more (get_or numbers id 0) put.kept (so_far.there id l) ∙ so_far.same id l
        | inr l ↦ (let e : id ≡ i = omega (arith, l, h) in ap (tree_of more) (new_number id e) ∙ own_same ∙ ap (tree_of g) (sym e))
      ];
    }

pub all_numbered : (known shapes g : Graph) (numbers : List ℕ) → SoFar known shapes g numbers (length g.nodes) → AreNumbered known shapes g numbers
all_numbered known shapes g numbers so_far = record { kept = so_far.kept; long = so_far.long; there = so_far.there; same = so_far.same }
