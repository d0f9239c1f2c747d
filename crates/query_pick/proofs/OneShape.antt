-- Terms are one tree just where their shapes have one number.
use Rattle.std.proofs.Common.{◌≡◌, ◌==◌, ◌||◌, ℕ, zero, suc, ◌+◌, ◌<◌, ◌↔◌, true, inl, inr, List, [], ◌∷◌, length, map, get_or, take, refl, sym, ap, ◌∙◌, arith, subst, Some}
use Rattle.std.specs.Prelude.{All, Contains}
use Rattle.std.specs.List.{slice_get, list_any}
use Rattle.std.proofs.lemmas.Bool.{cases_Bool, eq-eqb, eqb-true}
use Rattle.std.proofs.lemmas.List.{take_more}
use Rattle.std.proofs.lemmas.List.Elements.{All-contains, Contains-append_cases, Contains-get_or}
use Rattle.bv_dag.specs.Graphs.{Graph, width_of}
use Rattle.bv_dag.specs.Queries.{AreBits, Condition}
use Rattle.bv_dag.specs.declared.nodes.Node.{Node}
use Rattle.bv_dag.specs.declared.nodes.Node.TheVariants.{Num, Input, Not, Neg, Binary, Compare, Ite, Extract, Extend, Concat}
use Rattle.bv_dag.proofs.Fitting.{has_place, some_at}
use Rattle.term_trees.specs.Subsets.{AsksNoMore}
use Rattle.term_trees.specs.Trees.{Tree, node_tree, tree_of}
use Rattle.term_trees.specs.TreeSlices.{asserted_trees}
use Rattle.term_trees.proofs.TreeLaws.{tree-grown}
use Rattle.query_pick.specs.Operands.{operands}
use Rattle.query_pick.specs.Shapes.{AreAmong, AreNumbered, AreShapes}
use Rattle.query_pick.proofs.Lists.{Contains-from_map, Contains-here, Contains-later, Contains-map, Contains-none, Contains-uncons}
use Rattle.query_pick.proofs.Naming.{first_of_two, second_of_two}
use Rattle.query_pick.proofs.Shaping.{kept_longer, shape_tree}

-- what a test of a list says
pub Contains-where_any : (xs : List ℕ) (x : ℕ) → list_any (λ y. y == x) xs ≡ true → Contains xs x
Contains-where_any [] x h = cc
Contains-where_any (y ∷ ys) x h =
    elim (cases_Bool (y == x)) [
      | inl t ↦ Contains-here y ys x (sym (eqb-true y x t))
      | inr f ↦ Contains-later y ys x (Contains-where_any ys x (rw f at h))
    ]

pub any-where_contains : (xs : List ℕ) (x : ℕ) → Contains xs x → list_any (λ y. y == x) xs ≡ true
any-where_contains [] x h = Contains-none x h _
any-where_contains (y ∷ ys) x h =
    elim (Contains-uncons y ys x h) [
      | inl e ↦ ap (λ b. b || list_any (λ z. z == x) ys) (eq-eqb y x (sym e))
      | inr rest ↦ elim (cases_Bool (y == x)) [
        | inl t ↦ ap (λ b. b || list_any (λ z. z == x) ys) t
        | inr f ↦ ap (λ b. b || list_any (λ z. z == x) ys) f ∙ any-where_contains ys x rest
      ]
    ]

pub among_none : {X : Type 0} (others : List X) → AreAmong [] others
among_none others x h = Contains-none x h _

pub among_more : (some others : List ℕ) (i : ℕ) → i < length some → AreAmong (take i some) others → Contains others (get_or some i 0) → AreAmong (take (i + 1) some) others
among_more some others i within so_far next x h =
    elim (Contains-append_cases (take i some) (get_or some i 0 ∷ []) x (subst (λ (ks : List ℕ). Contains ks x) (take_more some i 0 within) h)) [
      | inl before ↦ so_far x before
      | inr last ↦ elim (Contains-uncons (get_or some i 0) [] x last) [
        | inl e ↦ subst (Contains others) (sym e) next
        | inr none ↦ Contains-none x none _
      ]
    ]

pub not_among : (some others : List ℕ) (i : ℕ) → i < length some → (Contains others (get_or some i 0) → ⊥) → AreAmong some others → ⊥
not_among some others i within lacks among = lacks (among (get_or some i 0) (Contains-get_or some i 0 within))

-- nodes whose trees are one are one, where operands whose trees are one are
same_shape : (f : ℕ → Tree) (i j : ℕ) → ((a b : ℕ) → a < i → b < j → f a ≡ f b → a ≡ b) → (n m : Node)
    → ((a : ℕ) → Contains (operands n) a → a < i) → ((a : ℕ) → Contains (operands m) a → a < j) → node_tree f n ≡ node_tree f m → n ≡ m
same_shape f i j one (Num w v) (Num w' v') n m e = cc
same_shape f i j one (Input k) (Input k') n m e = cc
same_shape f i j one (Not a) (Not a') n m e =
    let left : f a ≡ f a' = cc in
    cc (one a a' (n a (Contains-here a [] a refl)) (m a' (Contains-here a' [] a' refl)) left)
same_shape f i j one (Neg a) (Neg a') n m e =
    let left : f a ≡ f a' = cc in
    cc (one a a' (n a (Contains-here a [] a refl)) (m a' (Contains-here a' [] a' refl)) left)
same_shape f i j one (Binary op a b) (Binary op' a' b') n m e =
    let left : f a ≡ f a' = cc in
    let right : f b ≡ f b' = cc in
    cc (one a a' (n a (first_of_two a b)) (m a' (first_of_two a' b')) left, one b b' (n b (second_of_two a b)) (m b' (second_of_two a' b')) right)
same_shape f i j one (Compare op a b) (Compare op' a' b') n m e =
    let left : f a ≡ f a' = cc in
    let right : f b ≡ f b' = cc in
    cc (one a a' (n a (first_of_two a b)) (m a' (first_of_two a' b')) left, one b b' (n b (second_of_two a b)) (m b' (second_of_two a' b')) right)
same_shape f i j one (Ite c a b) (Ite c' a' b') n m e =
    let chosen : f c ≡ f c' = cc in
    let left : f a ≡ f a' = cc in
    let right : f b ≡ f b' = cc in
    cc (
      one c c' (n c (Contains-here c (a ∷ b ∷ []) c refl)) (m c' (Contains-here c' (a' ∷ b' ∷ []) c' refl)) chosen,
      one a a' (n a (Contains-later c (a ∷ b ∷ []) a (first_of_two a b))) (m a' (Contains-later c' (a' ∷ b' ∷ []) a' (first_of_two a' b'))) left,
      one b b' (n b (Contains-later c (a ∷ b ∷ []) b (second_of_two a b))) (m b' (Contains-later c' (a' ∷ b' ∷ []) b' (second_of_two a' b'))) right,
    )
same_shape f i j one (Extract high low a) (Extract high' low' a') n m e =
    let left : f a ≡ f a' = cc in
    cc (one a a' (n a (Contains-here a [] a refl)) (m a' (Contains-here a' [] a' refl)) left)
same_shape f i j one (Extend by signed a) (Extend by' signed' a') n m e =
    let left : f a ≡ f a' = cc in
    cc (one a a' (n a (Contains-here a [] a refl)) (m a' (Contains-here a' [] a' refl)) left)
same_shape f i j one (Concat a b) (Concat a' b') n m e =
    let left : f a ≡ f a' = cc in
    let right : f b ≡ f b' = cc in
    cc (one a a' (n a (first_of_two a b)) (m a' (first_of_two a' b')) left, one b b' (n b (second_of_two a b)) (m b' (second_of_two a' b')) right)
same_shape f i j one _ _ n m e = cc

one_below : (t : Graph) → AreShapes t → (bound a b : ℕ) → a < bound → a < length t.nodes → b < length t.nodes → tree_of t a ≡ tree_of t b → a ≡ b
one_below t are zero a b below there there_too e = absurd (omega arith)
one_below t are (suc bound) a b below there there_too e =
    let n : (x : Node) × (slice_get t.nodes a ≡ Some x) = some_at t.nodes a there in
    let m : (x : Node) × (slice_get t.nodes b ≡ Some x) = some_at t.nodes b there_too in
    let trees : node_tree (tree_of t) n.0 ≡ node_tree (tree_of t) m.0 = sym (shape_tree t a n.0 are n.1) ∙ e ∙ shape_tree t b m.0 are m.1 in
    let same : n.0 ≡ m.0 =
    same_shape (tree_of t) a b
    (λ x y x_before y_before f. one_below t are bound x y (omega (arith, below, x_before)) (omega (arith, there, x_before)) (omega (arith, there_too, y_before)) f)
    n.0 m.0 (λ k h. are.earlier a k n.0 n.1 h) (λ k h. are.earlier b k m.0 m.1 h) trees in
    are.apart a b n.0 n.1 (m.1 ∙ ap Some (sym same))

-- shapes of one tree are one
one_shape : (t : Graph) → AreShapes t → (a b : ℕ) → a < length t.nodes → b < length t.nodes → tree_of t a ≡ tree_of t b → a ≡ b
one_shape t are a b there there_too e = one_below t are (suc a) a b (omega arith) there there_too e

pub asserted_there : (q : Condition) (id : ℕ) → AreBits q.graph q.asserted → Contains q.asserted id → id < length q.graph.nodes
asserted_there q id bits h =
    let one : width_of q.graph id ≡ 1 = All-contains (λ k. width_of q.graph k ≡ 1) q.asserted id bits h in
    has_place q.graph.nodes id (omega (arith, one))

pub bits_there : (q : Condition) → AreBits q.graph q.asserted → All (λ id. id < length q.graph.nodes) q.asserted
bits_there q bits k d within = asserted_there q (get_or q.asserted k d) bits (Contains-get_or q.asserted k d within)

-- two conditions, the terms of which have their numbers
module _ (less more : Condition) (none known shapes : Graph) (of_less of_more : List ℕ) (inputs : less.graph.inputs ≡ more.graph.inputs)
    (bits : AreBits less.graph less.asserted) (bits_too : AreBits more.graph more.asserted)
    (first : AreNumbered none known less.graph of_less) (second : AreNumbered known shapes more.graph of_more) (are : AreShapes shapes) where
  less_there : (id : ℕ) → Contains less.asserted id → get_or of_less id 0 < length shapes.nodes
  less_there id h = omega (arith, first.there id (asserted_there less id bits h), kept_longer known shapes second.kept)

  less_same : (id : ℕ) → Contains less.asserted id → tree_of shapes (get_or of_less id 0) ≡ tree_of less.graph id
  less_same id h =
      let there : id < length less.graph.nodes = asserted_there less id bits h in
      tree-grown known shapes (get_or of_less id 0) second.kept (first.there id there) ∙ first.same id there

  more_there : (id : ℕ) → Contains more.asserted id → get_or of_more id 0 < length shapes.nodes
  more_there id h = second.there id (asserted_there more id bits_too h)

  more_same : (id : ℕ) → Contains more.asserted id → tree_of shapes (get_or of_more id 0) ≡ tree_of more.graph id
  more_same id h = second.same id (asserted_there more id bits_too h)

  asks_where_among : AreAmong (map (λ id. get_or of_less id 0) less.asserted) (map (λ id. get_or of_more id 0) more.asserted) → AsksNoMore less more
  asks_where_among among = record {
    inputs = inputs;
    trees = λ t h.
        let id = Contains-from_map (tree_of less.graph) less.asserted t h in
        let there = among (get_or of_less id.0 0) (Contains-map (λ k. get_or of_less k 0) less.asserted id.0 id.1) in
        let other = Contains-from_map (λ k. get_or of_more k 0) more.asserted (get_or of_less id.0 0) there in
        let same : tree_of more.graph other.0 ≡ t = sym (more_same other.0 other.1) ∙ ap (tree_of shapes) other.2 ∙ less_same id.0 id.1 ∙ id.2 in
        subst (Contains (asserted_trees more)) same (Contains-map (tree_of more.graph) more.asserted other.0 other.1);
  }

  among_where_asks : AsksNoMore less more → AreAmong (map (λ id. get_or of_less id 0) less.asserted) (map (λ id. get_or of_more id 0) more.asserted)
  among_where_asks asks k h =
      let id = Contains-from_map (λ j. get_or of_less j 0) less.asserted k h in
      let there = asks.trees (tree_of less.graph id.0) (Contains-map (tree_of less.graph) less.asserted id.0 id.1) in
      let other = Contains-from_map (tree_of more.graph) more.asserted (tree_of less.graph id.0) there in
      let same : get_or of_more other.0 0 ≡ get_or of_less id.0 0 =
      one_shape shapes are (get_or of_more other.0 0) (get_or of_less id.0 0) (more_there other.0 other.1) (less_there id.0 id.1)
      (more_same other.0 other.1 ∙ other.2 ∙ sym (less_same id.0 id.1)) in
      subst (Contains (map (λ j. get_or of_more j 0) more.asserted)) (same ∙ id.2) (Contains-map (λ j. get_or of_more j 0) more.asserted other.0 other.1)

  pub asks_is_among : AreAmong (map (λ id. get_or of_less id 0) less.asserted) (map (λ id. get_or of_more id 0) more.asserted) ↔ AsksNoMore less more
  asks_is_among = (asks_where_among, among_where_asks)
