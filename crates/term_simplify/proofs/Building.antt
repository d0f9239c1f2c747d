-- What a call makes of a graph.
use Rattle.std.proofs.Common.{◌≡◌, ◌++◌, ◌∷◌, [], refl, ℕ, ◌+◌, ◌<◌, true, List, length, ap, sym, subst, ◌∙◌, arith, Some}
use Rattle.std.proofs.lemmas.Grind.{common_steps}
use Rattle.std.proofs.lemmas.Option.{slice_get_within}
use Rattle.std.specs.Prelude.{Result, Ok, Err}
use Rattle.std.specs.Result.{OnOk, IfOk}
use Rattle.std.specs.List.{All, slice_get}
use Rattle.bv_dag.specs.BitVectors.{BitVector}
use Rattle.bv_dag.specs.Graphs.{Graph, IsDag, val, width_of, with_node}
use Rattle.bv_dag.specs.Nodes.{Fits, node_value, node_width, widths_of}
use Rattle.bv_dag.specs.declared.nodes.Node.{Node}
use Rattle.bv_dag.specs.declared.nodes.Node.TheVariants.{Num, Input, Not, Neg, Binary, Compare, Ite, Extract, Extend, Concat}
use Rattle.bv_dag.proofs.TermLaws.{IsDag-with_node, width_of-new, val-new, width-val}
use Rattle.term_trees.specs.Growth.{Continues}
use Rattle.term_trees.specs.Trees.{Tree, tree_of, node_tree, tree_value, tree_width, IsTerm}
use Rattle.term_trees.proofs.Terms.{is_term}
use Rattle.term_trees.proofs.TreeLaws.{tree_by_cases, tree_of-new, value-tree_of, width-tree_of}
use Rattle.term_simplify.specs.Builds.{BuildsAs}
use Rattle.term_simplify.specs.Lifting.{unlifted}
use Rattle.term_simplify.specs.Moves.{move_tree, unvalued}
use Rattle.term_simplify.specs.Plans.{Follows, HasRoom, Makes, recipe_tree}
use Rattle.term_simplify.specs.Plain.{further, plain}
use Rattle.term_simplify.specs.Steps.{Stands}
use Rattle.term_simplify.specs.declared.moves.Move.{Move}
use Rattle.term_simplify.specs.declared.plan.Plan.TheVariants.{Term}
use Rattle.term_simplify.specs.declared.recipe.Recipe.{Recipe}
use Rattle.term_simplify.proofs.NodeRules.{value-plain}
use Rattle.term_simplify.proofs.PartTerms.{width-further}

-- the place of an equal node
pub Makes-standing : (g : Graph) (id : ℕ) (n m : Node) → IsDag g → slice_get g.nodes id ≡ Some n →
    n ≡ m → Makes g (Term id) (node_tree (tree_of g) m)
Makes-standing g id n m dag is e = record {
  is = tree_by_cases g id n dag is ∙ ap
      (node_tree (tree_of g)) e;
  fits = slice_get_within g.nodes id n is;
}

-- the tree of a node that was pushed
pub tree_pushed : {E : Type 0} (h g more : Graph) (n : Node) (r : Result ℕ E) → h ≡ g →
    IfOk r (λ id. id ≡ length h.nodes) → OnOk r (more ≡ with_node h n) →
    IfOk r (λ id. tree_of more id ≡ node_tree (tree_of g) n)
tree_pushed h g more n (Ok id) e place ok =
    ap (λ (k : Graph). tree_of k id) ok ∙ ap (tree_of (with_node h n)) place ∙ tree_of-new h n ∙ ap
    (λ (k : Graph). node_tree (tree_of k) n) e
tree_pushed h g more n (Err x) e place ok = tt

behind : (nodes : List Node) (n : Node) → length nodes < length (nodes ++ n ∷ [])
behind nodes n = grind (arith, common_steps)

-- the tree of a node that fits is a term
pub is_term_of : (g : Graph) (n : Node) → IsDag g → Fits g.inputs (widths_of g.nodes) n →
    IsTerm g.inputs (node_tree (tree_of g) n)
is_term_of g n dag fits =
    subst (IsTerm g.inputs) (tree_of-new g n) (is_term (with_node g n) (length g.nodes)
    (IsDag-with_node g n dag fits) (behind g.nodes n))

-- a tree that is worth what a node's own is
abbrev pub IsWorth : (own made : Tree) → Type 0
IsWorth own made =
    (input : List ℕ) → All (λ b. b < 256) input → tree_value input made ≡ tree_value input own

-- what an answer is worth, from its tree
value_built : (g more : Graph) (id : ℕ) (n : Node) (made : Tree) → IsWorth (node_tree (tree_of g) n) made →
    tree_of more id ≡ made → (input : List ℕ) → All (λ b. b < 256) input →
    val more id input ≡ node_value input (λ k. val g k input) n
value_built g more id n made worth is input bytes =
    sym (value-tree_of more id input) ∙ ap (tree_value input) is ∙ worth input bytes
    ∙ ap (tree_value input) (sym (tree_of-new g n)) ∙ value-tree_of (with_node g n) (length g.nodes) input ∙ val-new g n input

-- how wide an answer is, from its value
width_built : (g more : Graph) (id : ℕ) (n : Node) →
    val more id [] ≡ node_value [] (λ k. val g k []) n →
    width_of more id ≡ node_width (widths_of g.nodes) n
width_built g more id n value =
    sym (width-val more id []) ∙ ap (λ (v : BitVector). v.width) (value ∙ sym (val-new g n [])) ∙
    width-val (with_node g n) (length g.nodes) [] ∙ width_of-new g n

-- an answer that is such a tree
pub built_as : {E : Type 0} (g more : Graph) (r : Result ℕ E) (n : Node) (made : Tree) →
    IsWorth (node_tree (tree_of g) n) made → IfOk r (λ id. id < length more.nodes) →
    IfOk r (λ id. tree_of more id ≡ made) → OnOk r (Continues g more) →
    IfOk r (BuildsAs made g more n)
built_as g more (Ok id) n made worth there is ok =
    let value : (input : List ℕ) → All (λ b. b < 256) input → val more id input ≡ node_value input (λ k. val g k input) n = value_built g more id n made worth is in
    record {
      continues = ok;
      there = there;
      tree = is;
      width = width_built g more id n
          (value [] (λ k d h. absurd (omega (arith, h))));
      value = value;
    }
built_as g more (Err x) n made worth there is ok = tt

-- and is a term on the way
pub stands_as : (g more : Graph) (n : Node) (made : Tree) (id : ℕ) → BuildsAs made g more n id →
    Stands more id made (node_width (widths_of g.nodes) n) (λ input. node_value input (λ k. val g k input) n)
stands_as g more n made id built = record { there = built.there; tree = built.tree; width = built.width; value = built.value }

-- the answer of a recipe
planned : {E : Type 0} (g more : Graph) (r : Result ℕ E) (recipe : Recipe) (tree : Tree) →
    Follows g recipe tree → IfOk r (λ id. tree_of more id ≡ recipe_tree g recipe) →
    IfOk r (λ id. tree_of more id ≡ tree)
planned g more (Ok id) recipe tree makes is = is ∙ makes.is
planned g more (Err x) recipe tree makes is = tt

-- a node that is no bits of a term
all_but_bits : (f : ℕ → Tree) (n : Node) → ((high low a : ℕ) → n ≡ Extract high low a → ⊥) → unlifted f n ≡ plain f n
all_but_bits f (Extract high low a) other = absurd (other high low a refl)
all_but_bits f (Num w v) other = refl
all_but_bits f (Input i) other = refl
all_but_bits f (Not a) other = refl
all_but_bits f (Neg a) other = refl
all_but_bits f (Binary op a b) other = refl
all_but_bits f (Compare op a b) other = refl
all_but_bits f (Ite c a b) other = refl
all_but_bits f (Extend by signed a) other = refl
all_but_bits f (Concat a b) other = refl

-- the same, where the plan was made of an equal graph
pub built : {E : Type 0} (h g more : Graph) (r : Result ℕ E) (recipe : Recipe) (n : Node) →
    ((high low a : ℕ) → n ≡ Extract high low a → ⊥) → h ≡ g →
    IsTerm h.inputs (node_tree (tree_of h) n) → Follows h recipe (unlifted (tree_of h) n) →
    IfOk r (λ id. id < length more.nodes) → IfOk r (λ id. tree_of more id ≡ recipe_tree g recipe) →
    OnOk r (Continues g more) → IfOk r (BuildsAs (plain (tree_of g) n) g more n)
built h g more r recipe n other e term makes there tree ok =
    let here : Follows g recipe (unlifted (tree_of g) n) = subst (λ (k : Graph). Follows k recipe (unlifted (tree_of k) n)) e makes in
    let own : IsTerm g.inputs (node_tree (tree_of g) n) = subst (λ (k : Graph). IsTerm k.inputs (node_tree (tree_of k) n)) e term in
    built_as g more r n (plain (tree_of g) n) (λ input bytes. value-plain g.inputs input bytes (tree_of g) n own) there
    (planned g more r recipe (plain (tree_of g) n) (rw (← all_but_bits (tree_of g) n other) here) tree) ok

-- a tree by another name
pub named : {E : Type 0} (g more : Graph) (r : Result ℕ E) (n : Node) (s t : Tree) → s ≡ t →
    IfOk r (BuildsAs s g more n) → IfOk r (BuildsAs t g more n)
named g more r n s t e built = subst (λ (k : Tree). IfOk r (BuildsAs k g more n)) e built

-- an answer of moved bits, which were found in an equal graph
pub moved_here : {E : Type 0} (h g more : Graph) (r : Result ℕ E) (m : Move) (n : Node) → h ≡ g →
    unvalued (tree_of h) n ≡ move_tree h m → IsWorth (node_tree (tree_of h) n) (move_tree h m) →
    IfOk r (λ id. id < length more.nodes) → IfOk r (λ id. tree_of more id ≡ move_tree g m) →
    OnOk r (Continues g more) → IfOk r (BuildsAs (unvalued (tree_of g) n) g more n)
moved_here h g more r m n e is worth there tree ok =
    let here : unvalued (tree_of g) n ≡ move_tree g m = subst (λ (k : Graph). unvalued (tree_of k) n ≡ move_tree k m) e is in
    named g more r n (move_tree g m) (unvalued (tree_of g) n) (sym here) (built_as g more r n (move_tree g m)
    (subst (λ (k : Graph). IsWorth (node_tree (tree_of k) n) (move_tree k m)) e worth) there tree ok)

-- ---- the bits above what a recipe's plan makes
pub room_for_signs : (g : Graph) (id signs zeros : ℕ) (t : Tree) → tree_of g id ≡ t → HasRoom (signs + zeros) (tree_width t) →
    HasRoom signs (width_of g id)
room_for_signs g id signs zeros t is room =
    λ some. let (bits, fits) = room (omega (arith, some)) in
    let wide : width_of g id ≡ tree_width t = sym (width-tree_of g id) ∙ ap tree_width is in
    (omega (arith, wide, bits), omega (arith, wide, fits))

pub room_for_zeros : (g : Graph) (id signs zeros : ℕ) (t : Tree) → tree_of g id ≡ further signs true t → HasRoom (signs + zeros) (tree_width t) →
    HasRoom zeros (width_of g id)
room_for_zeros g id signs zeros t is room =
    λ some. let (bits, fits) = room (omega (arith, some)) in
    let wide : width_of g id ≡ tree_width t + signs = sym (width-tree_of g id) ∙ ap tree_width is ∙ width-further signs true t in
    (omega (arith, wide, bits), omega (arith, wide, fits))
