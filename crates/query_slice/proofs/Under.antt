-- The input bytes under a term and under its operands.
use Rattle.std.proofs.Common.{◌≡◌, ℕ, ◌⊎◌, inl, inr, List, [], ◌∷◌, ◌++◌, Some, refl, sym, ap, subst}
use Rattle.std.specs.Prelude.{Contains}
use Rattle.std.specs.List.{flat_map, slice_get}
use Rattle.std.proofs.lemmas.List.Elements.{Contains-append_left, Contains-append_right, Contains-append_cases}
use Rattle.bv_dag.specs.Graphs.{Graph, IsDag}
use Rattle.bv_dag.specs.Inputs.{node_inputs, inputs_under}
use Rattle.bv_dag.specs.declared.nodes.Node.{Node}
use Rattle.bv_dag.specs.declared.nodes.Node.TheVariants.{Num, Input, Not, Neg, Binary, Compare, Ite, Extract, Extend, Concat}
use Rattle.bv_dag.proofs.Resting.{inputs_by_cases}
use Rattle.query_pick.specs.Cones.{IsUnder, top, operand}
use Rattle.query_pick.specs.Operands.{operands}
use Rattle.query_pick.proofs.Lists.{Contains-here, Contains-later, Contains-none, Contains-uncons}

-- a byte under a node: the node is that byte, or it stands under an operand
abbrev ComesFrom : (ℕ → List ℕ) → Node → ℕ → Type 0
ComesFrom f n i = (n ≡ Input i) ⊎ ((a : ℕ) × Contains (operands n) a × Contains (f a) i)

of_one : (f : ℕ → List ℕ) (n : Node) (a i : ℕ) (rest : List ℕ) → operands n ≡ a ∷ rest → Contains (f a) i → ComesFrom f n i
of_one f n a i rest e h = inr (a, rw e (Contains-here a rest a refl), h)

of_two : (f : ℕ → List ℕ) (n : Node) (a b i : ℕ) (rest : List ℕ) → operands n ≡ a ∷ b ∷ rest → Contains (f a ++ f b) i → ComesFrom f n i
of_two f n a b i rest e h =
    elim (Contains-append_cases (f a) (f b) i h) [
      | inl p ↦ inr (a, rw e (Contains-here a (b ∷ rest) a refl), p)
      | inr p ↦ inr (b, rw e (Contains-later a (b ∷ rest) b (Contains-here b rest b refl)), p)
    ]

pub comes_from : (f : ℕ → List ℕ) (n : Node) (i : ℕ) → Contains (node_inputs f n) i → ComesFrom f n i
comes_from f (Num w v) i h = Contains-none i h _
comes_from f (Input k) i h = elim (Contains-uncons k [] i h) [ inl e ↦ inl (ap Input (sym e)) | inr none ↦ Contains-none i none _ ]
comes_from f (Not a) i h = of_one f (Not a) a i [] refl h
comes_from f (Neg a) i h = of_one f (Neg a) a i [] refl h
comes_from f (Extract high low a) i h = of_one f (Extract high low a) a i [] refl h
comes_from f (Extend by signed a) i h = of_one f (Extend by signed a) a i [] refl h
comes_from f (Binary op a b) i h = of_two f (Binary op a b) a b i [] refl h
comes_from f (Compare op a b) i h = of_two f (Compare op a b) a b i [] refl h
comes_from f (Concat a b) i h = of_two f (Concat a b) a b i [] refl h
comes_from f (Ite c a b) i h =
    elim (Contains-append_cases (f c ++ f a) (f b) i h) [
      | inl p ↦ of_two f (Ite c a b) c a i (b ∷ []) refl p
      | inr p ↦ inr (b, Contains-later c (a ∷ b ∷ []) b (Contains-later a (b ∷ []) b (Contains-here b [] b refl)), p)
    ]

-- what stands under an operand stands under the node
only_one : (f : ℕ → List ℕ) (a k i : ℕ) → Contains (a ∷ []) k → Contains (f k) i → Contains (f a) i
only_one f a k i h p = elim (Contains-uncons a [] k h) [ inl e ↦ subst (λ (m : ℕ). Contains (f m) i) e p | inr none ↦ Contains-none k none _ ]

one_of_two : (f : ℕ → List ℕ) (a b k i : ℕ) → Contains (a ∷ b ∷ []) k → Contains (f k) i → Contains (f a ++ f b) i
one_of_two f a b k i h p =
    elim (Contains-uncons a (b ∷ []) k h) [
      | inl e ↦ Contains-append_left (f a) (f b) i (subst (λ (m : ℕ). Contains (f m) i) e p)
      | inr rest ↦ Contains-append_right (f a) (f b) i (only_one f b k i rest p)
    ]

pub goes_to : (f : ℕ → List ℕ) (n : Node) (a i : ℕ) → Contains (operands n) a → Contains (f a) i → Contains (node_inputs f n) i
goes_to f (Num w v) k i h p = Contains-none k h _
goes_to f (Input j) k i h p = Contains-none k h _
goes_to f (Not a) k i h p = only_one f a k i h p
goes_to f (Neg a) k i h p = only_one f a k i h p
goes_to f (Extract high low a) k i h p = only_one f a k i h p
goes_to f (Extend by signed a) k i h p = only_one f a k i h p
goes_to f (Binary op a b) k i h p = one_of_two f a b k i h p
goes_to f (Compare op a b) k i h p = one_of_two f a b k i h p
goes_to f (Concat a b) k i h p = one_of_two f a b k i h p
goes_to f (Ite c a b) k i h p =
    elim (Contains-uncons c (a ∷ b ∷ []) k h) [
      | inl e ↦ Contains-append_left (f c ++ f a) (f b) i (Contains-append_left (f c) (f a) i (subst (λ (m : ℕ). Contains (f m) i) e p))
      | inr rest ↦ elim (Contains-uncons a (b ∷ []) k rest) [
        | inl e ↦ Contains-append_left (f c ++ f a) (f b) i (Contains-append_right (f c) (f a) i (subst (λ (m : ℕ). Contains (f m) i) e p))
        | inr last ↦ Contains-append_right (f c ++ f a) (f b) i (only_one f b k i last p)
      ]
    ]

-- in a graph
module _ (graph : Graph) (dag : IsDag graph) where
  pub under_operand : (id a i : ℕ) (n : Node) → slice_get graph.nodes id ≡ Some n → Contains (operands n) a → Contains (inputs_under graph a) i → Contains (inputs_under graph id) i
  under_operand id a i n is h p = rw (inputs_by_cases graph id n dag is) (goes_to (inputs_under graph) n a i h p)

  pub under_by_cases : (id i : ℕ) (n : Node) → slice_get graph.nodes id ≡ Some n → Contains (inputs_under graph id) i → (n ≡ Input i) ⊎ ((a : ℕ) × Contains (operands n) a × Contains (inputs_under graph a) i)
  under_by_cases id i n is h = comes_from (inputs_under graph) n i (subst (λ (us : List ℕ). Contains us i) (inputs_by_cases graph id n dag is) h)

  -- what stands under a term that stands under some, stands under one of these
  pub under_top : (tops : List ℕ) (id : ℕ) → IsUnder graph tops id → (t : ℕ) × Contains tops t × ((i : ℕ) → Contains (inputs_under graph id) i → Contains (inputs_under graph t) i)
  under_top tops id (top h) = (id, h, λ i p. p)
  under_top tops a (operand {id = id} n under is h) =
      let above = under_top tops id under in (above.0, above.1, λ i p. above.2 i (under_operand id a i n is h p))

-- a byte that a condition rests on stands under a term that it asserts, and the other way round
pub asserted_under : (f : ℕ → List ℕ) (ids : List ℕ) (i : ℕ) → Contains (flat_map f ids) i → (id : ℕ) × Contains ids id × Contains (f id) i
asserted_under f [] i h = Contains-none i h _
asserted_under f (id ∷ ids) i h =
    elim (Contains-append_cases (f id) (flat_map f ids) i h) [
      | inl p ↦ (id, Contains-here id ids id refl, p)
      | inr p ↦ (let rest = asserted_under f ids i p in (rest.0, Contains-later id ids rest.0 rest.1, rest.2))
    ]

pub under_asserted : (f : ℕ → List ℕ) (ids : List ℕ) (id i : ℕ) → Contains ids id → Contains (f id) i → Contains (flat_map f ids) i
under_asserted f [] id i h p = Contains-none id h _
under_asserted f (k ∷ ids) id i h p =
    elim (Contains-uncons k ids id h) [
      | inl e ↦ Contains-append_left (f k) (flat_map f ids) i (subst (λ (m : ℕ). Contains (f m) i) e p)
      | inr rest ↦ Contains-append_right (f k) (flat_map f ids) i (under_asserted f ids id i rest p)
    ]
