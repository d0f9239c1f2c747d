-- First input bytes that have been found, which are those of the first places, and the operands of a term among them.
use Rattle.std.proofs.Common.{◌≡◌, ◌⊎◌, ℕ, ◌<◌, Bool, inl, inr, List, [], ◌∷◌, ◌++◌, length, map, take, get_or, Option, Some, None, refl, sym, ap, subst, ◌∙◌, arith}
use Rattle.std.specs.Prelude.{Contains}
use Rattle.std.specs.List.{slice_get}
use Rattle.std.specs.List.Sorted.{IsStrictlyIncreasing}
use Rattle.std.proofs.lemmas.Bool.{cases_lt}
use Rattle.std.proofs.lemmas.List.{get_or-map, get_or-take, get_or_default, length-take}
use Rattle.std.proofs.lemmas.List.Elements.{All-contains}
use Rattle.std.proofs.lemmas.Option.{get_or_from_slice_get, slice_get_within}
use Rattle.bv_dag.specs.Graphs.{Graph, IsDag}
use Rattle.bv_dag.specs.Inputs.{inputs_under, node_inputs}
use Rattle.bv_dag.specs.declared.nodes.BinaryOp.{BinaryOp}
use Rattle.bv_dag.specs.declared.nodes.Comparison.{Comparison}
use Rattle.bv_dag.specs.declared.nodes.Node.{Node}
use Rattle.bv_dag.specs.declared.nodes.Node.TheVariants.{Not, Neg, Binary, Compare, Extract, Extend, Concat}
use Rattle.bv_dag.proofs.Resting.{inputs_by_cases}
use Rattle.query_pick.specs.Cones.{HasOperands}
use Rattle.query_pick.specs.Operands.{operands}
use Rattle.query_pick.proofs.Lists.{All-from_contains, Contains-here, Contains-later, below, earlier}
use Rattle.query_pick.proofs.Searching.{operand_before}
use Rattle.query_slice.specs.Classes.{first_of, first_under, joined, joined_all, label_of, relabelled}
use Rattle.query_slice.proofs.Labels.{relabelled_itself}

-- the place of one that is among the first
module _ (places : List ℕ) (n id k : ℕ) (increasing : IsStrictlyIncreasing places) (there : Contains (take n places) id) (is : slice_get places k ≡ Some id) where
  at_k : get_or places k 0 ≡ id
  at_k = get_or_from_slice_get places k id 0 is

  first_place : there.0 < n
  first_place = omega (arith, there.1, length-take n places)

  in_places : there.0 < length places
  in_places = omega (arith, there.1, length-take n places)

  at_first : get_or places there.0 0 ≡ id
  at_first = get_or_default places there.0 0 id in_places ∙ sym (get_or-take n places there.0 id first_place) ∙ there.2

  pub number_within : k < n
  number_within =
      elim (cases_lt k n) [
        | inl l ↦ l
        | inr past ↦ absurd (omega (arith, below places there.0 k increasing (omega (arith, past, first_place)) (slice_get_within places k id is), at_first, at_k))
      ]

  -- what was found for it
  pub first_found : (graph : Graph) (firsts : List (Option ℕ)) → firsts ≡ map (first_under graph) (take n places) → get_or firsts k None ≡ first_under graph id
  first_found graph firsts are =
      ap (λ (fs : List (Option ℕ)). get_or fs k None) are
      ∙ get_or-map (first_under graph) (take n places) k 0 None (omega (arith, number_within, slice_get_within places k id is, length-take n places))
      ∙ ap (first_under graph) (get_or-take n places k 0 number_within ∙ at_k)

-- those of a list of places that are below one of them stand before it
pub among_earlier : (places : List ℕ) (i a : ℕ) → IsStrictlyIncreasing places → i < length places → Contains places a → a < get_or places i 0 → Contains (take i places) a
among_earlier places i a increasing there h less =
    let at_a : get_or places h.0 0 ≡ a = get_or_default places h.0 0 a h.1 ∙ h.2 in
    let before : h.0 < i = earlier places h.0 i increasing h.1 (omega (arith, at_a, less)) in
    (h.0, omega (arith, before, h.1, length-take i places), get_or-take i places h.0 a before ∙ h.2)

-- so do the operands of the term at that place
pub operands_found : (graph : Graph) (places : List ℕ) (i id : ℕ) → IsDag graph → IsStrictlyIncreasing places → slice_get places i ≡ Some id → HasOperands graph places id → HasOperands graph (take i places) id
operands_found graph places i id dag increasing at ops n is =
    All-from_contains (Contains (take i places)) (operands n)
    (λ a h. among_earlier places i a increasing (slice_get_within places i id at) (All-contains (Contains places) (operands n) a (ops n is) h)
    (omega (arith, operand_before graph id a n dag is h, get_or_from_slice_get places i id 0 at)))

-- a node of one operand or of two, and the bytes under it
abbrev pub HasOne : (ℕ → List ℕ) → Node → ℕ → Type 0
HasOne f n a = (operands n ≡ a ∷ []) × (node_inputs f n ≡ f a)

abbrev pub HasTwo : (ℕ → List ℕ) → Node → ℕ → ℕ → Type 0
HasTwo f n a b = (operands n ≡ a ∷ b ∷ []) × (node_inputs f n ≡ f a ++ f b)

pub one_turned : (f : ℕ → List ℕ) (n : Node) (a : ℕ) → (n ≡ Not a) ⊎ (n ≡ Neg a) → HasOne f n a
one_turned f n a is = elim is [ inl e ↦ (ap operands e, ap (node_inputs f) e) | inr e ↦ (ap operands e, ap (node_inputs f) e) ]

pub one_resized : (f : ℕ → List ℕ) (n : Node) (a : ℕ) → ((x : ℕ) × (y : ℕ) × (n ≡ Extract x y a)) ⊎ ((x : ℕ) × (s : Bool) × (n ≡ Extend x s a)) → HasOne f n a
one_resized f n a is = elim is [ inl e ↦ (ap operands e.2, ap (node_inputs f) e.2) | inr e ↦ (ap operands e.2, ap (node_inputs f) e.2) ]

pub two_combined : (f : ℕ → List ℕ) (n : Node) (a b : ℕ) → ((op : BinaryOp) × (n ≡ Binary op a b)) ⊎ ((op : Comparison) × (n ≡ Compare op a b)) → HasTwo f n a b
two_combined f n a b is = elim is [ inl e ↦ (ap operands e.1, ap (node_inputs f) e.1) | inr e ↦ (ap operands e.1, ap (node_inputs f) e.1) ]

pub two_joined : (f : ℕ → List ℕ) (n : Node) (a b : ℕ) → n ≡ Concat a b → HasTwo f n a b
two_joined f n a b e = (ap operands e, ap (node_inputs f) e)

-- a byte joined with itself
joined_with_own : (labels : List ℕ) (l : Option ℕ) → labels ≡ relabelled l l labels
joined_with_own labels None = refl
joined_with_own labels (Some l) = relabelled_itself l l labels refl

-- the term at a place
module _ (graph : Graph) (id : ℕ) (n : Node) (dag : IsDag graph) (is : slice_get graph.nodes id ≡ Some n) where
  module _ (places : List ℕ) (ops : HasOperands graph places id) where
    pub one_there : (a : ℕ) (rest : List ℕ) → operands n ≡ a ∷ rest → Contains places a
    one_there a rest e = All-contains (Contains places) (operands n) a (ops n is) (subst (λ (os : List ℕ). Contains os a) (sym e) (Contains-here a rest a refl))

    pub two_there : (a b : ℕ) (rest : List ℕ) → operands n ≡ a ∷ b ∷ rest → Contains places b
    two_there a b rest e =
        All-contains (Contains places) (operands n) b (ops n is) (subst (λ (os : List ℕ). Contains os b) (sym e) (Contains-later a (b ∷ rest) b (Contains-here b rest b refl)))

    pub three_there : (a b c : ℕ) → operands n ≡ a ∷ b ∷ c ∷ [] → Contains places c
    three_there a b c e =
        All-contains (Contains places) (operands n) c (ops n is)
        (subst (λ (os : List ℕ). Contains os c) (sym e) (Contains-later a (b ∷ c ∷ []) c (Contains-later b (c ∷ []) c (Contains-here c [] c refl))))

  -- the first byte under it, from all that are
  pub first_is : (under : List ℕ) (o : Option ℕ) → node_inputs (inputs_under graph) n ≡ under → o ≡ first_of under → o ≡ first_under graph id
  first_is under o e h = h ∙ ap first_of (sym e ∙ sym (inputs_by_cases graph id n dag is))

  -- nothing is joined where it has one operand
  pub one_joined : (labels : List ℕ) (o : Option ℕ) (a : ℕ) → operands n ≡ a ∷ [] → o ≡ first_under graph a → (m : Node) → slice_get graph.nodes id ≡ Some m → labels ≡ joined_all graph o labels (operands m)
  one_joined labels o a e h m m_is =
      let both : Some n ≡ Some m = sym is ∙ m_is in
      let same : n ≡ m = cc in
      subst (λ (os : List ℕ). labels ≡ joined_all graph o labels os) (sym e ∙ ap operands same)
      (subst (λ (p : Option ℕ). labels ≡ joined labels o p) h (joined_with_own labels (label_of labels o)))
