-- How far the walk over the terms under asserted ones has come.
use Rattle.std.proofs.Common.{◌≡◌, ℕ, zero, suc, ◌<◌, inl, inr, List, [], ◌∷◌, ◌++◌, length, take, Some, refl, sym, ap, subst, ◌∙◌, slice_index, arith}
use Rattle.std.specs.Prelude.{Contains}
use Rattle.std.specs.List.{range_with_len, slice_get}
use Rattle.std.proofs.lemmas.Bool.{cases_lt}
use Rattle.std.proofs.lemmas.List.{get_or_past}
use Rattle.std.proofs.lemmas.List.Elements.{All-contains, Contains-push_cases}
use Rattle.std.proofs.lemmas.List.FromFn.{length-range_with_len, get_or-range_with_len}
use Rattle.bv_dag.specs.Graphs.{Graph, IsDag}
use Rattle.bv_dag.specs.Inputs.{inputs_of, inputs_under}
use Rattle.bv_dag.specs.Nodes.{Fits, widths_of}
use Rattle.bv_dag.specs.Queries.{Condition}
use Rattle.bv_dag.specs.declared.nodes.Node.{Node}
use Rattle.bv_dag.specs.declared.nodes.Node.TheVariants.{Input}
use Rattle.bv_dag.proofs.Fitting.{some_at}
use Rattle.bv_dag.proofs.InTurn.{length-map_in_turn}
use Rattle.bv_dag.proofs.Resting.{inputs_by_cases}
use Rattle.query_pick.specs.Cones.{IsUnder, IsCone, HasOperands}
use Rattle.query_pick.specs.Operands.{operands}
use Rattle.query_pick.proofs.Lists.{Contains-none}
use Rattle.query_pick.proofs.Searching.{operand_before}
use Rattle.query_slice.specs.Classes.{AreClasses, IsLinked, here, over, first_of, first_under, joined_all}
use Rattle.query_slice.proofs.Firsts.{first_there}
use Rattle.query_slice.proofs.Joining.{AreRelated, HaveOne, IsBelow, OnlyRelated, Keeps, related-kept, length-joined_all, keeps_all, makes_all, only_all}
use Rattle.query_slice.proofs.Links.{first_below, linked_in_row, linked_turned, related_at, related_firsts}
use Rattle.query_slice.proofs.Under.{under_by_cases, under_operand, under_top}

length-inputs_of : (nodes : List Node) → length (inputs_of nodes) ≡ length nodes
unfolding inputs_of
length-inputs_of nodes = length-map_in_turn _ nodes

-- a term on which bytes stand is there
under_there : (graph : Graph) (id i : ℕ) → Contains (inputs_under graph id) i → id < length graph.nodes
under_there graph id i h =
    elim (cases_lt id (length graph.nodes)) [
      | inl within ↦ within
      | inr past ↦
          Contains-none i (subst (λ (us : List ℕ). Contains us i) (get_or_past (inputs_of graph.nodes) id [] (omega (arith, past, length-inputs_of graph.nodes))) h) _
    ]

-- bytes under terms are among the inputs
below_by_bound : (graph : Graph) → IsDag graph → (bound id i : ℕ) → id < bound → Contains (inputs_under graph id) i → i < graph.inputs
below_by_bound graph dag zero id i l h = absurd (omega (arith, l))
below_by_bound graph dag (suc bound) id i l h =
    let node = some_at graph.nodes id (under_there graph id i h) in
    elim (under_by_cases graph dag id i node.0 node.1 h) [
      | inl e ↦ subst (Fits graph.inputs (widths_of (take id graph.nodes))) e (dag.all_fit id node.0 node.1)
      | inr o ↦ below_by_bound graph dag bound o.0 i (omega (arith, l, operand_before graph id o.0 node.0 dag node.1 o.1)) o.2
    ]

pub inputs_below : (graph : Graph) (id i : ℕ) → IsDag graph → Contains (inputs_under graph id) i → i < graph.inputs
inputs_below graph id i dag h = below_by_bound graph dag (suc id) id i (omega arith) h

-- the terms of the operands of those that were passed have the labels of these
pub record IsWalked (q : Condition) (labels done : List ℕ) : Type 0 where
  pub each : length labels ≡ q.graph.inputs
  pub joined : (id a : ℕ) (n : Node) → Contains done id → slice_get q.graph.nodes id ≡ Some n → Contains (operands n) a → AreRelated (HaveOne labels) (first_under q.graph id) (first_under q.graph a)
  pub linked : OnlyRelated (IsLinked q) q.graph.inputs labels

pub walked_first : (q : Condition) (labels : List ℕ) → labels ≡ range_with_len 0 q.graph.inputs → IsWalked q labels []
walked_first q labels own = record {
  each = ap length own ∙ length-range_with_len 0 q.graph.inputs;
  joined = λ id a n h is o. Contains-none id h _;
  linked = λ x y x_there y_there e.
      let at_x : slice_index labels x ≡ x = ap (λ (ls : List ℕ). slice_index ls x) own ∙ get_or-range_with_len 0 q.graph.inputs x 0 x_there ∙ omega arith in
      let at_y : slice_index labels y ≡ y = ap (λ (ls : List ℕ). slice_index ls y) own ∙ get_or-range_with_len 0 q.graph.inputs y 0 y_there ∙ omega arith in
      subst (λ (z : ℕ). IsLinked q x z) (sym at_x ∙ e ∙ at_y) here;
}

module _ (q : Condition) (dag : IsDag q.graph) where
  below : (id : ℕ) → IsBelow q.graph.inputs (first_under q.graph id)
  below id = first_below q.graph.inputs (inputs_under q.graph id) (first_under q.graph id) refl (λ i h. inputs_below q.graph id i dag h)

  -- one term more
  module _ (labels new done : List ℕ) (id : ℕ) (n : Node) (is : slice_get q.graph.nodes id ≡ Some n) (under : IsUnder q.graph q.asserted id)
      (made : new ≡ joined_all q.graph (first_under q.graph id) labels (operands n)) (so_far : IsWalked q labels done) where
    both_under : (a : ℕ) → Contains (operands n) a → (i k : ℕ) → Contains (inputs_under q.graph id) i → Contains (inputs_under q.graph a) k → IsLinked q i k
    both_under a o i k i_under k_under =
        let above = under_top q.graph dag q.asserted id under in
        over above.0 here above.1 (above.2 i i_under) (above.2 k (under_operand q.graph dag id a k n is o k_under))

    keeps : Keeps q.graph.inputs labels new
    keeps = subst (Keeps q.graph.inputs labels) (sym made) (keeps_all q.graph (first_under q.graph id) q.graph.inputs (below id) below labels (operands n) so_far.each)

    pub walked_more : IsWalked q new (done ++ id ∷ [])
    walked_more = record {
      each = ap length made ∙ length-joined_all q.graph (first_under q.graph id) q.graph.inputs (below id) below labels (operands n) ∙ so_far.each;
      joined = λ j a m h m_is o.
          elim (Contains-push_cases done id j h) [
            | inl before ↦ related-kept q.graph.inputs labels new (first_under q.graph j) (first_under q.graph a) (below j) (below a) keeps (so_far.joined j a m before m_is o)
            | inr e ↦
                let same : Some m ≡ Some n = sym m_is ∙ ap (slice_get q.graph.nodes) (sym e) ∙ is in
                let node : m ≡ n = cc in
                subst (λ (k : ℕ). AreRelated (HaveOne new) (first_under q.graph k) (first_under q.graph a)) e
                (subst (λ (ls : List ℕ). AreRelated (HaveOne ls) (first_under q.graph id) (first_under q.graph a)) (sym made)
                (makes_all q.graph (first_under q.graph id) q.graph.inputs (below id) below labels (operands n) so_far.each a (subst (λ (x : Node). Contains (operands x) a) node o)))
          ];
      linked =
          subst (OnlyRelated (IsLinked q) q.graph.inputs) (sym made)
          (only_all q.graph (first_under q.graph id) q.graph.inputs (below id) below (IsLinked q) (linked_turned q) (linked_in_row q) labels (operands n) so_far.each so_far.linked
          (λ a o. related_firsts (IsLinked q) (inputs_under q.graph id) (inputs_under q.graph a) (first_under q.graph id) (first_under q.graph a) refl refl (both_under a o)));
    }

  -- when all were passed, the labels tell which bytes are linked
  module _ (labels places : List ℕ) (cone : IsCone q.graph q.asserted places) (all : IsWalked q labels places) where
    as_first : (bound id i f : ℕ) → id < bound → Contains places id → Contains (inputs_under q.graph id) i → first_of (inputs_under q.graph id) ≡ Some f → slice_index labels i ≡ slice_index labels f
    as_first zero id i f l there h e = absurd (omega (arith, l))
    as_first (suc bound) id i f l there h e =
        let node = some_at q.graph.nodes id (All-contains (λ k. k < length q.graph.nodes) places id cone.there there) in
        elim (under_by_cases q.graph dag id i node.0 node.1 h) [
          | inl is ↦
              let only : first_of (inputs_under q.graph id) ≡ Some i = ap first_of (inputs_by_cases q.graph id (Input i) dag (node.1 ∙ ap Some is)) in
              let both : Some i ≡ Some f = sym only ∙ e in
              let same : i ≡ f = cc in
              ap (slice_index labels) same
          | inr o ↦
              let a_there : Contains places o.0 = All-contains (Contains places) (operands node.0) o.0 (All-contains (HasOperands q.graph places) places id cone.operands_in there node.0 node.1) o.1 in
              let first = first_there (inputs_under q.graph o.0) i o.2 in
              as_first bound o.0 i first.0 (omega (arith, l, operand_before q.graph id o.0 node.0 dag node.1 o.1)) a_there o.2 first.1
              ∙ sym (related_at (HaveOne labels) (first_under q.graph id) (first_under q.graph o.0) f first.0 e first.1 (all.joined id o.0 node.0 there node.1 o.1))
        ]

    pub walked_all : AreClasses q labels
    walked_all = record {
      each = all.each;
      one = λ term i k asserted i_under k_under.
          let there : Contains places term = All-contains (Contains places) q.asserted term cone.tops_in asserted in
          let first = first_there (inputs_under q.graph term) i i_under in
          as_first (suc term) term i first.0 (omega arith) there i_under first.1 ∙ sym (as_first (suc term) term k first.0 (omega arith) there k_under first.1);
      linked = all.linked;
    }

-- so it is where the walk has come to the end
pub walked_end : (q : Condition) (labels places : List ℕ) → (0 < length places → IsDag q.graph) → IsCone q.graph q.asserted places → IsWalked q labels places → AreClasses q labels
walked_end q labels [] fit cone all = record {
  each = all.each;
  one = λ term i k asserted i_under k_under. Contains-none term (All-contains (Contains []) q.asserted term cone.tops_in asserted) _;
  linked = all.linked;
}
walked_end q labels (p ∷ places) fit cone all = walked_all q (fit (omega arith)) labels (p ∷ places) cone all
