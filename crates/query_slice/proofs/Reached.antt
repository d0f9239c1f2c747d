-- Which terms are reached is told by the labels of the bytes under them.
use Rattle.std.proofs.Common.{◌≡◌, ◌==◌, ◌⊎◌, ℕ, ◌<◌, true, false, inl, inr, List, length, map, filter, Option, Some, None, refl, sym, ap, subst, ◌∙◌, slice_index, arith}
use Rattle.std.specs.Prelude.{Contains}
use Rattle.std.specs.List.{slice_get}
use Rattle.std.proofs.lemmas.Bool.{eq-eqb, eqb-true, or_cases, or_left, or_right}
use Rattle.std.proofs.lemmas.Option.{slice_get-get_or}
use Rattle.bv_dag.specs.Graphs.{IsDag}
use Rattle.bv_dag.specs.Inputs.{inputs_under}
use Rattle.bv_dag.specs.Queries.{Condition}
use Rattle.term_trees.specs.Trees.{tree_of}
use Rattle.query_pick.specs.Picks.{IsFromCone}
use Rattle.query_slice.specs.Classes.{AreClasses, are_same, first_under, is_reached, label_of}
use Rattle.query_slice.specs.Reaching.{IsReached, itself, sharing}
use Rattle.query_slice.specs.Slices.{IsCut, IsSlice}
use Rattle.query_slice.proofs.Firsts.{first_is_there, first_there}
use Rattle.query_slice.proofs.Links.{reached_by_link}
use Rattle.query_slice.proofs.Walked.{inputs_below}

-- labels that are the same belong to bytes of one label
bytes_of_same : (labels : List ℕ) (n : ℕ) (o p : Option ℕ) → length labels ≡ n → ((i : ℕ) → o ≡ Some i → i < n) → ((i : ℕ) → p ≡ Some i → i < n) → are_same (label_of labels o) (label_of labels p) ≡ true → (i : ℕ) × (k : ℕ) × (o ≡ Some i) × (p ≡ Some k) × (slice_index labels i ≡ slice_index labels k)
bytes_of_same labels n None p each o_below p_below same = (let apart : false ≡ true = same in cc)
bytes_of_same labels n (Some i) None each o_below p_below same = (let apart : false ≡ true = subst (λ o. are_same o None ≡ true) (slice_get-get_or labels i 0 (omega (arith, each, o_below i refl))) same in cc)
bytes_of_same labels n (Some i) (Some k) each o_below p_below same =
    let at_i : slice_get labels i ≡ Some (slice_index labels i) = slice_get-get_or labels i 0 (omega (arith, each, o_below i refl)) in
    let at_k : slice_get labels k ≡ Some (slice_index labels k) = slice_get-get_or labels k 0 (omega (arith, each, p_below k refl)) in
    (i, k, refl, refl, eqb-true (slice_index labels i) (slice_index labels k) (subst (λ o. are_same (Some (slice_index labels i)) o ≡ true) at_k (subst (λ o. are_same o (slice_get labels k) ≡ true) at_i same)))

same_of_bytes : (labels : List ℕ) (o p : Option ℕ) (i k : ℕ) → o ≡ Some i → p ≡ Some k → i < length labels → k < length labels → slice_index labels i ≡ slice_index labels k → are_same (label_of labels o) (label_of labels p) ≡ true
same_of_bytes labels o p i k e h i_there k_there same =
    let at_i : label_of labels o ≡ Some (slice_index labels i) = ap (label_of labels) e ∙ slice_get-get_or labels i 0 i_there in
    let at_k : label_of labels p ≡ Some (slice_index labels k) = ap (label_of labels) h ∙ slice_get-get_or labels k 0 k_there in
    ap (λ x. are_same x (label_of labels p)) at_i ∙ ap (are_same (Some (slice_index labels i))) at_k ∙ eq-eqb (slice_index labels i) (slice_index labels k) same

module _ (q : Condition) (new : ℕ) (labels : List ℕ) (dag : IsDag q.graph) (is_asserted : Contains q.asserted new) (classes : AreClasses q labels) where
  first_in : (id i : ℕ) → first_under q.graph id ≡ Some i → Contains (inputs_under q.graph id) i
  first_in id i e = first_is_there (inputs_under q.graph id) i e

  first_below : (id i : ℕ) → first_under q.graph id ≡ Some i → i < q.graph.inputs
  first_below id i e = inputs_below q.graph id i dag (first_in id i e)

  -- a reached term is the new one, or a byte under it has the label of one under the new one
  abbrev LeadsTo : ℕ → Type 0
  LeadsTo id = Contains q.asserted id × ((id ≡ new) ⊎ ((i : ℕ) × (k : ℕ) × Contains (inputs_under q.graph id) i × Contains (inputs_under q.graph new) k × (slice_index labels i ≡ slice_index labels k)))

  leads : (id : ℕ) → IsReached q new id → LeadsTo id
  leads id itself = (is_asserted, inl refl)
  leads id (sharing {a = a} before asserted byte) =
      let so_far = leads a before in (
        asserted,
        elim so_far.1 [
          | inl e ↦ inr (byte.0, byte.0, byte.2, subst (λ (t : ℕ). Contains (inputs_under q.graph t) byte.0) e byte.1, refl)
          | inr led ↦ inr (byte.0, led.1, byte.2, led.3, classes.one a byte.0 led.0 so_far.0 byte.1 led.2 ∙ led.4)
        ],
      )

  tested : (id : ℕ) → IsReached q new id → is_reached q.graph labels new id ≡ true
  tested id reached =
      elim ((leads id reached).1) [
        | inl e ↦ or_left (id == new) _ (eq-eqb id new e)
        | inr led ↦
            let f = first_there (inputs_under q.graph id) led.0 led.2 in
            let g = first_there (inputs_under q.graph new) led.1 led.3 in
            or_right (id == new) _
            (same_of_bytes labels (first_under q.graph id) (first_under q.graph new) f.0 g.0 f.1 g.1
            (omega (arith, classes.each, inputs_below q.graph id f.0 dag f.2)) (omega (arith, classes.each, inputs_below q.graph new g.0 dag g.2))
            (classes.one id f.0 led.0 (leads id reached).0 f.2 led.2 ∙ led.4 ∙ classes.one new led.1 g.0 is_asserted led.3 g.2))
      ]

  found : (id : ℕ) → Contains q.asserted id → is_reached q.graph labels new id ≡ true → IsReached q new id
  found id asserted test =
      elim (or_cases (id == new) _ test) [
        | inl e ↦ subst (λ (t : ℕ). IsReached q new t) (sym (eqb-true id new e)) itself
        | inr same ↦
            let bytes = bytes_of_same labels q.graph.inputs (first_under q.graph id) (first_under q.graph new) classes.each (first_below id) (first_below new) same in
            let link = classes.linked bytes.1 bytes.0 (first_below new bytes.1 bytes.3) (first_below id bytes.0 bytes.2) (sym bytes.4) in
            let last = reached_by_link q new bytes.1 bytes.0 (first_in new bytes.1 bytes.3) link in
            sharing {a = last.0} last.1 asserted (bytes.0, last.2, first_in id bytes.0 bytes.2)
      ]

  -- so what is kept is a slice
  sliced : (s : Condition) (kept : List ℕ) → kept ≡ filter (is_reached q.graph labels new) q.asserted → s.graph.inputs ≡ q.graph.inputs → map (tree_of s.graph) s.asserted ≡ map (tree_of q.graph) kept → IsSlice q new s
  sliced s kept are_kept inputs trees = record {
    reaches = is_reached q.graph labels new;
    just = λ id asserted. (found id asserted, tested id);
    kept = kept;
    in_order = are_kept;
    inputs = inputs;
    same_trees = trees;
  }

  pub cut : (s : Condition) (kept : List ℕ) → kept ≡ filter (is_reached q.graph labels new) q.asserted → s.graph.inputs ≡ q.graph.inputs → map (tree_of s.graph) s.asserted ≡ map (tree_of q.graph) kept → IsFromCone q.graph kept s.graph → IsCut q new s
  unfolding sliced
  cut s kept are_kept inputs trees only = record { slice = sliced s kept are_kept inputs trees; only_cone = only }
