-- The answer's bytes put into the sample one after the other.
use Rattle.std.proofs.Common.{◌≡◌, ◌==◌, ℕ, zero, suc, ◌+◌, ◌<◌, Bool, true, false, cond, inl, inr, List, [], ◌∷◌, ◌++◌, length, take, get_or, Option, Some, None, refl, sym, ap, subst, ◌∙◌, slice_index, slice_set, arith}
use Rattle.std.specs.Prelude.{Contains}
use Rattle.std.specs.List.{flat_map, slice_get}
use Rattle.std.proofs.lemmas.Bool.{cases_eq, cases_lt, eq-eqb, eqb-true, false_from_ne_true, or_cases, or_left, or_right}
use Rattle.std.proofs.lemmas.Grind.{flat_map-append}
use Rattle.std.proofs.lemmas.List.{append-nil, get_or-set_other, get_or-set_same, get_or_default, get_or_past, length-set, same_lists, take_more}
use Rattle.std.proofs.lemmas.List.Elements.{All-contains, Contains-append_cases, Contains-push, Contains-append_left}
use Rattle.std.proofs.lemmas.List.FromFn.{get_or-map-range_with_len, length-map-range_with_len}
use Rattle.bv_dag.specs.Graphs.{Graph, IsDag}
use Rattle.bv_dag.specs.Inputs.{asserted_inputs, inputs_under, node_inputs}
use Rattle.bv_dag.specs.Queries.{Condition}
use Rattle.bv_dag.specs.declared.nodes.Node.{Node}
use Rattle.bv_dag.specs.declared.nodes.Node.TheVariants.{Num, Input, Not, Neg, Binary, Compare, Ite, Extract, Extend, Concat}
use Rattle.bv_dag.proofs.Fitting.{some_at}
use Rattle.bv_dag.proofs.Resting.{inputs_by_cases}
use Rattle.query_pick.specs.Cones.{HasOperands, IsCone, IsUnder}
use Rattle.query_pick.specs.Operands.{operands}
use Rattle.query_pick.proofs.Lists.{Contains-here, Contains-later, Contains-none, Contains-uncons}
use Rattle.query_pick.proofs.Searching.{operand_before}
use Rattle.query_slice.specs.Merging.{is_among, merged, own_input, own_inputs}
use Rattle.query_slice.proofs.Under.{asserted_under, comes_from, under_asserted, under_by_cases, under_top}

-- the test whether a place is among some
pub among_there : (us : List ℕ) (i : ℕ) → is_among us i ≡ true → Contains us i
among_there [] i h = (let apart : false ≡ true = h in cc)
among_there (u ∷ us) i h =
    elim (or_cases (u == i) (is_among us i) h) [
      | inl e ↦ Contains-here u us i (sym (eqb-true u i e))
      | inr rest ↦ Contains-later u us i (among_there us i rest)
    ]

pub there_among : (us : List ℕ) (i : ℕ) → Contains us i → is_among us i ≡ true
there_among [] i h = Contains-none i h _
there_among (u ∷ us) i h =
    elim (Contains-uncons u us i h) [
      | inl e ↦ or_left (u == i) (is_among us i) (eq-eqb u i (sym e))
      | inr rest ↦ or_right (u == i) (is_among us i) (there_among us i rest)
    ]

-- each byte of the merged ones
pub merged_at : (us sample answer : List ℕ) (i d : ℕ) → i < length sample → get_or (merged us sample answer) i d ≡ cond (is_among us i) (slice_index answer i) (slice_index sample i)
unfolding merged
merged_at us sample answer i d there = get_or-map-range_with_len (λ k. cond (is_among us k) (slice_index answer k) (slice_index sample k)) 0 (length sample) i i d there (omega arith)

pub length-merged : (us sample answer : List ℕ) → length (merged us sample answer) ≡ length sample
unfolding merged
length-merged us sample answer = length-map-range_with_len (λ k. cond (is_among us k) (slice_index answer k) (slice_index sample k)) 0 (length sample)

-- at these places they are the answer's, and at the others the sample's
pub merged_there : (us sample answer : List ℕ) (i : ℕ) → length answer ≡ length sample → Contains us i → slice_index (merged us sample answer) i ≡ slice_index answer i
merged_there us sample answer i long h =
    elim (cases_lt i (length sample)) [
      | inl there ↦ merged_at us sample answer i 0 there ∙ ap (λ b. cond b (slice_index answer i) (slice_index sample i)) (there_among us i h)
      | inr past ↦ get_or_past (merged us sample answer) i 0 (omega (arith, past, length-merged us sample answer)) ∙ sym (get_or_past answer i 0 (omega (arith, past, long)))
    ]

pub merged_other : (us sample answer : List ℕ) (i : ℕ) → (Contains us i → ⊥) → slice_index (merged us sample answer) i ≡ slice_index sample i
merged_other us sample answer i none =
    elim (cases_lt i (length sample)) [
      | inl there ↦
          merged_at us sample answer i 0 there
          ∙ ap (λ b. cond b (slice_index answer i) (slice_index sample i)) (false_from_ne_true (is_among us i) (λ h. none (among_there us i h)))
      | inr past ↦ get_or_past (merged us sample answer) i 0 (omega (arith, past, length-merged us sample answer)) ∙ sym (get_or_past sample i 0 past)
    ]

same_test : (a b : Bool) → (a ≡ true → b ≡ true) → (b ≡ true → a ≡ true) → a ≡ b
same_test true true f g = refl
same_test true false f g = sym (f refl)
same_test false true f g = g refl
same_test false false f g = refl

-- it matters only which places are among them
pub merged_same : (us vs sample answer : List ℕ) → ((i : ℕ) → Contains us i → Contains vs i) → ((i : ℕ) → Contains vs i → Contains us i) → merged us sample answer ≡ merged vs sample answer
merged_same us vs sample answer to from =
    same_lists (merged us sample answer) (merged vs sample answer) (length-merged us sample answer ∙ sym (length-merged vs sample answer))
    (λ i d within.
    let there : i < length sample = omega (arith, within, length-merged us sample answer) in
    merged_at us sample answer i d there
    ∙ ap (λ b. cond b (slice_index answer i) (slice_index sample i))
    (same_test (is_among us i) (is_among vs i) (λ h. there_among vs i (to i (among_there us i h))) (λ h. there_among us i (from i (among_there vs i h))))
    ∙ sym (merged_at vs sample answer i d there))

pub merged_none : (sample answer : List ℕ) → sample ≡ merged [] sample answer
merged_none sample answer =
    same_lists sample (merged [] sample answer) (sym (length-merged [] sample answer))
    (λ i d within. get_or_default sample i d 0 within ∙ sym (merged_at [] sample answer i d within))

-- one place more
pub merged_more : (us sample answer : List ℕ) (p : ℕ) → p < length sample → slice_set (merged us sample answer) p (slice_index answer p) ≡ merged (us ++ p ∷ []) sample answer
merged_more us sample answer p there =
    same_lists _ (merged (us ++ p ∷ []) sample answer)
    (length-set (merged us sample answer) p (slice_index answer p) ∙ length-merged us sample answer ∙ sym (length-merged (us ++ p ∷ []) sample answer))
    (λ i d within.
    let i_there : i < length sample = omega (arith, within, length-set (merged us sample answer) p (slice_index answer p), length-merged us sample answer) in
    elim (cases_eq i p) [
      | inl e ↦
          ap (λ k. get_or (slice_set (merged us sample answer) p (slice_index answer p)) k d) e
          ∙ get_or-set_same (merged us sample answer) p (slice_index answer p) d (omega (arith, there, length-merged us sample answer))
          ∙ ap (slice_index answer) (sym e)
          ∙ ap (λ b. cond b (slice_index answer i) (slice_index sample i)) (sym (there_among (us ++ p ∷ []) i (subst (Contains (us ++ p ∷ [])) (sym e) (Contains-push us p))))
          ∙ sym (merged_at (us ++ p ∷ []) sample answer i d i_there)
      | inr apart ↦
          get_or-set_other (merged us sample answer) p i (slice_index answer p) d apart
          ∙ merged_at us sample answer i d i_there
          ∙ ap (λ b. cond b (slice_index answer i) (slice_index sample i))
          (same_test (is_among us i) (is_among (us ++ p ∷ []) i)
          (λ h. there_among (us ++ p ∷ []) i (Contains-append_left us (p ∷ []) i (among_there us i h)))
          (λ h. there_among us i (elim (Contains-append_cases us (p ∷ []) i (among_there (us ++ p ∷ []) i h)) [
            | inl before ↦ before
            | inr last ↦ elim (Contains-uncons p [] i last) [ inl e ↦ absurd (apart e) | inr none ↦ Contains-none i none _ ]
          ])))
          ∙ sym (merged_at (us ++ p ∷ []) sample answer i d i_there)
    ])

no_input : (n : Node) → ((i : ℕ) → n ≡ Input i → ⊥) → node_inputs (λ k. []) n ≡ []
no_input (Num w v) none = refl
no_input (Input i) none = absurd (none i refl)
no_input (Not a) none = refl
no_input (Neg a) none = refl
no_input (Binary op a b) none = refl
no_input (Compare op a b) none = refl
no_input (Ite c a b) none = refl
no_input (Extract high low a) none = refl
no_input (Extend by signed a) none = refl
no_input (Concat a b) none = refl

-- the byte of one node more
pub node_taken : (us sample answer bytes new : List ℕ) (n : Node) (p : ℕ) → n ≡ Input p → p < length sample → bytes ≡ merged us sample answer → new ≡ slice_set bytes p (slice_index answer p) → new ≡ merged (us ++ own_input (Some n)) sample answer
node_taken us sample answer bytes new n p is there so_far written =
    written ∙ ap (λ (b : List ℕ). slice_set b p (slice_index answer p)) so_far
    ∙ merged_more us sample answer p there
    ∙ ap (λ (m : Node). merged (us ++ own_input (Some m)) sample answer) (sym is)

pub node_passed : (us sample answer bytes : List ℕ) (n : Node) → ((p : ℕ) → n ≡ Input p → ⊥) → bytes ≡ merged us sample answer → bytes ≡ merged (us ++ own_input (Some n)) sample answer
node_passed us sample answer bytes n none so_far =
    so_far ∙ ap (λ (u : List ℕ). merged u sample answer) (sym (ap (λ (l : List ℕ). us ++ l) (no_input n none) ∙ append-nil us))

-- the bytes of the nodes at one place more
pub own_more : (nodes : List Node) (places : List ℕ) (k : ℕ) (n : Node) → k < length places → slice_get nodes (get_or places k 0) ≡ Some n → own_inputs nodes (take (k + 1) places) ≡ own_inputs nodes (take k places) ++ own_input (Some n)
own_more nodes places k n within is =
    ap (own_inputs nodes) (take_more places k 0 within)
    ∙ flat_map-append (λ id. own_input (slice_get nodes id)) (take k places) (get_or places k 0 ∷ [])
    ∙ ap (λ (l : List ℕ). own_inputs nodes (take k places) ++ l) (append-nil (own_input (slice_get nodes (get_or places k 0))) ∙ ap own_input is)

-- The bytes that terms of a cone are, are those that stand under its tops.
module _ (graph : Graph) (dag : IsDag graph) (tops places : List ℕ) (cone : IsCone graph tops places) where
  own_of_input : (id p : ℕ) → slice_get graph.nodes id ≡ Some (Input p) → Contains (own_input (slice_get graph.nodes id)) p
  own_of_input id p is = subst (λ o. Contains (own_input o) p) (sym is) (Contains-here p [] p refl)

  found_by_bound : (bound id i : ℕ) → id < bound → Contains places id → Contains (inputs_under graph id) i → Contains (own_inputs graph.nodes places) i
  found_by_bound zero id i l there h = absurd (omega (arith, l))
  found_by_bound (suc bound) id i l there h =
      let node = some_at graph.nodes id (All-contains (λ k. k < length graph.nodes) places id cone.there there) in
      elim (under_by_cases graph dag id i node.0 node.1 h) [
        | inl e ↦ under_asserted (λ k. own_input (slice_get graph.nodes k)) places id i there (own_of_input id i (node.1 ∙ ap Some e))
        | inr o ↦
            found_by_bound bound o.0 i (omega (arith, l, operand_before graph id o.0 node.0 dag node.1 o.1))
            (All-contains (Contains places) (operands node.0) o.0 (All-contains (HasOperands graph places) places id cone.operands_in there node.0 node.1) o.1) o.2
      ]

  own_is : (n : Node) (i : ℕ) → Contains (node_inputs (λ k. []) n) i → n ≡ Input i
  own_is n i h = elim (comes_from (λ k. []) n i h) [ inl e ↦ e | inr o ↦ Contains-none i o.2 _ ]

  own_under : (id i : ℕ) (o : Option Node) → slice_get graph.nodes id ≡ o → Contains (own_input o) i → Contains (inputs_under graph id) i
  own_under id i None is h = Contains-none i h _
  own_under id i (Some n) is h =
      let e : n ≡ Input i = own_is n i h in
      subst (λ (us : List ℕ). Contains us i) (sym (inputs_by_cases graph id (Input i) dag (is ∙ ap Some e))) (Contains-here i [] i refl)

  pub all_found : (i : ℕ) → Contains (flat_map (inputs_under graph) tops) i → Contains (own_inputs graph.nodes places) i
  all_found i h =
      let t = asserted_under (inputs_under graph) tops i h in
      found_by_bound (suc t.0) t.0 i (omega arith) (All-contains (Contains places) tops t.0 cone.tops_in t.1) t.2

  pub none_else : (i : ℕ) → Contains (own_inputs graph.nodes places) i → Contains (flat_map (inputs_under graph) tops) i
  none_else i h =
      let p = asserted_under (λ k. own_input (slice_get graph.nodes k)) places i h in
      let above = under_top graph dag tops p.0 (All-contains (IsUnder graph tops) places p.0 cone.under p.1) in
      under_asserted (inputs_under graph) tops above.0 i above.1 (above.2 i (own_under p.0 i (slice_get graph.nodes p.0) refl p.2))

-- so all that a condition rests on is merged
pub merged_all : (q : Condition) (places sample answer : List ℕ) → IsDag q.graph → IsCone q.graph q.asserted places → merged (own_inputs q.graph.nodes places) sample answer ≡ merged (asserted_inputs q) sample answer
merged_all q places sample answer dag cone =
    merged_same (own_inputs q.graph.nodes places) (asserted_inputs q) sample answer (none_else q.graph dag q.asserted places cone) (all_found q.graph dag q.asserted places cone)

-- what was read is the question's own
pub merged_whole : (q : Condition) (table more : Graph) (nodes : List Node) (asserted places given one sample other answer bytes : List ℕ) → table ≡ q.graph → more ≡ q.graph → nodes ≡ table.nodes → IsDag table → asserted ≡ q.asserted → IsCone more asserted places → given ≡ places → one ≡ sample → other ≡ answer → bytes ≡ merged (own_inputs nodes given) one other → bytes ≡ merged (asserted_inputs q) sample answer
merged_whole q table more nodes asserted places given one sample other answer bytes at also are fit tops cone here as_sample as_answer is =
    is
    ∙ ap (λ (ns : List Node). merged (own_inputs ns given) one other) (are ∙ ap (λ (g : Graph). g.nodes) at)
    ∙ ap (λ (ps : List ℕ). merged (own_inputs q.graph.nodes ps) one other) here
    ∙ ap (λ (b : List ℕ). merged (own_inputs q.graph.nodes places) b other) as_sample
    ∙ ap (λ (b : List ℕ). merged (own_inputs q.graph.nodes places) sample b) as_answer
    ∙ merged_all q places sample answer (subst IsDag at fit) (subst (λ (g : Graph). IsCone g q.asserted places) also (subst (λ (ts : List ℕ). IsCone more ts places) tops cone))
