-- What a slice keeps, and what holds of the rest.
use Rattle.std.proofs.Common.{◌≡◌, ◌==◌, ℕ, ◌<◌, Bool, true, false, cond, inl, inr, List, [], ◌∷◌, length, map, filter, get_or, sym, ap, subst, ◌∙◌, arith}
use Rattle.std.specs.Prelude.{All, Contains, IsTrue}
use Rattle.std.proofs.lemmas.Bool.{and_from, and_parts, cases_Bool, eq-eqb, eqb-true, cond-true}
use Rattle.std.proofs.lemmas.List.{get_or-map, length-map}
use Rattle.std.proofs.lemmas.List.Elements.{All-contains, All-contains_itself, All-filter, Contains-get_or, filter_passes}
use Rattle.std.proofs.lemmas.List.Sums.{AllPass-from_list_all, list_all-from_AllPass}
use Rattle.bv_dag.specs.BitVectors.{BitVector}
use Rattle.bv_dag.specs.Graphs.{Graph, number_of}
use Rattle.bv_dag.specs.Inputs.{asserted_inputs, inputs_under, AgreeOn}
use Rattle.bv_dag.specs.Queries.{Condition, holds}
use Rattle.bv_dag.proofs.Resting.{val-agrees}
use Rattle.term_trees.specs.Trees.{Tree, tree_of}
use Rattle.term_trees.proofs.InputLaws.{inputs-same}
use Rattle.term_trees.proofs.TreeLaws.{value-same}
use Rattle.query_pick.proofs.Lists.{All-from_contains, Contains-here, Contains-later, Contains-none, Contains-uncons}
use Rattle.query_slice.specs.Merging.{merged}
use Rattle.query_slice.specs.Reaching.{IsReached, sharing}
use Rattle.query_slice.specs.Slices.{IsSlice}
use Rattle.query_slice.proofs.Merged.{length-merged, merged_other, merged_there}
use Rattle.query_slice.proofs.Under.{asserted_under, under_asserted}

-- an item of what a test keeps is an item that passes it, and the other way round
filtered : (p : ℕ → Bool) (xs : List ℕ) (x : ℕ) → Contains (filter p xs) x → Contains xs x × (p x ≡ true)
filtered p xs x h =
    (All-contains (Contains xs) (filter p xs) x (All-filter p (Contains xs) xs (All-contains_itself xs)) h, All-contains (λ y. p y ≡ true) (filter p xs) x (filter_passes p xs) h)

in_either : (y x : ℕ) (b : Bool) (ys : List ℕ) → Contains ys x → Contains (cond b (y ∷ ys) ys) x
in_either y x true ys h = Contains-later y ys x h
in_either y x false ys h = h

in_filtered : (p : ℕ → Bool) (xs : List ℕ) (x : ℕ) → Contains xs x → p x ≡ true → Contains (filter p xs) x
in_filtered p [] x h passes = Contains-none x h _
in_filtered p (y ∷ xs) x h passes =
    elim (Contains-uncons y xs x h) [
      | inl e ↦
          subst (λ (zs : List ℕ). Contains zs x) (sym (cond-true (p y) (y ∷ filter p xs) (filter p xs) (ap p (sym e) ∙ passes)))
          (Contains-here y (filter p xs) x e)
      | inr rest ↦ in_either y x (p y) (filter p xs) (in_filtered p xs x rest passes)
    ]

-- items that are mapped to the same list are matched one by one
matched : (f g : ℕ → Tree) (xs ys : List ℕ) → map f xs ≡ map g ys → (y : ℕ) → Contains ys y → (x : ℕ) × Contains xs x × (f x ≡ g y)
matched f g xs ys same y h =
    let there : h.0 < length xs = omega (arith, h.1, ap length same, length-map xs f, length-map ys g) in (
      get_or xs h.0 0,
      Contains-get_or xs h.0 0 there,
      sym (get_or-map f xs h.0 0 (g y) there) ∙ ap (λ (ts : List Tree). get_or ts h.0 (g y)) same ∙ get_or-map g ys h.0 y (g y) h.1 ∙ ap g h.2,
    )

-- each asserted term of a condition that holds is worth 1
pub one_where_holds : (q : Condition) (input : List ℕ) → holds q input ≡ true → (id : ℕ) → Contains q.asserted id → number_of q.graph id input ≡ 1
one_where_holds q input holding id h =
    let all = AllPass-from_list_all (λ k. number_of q.graph k input == 1) q.asserted (and_parts (length input == q.graph.inputs) _ holding).1 in
    eqb-true (number_of q.graph id input) 1 (All-contains (λ k. (number_of q.graph k input == 1) ≡ true) q.asserted id all h)

pub long_where_holds : (q : Condition) (input : List ℕ) → holds q input ≡ true → length input ≡ q.graph.inputs
long_where_holds q input holding = eqb-true (length input) q.graph.inputs (and_parts (length input == q.graph.inputs) _ holding).0

pub holds_where_one : (q : Condition) (input : List ℕ) → length input ≡ q.graph.inputs → ((id : ℕ) → Contains q.asserted id → number_of q.graph id input ≡ 1) → holds q input ≡ true
holds_where_one q input long each =
    and_from (length input == q.graph.inputs) _ (eq-eqb (length input) q.graph.inputs long)
    (list_all-from_AllPass (λ k. number_of q.graph k input == 1) q.asserted
    (All-from_contains (λ k. (number_of q.graph k input == 1) ≡ true) q.asserted (λ id h. eq-eqb (number_of q.graph id input) 1 (each id h))))

pub number-same : (g h : Graph) (a b : ℕ) (input : List ℕ) → tree_of g a ≡ tree_of h b → number_of g a input ≡ number_of h b input
number-same g h a b input e = ap (λ (w : BitVector). w.number) (value-same g h a b input e)

number-agrees : (g : Graph) (id : ℕ) (one other : List ℕ) → AgreeOn one other (inputs_under g id) → number_of g id one ≡ number_of g id other
number-agrees g id one other agree = ap (λ (w : BitVector). w.number) (val-agrees g id one other agree)

apart : (b : Bool) → IsTrue b → b ≡ false → ⊥
apart b is isnt = (let both : true ≡ false = sym is ∙ isnt in cc)

module _ (q : Condition) (new : ℕ) (s : Condition) (cut : IsSlice q new s) where
  -- a term of the slice is one that is reached
  pub from_slice : (v : ℕ) → Contains s.asserted v → (u : ℕ) × Contains q.asserted u × IsReached q new u × (tree_of q.graph u ≡ tree_of s.graph v)
  from_slice v h =
      let m = matched (tree_of q.graph) (tree_of s.graph) cut.kept s.asserted (sym cut.same_trees) v h in
      let f = filtered cut.reaches q.asserted m.0 (subst (λ (ks : List ℕ). Contains ks m.0) cut.in_order m.1) in
      (m.0, f.0, (cut.just m.0 f.0).0 f.1, m.2)

  -- one that passes the test is in the slice
  pub to_slice : (u : ℕ) → Contains q.asserted u → cut.reaches u ≡ true → (v : ℕ) × Contains s.asserted v × (tree_of s.graph v ≡ tree_of q.graph u)
  to_slice u h passes =
      matched (tree_of s.graph) (tree_of q.graph) s.asserted cut.kept cut.same_trees u
      (subst (λ (ks : List ℕ). Contains ks u) (sym cut.in_order) (in_filtered cut.reaches q.asserted u h passes))

  pub holds_less : (input : List ℕ) → holds q input ≡ true → holds s input ≡ true
  holds_less input holding =
      holds_where_one s input (long_where_holds q input holding ∙ sym cut.inputs)
      (λ v h. let u = from_slice v h in number-same s.graph q.graph v u.0 input (sym u.3) ∙ one_where_holds q input holding u.0 u.1)

  pub none_holds : ((input : List ℕ) → All (λ b. b < 256) input → holds s input ≡ false) → (input : List ℕ) → All (λ b. b < 256) input → holds q input ≡ false
  none_holds none input small =
      elim (cases_Bool (holds q input)) [
        | inl holding ↦ (let both : true ≡ false = sym (holds_less input holding) ∙ none input small in cc)
        | inr fails ↦ fails
      ]

  -- what the slice rests on stands under a reached term
  rests_on : (i : ℕ) → Contains (asserted_inputs s) i → (u : ℕ) × Contains q.asserted u × IsReached q new u × Contains (inputs_under q.graph u) i
  rests_on i h =
      let v = asserted_under (inputs_under s.graph) s.asserted i h in
      let u = from_slice v.0 v.1 in
      (u.0, u.1, u.2, subst (λ (us : List ℕ). Contains us i) (inputs-same s.graph q.graph v.0 u.0 (sym u.3)) v.2)

  pub no_more : All (Contains (asserted_inputs q)) (asserted_inputs s)
  no_more =
      All-from_contains (Contains (asserted_inputs q)) (asserted_inputs s)
      (λ i h. let u = rests_on i h in under_asserted (inputs_under q.graph) q.asserted u.0 i u.1 u.3)

  module _ (sample answer : List ℕ) (long : length sample ≡ q.graph.inputs)
      (rest : (id : ℕ) → Contains q.asserted id → (IsReached q new id → ⊥) → number_of q.graph id sample ≡ 1) (holding : holds s answer ≡ true) where
    as_long : length answer ≡ length sample
    as_long = long_where_holds s answer holding ∙ cut.inputs ∙ sym long

    kept_one : (id : ℕ) → Contains q.asserted id → cut.reaches id ≡ true → number_of q.graph id (merged (asserted_inputs s) sample answer) ≡ 1
    kept_one id h passes =
        let v = to_slice id h passes in
        number-agrees q.graph id (merged (asserted_inputs s) sample answer) answer
        (λ i under. merged_there (asserted_inputs s) sample answer i as_long
        (under_asserted (inputs_under s.graph) s.asserted v.0 i v.1 (subst (λ (us : List ℕ). Contains us i) (inputs-same q.graph s.graph id v.0 (sym v.2)) under)))
        ∙ number-same q.graph s.graph id v.0 answer (sym v.2)
        ∙ one_where_holds s answer holding v.0 v.1

    other_one : (id : ℕ) → Contains q.asserted id → cut.reaches id ≡ false → number_of q.graph id (merged (asserted_inputs s) sample answer) ≡ 1
    other_one id h fails =
        let unreached : IsReached q new id → ⊥ = λ r. apart (cut.reaches id) ((cut.just id h).1 r) fails in
        number-agrees q.graph id (merged (asserted_inputs s) sample answer) sample
        (λ i under. merged_other (asserted_inputs s) sample answer i (λ there. let u = rests_on i there in unreached (sharing u.2 h (i, u.3, under))))
        ∙ rest id h unreached

    pub merged_holds : holds q (merged (asserted_inputs s) sample answer) ≡ true
    merged_holds =
        holds_where_one q (merged (asserted_inputs s) sample answer) (length-merged (asserted_inputs s) sample answer ∙ long)
        (λ id h. elim (cases_Bool (cut.reaches id)) [ inl passes ↦ kept_one id h passes | inr fails ↦ other_one id h fails ])
