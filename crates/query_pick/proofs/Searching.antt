-- How far the search for a cone has come.
use Rattle.std.proofs.Common.{◌≡◌, ℕ, ◌<◌, ◌⊎◌, List, [], ◌∷◌, ◌++◌, length, get_or, refl, sym, ap, ◌∙◌, arith, inl, inr, Some, subst}
use Rattle.std.specs.Prelude.{All, Contains}
use Rattle.std.specs.List.{slice_get}
use Rattle.std.specs.List.Sorted.{IsStrictlyIncreasing}
use Rattle.std.proofs.lemmas.List.Elements.{All-contains}
use Rattle.std.proofs.lemmas.Option.{slice_get_within}
use Rattle.bv_dag.specs.Graphs.{Graph, IsDag}
use Rattle.bv_dag.specs.declared.nodes.Node.{Node}
use Rattle.term_trees.proofs.Terms.{before}
use Rattle.query_pick.specs.Operands.{operands, Adds}
use Rattle.query_pick.specs.Cones.{IsUnder, IsCone, HasOperands, top, operand}
use Rattle.query_pick.proofs.Pending.{Contains-taken, increasing_more, others_below}
use Rattle.query_pick.proofs.Lists.{All-from_contains, Contains-here, Contains-later, Contains-none, Contains-uncons}
use Rattle.query_pick.proofs.Naming.{operand_wide}

-- a place that was found, or is still to be looked at
abbrev pub IsAmong : List ℕ → List ℕ → ℕ → Type 0
IsAmong pending found id = Contains pending id ⊎ Contains found id

-- the operands of a term that was found are among them
abbrev pub OperandsAmong : Graph → List ℕ → List ℕ → Type 0
OperandsAmong graph pending found = (id a : ℕ) (n : Node) → Contains found id → slice_get graph.nodes id ≡ Some n → Contains (operands n) a → IsAmong pending found a

-- the least of the places found, which stands first, or one above all places where none is found
abbrev pub least_of : Graph → List ℕ → ℕ
least_of graph found = get_or found 0 (length graph.nodes)

-- The places found, in order, and those still to be looked at: these are below the least that was found.
pub record IsSearched (graph : Graph) (tops pending found : List ℕ) : Type 0 where
  pub increasing : IsStrictlyIncreasing found
  pub all_below : (id : ℕ) → Contains pending id → id < least_of graph found
  pub there : (id : ℕ) → IsAmong pending found id → id < length graph.nodes
  pub under : (id : ℕ) → IsAmong pending found id → IsUnder graph tops id
  pub tops_among : (id : ℕ) → Contains tops id → IsAmong pending found id
  pub operands_among : OperandsAmong graph pending found

-- before the first is looked at
pub searched_first : (graph : Graph) (tops pending : List ℕ) → All (λ id. id < length graph.nodes) tops → Adds [] pending tops → IsSearched graph tops pending []
searched_first graph tops pending there same =
    let at_top : (id : ℕ) → Contains pending id → Contains tops id = λ id h. elim ((same id).0 h) [ inl t ↦ t | inr none ↦ Contains-none id none _ ] in
    let place : (id : ℕ) → Contains pending id → id < length graph.nodes = λ id h. All-contains (λ k. k < length graph.nodes) tops id there (at_top id h) in
    record {
      increasing = λ k within. absurd (omega (arith, within));
      all_below = λ id h. place id h;
      there = λ id among. elim among [ inl h ↦ place id h | inr none ↦ Contains-none id none _ ];
      under = λ id among. elim among [ inl h ↦ top (at_top id h) | inr none ↦ Contains-none id none _ ];
      tops_among = λ id h. inl ((same id).1 (inl h));
      operands_among = λ id a n h is operand_h. Contains-none id h _;
    }

-- an operand stands before its node
pub operand_before : (graph : Graph) (id a : ℕ) (n : Node) → IsDag graph → slice_get graph.nodes id ≡ Some n → Contains (operands n) a → a < id
operand_before graph id a n dag is h =
    let there : id < length graph.nodes = slice_get_within graph.nodes id n is in
    before graph id a (omega (arith, there)) (operand_wide graph.inputs _ n a (dag.all_fit id n is) h)

-- the greatest was taken from those to be looked at
module _ (graph : Graph) (tops popped found : List ℕ) (id : ℕ) (increasing : IsStrictlyIncreasing (popped ++ id ∷ [])) (searched : IsSearched graph tops (popped ++ id ∷ []) found) where
  was_pending : (k : ℕ) → Contains popped k → Contains (popped ++ id ∷ []) k
  was_pending k h = (Contains-taken popped id k).1 (inr h)

  itself : Contains (popped ++ id ∷ []) id
  itself = (Contains-taken popped id id).1 (inl refl)

  here : IsAmong (popped ++ id ∷ []) found id
  here = inl itself

  pub taken_there : id < length graph.nodes
  taken_there = searched.there id here

  pub taken_below : id < least_of graph found
  taken_below = searched.all_below id itself

  -- it is found, and its operands are to be looked at
  module _ (pending : List ℕ) (n : Node) (dag : IsDag graph) (is : slice_get graph.nodes id ≡ Some n) (added : Adds popped pending (operands n)) where
    from : (k : ℕ) → IsAmong pending (id ∷ found) k → Contains (operands n) k ⊎ IsAmong (popped ++ id ∷ []) found k
    from k among =
        elim among [
          | inl h ↦ elim ((added k).0 h) [ inl o ↦ inl o | inr p ↦ inr (inl (was_pending k p)) ]
          | inr h ↦ elim (Contains-uncons id found k h) [ inl e ↦ inr (rw e here) | inr f ↦ inr (inr f) ]
        ]

    still : (k : ℕ) → IsAmong (popped ++ id ∷ []) found k → IsAmong pending (id ∷ found) k
    still k among =
        elim among [
          | inl h ↦ elim ((Contains-taken popped id k).0 h) [ inl e ↦ inr (Contains-here id found k e) | inr p ↦ inl ((added k).1 (inr p)) ]
          | inr f ↦ inr (Contains-later id found k f)
        ]

    below_it : (k : ℕ) → Contains pending k → k < id
    below_it k h = elim ((added k).0 h) [ inl o ↦ operand_before graph id k n dag is o | inr p ↦ others_below popped id increasing k p ]

    same_node : (k : ℕ) (m : Node) → k ≡ id → slice_get graph.nodes k ≡ Some m → m ≡ n
    same_node k m e m_is = let both : Some m ≡ Some n = sym m_is ∙ ap (slice_get graph.nodes) e ∙ is in cc

    pub searched_more : IsSearched graph tops pending (id ∷ found)
    searched_more = record {
      increasing = increasing_more found id (length graph.nodes) searched.increasing taken_below;
      all_below = below_it;
      there = λ k among. elim (from k among) [ inl o ↦ omega (arith, operand_before graph id k n dag is o, searched.there id here) | inr before ↦ searched.there k before ];
      under = λ k among. elim (from k among) [ inl o ↦ operand n (searched.under id here) is o | inr before ↦ searched.under k before ];
      tops_among = λ k h. still k (searched.tops_among k h);
      operands_among = λ k a m h m_is o.
          elim (Contains-uncons id found k h) [
            | inl e ↦ inl ((added a).1 (inl (rw (sym (same_node k m e m_is)) o)))
            | inr f ↦ still a (searched.operands_among k a m f m_is o)
          ];
    }

-- when none is left to be looked at, those that were found are the cone
pub searched_all : (graph : Graph) (tops pending found : List ℕ) → pending ≡ [] → IsSearched graph tops pending found → IsCone graph tops found
searched_all graph tops pending found none searched =
    let in_found : (k : ℕ) → IsAmong pending found k → Contains found k = λ k among. elim among [ inl p ↦ Contains-none k (subst (λ (ps : List ℕ). Contains ps k) none p) _ | inr f ↦ f ] in
    record {
      increasing = searched.increasing;
      there = All-from_contains _ found (λ k h. searched.there k (inr h));
      tops_in = All-from_contains _ tops (λ k h. in_found k (searched.tops_among k h));
      operands_in = All-from_contains (HasOperands graph found) found (λ k h n is. All-from_contains _ (operands n) (λ a o. in_found a (searched.operands_among k a n h is o)));
      under = All-from_contains _ found (λ k h. searched.under k (inr h));
    }
