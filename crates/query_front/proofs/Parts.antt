-- The slice of a condition with one more term is the part of it that matters for that term.
use Rattle.std.proofs.Common.{◌≡◌, ℕ, true, inl, inr, List, [], ◌∷◌, ◌++◌, refl, subst}
use Rattle.std.specs.Prelude.{Contains}
use Rattle.std.proofs.lemmas.List.Elements.{Contains-append_right, Contains-push_cases}
use Rattle.bv_dag.specs.Graphs.{number_of}
use Rattle.bv_dag.specs.Queries.{Condition, holds}
use Rattle.query_pick.proofs.Lists.{Contains-here}
use Rattle.query_slice.specs.Reaching.{IsReached, itself}
use Rattle.query_slice.specs.Slices.{IsSlice}
use Rattle.query_slice.proofs.Kept.{holds_less, long_where_holds, merged_holds, one_where_holds}
use Rattle.query_slice.proofs.SliceTrees.{slice_of_trees}
use Rattle.query_front.specs.Asks.{with_term}
use Rattle.query_front.specs.Parts.{IsPartOfQuery}

-- the sample meets each term of the condition, so it may fail the new one alone
other_one : (q : Condition) (new : ℕ) (sample : List ℕ) → holds q sample ≡ true → (id : ℕ) → Contains (q.asserted ++ new ∷ []) id → (IsReached (with_term q new) new id → ⊥) → number_of q.graph id sample ≡ 1
other_one q new sample sampled id h unreached =
    elim (Contains-push_cases q.asserted new id h) [
      | inl front ↦ one_where_holds q sample sampled id front
      | inr e ↦ absurd (unreached (subst (IsReached (with_term q new) new) e itself))
    ]

pub part_is : (q : Condition) (new : ℕ) (part : Condition) → IsSlice (with_term q new) new part → IsPartOfQuery q new part
part_is q new part cut = record {
  cut = record { inputs = cut.inputs; slice = slice_of_trees (with_term q new) new part (Contains-append_right q.asserted (new ∷ []) new (Contains-here new [] new refl)) cut };
  less = λ input whole. holds_less (with_term q new) new part cut input whole;
  merges = λ sample answer sampled answered.
      merged_holds (with_term q new) new part cut sample answer (long_where_holds q sample sampled) (other_one q new sample sampled) answered;
}
