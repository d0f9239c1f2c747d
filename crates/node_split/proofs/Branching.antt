-- Questions about the sides of a branch.
use Rattle.std.proofs.Common.{◌≡◌, ℕ, ◌<◌, Bool, true, false, ◌&&◌, List, [], ◌∷◌, ◌++◌, length, refl, sym, ap, subst, ◌∙◌}
use Rattle.std.specs.Prelude.{All, IfOk, None, Result, Ok, Err, ◌==◌, not}
use Rattle.std.proofs.lemmas.Bool.{and_parts}
use Rattle.bv_dag.specs.Graphs.{Graph, number_of}
use Rattle.bv_dag.specs.Queries.{IsUnsatisfiable, holds}
use Rattle.fork_spec.specs.Evidence.{Learnt}
use Rattle.fork_spec.specs.Leaves.{are_bytes}
use Rattle.fork_spec.proofs.ByteLists.{are_bytes-each, are_bytes-of}
use Rattle.query_front.specs.Asks.{IsAsked, with_term}
use Rattle.query_front.specs.declared.asked.Asked.TheVariants.{Spent}
use Rattle.sym_state.specs.Runs.{IsSampled}
use Rattle.sym_state.specs.Symbolic.{Symbolic, IsFormed, condition_of, stands_for}
use Rattle.sym_state.proofs.Grown.{holds-grown}
use Rattle.sym_state.proofs.Opening.{stands-bytes}
use Rattle.sym_state.proofs.Tests.{all_true, equals}
use Rattle.term_trees.specs.Growth.{Continues}
use Rattle.tree_core.specs.declared.budgets.Budgets.{Budgets}
use Rattle.tree_core.specs.declared.choice.Choice.{Choice}
use Rattle.tree_core.specs.declared.choice.Choice.TheVariants.{No, Yes}
use Rattle.run_leaves.specs.Learning.{IsLearntFor}
use Rattle.run_sides.specs.Narrowing.{IsNarrower}
use Rattle.run_sides.specs.Sides.{IsSideTested, branch_choice, is_side}
use Rattle.run_sides.specs.declared.branch.Tested.{Tested}
use Rattle.run_sides.proofs.Sides.{holds-last}
use Rattle.node_split.specs.Rules.{Piece}
use Rattle.node_split.specs.Splits.{IsBranchSide, IsRunOn, IsSide}
use Rattle.node_split.proofs.Sharing.{side_in}

-- a run on one side of a branch is a side of the fork
pub side_ok : {E : Type 0} (r : Result Piece E) (run : Symbolic) (choice : Choice) → IfOk r (IsRunOn choice run)
    → IfOk r (λ kid. (s : Symbolic) (test : List ℕ → Bool) → IsNarrower s run choice test → IsSampled run → IsSide s choice test kid)
side_ok (Ok kid) run choice on = λ s test narrows sampled. record { run = run; on = on; narrower = narrows; sampled = sampled }
side_ok (Err e) run choice on = tt

pub sides_ok : {E : Type 0} (r : Result Piece E) (P Q : Piece → Type 0) → IfOk r P → ((kid : Piece) → P kid → Q kid) → IfOk r Q
sides_ok (Ok kid) P Q is turn = turn kid is
sides_ok (Err e) P Q is turn = tt

-- the side on which no assignment is known is one of the fork
pub branch_side : (budgets : Budgets) (s : Symbolic) (term : ℕ) (side : Bool) (kid : Piece)
    → IsSide s (branch_choice side) (λ input. is_side side (number_of s.terms term input)) kid → IsBranchSide budgets s term side kid
branch_side budgets s term side kid is p was few =
    (None, refl, side_in p budgets (No ∷ Yes ∷ []) s (branch_choice side) (λ input. is_side side (number_of s.terms term input)) kid was few is)

-- ---- What a question about a run with one more term shows.
module _ (s : Symbolic) (g : Graph) (test : ℕ) (formed : IsFormed s) (grown : Continues s.terms g) where
  -- an answer is an assignment of the run on which the term is 1
  pub answered : (input : List ℕ) → All (λ b. b < 256) input → holds (with_term (record { graph = g; asserted = s.condition }) test) input ≡ true
      → (stands_for s input ≡ true) × ((number_of g test input == 1) ≡ true)
  answered input bytes is =
      let parts = and_parts (holds (record { graph = g; asserted = s.condition }) input) (number_of g test input == 1) (sym (holds-last g s.condition test input) ∙ is) in
      (all_true _ _ (are_bytes-of input bytes) (sym (holds-grown s.terms g s.condition input grown formed.bits) ∙ parts.0), parts.1)

  -- where there is none, the term is 1 on no assignment of the run
  pub unanswered : IsUnsatisfiable (with_term (record { graph = g; asserted = s.condition }) test) → (input : List ℕ) → stands_for s input ≡ true
      → (number_of g test input == 1) ≡ false
  unanswered none input stands =
      let parts = and_parts (are_bytes input) (holds (condition_of s) input) stands in
      let met : holds (record { graph = g; asserted = s.condition }) input ≡ true = holds-grown s.terms g s.condition input grown formed.bits ∙ parts.1 in
      second (holds (record { graph = g; asserted = s.condition }) input) (number_of g test input == 1)
      (sym (holds-last g s.condition test input) ∙ none input (are_bytes-each input parts.0)) met
    where
      second : (a b : Bool) → (a && b) ≡ false → a ≡ true → b ≡ false
      second true b h is = h
      second false b h is = absurd (cc is)

-- an assignment of the run has a byte for each input
pub assigned_each : (s : Symbolic) (input : List ℕ) → stands_for s input ≡ true → length input ≡ s.terms.inputs
assigned_each s input stands =
    equals (length input) s.terms.inputs (and_parts (length input == s.terms.inputs) _ (and_parts (are_bytes input) (holds (condition_of s) input) stands).1).0

-- the sample is on its side
pub own_side : (b : Bool) (n : ℕ) → b ≡ (n == 1) → is_side b n ≡ true
own_side true n is = sym is
own_side false n is = ap not (sym is)

-- ---- The question about the other side.
module _ (s : Symbolic) (term : ℕ) (side : Bool) (t : Tested) (is : IsSideTested s term side t) where
  conditions : t.run.condition ≡ s.condition
  conditions = ap (λ (r : Symbolic). r.condition) is.same

  -- the sample meets its condition
  pub tested_sampled : stands_for s s.sample ≡ true → holds (condition_of t.run) t.run.sample ≡ true
  tested_sampled stands =
      subst (λ (r : Symbolic). holds (condition_of r) r.sample ≡ true) (sym is.same)
      (holds-grown s.terms t.run.terms s.condition s.sample is.continues is.formed.bits ∙ (and_parts (are_bytes s.sample) (holds (condition_of s) s.sample) stands).1)

  asked_of : (P : List ℕ → Type 0) → P t.run.condition → P s.condition
  asked_of P = subst P conditions

  -- an answer is on the side
  pub side_answered : (input : List ℕ) → All (λ b. b < 256) input → holds (with_term (condition_of t.run) t.test) input ≡ true
      → (stands_for s input ≡ true) × (is_side side (number_of s.terms term input) ≡ true)
  side_answered input bytes met =
      let parts = answered s t.run.terms t.test is.formed is.continues input bytes
      (asked_of (λ ids. holds (with_term (record { graph = t.run.terms; asserted = ids }) t.test) input ≡ true) met) in
      (parts.0, sym (is.tells input bytes) ∙ parts.1)

  pub answered_each : (input : List ℕ) → holds (with_term (condition_of t.run) t.test) input ≡ true → length input ≡ t.run.terms.inputs
  answered_each input met = equals (length input) t.run.terms.inputs (and_parts (length input == t.run.terms.inputs) _ met).0

  -- where there is none, no assignment is
  pub side_unanswered : IsUnsatisfiable (with_term (condition_of t.run) t.test) → (input : List ℕ) → stands_for s input ≡ true
      → is_side side (number_of s.terms term input) ≡ false
  side_unanswered none input stands =
      let bytes = stands-bytes s input stands in
      sym (is.tells input bytes)
      ∙ unanswered s t.run.terms t.test is.formed is.continues (asked_of (λ ids. IsUnsatisfiable (with_term (record { graph = t.run.terms; asserted = ids }) t.test)) none) input stands

-- what was learnt for a run's condition with one more term
pub learnt_for : (conflicts : ℕ) (s u : Symbolic) (test : ℕ) (learnt : Learnt) → u ≡ record s { condition = s.condition ++ test ∷ [] }
    → IsAsked (condition_of s) test conflicts (Spent learnt.question learnt.log) → IsLearntFor conflicts (condition_of u) learnt
learnt_for conflicts s u test learnt at is =
    subst (λ (r : Symbolic). IsLearntFor conflicts (condition_of r) learnt) (sym at)
    (record { front = s.condition; last = test; asserted = refl; is_dag = is.0; bits = is.1; part = is.2; spent = is.3 })
