-- What becomes of a run at a fork: it goes on one way, or is split into sides.
use Rattle.std.specs.Prelude.{◌≡◌, ℕ, ◌&&◌, ◌==◌, ◌<◌, Bool, true, false, IsTrue, List, [], ◌∷◌, ◌++◌, Option, None}
use Rattle.std.specs.Arc.{arc_value}
use Rattle.bv_dag.specs.Graphs.{number_of}
use Rattle.fork_spec.specs.Evidence.{Found}
use Rattle.fork_spec.specs.Parts.{Part}
use Rattle.fork_spec.specs.Walks.{is_one_cut_at_most}
use Rattle.fork_tree.specs.Written.{side_of_kid}
use Rattle.fork_tree.specs.Contents.{cut_in}
use Rattle.fork_tree.specs.Works.{IsPart, IsSplit}
use Rattle.fork_tree.specs.declared.content.Content.{Content}
use Rattle.fork_tree.specs.declared.content.Content.TheVariants.{Open, Shut}
use Rattle.sym_state.specs.Places.{run_place}
use Rattle.sym_state.specs.Programs.{Program}
use Rattle.sym_state.specs.Runs.{IsOpen, IsSampled, left_to_do}
use Rattle.sym_state.specs.Symbolic.{Symbolic, stands_for}
use Rattle.tree_core.specs.declared.budgets.Budgets.{Budgets}
use Rattle.tree_core.specs.declared.cause.Cause.{Cause}
use Rattle.tree_core.specs.declared.choice.Choice.{Choice}
use Rattle.tree_core.specs.declared.choice.Choice.TheVariants.{No, Yes, Value}
use Rattle.run_sides.specs.Narrowing.{IsForced, IsNarrower}
use Rattle.run_sides.specs.Sides.{branch_choice, is_side}
use Rattle.node_split.specs.Rules.{Piece, content_place, leaf_place, rules_of}
use Rattle.node_split.specs.declared.forked.Forked.{Forked}
use Rattle.node_split.specs.declared.forked.Forked.TheVariants.{One, Split}

-- it holds this run
abbrev pub HoldsRun : Content Symbolic Part → Symbolic → Type 0
HoldsRun (Open a) s = arc_value a ≡ s
HoldsRun (Shut part) s = ⊥

-- a side that is a run
pub record IsRunOn (side : Choice) (run : Symbolic) (kid : Piece) : Type 0 where
  pub choice : kid.choice ≡ side
  pub no_leaf : kid.is_leaf ≡ false
  pub holds : HoldsRun kid.content run

-- a side that is a run on which this test holds
pub record IsSide (s : Symbolic) (choice : Choice) (test : List ℕ → Bool)
    (kid : Piece) : Type 0 where
  pub run : Symbolic
  pub on : IsRunOn choice run kid
  pub narrower : IsNarrower s run choice test
  pub sampled : IsSampled run

-- A side of a fork of a program's run into sides with these choices, a run or a leaf that is cut for this cause: it stands for
-- those of the run's assignments that pass a test.
pub record IsSideIn (p : Program) (budgets : Budgets) (sides : List Choice) (s : Symbolic)
    (choice : Choice) (cut : Option Cause)
    (test : List ℕ → Bool) (kid : Piece) : Type 0 where
  pub same : kid.choice ≡ choice
  pub placed : (content_place kid.content).choices ≡ s.choices ++ choice ∷ []
  pub covers : (input : List ℕ)
      → (content_place kid.content).covers input ≡ (stands_for s input && test input)
  pub part : IsPart (rules_of p budgets) leaf_place (left_to_do s) sides kid kid.content
  pub form : side_of_kid (cut_in run_place leaf_place) kid
      ≡ record { choice = choice; cut = cut }

-- the side that is this leaf
abbrev pub leaf_side : Choice → Part → Piece
leaf_side choice part = record { choice = choice; content = Shut part; is_leaf = true }

-- one side of a branch: a run, or a leaf that is cut by conflicts
abbrev pub IsBranchSide : Budgets → Symbolic → (term : ℕ) → (side : Bool) → Piece → Type 0
IsBranchSide budgets s term side kid = (p : Program) → IsOpen p s → s.steps < budgets.steps
    → (cut : Option Cause) × IsTrue (is_one_cut_at_most None cut)
    × IsSideIn p budgets (No ∷ Yes ∷ []) s (branch_choice side) cut
    (λ input. is_side side (number_of s.terms term input)) kid

-- the run on which the term has this value
abbrev pub IsValueSide : Symbolic → (term : ℕ) → Found → Piece → Type 0
IsValueSide s term f kid =
    IsSide s (Value f.value) (λ input. number_of s.terms term input == f.value) kid

-- a side for each value, in their order
abbrev pub AreSidesOf : Symbolic → ℕ → List Found → List Piece → Type 0
AreSidesOf s term [] [] = Unit {0}
AreSidesOf s term (f ∷ fs) (k ∷ ks) = IsValueSide s term f k × AreSidesOf s term fs ks
AreSidesOf s term _ _ = ⊥

-- sides that share out what the run stands for, and part by a decision
abbrev pub IsForkOf : Program → Budgets → Symbolic → List Piece → Type 0
IsForkOf p budgets s kids = IsSplit (rules_of p budgets) run_place leaf_place s kids

-- where a run goes at a fork: one way, as a decision of its next step says; or all, and then these are the sides of each
-- program's run that has steps left
abbrev pub IsForked : Budgets → Symbolic → Forked → Type 0
IsForked budgets s (One place decided) = IsForced s place decided
IsForked budgets s (Split kids) = (p : Program) → IsOpen p s → s.steps < budgets.steps
    → IsForkOf p budgets s kids.items
