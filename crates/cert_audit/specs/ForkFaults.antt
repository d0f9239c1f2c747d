-- Lines that don't say where a run at a fork goes: the first of them that may not stand, and why.
use Rattle.std.specs.Prelude.{◌≡◌, ◌≢◌, ℕ, ◌≤◌, ◌&&◌, Bool, true, false, not, List, [], ◌∷◌, ◌++◌, length, map, Option, None, Some}
use Rattle.cert_form.specs.declared.line.CertLine.{CertLine}
use Rattle.cert_form.specs.declared.line.CertLine.TheVariants.{CutNodes, One, Split}
use Rattle.cert_query.specs.Faults.{fault_at}
use Rattle.cert_query.specs.declared.fault.Fault.{Fault}
use Rattle.cert_query.specs.declared.fault.Reason.{Reason}
use Rattle.cert_query.specs.declared.fault.Reason.TheVariants.{Budget, Log, Place, Query, Sample, Text, Tried}
use Rattle.fork_spec.specs.Evidence.{AreIncreasing}
use Rattle.fork_spec.specs.Walks.{Side, value_side}
use Rattle.run_leaves.specs.Values.{IsWithout}
use Rattle.run_sides.specs.Sides.{IsSideTested}
use Rattle.run_sides.specs.declared.branch.Tested.{Tested}
use Rattle.sym_state.specs.Symbolic.{Symbolic, condition_of}
use Rattle.tree_core.specs.declared.choice.Choice.TheVariants as choice
use Rattle.cert_audit.specs.Kids.{cut_if, sides_behind}
use Rattle.cert_audit.specs.ProofFaults.{IsProofFault}
use Rattle.cert_audit.specs.declared.values.RestCut.{RestCut}
use Rattle.cert_audit.specs.declared.values.RestCut.TheVariants.{Conflicts, Targets}

-- a leaf that may not part has a line of its own
abbrev pub begins_with_cut_nodes : List CertLine → Bool
begins_with_cut_nodes (CutNodes ∷ lines) = true
begins_with_cut_nodes lines = false

-- ---- Branches.

-- its two sides, and whether each is cut by conflicts
abbrev pub branch_sides : (no_cut yes_cut : Bool) → List Side
branch_sides no_cut yes_cut =
    record { choice = choice.No; cut = cut_if no_cut }
    ∷ record { choice = choice.Yes; cut = cut_if yes_cut } ∷ []

-- the sides of a branch, of which one is cut at most
pub record AreBranchSides (sides : List Side) (no_cut yes_cut : Bool) : Type 0 where
  pub are : sides ≡ branch_sides no_cut yes_cut
  pub one_at_most : (no_cut && yes_cut) ≡ false

abbrev pub AreNoBranchSides : List Side → Type 0
AreNoBranchSides sides = (no_cut yes_cut : Bool) → AreBranchSides sides no_cut yes_cut → ⊥

-- the run on a side of a branch, on which it is asserted last that it is on this side
pub record IsOnSide (s : Symbolic) (term : ℕ) (side : Bool) (new : Symbolic) : Type 0 where
  pub tested : Tested
  pub is_tested : IsSideTested s term side tested
  pub same : new ≡ record tested.run { condition = tested.run.condition ++ tested.test ∷ [] }

-- it goes on along this side, and lines show that the other has no assignment
pub record IsOneSideFault (s : Symbolic) (term : ℕ) (side : Bool) (lines : List CertLine)
    (fault : Fault) : Type 0 where
  pub other : Symbolic
  pub is_other : IsOnSide s term (not side) other
  pub refused : IsProofFault (condition_of other) lines fault

abbrev pub IsBranchFault : Symbolic → (term : ℕ) → List CertLine → Fault → Type 0
IsBranchFault s term (One choice.No ∷ lines) fault = IsOneSideFault s term false lines fault
IsBranchFault s term (One choice.Yes ∷ lines) fault = IsOneSideFault s term true lines fault
IsBranchFault s term (Split sides ∷ lines) fault =
    AreNoBranchSides sides
    × (fault ≡ fault_at (Split sides ∷ lines) Place)
IsBranchFault s term (CutNodes ∷ lines) fault = ⊥
IsBranchFault s term lines fault = fault ≡ fault_at lines Place

-- ---- Terms that have to be numbers.

-- no value's side, which isn't cut
abbrev pub IsNoValue : Side → Type 0
IsNoValue side = (value : ℕ) → side ≢ value_side value

-- none stands first
abbrev pub BeginsWithNoValue : List Side → Type 0
BeginsWithNoValue sides = (value : ℕ) (more : List Side) → sides ≢ value_side value ∷ more

-- more than the side of all others, or another
abbrev pub IsNoRest : List Side → Type 0
IsNoRest sides = (rest : Option RestCut) → sides ≢ sides_behind rest

-- sides of increasing values, two at least, of which one is a value's; behind them maybe the side of all others, which is cut
pub record AreValueSides (sides : List Side) (values : List ℕ) (rest : Option RestCut) : Type 0 where
  pub are : sides ≡ map value_side values ++ sides_behind rest
  pub increasing : AreIncreasing values
  pub some : 1 ≤ length values
  pub two : 2 ≤ length sides

-- there may be so many values: just as many as the budget where it cuts the others, and else no more
abbrev pub MayBeSides : (values : ℕ) → Option RestCut → (targets : ℕ) → Type 0
MayBeSides values (Some Targets) targets = values ≡ targets
MayBeSides values (Some Conflicts) targets = values ≤ targets
MayBeSides values None targets = values ≤ targets

-- why sides aren't those of values of which so many may be
abbrev pub IsSidesFault : (targets : ℕ) → List Side → Reason → Type 0
IsSidesFault targets sides Place =
    (values : List ℕ) (rest : Option RestCut) → AreValueSides sides values rest → ⊥
IsSidesFault targets sides Budget =
    (values : List ℕ) × (rest : Option RestCut) × AreValueSides sides values rest
    × (MayBeSides (length values) rest targets → ⊥)
IsSidesFault targets sides Text = ⊥
IsSidesFault targets sides Query = ⊥
IsSidesFault targets sides Log = ⊥
IsSidesFault targets sides Sample = ⊥
IsSidesFault targets sides Tried = ⊥

-- lines show that a term has no other value than these
pub record IsWithoutFault (s : Symbolic) (term : ℕ) (values : List ℕ) (lines : List CertLine)
    (fault : Fault) : Type 0 where
  pub rest : Symbolic
  pub without : IsWithout s term values rest
  pub refused : IsProofFault (condition_of rest) lines fault

-- it parts by values
pub data IsPartFault (s : Symbolic) (term targets : ℕ) (sides : List Side)
    (lines : List CertLine) (fault : Fault) : Type 0 where
  in_sides : (reason : Reason) → IsSidesFault targets sides reason
      → fault ≡ fault_at (Split sides ∷ lines) reason
      → IsPartFault s term targets sides lines fault
  in_proof : (values : List ℕ) → AreValueSides sides values None
      → MayBeSides (length values) None targets → IsWithoutFault s term values lines fault
      → IsPartFault s term targets sides lines fault

abbrev pub IsPinFault : Symbolic → (term targets : ℕ) → List CertLine → Fault → Type 0
IsPinFault s term targets (One (choice.Value value) ∷ lines) fault =
    IsWithoutFault s term (value ∷ []) lines fault
IsPinFault s term targets (Split sides ∷ lines) fault =
    IsPartFault s term targets sides lines fault
IsPinFault s term targets (CutNodes ∷ lines) fault = ⊥
IsPinFault s term targets lines fault = fault ≡ fault_at lines Place
