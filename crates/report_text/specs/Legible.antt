-- Events and evidence that their texts tell from all others: those of which each number, choice and byte has a text of its own.
use Rattle.std.specs.Prelude.{◌≡◌, List, All, None, Option, Some, length}
use Rattle.cnf_form.specs.Clauses.{IsClause}
use Rattle.cnf_form.specs.Refutations.{Step}
use Rattle.tree_core.specs.declared.cause.Cause.{Cause}
use Rattle.tree_core.specs.declared.event.Deed.{Deed}
use Rattle.tree_core.specs.declared.event.Deed.TheVariants.{Claim, Split, Finish, Cut, Release}
use Rattle.fork_spec.specs.Evidence.{IsQuestion, Learnt, Spent}
use Rattle.fork_spec.specs.Leaves.{IsCount, IsSmall}
use Rattle.tree_core.specs.Choices.{IsSmallChoice}
use Rattle.fork_spec.specs.Parts.{Evidence, OnConflicts, OnNodes, OnTargets}
use Rattle.fork_spec.specs.Walks.{Line, Side, Sides, Standing, walk}
use Rattle.spent_text.specs.Legible.{HasSmallNumbers, IsLegibleFound}
use Rattle.test_files.specs.Writable.{IsLegible}
use Rattle.report_text.specs.Claims.{Bare, Beside, Entry, Filling, Learning, Report, Spending, Tested, bounds_of}

-- the numbers of sides and their values have 32 bits, and the line of what is finished says of no cut
abbrev pub IsLegibleDeed : Deed (Option Cause) Sides → Type 0
IsLegibleDeed Claim = Unit {0}
IsLegibleDeed (Split sides) = IsSmall sides.first
    × All (λ (side : Side). IsSmallChoice side.choice) sides.sides
IsLegibleDeed (Finish cut) = cut ≡ None
IsLegibleDeed (Cut cut) = Unit {0}
IsLegibleDeed Release = Unit {0}

-- so have those of the worker and of the node
abbrev pub IsLegibleLine : Line → Type 0
IsLegibleLine line = IsSmall line.by × IsSmall line.node × IsLegibleDeed line.deed

abbrev pub AreLegible : List Line → Type 0
AreLegible lines = All IsLegibleLine lines

-- the term has a number of 64 bits, and so many values have one of 32
abbrev pub IsLegibleSpent : Spent → Type 0
IsLegibleSpent spent = IsSmall (length spent.found) × IsCount spent.term
    × All IsLegibleFound spent.found

-- the numbers of each step of a log are small, where there is one; and a number of nodes has 32 bits
abbrev pub HasSmallLog : Option Evidence → Type 0
HasSmallLog None = Unit {0}
HasSmallLog (Some (OnTargets spent)) = Unit {0}
HasSmallLog (Some (OnConflicts learnt)) = All HasSmallNumbers learnt.log
HasSmallLog (Some (OnNodes count)) = IsSmall count

-- a question in full, and clauses as texts have them, of such numbers
pub record IsLegibleLearnt (learnt : Learnt) : Type 0 where
  pub question : IsQuestion learnt.question
  pub few_clauses : IsSmall (length learnt.log)
  pub clauses : All (λ (s : Step). IsClause s.clause) learnt.log
  pub numbers : All HasSmallNumbers learnt.log

-- what stands beside a leaf
abbrev pub IsLegibleBeside : Beside → Type 0
IsLegibleBeside Bare = ⊥
IsLegibleBeside (Tested test) = IsLegible test
IsLegibleBeside (Spending spent) = IsLegibleSpent spent
IsLegibleBeside (Learning learnt) = IsLegibleLearnt learnt
IsLegibleBeside (Filling count) = IsSmall count

-- its steps, where a log stands there, and its number, where one does
abbrev pub HasSmallLogBeside : Beside → Type 0
HasSmallLogBeside Bare = Unit {0}
HasSmallLogBeside (Tested test) = Unit {0}
HasSmallLogBeside (Spending spent) = Unit {0}
HasSmallLogBeside (Learning learnt) = All HasSmallNumbers learnt.log
HasSmallLogBeside (Filling count) = IsSmall count

-- The numbers of a report that its claims leave open: of workers, of what the budgets allow, of the nodes that the events make, and in
-- the logs and the numbers of nodes beside its leaves.
pub record HasSmallCounts (r : Report) : Type 0 where
  pub few_workers : IsSmall r.workers
  pub few_targets : IsSmall r.budgets.targets
  pub few_conflicts : IsSmall r.budgets.conflicts
  pub few_nodes : (nodes : List Standing) → walk (bounds_of r) r.lines ≡ Some nodes
      → IsSmall (length nodes)
  pub small_logs : All (λ (e : Entry). HasSmallLogBeside e.beside) r.entries
