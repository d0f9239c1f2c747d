-- How far a walk through a fork tree has come.
use Rattle.std.specs.Prelude.{◌≡◌, ◌≢◌, ℕ, ◌+◌, ◌≤◌, List, [], ◌∷◌, ◌++◌, All, count_by, is_none, is_some, length, map, reverse, Option, None, Some}
use Rattle.cert_form.specs.declared.line.CertLine.{CertLine}
use Rattle.fork_spec.specs.Histories.{cause_of}
use Rattle.fork_spec.specs.Leaves.{covers}
use Rattle.fork_spec.specs.Parts.{Part}
use Rattle.rv_spec.specs.Memory.{IsAssignment}
use Rattle.sym_state.specs.Programs.{Program}
use Rattle.tree_core.specs.declared.budgets.Budgets.{Budgets}
use Rattle.tree_core.specs.declared.cause.Cause.{Cause}
use Rattle.tree_core.specs.declared.cause.Cause.TheVariants.{Conflicts, Nodes, Steps, Targets}
use Rattle.cert_audit.specs.Names.{named_from, root_ahead}
use Rattle.cert_audit.specs.Passing.{EndsWith, PassesFirst}
use Rattle.cert_audit.specs.Steps.{IsRightAt, ahead_at, named_as}
use Rattle.cert_audit.specs.Todos.{IsTodo, todo_ahead}
use Rattle.cert_audit.specs.declared.taken.Visited.{Visited}
use Rattle.cert_audit.specs.declared.taken.Visited.TheVariants.{Fork, Leaf}
use Rattle.cert_audit.specs.declared.todo.Todo.{Todo}
use Rattle.cert_audit.specs.declared.walking.Leaves.{Leaves}
use Rattle.cert_audit.specs.declared.walking.Tally.{Tally}

-- why a leaf was cut, if it was
abbrev pub cut_of : Part → Option Cause
cut_of part = cause_of part.leaf.end

-- so many of these leaves are finished, and so many are cut
pub record AreCounted (parts : List Part) (leaves : Leaves) : Type 0 where
  pub finished : leaves.finished ≡ count_by (λ part. is_none (cut_of part)) parts
  pub cut : leaves.cut ≡ count_by (λ part. is_some (cut_of part)) parts

-- Leaves that were come to, in their order, and what is still ahead, the next on top: they share out all assignments.
pub record IsWalked (p : Program) (budgets : Budgets) (lines : List CertLine) (stack : List Todo)
    (rest : List CertLine) (tally : Tally) : Type 0 where
  pub parts : List Part
  pub right : All (IsRightAt p budgets) parts
  pub each : All (IsTodo p budgets) stack
  pub named : map named_as parts ++ named_from (map todo_ahead (reverse stack)) rest
      ≡ named_from (root_ahead ∷ []) lines
  pub once : (input : List ℕ) → IsAssignment p.regions input
      → count_by (λ part. covers part.leaf input) parts + ahead_at stack input ≡ 1
  pub few : length parts + length rest ≤ length lines
  pub ends : EndsWith lines rest
  pub first : PassesFirst tally.first_by_nodes lines rest
  pub counted : AreCounted parts tally.leaves
  pub by_nodes : tally.first_by_nodes ≡ None → All (λ part. cut_of part ≢ Some Nodes) parts

-- the leaf of a line at which so many are left is counted
abbrev pub with_finished : Tally → Tally
with_finished tally = record tally {
  leaves = record tally.leaves { finished = tally.leaves.finished + 1 };
}

abbrev pub with_cut : Tally → Tally
with_cut tally = record tally { leaves = record tally.leaves { cut = tally.leaves.cut + 1 } }

abbrev pub first_of : Option ℕ → ℕ → Option ℕ
first_of None left = Some left
first_of (Some first) left = Some first

abbrev pub counted : Tally → Option Cause → (left : ℕ) → Tally
counted tally None left = with_finished tally
counted tally (Some Steps) left = with_cut tally
counted tally (Some Targets) left = with_cut tally
counted tally (Some Conflicts) left = with_cut tally
counted tally (Some Nodes) left = record (with_cut tally) {
  first_by_nodes = first_of tally.first_by_nodes left;
}

-- ---- Behind what lines made of what came next: the stack, the lines and the leaves.
abbrev pub stack_behind : List Todo → Visited → List Todo
stack_behind stack (Leaf taken) = stack
stack_behind stack (Fork went) = stack ++ reverse went.kids.items

abbrev pub rest_behind : Visited → List CertLine
rest_behind (Leaf taken) = taken.rest.now
rest_behind (Fork went) = went.rest.now

abbrev pub tally_behind : Tally → Visited → (left : ℕ) → Tally
tally_behind tally (Leaf taken) left = counted tally (cut_of taken.leaf) left
tally_behind tally (Fork went) left = tally
