-- A walk that a line puts an end to: the lines before it were walked, and it is at fault for what the walk had come to then.
use Rattle.std.specs.Prelude.{◌≡◌, ◌≤◌, List, [], ◌∷◌, ◌++◌, length}
use Rattle.cert_form.specs.declared.line.CertLine.{CertLine}
use Rattle.cert_query.specs.Faults.{fault_at}
use Rattle.cert_query.specs.declared.fault.Fault.{Fault}
use Rattle.cert_query.specs.declared.fault.Reason.TheVariants.{Place}
use Rattle.sym_state.specs.Programs.{Program}
use Rattle.tree_core.specs.declared.budgets.Budgets.{Budgets}
use Rattle.cert_audit.specs.VisitFaults.{IsVisitFault}
use Rattle.cert_audit.specs.Walks.{IsWalked}
use Rattle.cert_audit.specs.declared.todo.Todo.{Todo}
use Rattle.cert_audit.specs.declared.walking.Tally.{Tally}

pub data IsWalkFault (p : Program) (budgets : Budgets) (lines : List CertLine)
    (fault : Fault) : Type 0 where
  -- at what came next
  at_next : (stack : List Todo) (next : Todo) (rest : List CertLine) (tally : Tally)
      → IsWalked p budgets lines (stack ++ next ∷ []) rest tally
      → IsVisitFault budgets next rest fault → IsWalkFault p budgets lines fault
  -- behind the last leaf
  behind_last : (rest : List CertLine) (tally : Tally) → IsWalked p budgets lines [] rest tally
      → 1 ≤ length rest → fault ≡ fault_at rest Place → IsWalkFault p budgets lines fault
