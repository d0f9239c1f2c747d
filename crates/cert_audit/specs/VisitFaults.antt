-- Lines that make nothing of what the walk comes to: the first of them that may not stand, and why.
use Rattle.std.specs.Prelude.{List}
use Rattle.cert_form.specs.declared.line.CertLine.{CertLine}
use Rattle.cert_query.specs.declared.fault.Fault.{Fault}
use Rattle.sym_machine.specs.Advancing.{Advances}
use Rattle.sym_machine.specs.declared.stepping.Stop.{Stop}
use Rattle.sym_machine.specs.declared.stepping.Stop.TheVariants.{Branch, Ended, Pin, Steps}
use Rattle.sym_state.specs.Symbolic.{Symbolic, condition_of}
use Rattle.tree_core.specs.declared.budgets.Budgets.{Budgets}
use Rattle.cert_audit.specs.ForkFaults.{IsBranchFault, IsPinFault}
use Rattle.cert_audit.specs.LeafFaults.{IsConflictsFault, IsEndFault, IsStepsFault, IsTargetsFault}
use Rattle.cert_audit.specs.declared.todo.Todo.{Todo}
use Rattle.cert_audit.specs.declared.todo.Todo.TheVariants.{Conflicts, Node, Targets}

-- of a run that stopped so
abbrev pub IsStopFault : Budgets → Symbolic → Stop → List CertLine → Fault → Type 0
IsStopFault budgets s (Ended end) lines fault = IsEndFault s lines fault
IsStopFault budgets s Steps lines fault = IsStepsFault s lines fault
IsStopFault budgets s (Branch term) lines fault = IsBranchFault s term lines fault
IsStopFault budgets s (Pin place term) lines fault = IsPinFault s term budgets.targets lines fault

-- of a node, whose run goes on until it stops
pub record IsNodeFault (budgets : Budgets) (s : Symbolic) (lines : List CertLine)
    (fault : Fault) : Type 0 where
  pub run : Symbolic
  pub stop : Stop
  pub advances : Advances budgets.steps s run stop
  pub refused : IsStopFault budgets run stop lines fault

-- of what the walk comes to
abbrev pub IsVisitFault : Budgets → Todo → List CertLine → Fault → Type 0
IsVisitFault budgets (Node run) lines fault = IsNodeFault budgets run lines fault
IsVisitFault budgets (Conflicts asked) lines fault =
    IsConflictsFault (condition_of asked.run) budgets.conflicts lines fault
IsVisitFault budgets (Targets others) lines fault =
    IsTargetsFault others budgets.targets lines fault
