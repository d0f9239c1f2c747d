-- How the walk goes on.
use Rattle.std.specs.Prelude.{All, IfSome}
use Rattle.cert_audit.specs.Todos.{IsTodo}
use Rattle.cert_complete.specs.Puts.{IsPut}
use Rattle.cert_complete.specs.declared.completing.Step.{Step}
use Rattle.cert_complete.specs.declared.completing.Step.TheVariants.{On, Open, Fault}
use Rattle.sym_state.specs.Programs.{Program}
use Rattle.tree_core.specs.declared.budgets.Budgets.{Budgets}

-- what comes next is of the program's tree, and what was put is right
abbrev pub IsStep : Program → Budgets → Step → Type 0
IsStep p budgets (On kids put rest) = All (IsTodo p budgets) kids.items × IfSome put (IsPut p budgets)
IsStep p budgets (Open unrefuted) = Unit {0}
IsStep p budgets (Fault fault) = Unit {0}
