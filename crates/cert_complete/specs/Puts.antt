-- What may be put into a certificate that lacks lines.
use Rattle.std.specs.Prelude.{◌≡◌, ℕ, true, List, All}
use Rattle.cert_audit.specs.Steps.{IsParted}
use Rattle.cert_audit.specs.Todos.{IsTodo}
use Rattle.cert_audit.specs.declared.todo.Others.{Others}
use Rattle.cert_audit.specs.declared.todo.Todo.{Todo}
use Rattle.cert_audit.specs.declared.todo.Todo.TheVariants.{Targets}
use Rattle.cert_complete.specs.declared.puts.Completed.{Completed}
use Rattle.cert_complete.specs.declared.puts.Completed.TheVariants.{Puts, Open, Fault, Heading}
use Rattle.cert_complete.specs.declared.puts.Put.{Put}
use Rattle.cert_complete.specs.declared.puts.Put.TheVariants.{Fork, Witness}
use Rattle.cert_form.specs.declared.line.CertLine.{CertLine}
use Rattle.sym_state.specs.Programs.{Program}
use Rattle.sym_state.specs.Symbolic.{stands_for}
use Rattle.tree_core.specs.declared.budgets.Budgets.{Budgets}

-- a step of the audit goes on behind these lines at a part of the program's tree: it parts there as they say
pub record IsForked (p : Program) (budgets : Budgets) (lines : List CertLine) : Type 0 where
  pub todo : Todo
  pub kids : List Todo
  pub rest : List CertLine
  pub is_part : IsTodo p budgets todo
  pub parted : IsParted budgets todo lines kids rest

-- an assignment of a side of the program's tree that is cut by targets
pub record IsWitnessed (p : Program) (budgets : Budgets) (input : List ℕ) : Type 0 where
  pub others : Others
  pub is_part : IsTodo p budgets (Targets others)
  pub stands : stands_for others.rest input ≡ true

abbrev pub IsPut : Program → Budgets → Put → Type 0
IsPut p budgets (Fork left taken lines) = IsForked p budgets lines.items
IsPut p budgets (Witness left input) = IsWitnessed p budgets input

-- each of the lines that a certificate lacks is such
abbrev pub IsCompleted : Program → Budgets → Completed → Type 0
IsCompleted p budgets (Puts puts) = All (IsPut p budgets) puts.items
IsCompleted p budgets (Open unrefuted) = Unit {0}
IsCompleted p budgets (Fault fault) = Unit {0}
IsCompleted p budgets Heading = Unit {0}
