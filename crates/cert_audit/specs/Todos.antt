-- What a walk through a fork tree has still to come to.
use Rattle.std.specs.Prelude.{ℕ, ◌≤◌, Bool, List, [], ◌∷◌, ◌++◌, None, Some}
use Rattle.fork_spec.specs.Evidence.{AreIncreasing}
use Rattle.fork_spec.specs.Leaves.{IsSmall}
use Rattle.tree_core.specs.Choices.{IsSmallChoice}
use Rattle.fork_spec.specs.Partings.{Place}
use Rattle.rv_spec.specs.Memory.{count_of}
use Rattle.sym_machine.specs.Advancing.{IsUnderway, StoppedBy}
use Rattle.sym_machine.specs.declared.stepping.Stop.{Stop}
use Rattle.sym_state.specs.Narrowed.{IsNarrowed}
use Rattle.sym_state.specs.Programs.{Program}
use Rattle.sym_state.specs.Runs.{IsOpen}
use Rattle.sym_state.specs.Symbolic.{Symbolic, IsFormed, most_steps, stands_for}
use Rattle.sym_state.specs.Values.{IsUnknown}
use Rattle.tree_core.specs.declared.budgets.Budgets.{Budgets}
use Rattle.tree_core.specs.declared.cause.Cause.TheVariants.{Conflicts as ByConflicts, Targets as ByTargets}
use Rattle.tree_core.specs.declared.choice.Choice.TheVariants.{Rest}
use Rattle.run_leaves.specs.Values.{IsWithout}
use Rattle.cert_audit.specs.Names.{Ahead}
use Rattle.cert_audit.specs.declared.todo.Asked.{Asked}
use Rattle.cert_audit.specs.declared.todo.Others.{Others}
use Rattle.cert_audit.specs.declared.todo.Todo.{Todo}
use Rattle.cert_audit.specs.declared.todo.Todo.TheVariants.{Node, Conflicts, Targets}

-- where it stands in the tree
abbrev pub todo_place : Todo → Place
todo_place (Node run) = record { choices = run.choices; covers = stands_for run; cut = None }
todo_place (Conflicts asked) = record {
  choices = asked.run.choices ++ asked.choice ∷ [];
  covers = stands_for asked.run;
  cut = Some ByConflicts;
}
todo_place (Targets others) = record {
  choices = others.fork.choices ++ Rest ∷ [];
  covers = stands_for others.rest;
  cut = Some ByTargets;
}

-- what lines name it by
abbrev pub todo_ahead : Todo → Ahead
todo_ahead todo = record { choices = (todo_place todo).choices; cut = (todo_place todo).cut }

-- a side of a fork of a program's run, on which one more term is asserted
pub record IsAskedOn (p : Program) (budgets : Budgets) (asked : Asked) : Type 0 where
  pub fork : Symbolic
  pub test : List ℕ → Bool
  pub underway : IsUnderway p budgets.steps fork
  pub formed : IsFormed fork
  pub narrowed : IsNarrowed fork asked.run test
  pub small : IsSmallChoice asked.choice

-- the side of a fork of a program's run on which a term has none of these values
pub record IsOthersOf (p : Program) (budgets : Budgets) (others : Others) : Type 0 where
  pub underway : IsUnderway p budgets.steps others.fork
  pub unknown : IsUnknown others.fork.terms 32 others.term
  pub without : IsWithout others.fork others.term others.values.items others.rest
  pub increasing : AreIncreasing others.values.items

-- it is of a program's tree
abbrev pub IsTodo : Program → Budgets → Todo → Type 0
IsTodo p budgets (Node run) = IsOpen p run × (run.steps ≤ budgets.steps)
IsTodo p budgets (Conflicts asked) = IsAskedOn p budgets asked
IsTodo p budgets (Targets others) = IsOthersOf p budgets others

-- it is of the tree of a program, within budgets by which a leaf's texts have room for their numbers
pub record IsOfTree (budgets : Budgets) (todo : Todo) : Type 0 where
  pub program : Program
  pub few_inputs : IsSmall (count_of program.regions)
  pub few_steps : budgets.steps ≤ most_steps
  pub is_todo : IsTodo program budgets todo

-- a run of such a program has stopped so
pub record HasStopped (budgets : Budgets) (run : Symbolic) (stop : Stop) : Type 0 where
  pub program : Program
  pub few_inputs : IsSmall (count_of program.regions)
  pub few_steps : budgets.steps ≤ most_steps
  pub stopped : StoppedBy program budgets.steps run stop
