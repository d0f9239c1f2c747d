-- What lines make of what the walk comes to: a leaf of it, or what is ahead in its place.
use Rattle.std.specs.Prelude.{◌≡◌, ℕ, ◌<◌, Bool, List, ◌∷◌, ◌++◌, All, count_by, length, map, Option, None, Some, Result, Ok, Err}
use Rattle.cert_form.specs.declared.line.CertLine.{CertLine}
use Rattle.fork_spec.specs.Histories.{cause_of}
use Rattle.fork_spec.specs.Partings.{place_of}
use Rattle.fork_spec.specs.Parts.{IsRight, Part}
use Rattle.sym_machine.specs.Advancing.{IsUnderway, StoppedBy}
use Rattle.sym_machine.specs.declared.stepping.Stop.{Stop}
use Rattle.sym_state.specs.Programs.{Program}
use Rattle.sym_state.specs.Runs.{IsSampled}
use Rattle.sym_state.specs.Symbolic.{Symbolic, stands_for}
use Rattle.tree_core.specs.Covers.{one_if}
use Rattle.tree_core.specs.declared.budgets.Budgets.{Budgets}
use Rattle.tree_core.specs.declared.cause.Cause.TheVariants.{Nodes}
use Rattle.tree_core.specs.declared.choice.Choice.{Choice}
use Rattle.cert_audit.specs.Names.{Ahead, Named, named_from}
use Rattle.cert_audit.specs.Passing.{PassesLeaf, PassesUncut}
use Rattle.cert_audit.specs.Todos.{IsTodo, todo_ahead, todo_place}
use Rattle.cert_audit.specs.declared.taken.Went.{Went}
use Rattle.cert_audit.specs.declared.todo.Todo.{Todo}
use Rattle.cert_query.specs.declared.fault.Fault.{Fault}
use Rattle.cert_audit.specs.declared.taken.Taken.{Taken}
use Rattle.cert_audit.specs.declared.taken.Visited.{Visited}
use Rattle.cert_audit.specs.declared.taken.Visited.TheVariants.{Leaf, Fork}

-- the leaf as lines name it
abbrev pub named_as : Part → Named
named_as part = record {
  choices = part.leaf.choices;
  cut = cause_of part.leaf.end;
  sample = part.sample;
}

-- A leaf is right, as some side of a fork. Only one that was cut for want of nodes shows how many there were: as many as there may be.
pub record IsRightAt (p : Program) (budgets : Budgets) (part : Part) : Type 0 where
  pub sides : List Choice
  pub nodes : Option ℕ
  pub counted : (n : ℕ) → nodes ≡ Some n
      → (n ≡ budgets.nodes) × (cause_of part.leaf.end ≡ Some Nodes)
  pub right : IsRight p.image p.regions budgets sides nodes part

-- it is right, and covers these
pub record IsLeafOn (p : Program) (budgets : Budgets) (covers : List ℕ → Bool)
    (part : Part) : Type 0 where
  pub is_right : IsRightAt p budgets part
  pub covers_all : (input : List ℕ) → (place_of part.leaf).covers input ≡ covers input

-- The first of some lines make a leaf of what comes next, which covers these, and the rest is behind them. It is one of each program
-- of which what comes next is a part.
pub record IsLeafFrom (IsPartOf : Program → Type 0) (budgets : Budgets)
    (covers : List ℕ → Bool) (next : Ahead) (lines : List CertLine) (part : Part)
    (rest : List CertLine) : Type 0 where
  pub is_leaf : (p : Program) → IsPartOf p → IsLeafOn p budgets covers part
  pub named : (p : Program) → IsPartOf p → (ahead : List Ahead)
      → named_from (next ∷ ahead) lines ≡ named_as part ∷ named_from ahead rest
  pub shorter : length rest < length lines
  pub ends : (p : Program) → IsPartOf p → PassesLeaf (cause_of part.leaf.end) lines rest

-- how many of these an assignment is one of
abbrev pub ahead_at : List Todo → List ℕ → ℕ
ahead_at todos input = count_by (λ todo. (todo_place todo).covers input) todos

-- The first of some lines put these in the place of what comes next, and the rest is behind them: they share out what that covers.
pub record IsForkFrom (IsPartOf : Program → Type 0) (budgets : Budgets)
    (covers : List ℕ → Bool) (next : Ahead) (lines : List CertLine) (kids : List Todo)
    (rest : List CertLine) : Type 0 where
  pub each : (p : Program) → IsPartOf p → All (IsTodo p budgets) kids
  pub shared : (input : List ℕ) → ahead_at kids input ≡ one_if (covers input)
  pub named : (ahead : List Ahead)
      → named_from (next ∷ ahead) lines ≡ named_from (map todo_ahead kids ++ ahead) rest
  pub shorter : length rest < length lines
  pub ends : PassesUncut lines rest

-- ---- Nodes.
abbrev pub node_ahead : Symbolic → Ahead
node_ahead run = record { choices = run.choices; cut = None }

-- the leaf of a run that stopped so
abbrev pub IsNodeLeaf : Budgets → Symbolic → Stop → List CertLine → Part → List CertLine → Type 0
IsNodeLeaf budgets run stop =
    IsLeafFrom (λ p. StoppedBy p budgets.steps run stop) budgets (stands_for run) (node_ahead run)

-- the leaf of a run at a fork
abbrev pub IsUnparted : Budgets → Symbolic → List CertLine → Part → List CertLine → Type 0
IsUnparted budgets run =
    IsLeafFrom (λ p. IsUnderway p budgets.steps run) budgets (stands_for run) (node_ahead run)

-- what has come in the place of a run at a fork
abbrev pub IsWent : Budgets → Symbolic → List CertLine → List Todo → List CertLine → Type 0
IsWent budgets run =
    IsForkFrom (λ p. IsUnderway p budgets.steps run) budgets (stands_for run) (node_ahead run)

-- what lines make of a run that stopped so
abbrev pub IsStopMet : Budgets → Symbolic → Stop → List CertLine → Visited → Type 0
IsStopMet budgets run stop lines (Leaf taken) =
    IsNodeLeaf budgets run stop lines taken.leaf taken.rest.now
IsStopMet budgets run stop lines (Fork went) =
    IsForkFrom (λ p. StoppedBy p budgets.steps run stop) budgets (stands_for run) (node_ahead run)
    lines went.kids.items went.rest.now

-- ---- What the walk comes to.
abbrev pub IsTaken : Budgets → Todo → List CertLine → Part → List CertLine → Type 0
IsTaken budgets todo =
    IsLeafFrom (λ p. IsTodo p budgets todo) budgets (todo_place todo).covers (todo_ahead todo)

abbrev pub IsParted : Budgets → Todo → List CertLine → List Todo → List CertLine → Type 0
IsParted budgets todo =
    IsForkFrom (λ p. IsTodo p budgets todo) budgets (todo_place todo).covers (todo_ahead todo)

-- what lines make of it
abbrev pub IsVisited : Budgets → Todo → List CertLine → Visited → Type 0
IsVisited budgets todo lines (Leaf taken) = IsTaken budgets todo lines taken.leaf taken.rest.now
IsVisited budgets todo lines (Fork went) = IsParted budgets todo lines went.kids.items went.rest.now

-- a leaf, where none is at fault
abbrev pub as_leaf : Result Taken Fault → Result Visited Fault
as_leaf (Ok taken) = Ok (Leaf taken)
as_leaf (Err fault) = Err fault

abbrev pub as_fork : Result Went Fault → Result Visited Fault
as_fork (Ok went) = Ok (Fork went)
as_fork (Err fault) = Err fault

-- the run has this assignment, which is one of its own, as its sample
pub record IsSampledBy (old : Symbolic) (input : List ℕ) (new : Symbolic) : Type 0 where
  pub same : new ≡ record old { sample = input }
  pub sampled : IsSampled new
