-- What the walk comes to in the place of a run at a fork.
use Rattle.std.specs.Prelude.{◌≡◌, ℕ, ◌==◌, ◌&&◌, Bool, false, true, not, List, [], ◌∷◌, All, map, Option, None, Some}
use Rattle.bv_dag.specs.Graphs.{number_of}
use Rattle.cert_form.specs.declared.line.CertLine.{CertLine}
use Rattle.fork_spec.specs.Evidence.{is_among}
use Rattle.fork_spec.specs.Walks.{Side, rest_side, value_side}
use Rattle.sym_machine.specs.Advancing.{IsUnderway}
use Rattle.sym_state.specs.Programs.{Program}
use Rattle.sym_state.specs.Symbolic.{Symbolic, stands_for}
use Rattle.tree_core.specs.Covers.{one_if}
use Rattle.tree_core.specs.declared.budgets.Budgets.{Budgets}
use Rattle.tree_core.specs.declared.cause.Cause.{Cause}
use Rattle.tree_core.specs.declared.cause.Cause.TheVariants.{Conflicts as ByConflicts, Targets as ByTargets}
use Rattle.cert_audit.specs.Names.{Ahead, side_ahead}
use Rattle.cert_audit.specs.Shown.{ArePassed}
use Rattle.cert_audit.specs.Steps.{ahead_at}
use Rattle.cert_audit.specs.Todos.{IsTodo, todo_ahead, todo_place}
use Rattle.cert_audit.specs.declared.todo.Todo.{Todo}
use Rattle.cert_audit.specs.declared.values.RestCut.{RestCut}
use Rattle.cert_audit.specs.declared.values.RestCut.TheVariants.{Conflicts, Targets}

-- a side of a run's fork: it stands for those of the run's assignments that pass a test
pub record IsKid (s : Symbolic) (side : Side) (test : List ℕ → Bool) (kid : Todo) : Type 0 where
  pub each : (p : Program) (budgets : Budgets) → IsUnderway p budgets.steps s
      → IsTodo p budgets kid
  pub covers : (input : List ℕ)
      → (todo_place kid).covers input ≡ (stands_for s input && test input)
  pub ahead : todo_ahead kid ≡ side_ahead s.choices side

-- why a side of a branch is cut, if it is
abbrev pub cut_if : Bool → Option Cause
cut_if true = Some ByConflicts
cut_if false = None

-- a term has this value
abbrev pub has_value : Symbolic → (term value : ℕ) → List ℕ → Bool
has_value s term value input = number_of s.terms term input == value

-- a term has none of these values
abbrev pub has_none : Symbolic → (term : ℕ) → List ℕ → List ℕ → Bool
has_none s term values input = not (is_among values (number_of s.terms term input))

-- a side for each value of a term, in their order
abbrev pub AreValueKids : Symbolic → (term : ℕ) → List ℕ → List Todo → Type 0
AreValueKids s term [] [] = Unit {0}
AreValueKids s term (v ∷ vs) (k ∷ ks) =
    IsKid s (value_side v) (has_value s term v) k × AreValueKids s term vs ks
AreValueKids s term _ _ = ⊥

-- why the side of all other values is cut
abbrev pub rest_cause : RestCut → Cause
rest_cause Conflicts = ByConflicts
rest_cause Targets = ByTargets

-- the sides behind those of values
abbrev pub sides_behind : Option RestCut → List Side
sides_behind None = []
sides_behind (Some cut) = rest_side (Some (rest_cause cut)) ∷ []

-- they share out what a run stands for, and stand where these names say
pub record AreKids (s : Symbolic) (next : List Ahead) (kids : List Todo) : Type 0 where
  pub each : (p : Program) (budgets : Budgets) → IsUnderway p budgets.steps s
      → All (IsTodo p budgets) kids
  pub shared : (input : List ℕ) → ahead_at kids input ≡ one_if (stands_for s input)
  pub ahead : map todo_ahead kids ≡ next

-- the lines behind the one that says where a run goes put these in its place
pub record IsPut (s : Symbolic) (next : List Ahead) (lines : List CertLine) (kids : List Todo)
    (rest : List CertLine) : Type 0 where
  pub are_kids : AreKids s next kids
  pub passed : ArePassed next lines rest

-- the place of a run that goes on
abbrev pub own_ahead : Symbolic → List Ahead
own_ahead s = record { choices = s.choices; cut = None } ∷ []
