-- What is asked of the runs and leaves of a program, within its budgets.
use Rattle.std.specs.Prelude.{◌≡◌, ℕ, zero, suc, ◌<◌, refl}
use Rattle.std.specs.Coded.{Coded, code_by, coded×, coded_ℕ}
use Rattle.fork_spec.specs.Decisions.{decisions}
use Rattle.tree_core.specs.declared.budgets.Budgets.{Budgets}
use Rattle.tree_core.specs.declared.event.Kid.{Kid}
use Rattle.tree_core.specs.declared.order.Order.{Order}
use Rattle.tree_core.specs.declared.order.Order.TheVariants.{Deepest, Oldest, Mixed}
use Rattle.fork_spec.specs.Partings.{Place, place_of}
use Rattle.fork_spec.specs.Parts.{IsRight, Part}
use Rattle.fork_tree.specs.Contents.{place_in}
use Rattle.fork_tree.specs.Works.{Rules}
use Rattle.fork_tree.specs.declared.content.Content.{Content}
use Rattle.sym_state.specs.Places.{run_place}
use Rattle.sym_state.specs.Programs.{Program, program_code}
use Rattle.sym_state.specs.Runs.{IsOpen, IsSampled, left_to_do}
use Rattle.sym_state.specs.Symbolic.{Symbolic}

-- who works the runs of a program, and what its exploration may spend
pub record Worker : Type 0 where
  pub program : Program
  pub budgets : Budgets

-- the code of orders
abbrev pub order_number : Order → ℕ
order_number Deepest = 0
order_number Oldest = 1
order_number Mixed = 2

abbrev pub order_numbered : ℕ → Order
order_numbered zero = Deepest
order_numbered (suc zero) = Oldest
order_numbered (suc (suc n)) = Mixed

pub order_again : (order : Order) → order_numbered (order_number order) ≡ order
order_again Deepest = refl
order_again Oldest = refl
order_again Mixed = refl

abbrev pub order_code : Coded Order
order_code = code_by ℕ coded_ℕ order_number order_numbered order_again

-- the code of workers, by which they are told apart
abbrev pub worker_code : Coded Worker
worker_code = code_by (Program × (ℕ × (ℕ × (ℕ × (ℕ × Order)))))
    (coded× program_code
    (coded× coded_ℕ (coded× coded_ℕ (coded× coded_ℕ (coded× coded_ℕ order_code)))))
    (λ w. (
      w.program,
      (
        w.budgets.steps,
        (w.budgets.targets, (w.budgets.conflicts, (w.budgets.nodes, w.budgets.order))),
      ),
    ))
    (λ c. record {
      program = c.0;
      budgets = record {
        steps = c.1.0;
        targets = c.1.1.0;
        conflicts = c.1.1.1.0;
        nodes = c.1.1.1.1.0;
        order = c.1.1.1.1.1;
      };
    }) (λ _. refl)

-- a run of the program that has steps left, with a sample that is one of its assignments
pub record IsWorkable (p : Program) (budgets : Budgets) (s : Symbolic) : Type 0 where
  pub is_open : IsOpen p s
  pub sampled : IsSampled s
  pub room : s.steps < budgets.steps

-- runs are workable; leaves are right as the report claims
abbrev pub rules_of : Program → Budgets → Rules Symbolic Part
rules_of p budgets = record {
  left = left_to_do;
  targets = budgets.targets;
  nodes = budgets.nodes;
  order = budgets.order;
  decides = λ input. decisions p.image p.regions input budgets.steps;
  IsWell = IsWorkable p budgets;
  IsRight = λ sides nodes part. IsRight p.image p.regions budgets sides nodes part;
}

-- one side of a fork
abbrev pub Piece : Type 0
Piece = Kid (Content Symbolic Part)

abbrev pub leaf_place : Part → Place
leaf_place part = place_of part.leaf

-- the place of what a side holds
abbrev pub content_place : Content Symbolic Part → Place
content_place c = place_in run_place leaf_place c
