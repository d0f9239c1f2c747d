-- What a line at a fork and the lines behind it put in the place of a run.
use Rattle.std.proofs.Common.{◌≡◌, ℕ, ◌≤◌, List, [], ◌∷◌, ◌++◌, length, map, refl, sym, ap, ◌∙◌, arith}
use Rattle.std.specs.Prelude.{None}
use Rattle.std.proofs.lemmas.List.Elements.{All-nil}
use Rattle.cert_form.specs.declared.line.CertLine.{CertLine}
use Rattle.cert_form.specs.declared.line.CertLine.TheVariants.{One, Split}
use Rattle.fork_spec.specs.Walks.{Side, value_side}
use Rattle.sym_state.specs.Symbolic.{Symbolic}
use Rattle.tree_core.specs.declared.budgets.Budgets.{Budgets}
use Rattle.tree_core.specs.declared.choice.Choice.{Choice}
use Rattle.cert_audit.specs.Kids.{IsPut, own_ahead}
use Rattle.cert_audit.specs.Names.{Ahead, named_from, side_ahead}
use Rattle.cert_audit.specs.Shown.{ArePassed, IsShownEmpty}
use Rattle.cert_audit.specs.Steps.{IsWent}
use Rattle.cert_audit.specs.Todos.{todo_ahead}
use Rattle.cert_audit.specs.declared.todo.Todo.{Todo}
use Rattle.cert_audit.specs.Passing.{IsUncut}
use Rattle.cert_audit.proofs.Passed.{one_line_more}
use Rattle.cert_audit.proofs.Quiet.{quiet_line}

-- nothing need be shown
pub passed_none : (next : List Ahead) (lines : List CertLine) → ArePassed next lines lines
passed_none next lines = record { quiet = λ ahead. refl; no_longer = omega arith; ends = record { passed = []; split = refl; uncut = All-nil IsUncut } }

-- it is shown that some run stands for no assignment, where what comes next isn't cut
pub passed_shown : (s : Symbolic) (a : Ahead) (next : List Ahead) (lines rest : List CertLine) → a.cut ≡ None → IsShownEmpty s lines rest
    → ArePassed (a ∷ next) lines rest
passed_shown s a next lines rest is shown = record {
  quiet = λ ahead. shown.quiet a (next ++ ahead) is;
  no_longer = omega (arith, shown.shorter);
  ends = shown.ends;
}

pub values_passed : (s r : Symbolic) (vs : List ℕ) (lines rest : List CertLine) → 1 ≤ length vs → IsShownEmpty r lines rest
    → ArePassed (map (side_ahead s.choices) (map value_side vs)) lines rest
values_passed s r [] lines rest some shown = absurd (omega (arith, some))
values_passed s r (v ∷ vs) lines rest some shown =
    passed_shown r (side_ahead s.choices (value_side v)) (map (side_ahead s.choices) (map value_side vs)) lines rest refl shown

module _ (budgets : Budgets) (s : Symbolic) (next : List Ahead) (lines rest : List CertLine) (kids : List Todo) (put : IsPut s next lines kids rest) where
  named_behind : (ahead : List Ahead) → named_from (next ++ ahead) lines ≡ named_from (map todo_ahead kids ++ ahead) rest
  named_behind ahead = put.passed.quiet ahead ∙ ap (λ (names : List Ahead). named_from (names ++ ahead) rest) (sym put.are_kids.ahead)

-- it goes on one way
pub went_one : (budgets : Budgets) (s : Symbolic) (choice : Choice) (lines rest : List CertLine) (kids : List Todo)
    → IsPut s (own_ahead s) lines kids rest → IsWent budgets s (One choice ∷ lines) kids rest
went_one budgets s choice lines rest kids put = record {
  each = λ p under. put.are_kids.each p budgets under;
  shared = put.are_kids.shared;
  named = λ ahead.
      quiet_line (own_ahead s ++ ahead) (One choice) lines (record { names = λ a. refl; keeps = λ a. refl })
      ∙ named_behind budgets s (own_ahead s) lines rest kids put ahead;
  shorter = omega (arith, put.passed.no_longer);
  ends = one_line_more (One choice) lines rest (λ same. cc) put.passed.ends;
}

-- it parts
pub went_split : (budgets : Budgets) (s : Symbolic) (sides : List Side) (lines rest : List CertLine) (kids : List Todo)
    → IsPut s (map (side_ahead s.choices) sides) lines kids rest → IsWent budgets s (Split sides ∷ lines) kids rest
unfolding named_from
went_split budgets s sides lines rest kids put = record {
  each = λ p under. put.are_kids.each p budgets under;
  shared = put.are_kids.shared;
  named = λ ahead. named_behind budgets s (map (side_ahead s.choices) sides) lines rest kids put ahead;
  shorter = omega (arith, put.passed.no_longer);
  ends = one_line_more (Split sides) lines rest (λ same. cc) put.passed.ends;
}
