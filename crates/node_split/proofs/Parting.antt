-- The two sides of a branch.
use Rattle.std.proofs.Common.{◌≡◌, ◌≢◌, ℕ, ◌+◌, ◌<◌, ◌≤◌, Bool, true, false, ◌&&◌, List, [], ◌∷◌, ◌++◌, map, refl, sym, ap, ◌∙◌, subst, arith}
use Rattle.std.specs.Prelude.{IsTrue, Option, None, Some, if◌then◌else◌, ◌==◌, not}
use Rattle.std.proofs.lemmas.List.Elements.{All-nil, All-cons}
use Rattle.bv_dag.specs.Graphs.{number_of}
use Rattle.fork_spec.specs.Decisions.{Side as OnSide}
use Rattle.tree_core.specs.Covers.{one_if}
use Rattle.tree_core.specs.declared.budgets.Budgets.{Budgets}
use Rattle.tree_core.specs.declared.cause.Cause.{Cause}
use Rattle.tree_core.specs.declared.cause.Cause.TheVariants.{Conflicts, Nodes, Steps, Targets}
use Rattle.tree_core.specs.declared.choice.Choice.TheVariants.{No, Yes}
use Rattle.fork_spec.specs.Partings.{IsOnSide}
use Rattle.fork_spec.specs.Walks.{Side, are_sides, is_one_cut_at_most}
use Rattle.fork_tree.specs.Written.{side_of_kid}
use Rattle.fork_tree.specs.Contents.{choices_in, cut_in}
use Rattle.fork_tree.specs.Works.{IsPart}
use Rattle.sym_state.specs.Places.{run_place}
use Rattle.sym_state.specs.Programs.{Program}
use Rattle.sym_state.specs.Runs.{IsOpen, left_to_do}
use Rattle.sym_state.specs.Symbolic.{Symbolic, stands_for}
use Rattle.sym_state.specs.Undecided.{IsBranch}
use Rattle.sym_state.proofs.Tests.{not_true}
use Rattle.run_sides.specs.Sides.{branch_choice, is_side}
use Rattle.run_sides.proofs.Branching.{one_of_two}
use Rattle.node_split.specs.Rules.{Piece, content_place, leaf_place, rules_of}
use Rattle.node_split.specs.Splits.{IsBranchSide, IsForkOf, IsSide, IsSideIn}
use Rattle.node_split.proofs.Apart.{AreTwoSides, IsOnFork, kids_apart}
use Rattle.node_split.proofs.Sharing.{count-cons, on_fork_in, placed_in, side_in, two_in}

-- a branch is on the side that its test tells
on_no : (b : Bool) → not b ≡ true → IsOnSide No (OnSide b)
on_no true is = absurd (cc is)
on_no false is = refl

on_yes : (b : Bool) → b ≡ true → IsOnSide Yes (OnSide b)
on_yes true is = refl
on_yes false is = absurd (cc is)

two_decisions : (b c : Bool) → not b ≡ true → c ≡ true → OnSide b ≢ OnSide c
two_decisions b c is_no is_yes is =
    let same : b ≡ c = cc is in
    let none : b ≡ false = not_true b is_no in
    cc (same, none, is_yes)

two_choices : No ≢ Yes
two_choices is = cc is

branch_form : (targets : ℕ) (no_cut yes_cut : Option Cause) → IsTrue (is_one_cut_at_most no_cut yes_cut)
    → IsTrue (are_sides targets (record { choice = No; cut = no_cut } ∷ record { choice = Yes; cut = yes_cut } ∷ []))
branch_form targets None None is = refl
branch_form targets None (Some Steps) is = absurd (cc is)
branch_form targets None (Some Targets) is = absurd (cc is)
branch_form targets None (Some Conflicts) is = refl
branch_form targets None (Some Nodes) is = absurd (cc is)
branch_form targets (Some Steps) yes_cut is = absurd (cc is)
branch_form targets (Some Targets) yes_cut is = absurd (cc is)
branch_form targets (Some Conflicts) None is = refl
branch_form targets (Some Conflicts) (Some cause) is = absurd (cc is)
branch_form targets (Some Nodes) yes_cut is = absurd (cc is)

abbrev no_test : Symbolic → ℕ → List ℕ → Bool
no_test s term input = is_side false (number_of s.terms term input)

abbrev yes_test : Symbolic → ℕ → List ℕ → Bool
yes_test s term input = is_side true (number_of s.terms term input)

-- where a side stands
abbrev StandsOnSide : Symbolic → Piece → Type 0
StandsOnSide s k = (content_place k.content).choices ≡ s.choices ++ k.choice ∷ []

pub two_sides : (p : Program) (budgets : Budgets) (s : Symbolic) (left_kid right_kid : Piece) (term : ℕ) (no_cut yes_cut : Option Cause)
    → IsOpen p s → IsBranch s term → s.steps < budgets.steps → 1 ≤ budgets.targets → IsTrue (is_one_cut_at_most no_cut yes_cut)
    → IsSideIn p budgets (No ∷ Yes ∷ []) s No no_cut (no_test s term) left_kid
    → IsSideIn p budgets (No ∷ Yes ∷ []) s Yes yes_cut (yes_test s term) right_kid
    → IsForkOf p budgets s (left_kid ∷ right_kid ∷ [])
two_sides p budgets s left_kid right_kid term no_cut yes_cut was at few some one_cut left right =
    let sides = No ∷ Yes ∷ [] in
    let decision = λ (input : List ℕ). OnSide (number_of s.terms term input == 1) in
    let choices : choices_in (left_kid ∷ right_kid ∷ []) ≡ sides = cc (left.same, right.same) in
    let Part = λ (k : Piece). IsPart (rules_of p budgets) leaf_place (left_to_do s) (choices_in (left_kid ∷ right_kid ∷ [])) k k.content in
    let forms : map (side_of_kid (cut_in run_place leaf_place)) (left_kid ∷ right_kid ∷ []) ≡ record { choice = No; cut = no_cut } ∷ record { choice = Yes; cut = yes_cut } ∷ []
    = cc (left.form, right.form) in record {
      shared = λ input.
          count-cons input left_kid (right_kid ∷ [])
          ∙ ap (λ n. one_if ((content_place left_kid.content).covers input) + n) (count-cons input right_kid [])
          ∙ ap (λ b. one_if b + (one_if ((content_place right_kid.content).covers input) + 0)) (left.covers input)
          ∙ ap (λ b. one_if (stands_for s input && not (number_of s.terms term input == 1)) + (one_if b + 0)) (right.covers input)
          ∙ one_of_two (stands_for s input) (number_of s.terms term input == 1);
      choices = All-cons (StandsOnSide s) left_kid (right_kid ∷ []) (placed_in p budgets sides s No no_cut (no_test s term) left_kid left)
          (All-cons (StandsOnSide s) right_kid [] (placed_in p budgets sides s Yes yes_cut (yes_test s term) right_kid right) (All-nil (StandsOnSide s)));
      parts = All-cons Part left_kid (right_kid ∷ []) (subst (λ cs. IsPart (rules_of p budgets) leaf_place (left_to_do s) cs left_kid left_kid.content) (sym choices) left.part)
          (All-cons Part right_kid [] (subst (λ cs. IsPart (rules_of p budgets) leaf_place (left_to_do s) cs right_kid right_kid.content) (sym choices) right.part) (All-nil Part));
      sides = subst (λ (forms : List Side). IsTrue (are_sides budgets.targets forms)) (sym forms) (branch_form budgets.targets no_cut yes_cut one_cut);
      few = omega (arith, some);
      apart = kids_apart p s budgets.steps 1 decision (left_kid ∷ right_kid ∷ []) was few at.stands
          (All-cons (IsOnFork s decision) left_kid (right_kid ∷ []) (on_fork_in p budgets sides s No no_cut (no_test s term) left_kid left decision (λ input is. on_no _ is))
          (All-cons (IsOnFork s decision) right_kid [] (on_fork_in p budgets sides s Yes yes_cut (yes_test s term) right_kid right decision (λ input is. on_yes _ is)) (All-nil (IsOnFork s decision)))) (
            All-cons (AreTwoSides decision left_kid) right_kid []
                (two_in p budgets sides s decision No Yes no_cut yes_cut (no_test s term) (yes_test s term) left_kid right_kid left right two_choices (λ a b. two_decisions _ _)) (All-nil (AreTwoSides decision left_kid)),
            (All-nil (AreTwoSides decision right_kid), tt),
          );
    }

one_cut_only : (cut : Option Cause) → IsTrue (is_one_cut_at_most None cut) → IsTrue (is_one_cut_at_most cut None)
one_cut_only None is = is
one_cut_only (Some Steps) is = is
one_cut_only (Some Targets) is = is
one_cut_only (Some Conflicts) is = is
one_cut_only (Some Nodes) is = is

-- both sides in their order: the sample's is a run
pub sides_of_branch : (budgets : Budgets) (s : Symbolic) (term : ℕ) (side : Bool) (own other : Piece) → IsBranch s term → 1 ≤ budgets.targets
    → IsSide s (branch_choice side) (λ input. is_side side (number_of s.terms term input)) own → IsBranchSide budgets s term (not side) other
    → (p : Program) → IsOpen p s → s.steps < budgets.steps → IsForkOf p budgets s (if side then other ∷ own ∷ [] else own ∷ other ∷ [])
sides_of_branch budgets s term true own other at some is_own is_other p was few =
    let in_fork = is_other p was few in
    two_sides p budgets s other own term in_fork.0 None was at few some (one_cut_only in_fork.0 in_fork.1) in_fork.2
    (side_in p budgets (No ∷ Yes ∷ []) s Yes (yes_test s term) own was few is_own)
sides_of_branch budgets s term false own other at some is_own is_other p was few =
    let in_fork = is_other p was few in
    two_sides p budgets s own other term None in_fork.0 was at few some in_fork.1
    (side_in p budgets (No ∷ Yes ∷ []) s No (no_test s term) own was few is_own) in_fork.2
