-- A run that goes on until it forks, ends or is cut: what becomes of it then becomes of the run that
-- it was.
use Rattle.std.proofs.Common.{◌≡◌, ℕ, ◌<◌, ◌≤◌, List, [], ◌∷◌, ◌++◌, get_or, refl, ap, subst, ◌∙◌, arith}
use Rattle.std.specs.Global.{Vec}
use Rattle.std.specs.Prelude.{Option, None, Some}
use Rattle.tree_core.specs.Covers.{one_if}
use Rattle.tree_core.specs.declared.budgets.Budgets.{Budgets}
use Rattle.tree_core.specs.declared.cause.Cause.{Cause}
use Rattle.tree_core.specs.declared.cause.Cause.TheVariants.{Steps as StepsSpent}
use Rattle.tree_core.specs.declared.choice.Choice.{Choice}
use Rattle.fork_spec.specs.Parts.{Part}
use Rattle.fork_tree.specs.Contents.{choices_in}
use Rattle.fork_tree.specs.Works.{EndsAs, IsPart, IsRunAt, IsWorked}
use Rattle.fork_tree.specs.declared.content.Content.{Content}
use Rattle.fork_tree.specs.declared.content.Content.TheVariants.{Open, Shut}
use Rattle.fork_tree.specs.declared.work.Parts.{Parts}
use Rattle.fork_tree.specs.declared.work.Parts.TheVariants.{Finished, CutSteps, Kids}
use Rattle.sym_machine.specs.Advancing.{Advances, IsUnderway, StoppedBy}
use Rattle.sym_machine.specs.declared.stepping.Stop.{Stop}
use Rattle.sym_state.specs.Moves.{IsSame, informed}
use Rattle.sym_state.specs.Places.{run_place}
use Rattle.sym_state.specs.Programs.{Program}
use Rattle.sym_state.specs.Runs.{IsOpen, IsSampled, left_to_do}
use Rattle.sym_state.specs.Symbolic.{Symbolic, IsFormed, most_decisions, stands_for}
use Rattle.sym_state.specs.declared.decided.Decided.{Decided}
use Rattle.run_leaves.specs.Places.{IsLeafAt, end_place}
use Rattle.run_sides.specs.Narrowing.{IsForced}
use Rattle.run_sides.proofs.Sides.{GoesOn, goes_settled}
use Rattle.node_split.specs.Rules.{Piece, leaf_place, rules_of}
use Rattle.node_split.specs.Splits.{IsForkOf, IsForked}
use Rattle.node_split.specs.Working.{IsOnward}
use Rattle.node_split.specs.declared.forked.Forked.{Forked}
use Rattle.node_split.specs.declared.forked.Forked.TheVariants.{One, Split}

pub onward_self : (p : Program) (most : ℕ) (s : Symbolic) (stop : Stop) → StoppedBy p most s stop → IsSampled s → IsOnward p most s s stop
onward_self p most s stop is sampled = record {
  stopped = is;
  same = record { same_choices = refl; same_cover = λ input. refl };
  sampled = sampled;
  less = omega arith;
}

-- its sample is still one of its assignments
sampled_along : (t u v : Symbolic) → IsSampled t → u.sample ≡ t.sample → v.sample ≡ u.sample → ((input : List ℕ) → stands_for v input ≡ stands_for t input) → IsSampled v
sampled_along t u v sampled same again covers = ap (stands_for v) (again ∙ same) ∙ covers t.sample ∙ sampled

-- it goes on along the one side of a fork
onward_along : (p : Program) (most : ℕ) (s t u v : Symbolic) (was next : Stop) → IsOnward p most s t was → IsOpen p t → GoesOn t u
    → u.sample ≡ t.sample → Advances most u v next → IsOnward p most s v next
onward_along p most s t u v was next on now goes same far = record {
  stopped = far.stopped p (goes.is_open p now);
  same = record {
    same_choices = far.same.same_choices ∙ goes.choices ∙ on.same.same_choices;
    same_cover = λ input. far.same.same_cover input ∙ goes.covers input ∙ on.same.same_cover input;
  };
  sampled = sampled_along t u v on.sampled same far.sample (λ input. far.same.same_cover input ∙ goes.covers input);
  less = omega (arith, far.less, goes.less, on.less);
}

-- its leaf ends it
pub ends_at : (p : Program) (budgets : Budgets) (cut : Option Cause) (nodes : Option ℕ) (s : Symbolic) (part : Part)
    → IsLeafAt p budgets [] nodes (end_place s cut) part → EndsAs (rules_of p budgets) run_place leaf_place cut nodes s part
ends_at p budgets cut nodes s part is = record { same_choices = is.choices; same_cover = is.covers; right = is.right; cause = is.cut }

-- it has become a leaf
leaf_since : (p : Program) (budgets : Budgets) (cut : Option Cause) (s t : Symbolic) (part : Part) → IsSame s t
    → EndsAs (rules_of p budgets) run_place leaf_place cut None t part
    → EndsAs (rules_of p budgets) run_place leaf_place cut None s part
leaf_since p budgets cut s t part same is = record {
  same_choices = is.same_choices ∙ same.same_choices;
  same_cover = λ input. is.same_cover input ∙ same.same_cover input;
  right = is.right;
  cause = is.cause;
}

part_since : (p : Program) (budgets : Budgets) (less more : ℕ) (sides : List Choice) (kid : Piece)
    (c : Content Symbolic Part) → less ≤ more → IsPart (rules_of p budgets) leaf_place less sides kid c
    → IsPart (rules_of p budgets) leaf_place more sides kid c
part_since p budgets less more sides kid (Open a) within (no_leaf, well, smaller) =
    (no_leaf, well, omega (arith, within, smaller))
part_since p budgets less more sides kid (Shut part) within is = is

-- it has parted
split_since : (p : Program) (budgets : Budgets) (s t : Symbolic) (kids : List Piece) → IsSame s t → left_to_do t ≤ left_to_do s
    → IsForkOf p budgets t kids → IsForkOf p budgets s kids
split_since p budgets s t kids same less is = record {
  shared = λ input. is.shared input ∙ ap one_if (same.same_cover input);
  choices = λ k d within. is.choices k d within ∙ ap (λ cs. cs ++ (get_or kids k d).choice ∷ []) same.same_choices;
  parts = λ k d within.
      part_since p budgets (left_to_do t) (left_to_do s) (choices_in kids) (get_or kids k d) (get_or kids k d).content less
      (is.parts k d within);
  sides = is.sides;
  few = is.few;
  apart = is.apart;
}

-- the run that has parted
run_since : (p : Program) (budgets : Budgets) (s t run : Symbolic) → IsSame s t → IsRunAt (rules_of p budgets) run_place t run
    → IsRunAt (rules_of p budgets) run_place s run
run_since p budgets s t run same is = record {
  same_choices = is.same_choices ∙ same.same_choices;
  same_cover = λ input. is.same_cover input ∙ same.same_cover input;
  well = is.well;
}

-- whatever has become of it
pub worked_since : (p : Program) (budgets : Budgets) (s t : Symbolic) (parts : Parts Symbolic Part) → IsSame s t
    → left_to_do t ≤ left_to_do s → IsWorked (rules_of p budgets) run_place leaf_place t parts
    → IsWorked (rules_of p budgets) run_place leaf_place s parts
worked_since p budgets s t (Finished part) same less is = leaf_since p budgets None s t part same is
worked_since p budgets s t (CutSteps part) same less is = leaf_since p budgets (Some StepsSpent) s t part same is
worked_since p budgets s t (Kids kids run) same less is = (
  split_since p budgets s t kids.items same less is.0,
  run_since p budgets s t run same is.1,
)

-- ---- A run that was stopped at a fork: there is room for a step more, and this is what the fork makes of it.
pub record IsAtFork (p : Program) (budgets : Budgets) (s : Symbolic) (forked : Forked) : Type 0 where
  pub underway : IsUnderway p budgets.steps s
  pub sampled : IsSampled s
  pub goes : IsForked budgets s forked

-- it goes on one way, by a decision of its next step that it is told
module _ (p : Program) (budgets : Budgets) (u : Symbolic) (forked : Forked) (at : IsAtFork p budgets u forked)
    (place : ℕ) (d : Decided) (is : forked ≡ One place d) where
  settled : IsForced u place d
  settled = subst (IsForked budgets u) is at.goes

  pub fork_place : place < most_decisions
  fork_place = settled.in_range

  module _ (formed : IsFormed (informed u place d)) where
    goes : GoesOn u (informed u place d)
    goes = goes_settled u place d formed settled

    pub fork_open : IsOpen p (informed u place d)
    fork_open = goes.is_open p at.underway.is_open

    pub fork_goes : (s v : Symbolic) (was next : Stop) → IsOnward p budgets.steps s u was
        → Advances budgets.steps (informed u place d) v next → IsOnward p budgets.steps s v next
    fork_goes s v was next on far =
        onward_along p budgets.steps s u (informed u place d) v was next on at.underway.is_open goes refl far

    pub fork_smaller : (v : Symbolic) (next : Stop) → Advances budgets.steps (informed u place d) v next
        → left_to_do v < left_to_do u
    fork_smaller v next far = omega (arith, goes.less, far.less)

-- it parts
pub fork_parts : (p : Program) (budgets : Budgets) (u : Symbolic) (forked : Forked) (kids : Vec Piece) → IsAtFork p budgets u forked
    → forked ≡ Split kids → IsWorked (rules_of p budgets) run_place leaf_place u (Kids kids u)
fork_parts p budgets u forked kids at is = (
  subst (IsForked budgets u) is at.goes p at.underway.is_open at.underway.room,
  record {
    same_choices = refl;
    same_cover = λ input. refl;
    well = record { is_open = at.underway.is_open; sampled = at.sampled; room = at.underway.room };
  },
)
