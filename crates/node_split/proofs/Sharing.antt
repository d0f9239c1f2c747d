-- A run on one side of a fork: what it stands for, and where it stands.
use Rattle.std.proofs.Common.{◌≡◌, ◌≢◌, ℕ, ◌+◌, ◌<◌, Bool, true, false, ◌&&◌, cond, List, [], ◌∷◌, ◌++◌, refl, sym, ap, ◌∙◌, subst, arith}
use Rattle.std.specs.Prelude.{IsTrue, Option, None, Some, if◌then◌else◌, count_by}
use Rattle.std.proofs.lemmas.List.Sums.{sum_by-cons}
use Rattle.std.proofs.lemmas.Bool.{and_parts}
use Rattle.fork_spec.specs.Decisions.{Decision}
use Rattle.tree_core.specs.Covers.{one_if}
use Rattle.tree_core.specs.declared.budgets.Budgets.{Budgets}
use Rattle.tree_core.specs.declared.cause.Cause.{Cause}
use Rattle.tree_core.specs.declared.choice.Choice.{Choice}
use Rattle.fork_spec.specs.Partings.{Place, IsOnSide}
use Rattle.fork_spec.specs.Parts.{Part}
use Rattle.fork_spec.specs.Walks.{Side}
use Rattle.fork_tree.specs.Written.{IsCutOr, side_of_kid}
use Rattle.fork_tree.specs.Contents.{cut_in}
use Rattle.fork_tree.specs.Works.{IsPart}
use Rattle.fork_tree.specs.declared.content.Content.{Content}
use Rattle.fork_tree.specs.declared.content.Content.TheVariants.{Open, Shut}
use Rattle.sym_state.specs.Places.{run_place}
use Rattle.sym_state.specs.Programs.{Program}
use Rattle.sym_state.specs.Runs.{IsOpen, left_to_do}
use Rattle.sym_state.specs.Symbolic.{Symbolic, stands_for}
use Rattle.run_leaves.specs.Places.{IsLeafAt, side_place}
use Rattle.node_split.specs.Rules.{IsWorkable, Piece, content_place, leaf_place, rules_of}
use Rattle.node_split.specs.Splits.{HoldsRun, IsSide, IsSideIn, leaf_side}
use Rattle.node_split.proofs.Apart.{AreTwoSides, IsOnFork}

held : (c : Content Symbolic Part) (run : Symbolic) → HoldsRun c run
    → content_place c ≡ run_place run
held (Open a) run is = ap run_place is
held (Shut part) run is = absurd is

-- it stands for what the run stands for and passes its test
pub side-covers : (s : Symbolic) (choice : Choice) (test : List ℕ → Bool)
    (kid : Piece) → IsSide s choice test kid → (input : List ℕ)
    → (content_place kid.content).covers input ≡ (stands_for s input && test input)
side-covers s choice test kid side input =
    ap (λ (q : Place). q.covers input) (held kid.content side.run side.on.holds)
    ∙ side.narrower.covers input

pub side-choices : (s : Symbolic) (choice : Choice) (test : List ℕ → Bool)
    (kid : Piece) → IsSide s choice test kid
    → (content_place kid.content).choices ≡ s.choices ++ kid.choice ∷ []
side-choices s choice test kid side =
    ap (λ (q : Place). q.choices) (held kid.content side.run side.on.holds)
    ∙ side.narrower.choices ∙ ap (λ c. s.choices ++ c ∷ []) (sym side.on.choice)

pub side_on_fork : (s : Symbolic) (choice : Choice) (test : List ℕ → Bool)
    (decision : List ℕ → Decision) (kid : Piece) → IsSide s choice test kid
    → ((input : List ℕ) → test input ≡ true → IsOnSide choice (decision input))
    → IsOnFork s decision kid
side_on_fork s choice test decision kid side on = record {
  choices = side-choices s choice test kid side;
  stands = λ input covered. (and_parts (stands_for s input) (test input) (sym (side-covers s choice test kid side input) ∙ covered)).0;
  on_side = λ input covered. subst (λ c. IsOnSide c (decision input)) (sym side.on.choice)
      (on input (and_parts (stands_for s input) (test input) (sym (side-covers s choice test kid side input) ∙ covered)).1);
}

-- its test holds on what it stands for
pub side_passes : (s : Symbolic) (choice : Choice) (test : List ℕ → Bool)
    (kid : Piece) → IsSide s choice test kid → (input : List ℕ)
    → IsTrue ((content_place kid.content).covers input) → test input ≡ true
side_passes s choice test kid side input covered = (and_parts (stands_for s input) (test input) (sym (side-covers s choice test kid side input) ∙ covered)).1

-- two of them
pub two_runs : (s : Symbolic) (decision : List ℕ → Decision) (c d : Choice)
    (one_test other_test : List ℕ → Bool) (one other : Piece)
    → IsSide s c one_test one → IsSide s d other_test other → c ≢ d
    → ((a b : List ℕ) → one_test a ≡ true → other_test b ≡ true → decision a ≢ decision b)
    → AreTwoSides decision one other
two_runs s decision c d one_test other_test one other is_one is_other differ decides = record {
  choices = λ is. differ (sym is_one.on.choice ∙ is ∙ is_other.on.choice);
  decisions = λ a b on_a on_b. decides a b (side_passes s c one_test one is_one a on_a) (side_passes s d other_test other is_other b on_b);
}

-- it is a run with less to do
held_part : (p : Program) (budgets : Budgets) (limit : ℕ) (sides : List Choice) (kid : Piece)
    (c : Content Symbolic Part) (run : Symbolic) → HoldsRun c run → kid.is_leaf ≡ false
    → IsWorkable p budgets run → left_to_do run < limit
    → IsPart (rules_of p budgets) leaf_place limit sides kid c
held_part p budgets limit sides kid (Open a) run is no_leaf well less =
    (no_leaf, subst (IsWorkable p budgets) (sym is) well, subst (λ (r : Symbolic). left_to_do r < limit) (sym is) less)
held_part p budgets limit sides kid (Shut part) run is no_leaf well less = absurd is

pub side_part : (p : Program) (budgets : Budgets) (sides : List Choice) (s : Symbolic)
    (choice : Choice) (test : List ℕ → Bool) (kid : Piece) → IsOpen p s → s.steps < budgets.steps
    → IsSide s choice test kid
    → IsPart (rules_of p budgets) leaf_place (left_to_do s) sides kid kid.content
side_part p budgets sides s choice test kid was few side =
    held_part p budgets (left_to_do s) sides kid kid.content side.run side.on.holds side.on.no_leaf
    (record { is_open = side.narrower.is_open p was; sampled = side.sampled; room = omega (arith, few, side.narrower.steps) }) side.narrower.less

-- as a side it isn't cut
pub side_form : (s : Symbolic) (choice : Choice) (test : List ℕ → Bool) (kid : Piece)
    → IsSide s choice test kid
    → side_of_kid (cut_in run_place leaf_place) kid ≡ record { choice = choice; cut = None }
side_form s choice test kid side =
    ap {B = Side} (λ b. record { choice = kid.choice; cut = if b then cut_in run_place leaf_place kid.content else None }) side.on.no_leaf
    ∙ ap {B = Side} (λ c. record { choice = c; cut = None }) side.on.choice

-- a side that is a run is one of each program's fork
pub side_in : (p : Program) (budgets : Budgets) (sides : List Choice) (s : Symbolic) (choice : Choice) (test : List ℕ → Bool) (kid : Piece)
    → IsOpen p s → s.steps < budgets.steps → IsSide s choice test kid → IsSideIn p budgets sides s choice None test kid
side_in p budgets sides s choice test kid was few side = record {
  same = side.on.choice;
  placed = side-choices s choice test kid side ∙ ap (λ c. s.choices ++ c ∷ []) side.on.choice;
  covers = side-covers s choice test kid side;
  part = side_part p budgets sides s choice test kid was few side;
  form = side_form s choice test kid side;
}

-- a side that is a leaf is one of the program's fork
pub leaf_in : (p : Program) (budgets : Budgets) (sides : List Choice) (s : Symbolic) (choice : Choice) (cause : Cause) (test : List ℕ → Bool) (part : Part)
    → IsLeafAt p budgets sides None (side_place s choice test cause) part
    → IsSideIn p budgets sides s choice (Some cause) test (leaf_side choice part)
leaf_in p budgets sides s choice cause test part is = record {
  same = refl;
  placed = is.choices;
  covers = is.covers;
  part = (refl, is.right, subst (IsCutOr true) (sym is.cut) tt);
  form = ap {B = Side} (λ c. record { choice = choice; cut = c }) is.cut;
}

-- ---- A side of a fork, whether it is a run or a leaf.
module _ (p : Program) (budgets : Budgets) (sides : List Choice) (s : Symbolic) (choice : Choice) (cut : Option Cause) (test : List ℕ → Bool) (kid : Piece)
    (side : IsSideIn p budgets sides s choice cut test kid) where
  pub passed_in : (input : List ℕ) → IsTrue ((content_place kid.content).covers input) → (stands_for s input ≡ true) × (test input ≡ true)
  passed_in input covered = and_parts (stands_for s input) (test input) (sym (side.covers input) ∙ covered)

  pub placed_in : (content_place kid.content).choices ≡ s.choices ++ kid.choice ∷ []
  placed_in = side.placed ∙ ap (λ c. s.choices ++ c ∷ []) (sym side.same)

  pub on_fork_in : (decision : List ℕ → Decision) → ((input : List ℕ) → test input ≡ true → IsOnSide choice (decision input)) → IsOnFork s decision kid
  on_fork_in decision on = record {
    choices = placed_in;
    stands = λ input covered. (passed_in input covered).0;
    on_side = λ input covered. subst (λ c. IsOnSide c (decision input)) (sym side.same) (on input (passed_in input covered).1);
  }

pub two_in : (p : Program) (budgets : Budgets) (sides : List Choice) (s : Symbolic) (decision : List ℕ → Decision) (c d : Choice)
    (one_cut other_cut : Option Cause) (one_test other_test : List ℕ → Bool) (one other : Piece)
    → IsSideIn p budgets sides s c one_cut one_test one → IsSideIn p budgets sides s d other_cut other_test other → c ≢ d
    → ((a b : List ℕ) → one_test a ≡ true → other_test b ≡ true → decision a ≢ decision b)
    → AreTwoSides decision one other
two_in p budgets sides s decision c d one_cut other_cut one_test other_test one other is_one is_other differ decides = record {
  choices = λ is. differ (sym is_one.same ∙ is ∙ is_other.same);
  decisions = λ a b on_a on_b. decides a b (passed_in p budgets sides s c one_cut one_test one is_one a on_a).1 (passed_in p budgets sides s d other_cut other_test other is_other b on_b).1;
}

-- how many stand for an assignment
as_one : (b : Bool) → cond b 1 0 ≡ one_if b
as_one true = refl
as_one false = refl

pub count-cons : (input : List ℕ) (k : Piece) (ks : List Piece)
    → count_by (λ (k : Piece). (content_place k.content).covers input) (k ∷ ks) ≡ one_if ((content_place k.content).covers input) + count_by (λ (k : Piece). (content_place k.content).covers input) ks
count-cons input k ks =
    sum_by-cons (λ (k : Piece). cond ((content_place k.content).covers input) 1 0) k ks
    ∙ ap (λ n. n + count_by (λ (k : Piece). (content_place k.content).covers input) ks) (as_one ((content_place k.content).covers input))
