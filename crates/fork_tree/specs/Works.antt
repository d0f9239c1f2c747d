-- What is asked of a worker's states and leaves, and what comes of a state that is worked.
use Rattle.std.specs.Prelude.{◌≡◌, ℕ, ◌+◌, ◌<◌, ◌≤◌, true, false, List, [], ◌∷◌, ◌++◌, All, IsTrue, Option, None, Some, length, map, count_by}
use Rattle.std.specs.Arc.{arc_value}
use Rattle.fork_spec.specs.Decisions.{Decision}
use Rattle.tree_core.specs.Covers.{one_if}
use Rattle.tree_core.specs.declared.cause.Cause.{Cause}
use Rattle.tree_core.specs.declared.cause.Cause.TheVariants.{Nodes, Steps}
use Rattle.tree_core.specs.declared.choice.Choice.{Choice}
use Rattle.tree_core.specs.declared.event.Kid.{Kid}
use Rattle.tree_core.specs.declared.order.Order.{Order}
use Rattle.fork_spec.specs.Partings.{Place}
use Rattle.fork_tree.specs.NodesApart.{AreKidsApart}
use Rattle.fork_spec.specs.Walks.{are_sides}
use Rattle.fork_tree.specs.Written.{IsCutOr, side_of_kid}
use Rattle.fork_tree.specs.Contents.{choices_in, cut_in, place_in}
use Rattle.fork_tree.specs.declared.content.Content.{Content}
use Rattle.fork_tree.specs.declared.content.Content.TheVariants.{Open, Shut}
use Rattle.fork_tree.specs.declared.work.Parts.{Parts}
use Rattle.fork_tree.specs.declared.work.Parts.TheVariants.{Finished, CutSteps, Kids}

-- what is asked of a worker's states and leaves
pub record Rules (S L : Type 0) : Type 1 where
  -- how much work is left on a state
  pub left : S → ℕ
  -- the most values of a term that become kids of one fork
  pub targets : ℕ
  -- from so many nodes on none is parted
  pub nodes : ℕ
  -- which free node is claimed next
  pub order : Order
  -- what the run of an assignment decides, as far as runs go
  pub decides : List ℕ → List Decision
  pub IsWell : S → Type 0
  -- a leaf is right as a side of a fork with these choices, of none where it is no kid, and where there were so many nodes when
  -- it was cut for want of them, if it was
  pub IsRight : List Choice → Option ℕ → L → Type 0

-- how many nodes there were when a leaf was cut for this cause, if it was for want of them
abbrev pub nodes_at : Option Cause → ℕ → Option ℕ
nodes_at (Some Nodes) count = Some count
nodes_at _ count = None

module _ {S L : Type 0} where
  -- a leaf at the place of the state: it is right as no kid's, and was cut for this cause, if for one, where there were so many
  -- nodes, if for want of them
  pub record EndsAs (rules : Rules S L) (state_place : S → Place) (leaf_place : L → Place)
      (cut : Option Cause) (nodes : Option ℕ) (s : S) (l : L) : Type 0 where
    pub same_choices : (leaf_place l).choices ≡ (state_place s).choices
    pub same_cover : (input : List ℕ) → (leaf_place l).covers input ≡ (state_place s).covers input
    pub right : rules.IsRight [] nodes l
    pub cause : (leaf_place l).cut ≡ cut

  -- a state that is well with less work left, or a leaf that is right beside these choices, and was cut
  abbrev pub IsPart : Rules S L → (L → Place) → (limit : ℕ) → List Choice → Kid (Content S L)
      → Content S L → Type 0
  IsPart rules leaf_place limit choices kid (Open a) = (kid.is_leaf ≡ false) × rules.IsWell (arc_value a)
      × (rules.left (arc_value a) < limit)
  IsPart rules leaf_place limit choices kid (Shut l) = (kid.is_leaf ≡ true)
      × rules.IsRight choices None l × IsCutOr true (leaf_place l).cut

  -- kids that share out what the state stands for, each on its side, and part by a decision
  pub record IsSplit (rules : Rules S L) (state_place : S → Place) (leaf_place : L → Place) (s : S)
      (kids : List (Kid (Content S L))) : Type 0 where
    pub shared : (input : List ℕ)
        → count_by (λ (kid : Kid (Content S L)).
        (place_in state_place leaf_place kid.content).covers input) kids
        ≡ one_if ((state_place s).covers input)
    pub choices : All (λ (kid : Kid (Content S L)).
        (place_in state_place leaf_place kid.content).choices
        ≡ (state_place s).choices ++ kid.choice ∷ []) kids
    pub parts : All (λ (kid : Kid (Content S L)). IsPart rules leaf_place (rules.left s)
        (choices_in kids) kid kid.content) kids
    pub sides : IsTrue (are_sides rules.targets (map (side_of_kid (cut_in state_place leaf_place)) kids))
    pub few : length kids ≤ rules.targets + 1
    pub apart : AreKidsApart (place_in state_place leaf_place) rules.decides kids

  -- the run that parts into the kids: it is well, at the place of the state
  pub record IsRunAt (rules : Rules S L) (state_place : S → Place) (s run : S) : Type 0 where
    pub same_choices : (state_place run).choices ≡ (state_place s).choices
    pub same_cover : (input : List ℕ) → (state_place run).covers input ≡ (state_place s).covers input
    pub well : rules.IsWell run

  -- a leaf, or kids with the run that parts into them
  abbrev pub IsWorked : Rules S L → (S → Place) → (L → Place) → S → Parts S L → Type 0
  IsWorked rules state_place leaf_place s (Finished l) =
      EndsAs rules state_place leaf_place None None s l
  IsWorked rules state_place leaf_place s (CutSteps l) =
      EndsAs rules state_place leaf_place (Some Steps) None s l
  IsWorked rules state_place leaf_place s (Kids kids run) =
      IsSplit rules state_place leaf_place s kids.items × IsRunAt rules state_place s run
