-- What the calls of a tree ask for and answer, and the events that they note.
use Rattle.std.specs.Prelude.{◌≡◌, ◌≢◌, ℕ, ◌+◌, ◌<◌, ◌≤◌, ◌⊎◌, if◌then◌else◌, false, All, List, [], None, Option, Some, count_by, length}
use Rattle.std.specs.Global.{Vec}
use Rattle.std.specs.Arc.{arc_value}
use Rattle.tree_core.specs.Covers.{one_if}
use Rattle.tree_core.specs.Stories.{Story, status, content}
use Rattle.tree_core.specs.Replays.{with_event, opening}
use Rattle.tree_core.specs.Cores.{held_count}
use Rattle.tree_core.specs.declared.cause.Cause.{Cause}
use Rattle.tree_core.specs.declared.cause.Cause.TheVariants.{Nodes, Steps}
use Rattle.tree_core.specs.declared.event.Event.{Event}
use Rattle.tree_core.specs.declared.event.Deed.TheVariants.{Claim as ClaimIt, Split, Finish, Cut, Release}
use Rattle.tree_core.specs.declared.event.Kid.{Kid}
use Rattle.tree_core.specs.declared.node.Status.TheVariants.{Free, Held, Leaf}
use Rattle.fork_spec.specs.Partings.{Place}
use Rattle.fork_tree.specs.NodesApart.{KeepsApart}
use Rattle.fork_tree.specs.Written.{IsInForm}
use Rattle.fork_tree.specs.Contents.{choices_in, cut_in, place_in}
use Rattle.fork_tree.specs.Nodes.{HoldsFor, StateIs}
use Rattle.fork_tree.specs.Trees.{choices_at, covers_at}
use Rattle.fork_tree.specs.Works.{IsRunAt, IsSplit, IsWorked, Rules, nodes_at}
use Rattle.fork_tree.specs.declared.content.Content.{Content}
use Rattle.fork_tree.specs.declared.content.Content.TheVariants.{Shut}
use Rattle.fork_tree.specs.declared.tree.Claim.{Claim}
use Rattle.fork_tree.specs.declared.tree.Claim.TheVariants.{Claimed, Nothing, Quiet}
use Rattle.fork_tree.specs.declared.work.Parts.{Parts}
use Rattle.fork_tree.specs.declared.work.Parts.TheVariants.{CutSteps, Finished, Kids}

module _ {R : Type 0} where
  abbrev pub NoneFree : Story R → Type 0
  NoneFree s = (m : ℕ) → m < length s.nodes → status s m ≢ Free

  -- no node is free or held
  abbrev pub IsQuiet : Story R → Type 0
  IsQuiet s = NoneFree s × (held_count s ≡ 0)

module _ {S L : Type 0} where
  abbrev pub claim_event : ℕ → ℕ → Event (Content S L) (Vec (Kid (Content S L)))
  claim_event by node = record { by = by; node = node; deed = ClaimIt }

  abbrev pub split_event : ℕ → ℕ → Vec (Kid (Content S L))
      → Event (Content S L) (Vec (Kid (Content S L)))
  split_event by node kids = record { by = by; node = node; deed = Split kids }

  abbrev pub finish_event : ℕ → ℕ → L → Event (Content S L) (Vec (Kid (Content S L)))
  finish_event by node leaf = record { by = by; node = node; deed = Finish (Shut leaf) }

  abbrev pub cut_event : ℕ → ℕ → L → Event (Content S L) (Vec (Kid (Content S L)))
  cut_event by node leaf = record { by = by; node = node; deed = Cut (Shut leaf) }

  abbrev pub release_event : ℕ → ℕ → Event (Content S L) (Vec (Kid (Content S L)))
  release_event by node = record { by = by; node = node; deed = Release }

  -- one free node, with this state
  abbrev pub IsOpening : S → Story (Content S L) → Type 0
  IsOpening root s = (c : Content S L) × (s ≡ opening c false) × StateIs (Some c) root

  -- what a claim of this worker answers, and what it makes of the story: a free node with its
  -- state, which is well, is now held; or nothing has changed, where no node is free, and some are
  -- held or none
  abbrev pub IsClaim : (well : S → Type 0) → Story (Content S L) → (by : ℕ) → Claim S →
      Story (Content S L) → Type 0
  IsClaim well s by (Claimed m a) t =
      (m < length s.nodes) × (status s m ≡ Free) × StateIs (content s m) (arc_value a)
      × well (arc_value a) × (t ≡ with_event s (claim_event by m))
  IsClaim well s by Nothing t = NoneFree s × (0 < held_count s) × (t ≡ s)
  IsClaim well s by Quiet t = IsQuiet s × (t ≡ s)

  -- Kids may come in the place of a node, which the worker holds: they share out what it stands for;
  -- they are sides of its fork, at the choices that lead there; they part by a decision; and each is
  -- a state that is well, or a leaf that is right beside them.
  pub record IsSplitFit (rules : Rules S L) (state_place : S → Place) (leaf_place : L → Place)
      (s : Story (Content S L)) (by node : ℕ) (kids : Vec (Kid (Content S L))) : Type 0 where
    pub there : node < length s.nodes
    pub held : status s node ≡ Held by
    pub old : Content S L
    pub is_old : content s node ≡ Some old
    pub shared : (input : List ℕ) →
        count_by (λ (kid : Kid (Content S L)). covers_at state_place leaf_place kid.content input)
        kids.items
        ≡ one_if (covers_at state_place leaf_place old input)
    pub in_form : IsInForm (choices_at state_place leaf_place) (cut_in state_place leaf_place) rules.targets
        old (Split kids)
    pub apart : KeepsApart (place_in state_place leaf_place) rules.decides old (Split kids)
    pub parts : All (λ (kid : Kid (Content S L)). HoldsFor rules.IsWell
        (rules.IsRight (choices_in kids.items) None) (if kid.is_leaf then Leaf else Free)
        (Some kid.content)) kids.items
    pub few : length kids.items ≤ rules.targets + 1
    pub not_full : length s.nodes < rules.nodes

  -- A leaf may come in the place of a node, which the worker holds: it has the same place, is right
  -- as no kid's, and was cut for this cause, if for one.
  pub record IsEndFit (rules : Rules S L) (state_place : S → Place) (leaf_place : L → Place)
      (cut : Option Cause) (s : Story (Content S L)) (by node : ℕ) (leaf : L) : Type 0 where
    pub there : node < length s.nodes
    pub held : status s node ≡ Held by
    pub old : Content S L
    pub is_old : content s node ≡ Some old
    pub same_choices : (leaf_place leaf).choices ≡ choices_at state_place leaf_place old
    pub same_cover : (input : List ℕ) →
        (leaf_place leaf).covers input ≡ covers_at state_place leaf_place old input
    pub right : rules.IsRight [] (nodes_at cut (length s.nodes)) leaf
    pub cause : (leaf_place leaf).cut ≡ cut

  -- A node, which the worker holds, may be parted into the kids, or cut in the place of the run: they are what comes of its state.
  pub record IsPartFit (rules : Rules S L) (state_place : S → Place) (leaf_place : L → Place)
      (s : Story (Content S L)) (by node : ℕ) (kids : List (Kid (Content S L))) (run : S)
      : Type 0 where
    pub there : node < length s.nodes
    pub held : status s node ≡ Held by
    pub state : S
    pub is_state : StateIs (content s node) state
    pub split : IsSplit rules state_place leaf_place state kids
    pub run_at : IsRunAt rules state_place state run

  -- the kids have come in the place of a node, or a leaf
  abbrev pub IsParted : Story (Content S L) → (by node : ℕ) → Vec (Kid (Content S L))
      → Story (Content S L) → Type 0
  IsParted s by node kids t = (t ≡ with_event s (split_event by node kids))
      ⊎ ((leaf : L) × (t ≡ with_event s (cut_event by node leaf)))

  -- Parts may be entered for a node, which the worker holds: they are what comes of its state.
  pub record IsEnterFit (rules : Rules S L) (state_place : S → Place) (leaf_place : L → Place)
      (s : Story (Content S L)) (by node : ℕ) (parts : Parts S L) : Type 0 where
    pub there : node < length s.nodes
    pub held : status s node ≡ Held by
    pub state : S
    pub is_state : StateIs (content s node) state
    pub worked : IsWorked rules state_place leaf_place state parts

  -- what is entered of parts: their leaf, or their kids, or a leaf in the place of these
  abbrev pub IsEntered : Story (Content S L) → (by node : ℕ) → Parts S L → Story (Content S L)
      → Type 0
  IsEntered s by node (Finished leaf) t = t ≡ with_event s (finish_event by node leaf)
  IsEntered s by node (CutSteps leaf) t = t ≡ with_event s (cut_event by node leaf)
  IsEntered s by node (Kids kids run) t = IsParted s by node kids t

-- a run is cut so, as no side of a fork: its steps are spent, or there are as many nodes as there may be
abbrev pub MayCut : (most nodes : ℕ) → Cause → Type 0
MayCut most nodes Steps = Unit {0}
MayCut most nodes Nodes = most ≤ nodes
MayCut most nodes _ = ⊥
