-- What a worker knows of the tree between two of its turns.
use Rattle.std.specs.Prelude.{◌≡◌, ◌++◌, ◌∷◌, ◌<◌, ℕ, Bool, false, true, List, [], length}
use Rattle.std.specs.Arc.{arc_value}
use Rattle.tree_core.specs.Replays.{kept}
use Rattle.tree_core.specs.Stories.{Story, content, status}
use Rattle.tree_core.specs.declared.event.Event.{Event}
use Rattle.tree_core.specs.Nodes.{Node}
use Rattle.tree_core.specs.declared.node.Status.TheVariants.{Held}
use Rattle.fork_spec.specs.Histories.{is_release}
use Rattle.fork_spec.specs.Partings.{Place}
use Rattle.fork_tree.specs.Calls.{IsQuiet, claim_event}
use Rattle.fork_tree.specs.Nodes.{StateIs}
use Rattle.fork_tree.specs.Works.{Rules}
use Rattle.fork_tree.specs.declared.content.Content.{Content}
use Rattle.fork_tree.specs.declared.tree.Claim.{Claim}
use Rattle.fork_tree.specs.declared.tree.Claim.TheVariants.{Claimed, Nothing, Quiet}
use Rattle.fork_tree.specs.declared.work.Parts.{Parts}
use Rattle.turn_lock.specs.Growth.{StartsWith, by_number}
use Rattle.turn_lock.specs.Passes.{IsSamePass}
use Rattle.turn_lock.specs.declared.known.Known.{Known}
use Rattle.work_run.specs.Entering.{IsResult}
use Rattle.work_run.specs.Turns.{GoesOnByEntered, GoesOnByTurns, are_turns, is_claim}

-- what a pass knows of a tree whose nodes have such contents
abbrev pub KnownOf : Type 0 → Type 0 → Type 0
KnownOf F R = Known F (Node R) (Event R ℕ)

module _ {F R : Type 0} where
  -- the tree as a pass saw it last
  abbrev pub story_of : KnownOf F R → Story R
  story_of v = record { nodes = v.nodes; events = v.events }

  -- the second has seen what the first had, and maybe more
  abbrev pub SeesMore : KnownOf F R → KnownOf F R → Type 0
  SeesMore v w = StartsWith w.nodes v.nodes × StartsWith w.events v.events

  -- the pass hasn't the turn, and the tree came to its lock with no event
  abbrev pub IsAtRest : KnownOf F R → Type 0
  IsAtRest v = (v.has_turn ≡ false) × (v.opened ≡ 0)

  -- a pass, and the same one after some turns of its worker
  pub record IsLater (v w : KnownOf F R) : Type 0 where
    pub same : IsSamePass v w
    pub turn : w.has_turn ≡ false
    pub seen : SeesMore v w

-- The worker holds the node in the story, where its own events are all that are of its number.
pub record HoldsNode {R : Type 0} (s : Story R) (own : List (Event R ℕ))
    (by node : ℕ) : Type 0 where
  pub there : node < length s.nodes
  pub held : status s node ≡ Held by
  pub own_all : by_number (λ (e : Event R ℕ). e.by) by s.events ≡ own

-- The list goes on by events that, behind a claim of the node, are turns of work.
abbrev pub EndsByTurns : {R : Type 0} → ℕ → List (Event R ℕ) → List (Event R ℕ) → Type 0
EndsByTurns {R} node old new =
    (es : List (Event R ℕ)) × (new ≡ old ++ es)
    × ((claim : Event R ℕ) → is_claim claim.deed ≡ true → claim.node ≡ node →
    are_turns (claim ∷ es) ≡ true)

-- The list goes on with one event, which ends a claim of the node: by a release, or not.
pub record EndsClaim {R : Type 0} (released : Bool) (node : ℕ)
    (old new : List (Event R ℕ)) : Type 0 where
  pub event : Event R ℕ
  pub goes : new ≡ old ++ event ∷ []
  pub of_node : event.node ≡ node
  pub ends : is_claim event.deed ≡ false
  pub is_released : is_release event.deed ≡ released

module _ {S L : Type 0} where
  -- the claim was given up: a node that it got was released, and else no event was noted
  abbrev pub GivesUp : Claim S → List (Event (Content S L) ℕ) → List (Event (Content S L) ℕ) →
      Type 0
  GivesUp (Claimed m a) old new = EndsClaim true m old new
  GivesUp Nothing old new = new ≡ old
  GivesUp Quiet old new = new ≡ old

  module _ {F : Type 0} where
    -- the worker holds the node, which has this state, and the state is well
    abbrev pub HasClaim : Rules S L → KnownOf F (Content S L) → ℕ → S → Type 0
    HasClaim rules v node x =
        HoldsNode (story_of v) v.own v.number node × StateIs (content (story_of v) node) x ×
        rules.IsWell x

    -- the worker holds the node, and these parts are what comes of its state
    abbrev pub HasResult : Rules S L → (S → Place) → (L → Place) → KnownOf F (Content S L) → ℕ →
        Parts S L → Type 0
    HasResult rules state_place leaf_place v node parts =
        HoldsNode (story_of v) v.own v.number node ×
        IsResult rules state_place leaf_place (story_of v) node parts

    -- What a worker with these own events got by a claim: a node that it holds now; or no event was
    -- noted, where some nodes are held but none is free, or the tree is quiet.
    abbrev pub IsClaimed : Rules S L → List (Event (Content S L) ℕ) → KnownOf F (Content S L) →
        Claim S → Type 0
    IsClaimed rules own w (Claimed m a) =
        HasClaim rules w m (arc_value a) × (w.own ≡ own ++ kept (claim_event w.number m) ∷ [])
    IsClaimed rules own w Nothing = w.own ≡ own
    IsClaimed rules own w Quiet = (w.own ≡ own) × IsQuiet (story_of w)

    -- The claim of the node was ended, and not by a release, and then the next claim made.
    abbrev pub EndsAndClaims : Rules S L → ℕ → List (Event (Content S L) ℕ) →
        KnownOf F (Content S L) → Claim S → Type 0
    EndsAndClaims rules node old w next =
        (own : List (Event (Content S L) ℕ)) × EndsClaim false node old own
        × IsClaimed rules own w next

    -- The pass's own events go on by turns of work, of which none ends by a release, and then by
    -- the claim that the worker has.
    abbrev pub GoesOnToClaim : Rules S L → List (Event (Content S L) ℕ) →
        KnownOf F (Content S L) → Claim S → Type 0
    GoesOnToClaim rules old w claim =
        (own : List (Event (Content S L) ℕ)) × GoesOnByEntered old own
        × IsClaimed rules own w claim

    -- from where a list goes on to the one claim, it goes on to the next
    abbrev pub CarriesOn : Rules S L → KnownOf F (Content S L) → Claim S →
        KnownOf F (Content S L) → Claim S → Type 0
    CarriesOn rules v claim w next =
        (old : List (Event (Content S L) ℕ)) → GoesOnToClaim rules old v claim →
        GoesOnToClaim rules old w next

    -- from where a list goes on to the claim, it has gone on by turns of work
    abbrev pub StopsBehind : Rules S L → KnownOf F (Content S L) → Claim S →
        KnownOf F (Content S L) → Type 0
    StopsBehind rules v claim w =
        (old : List (Event (Content S L) ℕ)) → GoesOnToClaim rules old v claim →
        GoesOnByTurns old w.own
