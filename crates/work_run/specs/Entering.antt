-- What is entered for a node that was worked.
use Rattle.std.specs.Prelude.{◌≡◌, ℕ, Bool, false}
use Rattle.std.specs.Prelude.{Result, Ok, Err}
use Rattle.std.specs.Global.{Vec}
use Rattle.tree_core.specs.Replays.{kept, with_event}
use Rattle.tree_core.specs.Stories.{Story, content}
use Rattle.tree_core.specs.declared.event.Event.{Event}
use Rattle.tree_core.specs.declared.event.Kid.{Kid}
use Rattle.fork_spec.specs.Histories.{is_release}
use Rattle.fork_spec.specs.Partings.{Place}
use Rattle.fork_tree.specs.Calls.{IsClaim}
use Rattle.fork_tree.specs.Nodes.{StateIs}
use Rattle.fork_tree.specs.Works.{IsWorked, Rules}
use Rattle.fork_tree.specs.declared.content.Content.{Content}
use Rattle.fork_tree.specs.declared.tree.Claim.{Claim}
use Rattle.fork_tree.specs.declared.work.Parts.{Parts}
use Rattle.work_run.specs.Turns.{is_claim}

-- The story has one event more, by which the worker ends its claim of the node: by a release, or
-- not.
pub record IsClaimEnded {R : Type 0} (released : Bool) (by node : ℕ) (s t : Story R) : Type 0 where
  pub event : Event R (Vec (Kid R))
  pub of_worker : event.by ≡ by
  pub of_node : event.node ≡ node
  pub ends : is_claim (kept event).deed ≡ false
  pub is_released : is_release (kept event).deed ≡ released
  pub story : t ≡ with_event s event

module _ {S L : Type 0} where
  -- the parts are what comes of the state that the node holds
  abbrev pub IsResult : Rules S L → (S → Place) → (L → Place) → Story (Content S L) → ℕ →
      Parts S L → Type 0
  IsResult rules state_place leaf_place s node parts =
      (x : S) × StateIs (content s node) x × IsWorked rules state_place leaf_place x parts

  -- The worker ends its claim of the node, and not by a release, and then makes the next claim.
  abbrev pub IsNextClaim : (well : S → Type 0) → (by node : ℕ) → Story (Content S L) →
      Story (Content S L) → Claim S → Type 0
  IsNextClaim well by node s t claim =
      (between : Story (Content S L)) × IsClaimEnded false by node s between
      × IsClaim well between by claim t

-- the first alone of what an answer has, as the claim of what was entered
abbrev pub claim_in : {C R E : Type 0} → Result (C × R) E → Result C E
claim_in (Ok entered) = Ok entered.0
claim_in (Err e) = Err e
