-- What a turn makes of what a pass knows.
use Rattle.std.proofs.Common.{◌≡◌, ℕ, ◌+◌, ◌<◌, ◌≤◌, Bool, true, false, List, [], ◌∷◌, ◌++◌, drop, length, sym, refl, ap, ◌∙◌, subst, arith, length-append}
use Rattle.std.specs.Arc.{arc_value}
use Rattle.std.specs.Global.{Vec}
use Rattle.tree_core.specs.Replays.{Replays, kept, with_event}
use Rattle.tree_core.specs.Stories.{Story, content, status}
use Rattle.tree_core.specs.declared.event.Event.{Event}
use Rattle.tree_core.specs.declared.event.Kid.{Kid}
use Rattle.tree_core.specs.declared.node.Status.TheVariants.{Held}
use Rattle.fork_spec.specs.Histories.{is_release}
use Rattle.fork_tree.specs.Calls.{IsClaim, IsQuiet, claim_event}
use Rattle.fork_tree.specs.Drains.{GrowsBy}
use Rattle.fork_tree.specs.Works.{Rules}
use Rattle.fork_tree.specs.declared.content.Content.{Content}
use Rattle.fork_tree.specs.declared.tree.Claim.{Claim}
use Rattle.fork_tree.specs.declared.tree.Claim.TheVariants.{Claimed, Nothing, Quiet}
use Rattle.fork_tree.proofs.Entering.{claimed-state, claimed-status}
use Rattle.turn_lock.specs.Growth.{StartsWith, by_number}
use Rattle.turn_lock.proofs.Growths.{by_same, drop_seam, drop_whole, starts_trans}
use Rattle.std.proofs.lemmas.List.{append-nil}
use Rattle.std.proofs.lemmas.List.Elements.{filter-append}
use Rattle.work_run.specs.Seen.{KnownOf, EndsClaim, HoldsNode, IsClaimed, IsLater, story_of}
use Rattle.work_run.specs.Turns.{is_claim}
use Rattle.work_run.proofs.Claims.{stays_held}
use Rattle.work_run.proofs.Numbers.{events_by}

module _ {F R : Type 0} where
  -- a pass that was handed the story s and gave back t
  abbrev pub passed : KnownOf F R → Story R → Story R → KnownOf F R
  passed v s t = record v {
    has_turn = false;
    nodes = t.nodes;
    events = t.events;
    own = v.own ++ drop (length s.events) t.events;
  }

  -- what the lock says of the story s that it hands out, where it opened with no event
  pub record IsHanded (v : KnownOf F R) (s : Story R) : Type 0 where
    pub nodes : StartsWith s.nodes v.nodes
    pub events : StartsWith s.events v.events
    pub own : by_number (λ (e : Event R ℕ). e.by) v.number s.events ≡ v.own

  module _ (v : KnownOf F R) (s t : Story R) (handed : IsHanded v s)
      (grows : GrowsBy v.number s t) where
    pub own-passed : (passed v s t).own ≡ v.own ++ grows.1
    own-passed =
        ap (λ l. v.own ++ drop (length s.events) l) grows.3
        ∙ ap (λ l. v.own ++ l) (drop_seam s.events grows.1)

    pub later-passed : IsLater v (passed v s t)
    later-passed = record {
      same = record { fixed = refl; number = refl; opened = refl; made = refl; ended = refl };
      turn = refl;
      seen = (
        starts_trans v.nodes s.nodes t.nodes handed.nodes (grows.0, grows.2),
        starts_trans v.events s.events t.events handed.events (grows.1, grows.3),
      );
    }

    pub all-passed : by_number (λ (e : Event R ℕ). e.by) v.number t.events ≡ (passed v s t).own
    all-passed =
        ap (events_by v.number) grows.3
        ∙ filter-append (λ (e : Event R ℕ). Rattle.std.proofs.Common.eqb e.by v.number) s.events
        grows.1
        ∙ (λ i. handed.own i ++ by_same (λ (e : Event R ℕ). e.by) v.number grows.1 grows.4 i)
        ∙ sym own-passed

  -- a turn in which nothing was done
  pub same-passed : (v : KnownOf F R) (s t : Story R) → t ≡ s → (passed v s t).own ≡ v.own
  same-passed v s t is =
      ap (λ (x : Story R). v.own ++ drop (length s.events) x.events) is
      ∙ (ap (λ l. v.own ++ l) (drop_whole s.events) ∙ append-nil v.own)

  -- who holds a node holds it when the story is handed out again
  pub held-handed : (covers : R → List ℕ → Bool) (by_nodes : R → Bool) (most : ℕ) (v : KnownOf F R) (s : Story R) (node : ℕ) →
      Replays covers by_nodes most s → IsHanded v s → HoldsNode (story_of v) v.own v.number node →
      (node < length s.nodes) × (status s node ≡ Held v.number)
      × (content s node ≡ content (story_of v) node)
  held-handed covers by_nodes most v s node replays handed holds =
      let stays =
      stays_held covers by_nodes most (story_of v) s handed.nodes.0 handed.events.0 node v.number replays
      handed.nodes.1 handed.events.1 (handed.own ∙ sym holds.own_all) holds.there holds.held in
      let long : length s.nodes ≡ length v.nodes + length handed.nodes.0 =
      ap length handed.nodes.1 ∙ length-append v.nodes handed.nodes.0 in
      let low : node < length v.nodes = holds.there in (
        within node (length v.nodes) (length handed.nodes.0) (length s.nodes) low long,
        stays.0,
        stays.1,
      )
    where
      within : (m a b c : ℕ) → m < a → c ≡ a + b → m < c
      within m a b c x y = omega arith

  -- a turn in which a claim was ended
  pub ends-passed : (released : Bool) (v : KnownOf F R) (s t : Story R) (node : ℕ)
      (e : Event R (Vec (Kid R))) → t ≡ with_event s e → e.node ≡ node →
      is_claim (kept e).deed ≡ false → is_release (kept e).deed ≡ released →
      EndsClaim released node v.own (passed v s t).own
  ends-passed released v s t node e is at ends how = record {
    event = kept e;
    goes = ap (λ (x : Story R). v.own ++ drop (length s.events) x.events) is
        ∙ ap (λ l. v.own ++ l) (drop_seam s.events (kept e ∷ []));
    of_node = at;
    ends = ends;
    is_released = how;
  }

module _ {F S L : Type 0} (rules : Rules S L)
    (v : KnownOf F (Content S L)) (s t : Story (Content S L))
    (handed : IsHanded v s) (grows : GrowsBy v.number s t) where
  there : (m : ℕ) → m < length s.nodes → m < length t.nodes
  there m lt =
      let long : length t.nodes ≡ length s.nodes + length grows.0 =
      ap length grows.2 ∙ length-append s.nodes grows.0 in
      within m (length s.nodes) (length grows.0) (length t.nodes) lt long
    where
      within : (m a b c : ℕ) → m < a → c ≡ a + b → m < c
      within m a b c x y = omega arith

  -- what a turn for a claim answered
  pub claimed-passed : (claim : Claim S) → IsClaim rules.IsWell s v.number claim t →
      IsClaimed rules v.own (passed v s t) claim
  claimed-passed Nothing ok = same-passed v s t ok.2
  claimed-passed Quiet ok = (same-passed v s t ok.1, subst IsQuiet (sym ok.1) ok.0)
  claimed-passed (Claimed m a) ok = (
    (
      record {
        there = there m ok.0;
        held = claimed-status s t v.number m ok.4 ok.0;
        own_all = all-passed v s t handed grows;
      },
      claimed-state s t v.number m (arc_value a) ok.4 ok.0 ok.1 ok.2,
      ok.3,
    ),
    ap (λ (x : Story (Content S L)). v.own ++ drop (length s.events) x.events) ok.4
        ∙ ap (λ l. v.own ++ l) (drop_seam s.events (kept (claim_event v.number m) ∷ [])),
  )
