-- A turn of one pass: what it took, what it gave back, and what it knows then.
use Rattle.std.proofs.Common.{◌≡◌, ℕ, Bool, true, false, Option, List, ◌++◌, drop, length, append_assoc, sym, ap, ◌∙◌, subst}
use Rattle.std.specs.Prelude.{Result, Ok, Err, IfOk, OnErr}
use Rattle.std.specs.Global.{Vec}
use Rattle.tree_core.specs.Replays.{Replays, kept, with_event}
use Rattle.tree_core.specs.Stories.{Story, status}
use Rattle.tree_core.specs.declared.event.Event.{Event}
use Rattle.tree_core.specs.declared.event.Kid.{Kid}
use Rattle.tree_core.specs.Nodes.{Node}
use Rattle.tree_core.specs.declared.node.Status.TheVariants.{Held}
use Rattle.fork_spec.specs.Histories.{is_release}
use Rattle.fork_spec.specs.Partings.{Place}
use Rattle.fork_tree.specs.Calls.{IsClaim}
use Rattle.fork_tree.specs.Drains.{GrowsBy}
use Rattle.fork_tree.specs.Nodes.{StateIs}
use Rattle.fork_tree.specs.Trees.{covers_at}
use Rattle.fork_tree.specs.Works.{IsWorked, Rules}
use Rattle.fork_tree.specs.declared.content.Content.{Content}
use Rattle.fork_tree.specs.declared.tree.Claim.{Claim}
use Rattle.fork_tree.specs.declared.work.Parts.{Parts}
use Rattle.turn_lock.specs.Growth.{GoesOnBy, StartsWith, by_number}
use Rattle.turn_lock.specs.Views.{Follows, given, looked}
use Rattle.work_run.specs.Entering.{IsClaimEnded, IsNextClaim, IsResult}
use Rattle.work_run.specs.Seen.{EndsAndClaims, EndsClaim, HasResult, HoldsNode, IsClaimed, IsLater, KnownOf, story_of}
use Rattle.work_run.specs.Turns.{is_claim}
use Rattle.work_run.proofs.Passing.{IsHanded, all-passed, claimed-passed, ends-passed, held-handed, later-passed, own-passed, passed, same-passed}
use Rattle.work_run.proofs.Entries.{made-grows}
use Rattle.turn_lock.proofs.Growths.{drop_seam, starts_refl}
use Rattle.fork_tree.proofs.Entering.{grows-one}

by_same_worker : {R : Type 0} (by k : ℕ) (s t : Story R) → by ≡ k → GrowsBy by s t → GrowsBy k s t
by_same_worker by k s t is grows = subst (λ n. GrowsBy n s t) is grows

module _ {F R : Type 0} where
  -- the pass once it took the story
  abbrev pub took : KnownOf F R → Story R → KnownOf F R
  took v s = record v { has_turn = true; nodes = s.nodes; events = s.events }

  -- a turn, by which the pass v became w: it was handed s, and gave back t
  pub record IsTurn (v w : KnownOf F R) (s t : Story R) : Type 0 where
    pub handed : IsHanded v s
    pub grows : GrowsBy v.number s t
    pub is : w ≡ passed v s t

  pub handed-by : (v : KnownOf F R) (s : Story R) → v.opened ≡ 0 → StartsWith s.nodes v.nodes →
      StartsWith s.events v.events →
      by_number (λ (e : Event R ℕ). e.by) v.number (drop v.opened s.events) ≡ v.own → IsHanded v s
  handed-by v s opened nodes events own = record {
    nodes = nodes;
    events = events;
    own = subst (λ n. by_number (λ (e : Event R ℕ). e.by) v.number (drop n s.events) ≡ v.own)
        opened own;
  }

  -- what was handed out, and given back grown, is a turn
  pub turned : {V : Type 0} {fixed_of : V → F} {nodes_of : V → List (Node R)}
      {events_of : V → List (Event R ℕ)} (v u w : KnownOf F R) (x y : V) (by : ℕ) →
      v.opened ≡ 0 → Follows fixed_of nodes_of events_of (λ (e : Event R ℕ). e.by) v x →
      u ≡ looked nodes_of events_of v x → w ≡ given nodes_of events_of u y → by ≡ v.number →
      GrowsBy by (record { nodes = nodes_of x; events = events_of x })
      (record { nodes = nodes_of y; events = events_of y }) →
      IsTurn v w (record { nodes = nodes_of x; events = events_of x })
      (record { nodes = nodes_of y; events = events_of y })
  turned {nodes_of = nodes_of} {events_of = events_of} v u w x y by opened follows taken back mine
      grows = record {
        handed = handed-by v _ opened follows.nodes follows.events follows.own;
        grows = by_same_worker by v.number _ _ mine grows;
        is = back ∙ ap (λ z. given nodes_of events_of z y) taken;
      }

  -- what the lock asks of what is given back
  pub gives-nodes : (v u : KnownOf F R) (s t : Story R) (by : ℕ) → u ≡ took v s → GrowsBy by s t →
      StartsWith t.nodes u.nodes
  gives-nodes v u s t by taken grows =
      subst (λ (x : KnownOf F R). StartsWith t.nodes x.nodes) (sym taken) (grows.0, grows.2)

  pub gives-events : (v u : KnownOf F R) (s t : Story R) (by : ℕ) → u ≡ took v s → by ≡ v.number →
      GrowsBy by s t → GoesOnBy (λ (e : Event R ℕ). e.by) u.number u.events t.events
  gives-events v u s t by taken mine grows =
      let here = by_same_worker by v.number s t mine grows in
      subst (λ (x : KnownOf F R). GoesOnBy (λ (e : Event R ℕ). e.by) x.number x.events t.events)
      (sym taken) (here.1, here.3, here.4)

  pub gives-fixed : (v u : KnownOf F R) (s : Story R) (x y : F) → u ≡ took v s → x ≡ v.fixed →
      y ≡ x → y ≡ u.fixed
  gives-fixed v u s x y taken fixed same =
      same ∙ (fixed ∙ sym (ap (λ (k : KnownOf F R). k.fixed) taken))

  module _ (v w : KnownOf F R) (s t : Story R) (turn : IsTurn v w s t) where
    pub turn-later : IsLater v w
    turn-later = subst (IsLater v) (sym turn.is) (later-passed v s t turn.handed turn.grows)

    pub turn-nothing : t ≡ s → w.own ≡ v.own
    turn-nothing is =
        ap (λ (x : KnownOf F R). x.own) turn.is ∙ same-passed v s t is

    pub turn-ends : (released : Bool) (node : ℕ) (e : Event R (Vec (Kid R))) → t ≡ with_event s e →
        e.node ≡ node → is_claim (kept e).deed ≡ false →
        is_release (kept e).deed ≡ released → EndsClaim released node v.own w.own
    turn-ends released node e is at ends how =
        subst (λ (x : KnownOf F R). EndsClaim released node v.own x.own) (sym turn.is)
        (ends-passed released v s t node e is at ends how)

    -- what a turn came to in which a claim was ended, and memory refused
    pub ended-all : {X E : Type 0} (by node : ℕ) (answer : Result X E) →
        OnErr answer ((released : Bool) × IsClaimEnded released by node s t) →
        OnErr answer ((released : Bool) × EndsClaim released node v.own w.own)
    ended-all by node (Ok x) err = err
    ended-all by node (Err e) err =
        let end = err.1 in (
          err.0,
          turn-ends err.0 node end.event end.story end.of_node end.ends end.is_released,
        )

    pub nothing-all : {X E : Type 0} (answer : Result X E) → OnErr answer (t ≡ s) →
        OnErr answer (w.own ≡ v.own)
    nothing-all (Ok x) err = err
    nothing-all (Err e) err = turn-nothing err

  -- who holds a node holds it when the story is handed out again
  pub held-by : (covers : R → List ℕ → Bool) (by_nodes : R → Bool) (most : ℕ) (v : KnownOf F R) (s : Story R) (by node : ℕ) →
      by ≡ v.number → Replays covers by_nodes most s → IsHanded v s →
      HoldsNode (story_of v) v.own v.number node → status s node ≡ Held by
  held-by covers by_nodes most v s by node mine replays handed holds =
      (held-handed covers by_nodes most v s node replays handed holds).1 ∙ ap Held (sym mine)

-- A turn in which the worker did two things, and between them the story was m, is two turns.
module _ {F R : Type 0} (v w : KnownOf F R) (s m t : Story R) (turn : IsTurn v w s t)
    (first : GrowsBy v.number s m) (second : GrowsBy v.number m t) where
  handed-between : IsHanded (passed v s m) m
  handed-between = record {
    nodes = starts_refl m.nodes;
    events = starts_refl m.events;
    own = all-passed v s m turn.handed first;
  }

  own-between : (passed v s t).own ≡ (passed (passed v s m) m t).own
  own-between =
      ap (λ l. v.own ++ drop (length s.events) l)
      (second.3 ∙ (ap (λ l. l ++ second.1) first.3 ∙ append_assoc s.events first.1 second.1))
      ∙ (ap (λ l. v.own ++ l) (drop_seam s.events (first.1 ++ second.1))
      ∙ (sym (append_assoc v.own first.1 second.1)
      ∙ (ap (λ l. l ++ second.1) (sym (own-passed v s m turn.handed first))
      ∙ sym (own-passed (passed v s m) m t handed-between second))))

  pub turn-behind : IsTurn (passed v s m) w m t
  turn-behind = record {
    handed = handed-between;
    grows = second;
    is = turn.is
        ∙ ap (λ l. record v { has_turn = false; nodes = t.nodes; events = t.events; own = l })
        own-between;
  }

module _ {W S L : Type 0} (rules : W → Rules S L) where
  -- what a turn for a claim came to
  pub claims-all : {E : Type 0} (v w : KnownOf W (Content S L)) (s t : Story (Content S L)) →
      IsTurn v w s t → (x : W) (by : ℕ) (answer : Result (Claim S) E) → x ≡ v.fixed →
      by ≡ v.number → IfOk answer (λ claim. IsClaim (rules x).IsWell s by claim t) →
      IfOk answer (IsClaimed (rules v.fixed) v.own w)
  claims-all v w s t turn x by (Ok claim) same mine ok =
      subst (λ (k : KnownOf W (Content S L)). IsClaimed (rules v.fixed) v.own k claim) (sym turn.is)
      (claimed-passed (rules v.fixed) v s t turn.handed turn.grows claim
      (subst (λ (p : W × ℕ). IsClaim (rules p.0).IsWell s p.1 claim t) (λ i. (same i, mine i)) ok))
  claims-all v w s t turn x by (Err e) same mine ok = ok

  -- what a turn came to in which a claim was ended, and the next one made
  pub next-all : {E : Type 0} (v w : KnownOf W (Content S L)) (s t : Story (Content S L)) →
      IsTurn v w s t → (x : W) (by node : ℕ) (answer : Result (Claim S) E) → x ≡ v.fixed →
      by ≡ v.number → IfOk answer (IsNextClaim (rules x).IsWell by node s t) →
      IfOk answer (EndsAndClaims (rules v.fixed) node v.own w)
  next-all v w s t turn x by node (Ok claim) same mine ok =
      let here : IsNextClaim (rules v.fixed).IsWell v.number node s t claim =
      subst (λ (p : W × ℕ). IsNextClaim (rules p.0).IsWell p.1 node s t claim)
      (λ i. (same i, mine i)) ok in
      let m = here.0 in
      let end = here.1 in
      let first = grows-one v.number s m end.event end.story end.of_worker in
      let second = made-grows (rules v.fixed).IsWell m t v.number claim here.2 in
      let behind = turn-behind v w s m t turn first second in (
        (passed v s m).own,
        ends-passed false v s m node end.event end.story end.of_node end.ends end.is_released,
        subst (λ (k : KnownOf W (Content S L)). IsClaimed (rules v.fixed) (passed v s m).own k claim)
            (sym behind.is)
            (claimed-passed (rules v.fixed) (passed v s m) m t behind.handed second claim here.2),
      )
  next-all v w s t turn x by node (Err e) same mine ok = ok

  -- what came of a node's state is still that when the story is handed out again
  pub result-handed : (state_place : S → Place) (leaf_place : L → Place)
      (by_nodes : Content S L → Bool) (most : ℕ)
      (v : KnownOf W (Content S L)) (s : Story (Content S L)) (node : ℕ) (parts : Parts S L)
      (x : W) → x ≡ v.fixed → IsHanded v s → Replays (covers_at state_place leaf_place) by_nodes most s →
      HasResult (rules v.fixed) state_place leaf_place v node parts →
      IsResult (rules x) state_place leaf_place s node parts
  result-handed state_place leaf_place by_nodes most v s node parts x same handed replays has =
      let y = has.1.0 in
      let stays =
      held-handed (covers_at state_place leaf_place) by_nodes most v s node replays handed has.0 in (
        y,
        subst (λ (o : Option (Content S L)). StateIs o y) (sym stays.2) has.1.1,
        subst (λ (k : W). IsWorked (rules k) state_place leaf_place y parts) (sym same) has.1.2,
      )
