-- How the nodes of a story stand when an event was noted.
use Rattle.std.proofs.Common.{◌≡◌, ◌≢◌, ℕ, ◌+◌, ◌<◌, cond, IsTrue, Option, length, option_map, sym, refl, ap, ◌∙◌, eq-eqb, ne_eqb, length-append}
use Rattle.std.specs.List.{All, slice_get}
use Rattle.std.specs.Global.{Vec}
use Rattle.std.proofs.lemmas.List.{length-map}
use Rattle.tree_core.specs.declared.event.Event.{Event}
use Rattle.tree_core.specs.declared.event.Kid.{Kid}
use Rattle.tree_core.specs.Nodes.{Node}
use Rattle.tree_core.specs.Stories.{Story, born_as, content, content_by, last_on, left_by, status}
use Rattle.tree_core.specs.Replays.{births, deed_kept, is_allowed, kids_of, node_of, with_event}
use Rattle.tree_core.proofs.Standing.{content-noted, open_content, status-noted}

-- an event as it comes to a tree
abbrev pub Coming : Type 0 → Type 0
Coming R = Event R (Vec (Kid R))

-- the nodes that events name are there
abbrev pub AreThere : {R : Type 0} → Story R → Type 0
AreThere {R} s = All (λ (e : Event R ℕ). e.node < length s.nodes) s.events

module _ {R : Type 0} (s : Story R) (e : Coming R) where
  pub length-noted : length (with_event s e).nodes ≡ length s.nodes + length (kids_of e.deed)
  length-noted =
      length-append s.nodes (births e.node e.deed)
      ∙ ap (λ n. length s.nodes + n) (length-map (kids_of e.deed) (node_of e.node))

  -- a node that the event doesn't name
  pub status-other : (k : ℕ) → k < length s.nodes → e.node ≢ k → status (with_event s e) k ≡ status s k
  status-other k lt other =
      status-noted s e k lt
      ∙ ap (λ b. cond b (left_by e.by (deed_kept e.deed)) (status s k)) (ne_eqb e.node k other)

  pub content-other : (k : ℕ) → k < length s.nodes → e.node ≢ k →
      content (with_event s e) k ≡ content s k
  content-other k lt other =
      content-noted s e k lt
      ∙ ap (λ b. cond b (content_by (option_map (λ (n : Node R). n.content) (slice_get s.nodes k))
      (deed_kept e.deed)) (content s k)) (ne_eqb e.node k other)

  -- the node that it names
  pub status-here : e.node < length s.nodes →
      status (with_event s e) e.node ≡ left_by e.by (deed_kept e.deed)
  status-here there =
      status-noted s e e.node there
      ∙ ap (λ b. cond b (left_by e.by (deed_kept e.deed)) (status s e.node))
      (eq-eqb e.node e.node refl)

  -- and which holds what it was born with, where the event may come
  pub content-here : e.node < length s.nodes → IsTrue (is_allowed s e) →
      content (with_event s e) e.node ≡ content_by (content s e.node) (deed_kept e.deed)
  content-here there may =
      let first : Option R = option_map (λ (n : Node R). n.content) (slice_get s.nodes e.node) in
      let unended : content s e.node ≡ first =
      open_content first (born_as (slice_get s.nodes e.node)) (last_on e.node s.events) e.by
      e.deed may in
      content-noted s e e.node there
      ∙ ap (λ b. cond b (content_by first (deed_kept e.deed)) (content s e.node))
      (eq-eqb e.node e.node refl)
      ∙ ap (λ o. content_by o (deed_kept e.deed)) (sym unended)
