-- How nodes stand when an event was noted.
use Rattle.std.proofs.Common.{◌≡◌, ℕ, ◌+◌, ◌<◌, eqb, Bool, true, false, cond, IsTrue, Option, Some, None, [], ◌∷◌, ◌++◌, length, option_map, refl, ap, ◌∙◌, arith, ne_eqb}
use Rattle.std.specs.List.{All, slice_get}
use Rattle.std.specs.Global.{Vec}
use Rattle.std.proofs.lemmas.Option.{slice_get-map}
use Rattle.tree_core.specs.declared.event.Event.{Event}
use Rattle.tree_core.specs.declared.event.Deed.{Deed}
use Rattle.tree_core.specs.declared.event.Deed.TheVariants.{Claim, Split, Finish, Cut, Release}
use Rattle.tree_core.specs.declared.event.Kid.{Kid}
use Rattle.tree_core.specs.declared.node.Status.{Status}
use Rattle.tree_core.specs.declared.node.Status.TheVariants.{Free, Leaf}
use Rattle.tree_core.specs.Stories.{Story, status, content, status_by, content_by, content_after, left_by, born_as, last_on}
use Rattle.tree_core.specs.Replays.{allows, births, kids_of, deed_kept, kept, with_event, node_of}
use Rattle.tree_core.proofs.Places.{get_before, get_behind, last_on-push, last_on-none}

module _ {R : Type 0} where
  -- a node that was there, by whether the event names it
  pub status-noted : (s : Story R) (e : Event R (Vec (Kid R))) (m : ℕ) → m < length s.nodes → status (with_event s e) m ≡ cond (eqb e.node m) (left_by e.by (deed_kept e.deed)) (status s m)
  status-noted s e m lt = (λ i. status_by (born_as (get_before s.nodes (births e.node e.deed) m lt i)) (last_on-push m s.events (kept e) i)) ∙ by_cases (eqb e.node m)
    where
      by_cases : (b : Bool) → status_by (born_as (slice_get s.nodes m)) (cond b (Some (kept e)) (last_on m s.events)) ≡ cond b (left_by e.by (deed_kept e.deed)) (status s m)
      by_cases true = refl
      by_cases false = refl

  pub content-noted : (s : Story R) (e : Event R (Vec (Kid R))) (m : ℕ) → m < length s.nodes → content (with_event s e) m ≡ cond (eqb e.node m) (content_by (option_map (λ n. n.content) (slice_get s.nodes m)) (deed_kept e.deed)) (content s m)
  content-noted s e m lt = (λ i. content_after (option_map (λ n. n.content) (get_before s.nodes (births e.node e.deed) m lt i)) (last_on-push m s.events (kept e) i)) ∙ by_cases (eqb e.node m)
    where
      by_cases : (b : Bool) → content_after (option_map (λ n. n.content) (slice_get s.nodes m)) (cond b (Some (kept e)) (last_on m s.events)) ≡ cond b (content_by (option_map (λ n. n.content) (slice_get s.nodes m)) (deed_kept e.deed)) (content s m)
      by_cases true = refl
      by_cases false = refl

  -- a kid stands as it was born
  pub kid_unnamed : (s : Story R) (e : Event R (Vec (Kid R))) (i : ℕ) → All (λ (x : Event R ℕ). x.node < length s.nodes) s.events → e.node < length s.nodes → last_on (length s.nodes + i) (s.events ++ kept e ∷ []) ≡ None
  kid_unnamed s e i named there = let n : ℕ = length s.nodes in last_on-push (n + i) s.events (kept e)
      ∙ (ap (λ b. cond b (Some (kept e)) (last_on (n + i) s.events)) (ne_eqb e.node (n + i) (λ is. omega arith)) ∙ last_on-none n (n + i) s.events (omega arith) named)

  kid_at : (s : Story R) (e : Event R (Vec (Kid R))) (i : ℕ) (kid : Kid R) → slice_get (kids_of e.deed) i ≡ Some kid → slice_get (s.nodes ++ births e.node e.deed) (length s.nodes + i) ≡ Some (node_of e.node kid)
  kid_at s e i kid at = get_behind s.nodes (births e.node e.deed) i ∙ (slice_get-map (node_of e.node) (kids_of e.deed) i ∙ ap (option_map (node_of e.node)) at)

  pub status-kid : (s : Story R) (e : Event R (Vec (Kid R))) (i : ℕ) (kid : Kid R) → All (λ (x : Event R ℕ). x.node < length s.nodes) s.events → e.node < length s.nodes → slice_get (kids_of e.deed) i ≡ Some kid → status (with_event s e) (length s.nodes + i) ≡ cond kid.is_leaf Leaf Free
  status-kid s e i kid named there at = λ k. status_by (born_as (kid_at s e i kid at k)) (kid_unnamed s e i named there k)

  pub content-kid : (s : Story R) (e : Event R (Vec (Kid R))) (i : ℕ) (kid : Kid R) → All (λ (x : Event R ℕ). x.node < length s.nodes) s.events → e.node < length s.nodes → slice_get (kids_of e.deed) i ≡ Some kid → content (with_event s e) (length s.nodes + i) ≡ Some kid.content
  content-kid s e i kid named there at = λ k. content_after (option_map (λ n. n.content) (kid_at s e i kid at k)) (kid_unnamed s e i named there k)

  -- an event that may come finds a node with the content of its birth, which is live
  pub open_content : (birth : Option R) (st : Status) (o : Option (Event R ℕ)) (by : ℕ) (d : Deed R (Vec (Kid R))) → IsTrue (allows (status_by st o) by d) → content_after birth o ≡ birth
  open_content birth st None by d may = refl
  open_content birth st (Some e) by d may = by_deed e.by e.deed d may
    where
      by_deed : (w : ℕ) (x : Deed R ℕ) (d : Deed R (Vec (Kid R))) → IsTrue (allows (left_by w x) by d) → content_by birth x ≡ birth
      by_deed w Claim d may = refl
      by_deed w (Split k) d may = refl
      by_deed w Release d may = refl
      by_deed w (Finish r) Claim may = cc
      by_deed w (Finish r) (Split k) may = cc
      by_deed w (Finish r) (Finish q) may = cc
      by_deed w (Finish r) (Cut q) may = cc
      by_deed w (Finish r) Release may = cc
      by_deed w (Cut r) Claim may = cc
      by_deed w (Cut r) (Split k) may = cc
      by_deed w (Cut r) (Finish q) may = cc
      by_deed w (Cut r) (Cut q) may = cc
      by_deed w (Cut r) Release may = cc
