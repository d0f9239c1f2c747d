-- What any list of events makes of a root.
use Rattle.std.proofs.Common.{◌≡◌, ◌↔◌, ℕ, ◌+◌, ◌-◌, ◌≤◌, ◌<◌, length-append, Bool, true, false, cond, IsTrue, IsFalse, Option, Some, None, List, [], ◌∷◌, ◌++◌, map, length, set, option_map, refl, ap, ◌∙◌, sym, subst, arith}
use Rattle.std.specs.List.{All, slice_get}
use Rattle.std.specs.Global.{Vec}
use Rattle.tree_core.specs.declared.event.Event.{Event}
use Rattle.tree_core.specs.declared.event.Deed.{Deed}
use Rattle.tree_core.specs.declared.event.Deed.TheVariants.{Claim, Split, Finish, Cut, Release}
use Rattle.tree_core.specs.declared.event.Kid.{Kid}
use Rattle.tree_core.specs.Nodes.{Node}
use Rattle.tree_core.specs.declared.node.Status.{Status}
use Rattle.tree_core.specs.declared.node.Status.TheVariants.{Free, Held, Leaf}
use Rattle.tree_core.specs.Stories.{Story, status, status_by, born_as, left_by, last_on, IsClaimBy, LastIsClaim}
use Rattle.tree_core.specs.Covers.{one_if, covered, Partition, standing_count}
use Rattle.tree_core.specs.Replays.{AllMayCome, noted_all, Replays, AreFit, IsFit, may_come, after_event, after_all, with_event, opening, deed_kept, kids_of, births}
use Rattle.tree_core.specs.Cores.{IsCore, let_go, takes, ends, unworked_of}
use Rattle.tree_core.proofs.Places.{get_before}
use Rattle.tree_core.proofs.Guards.{allowed-may}
use Rattle.tree_core.proofs.Keeping.{core-noted, core-opened, ends-held}

module _ {R : Type 0} (covers : R → List ℕ → Bool) (by_nodes : R → Bool) (most : ℕ) where
  -- a story that events made
  pub Made : Story R → Type 0
  Made s = (latest : List (Option ℕ)) × (contents : List (Option R)) × (held : ℕ) × IsCore covers by_nodes most s latest contents held

  made_noted : (s : Story R) (e : Event R (Vec (Kid R))) → Made s → IsFit covers s e → IsTrue (may_come by_nodes most s e) → Made (with_event s e)
  unfolding Made
  made_noted s e m fit may = let held : ℕ = m.2 in let low : ends e.deed ≤ held = ends-held covers by_nodes most s m.0 m.1 held e m.3 fit.0 (allowed-may by_nodes most s e may) in (
    set (m.0 ++ map (λ _. None) (kids_of e.deed)) e.node (Some (length s.events)),
    let_go (deed_kept e.deed) e.node (m.1 ++ map (λ (kid : Kid R). unworked_of kid.is_leaf kid.content) (kids_of e.deed)),
    held + takes e.deed - ends e.deed,
    core-noted covers by_nodes most s m.0 m.1 held (held + takes e.deed - ends e.deed) e m.3 fit may (balance (ends e.deed) (takes e.deed) held low),
  )
    where
      balance : (a b h : ℕ) → a ≤ h → (h + b - a) + a ≡ h + b
      balance a b h le = omega arith

  made_after : (s : Story R) (e : Event R (Vec (Kid R))) → IsFit covers s e → Made s → Made (after_event by_nodes most s e)
  made_after s e fit m = by_guard (may_come by_nodes most s e) refl
    where
      by_guard : (b : Bool) → may_come by_nodes most s e ≡ b → Made (cond b (with_event s e) s)
      by_guard true may = made_noted s e m fit may
      by_guard false may = m

  made_after_all : (s : Story R) (es : List (Event R (Vec (Kid R)))) → AreFit covers by_nodes most s es → Made s → Made (after_all by_nodes most s es)
  made_after_all s [] fit m = m
  made_after_all s (e ∷ es) fit m = made_after_all (after_event by_nodes most s e) es fit.1 (made_after s e fit.0 m)

  pub core_of : (root : R) (es : List (Event R (Vec (Kid R)))) → AreFit covers by_nodes most (opening root false) es → (latest : List (Option ℕ)) × (contents : List (Option R)) × (held : ℕ) × IsCore covers by_nodes most (after_all by_nodes most (opening root false) es) latest contents held
  unfolding Made
  core_of root es fit = made_after_all (opening root false) es fit (None ∷ [], Some root ∷ [], 0, core-opened covers by_nodes most root false)

  made_all : (s : Story R) (es : List (Event R (Vec (Kid R)))) → AllMayCome covers by_nodes most s es → Made s → Made (noted_all s es)
  unfolding Made
  made_all s [] all m = m
  made_all s (e ∷ es) all m = made_all (with_event s e) es all.2 (made_noted s e m all.0 all.1)

  -- what holds of every story that events made of a root
  pub shared_out : (s : Story R) → Replays covers by_nodes most s → Partition covers s
  unfolding Made
  shared_out s r = subst (Partition covers) (sym r.4) (made_all (opening r.0 r.1) r.2 r.3 (None ∷ [], unworked_of r.1 r.0 ∷ [], 0, core-opened covers by_nodes most r.0 r.1)).3.partition

  pub all_there : (s : Story R) → Replays covers by_nodes most s → All (λ (e : Event R ℕ). e.node < length s.nodes) s.events
  unfolding Made
  all_there s r = subst (λ (t : Story R). All (λ (e : Event R ℕ). e.node < length t.nodes) t.events) (sym r.4)
      (made_all (opening r.0 r.1) r.2 r.3 (None ∷ [], unworked_of r.1 r.0 ∷ [], 0, core-opened covers by_nodes most r.0 r.1)).3.named

  -- the root stays
  pub root_after : (s : Story R) (es : List (Event R (Vec (Kid R)))) (n : Node R) → slice_get s.nodes 0 ≡ Some n → slice_get (after_all by_nodes most s es).nodes 0 ≡ Some n
  root_after s [] n at = at
  root_after s (e ∷ es) n at = root_after (after_event by_nodes most s e) es n (by_guard (may_come by_nodes most s e))
    where
      by_guard : (b : Bool) → slice_get (cond b (with_event s e) s).nodes 0 ≡ Some n
      by_guard true = get_before s.nodes (births e.node e.deed) 0 (Rattle.std.proofs.lemmas.Option.slice_get_within s.nodes 0 n at) ∙ at
      by_guard false = at

  pub exactly_one : (root : R) (es : List (Event R (Vec (Kid R)))) (input : List ℕ) → AreFit covers by_nodes most (opening root false) es → IsTrue (covers root input) → standing_count covers (after_all by_nodes most (opening root false) es) input ≡ 1
  exactly_one root es input fit covered_by = (core_of root es fit).3.partition input
      ∙ (ap (λ (o : Option (Node R)). one_if (covered covers (option_map (λ n. n.content) o) input)) (root_after (opening root false) es (record { origin = None; content = root; is_leaf = false }) refl) ∙ ap one_if covered_by)

module _ {R : Type 0} where
  born_not_held : (o : Option (Node R)) (w : ℕ) → born_as o ≡ Held w → ⊥
  born_not_held None w is = cc
  born_not_held (Some n) w is = by_leaf n.is_leaf is
    where
      by_leaf : (b : Bool) → cond b Leaf Free ≡ Held w → ⊥
      by_leaf true is = cc
      by_leaf false is = cc

  held_claims : (by w : ℕ) (d : Deed R ℕ) → left_by by d ≡ Held w → (d ≡ Claim) × (by ≡ w)
  held_claims by w Claim is = (refl, cc)
  held_claims by w (Split k) is = cc
  held_claims by w (Finish r) is = cc
  held_claims by w (Cut r) is = cc
  held_claims by w Release is = cc

  pub to_claim : (birth : Option (Node R)) (o : Option (Event R ℕ)) (w : ℕ) → status_by (born_as birth) o ≡ Held w → IsClaimBy w o
  to_claim birth None w is = born_not_held birth w is
  to_claim birth (Some e) w is = held_claims e.by w e.deed is

  pub from_claim : (birth : Status) (o : Option (Event R ℕ)) (w : ℕ) → IsClaimBy w o → status_by birth o ≡ Held w
  from_claim birth None w l = absurd l
  from_claim birth (Some e) w l = ap (left_by e.by) l.0 ∙ ap Held l.1

  pub held_by_claim : (s : Story R) (m w : ℕ) → (status s m ≡ Held w) ↔ LastIsClaim s m w
  held_by_claim s m w = (to_claim (slice_get s.nodes m) (last_on m s.events) w, from_claim (born_as (slice_get s.nodes m)) (last_on m s.events) w)

  pub refused_stays : (by_nodes : R → Bool) (most : ℕ) (s : Story R) (e : Event R (Vec (Kid R))) → IsFalse (may_come by_nodes most s e) → after_event by_nodes most s e ≡ s
  refused_stays by_nodes most s e barred = ap (λ b. cond b (with_event s e) s) barred

  -- the root is always there
  at_least : (s : Story R) (es : List (Event R (Vec (Kid R)))) → 1 ≤ length s.nodes → 1 ≤ length (noted_all s es).nodes
  at_least s [] one = one
  at_least s (e ∷ es) one = let more : length (s.nodes ++ births e.node e.deed) ≡ length s.nodes + length (births e.node e.deed) = length-append s.nodes (births e.node e.deed) in
      at_least (with_event s e) es (omega arith)

  pub rooted : (covers : R → List ℕ → Bool) (by_nodes : R → Bool) (most : ℕ) (s : Story R) → Replays covers by_nodes most s → 0 < length s.nodes
  rooted covers by_nodes most s r = let first : Story R = opening r.0 r.1 in let one : 1 ≤ length (noted_all first r.2).nodes = at_least first r.2 (omega arith) in
      subst (λ (t : Story R). 0 < length t.nodes) (sym r.4) one
