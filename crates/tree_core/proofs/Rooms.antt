-- Where no memory was found, and what an event that was allowed takes.
use Rattle.std.proofs.Common.{◌≡◌, ℕ, ◌+◌, ◌-◌, ◌<◌, ◌≤◌, Bool, true, IsTrue, List, length, sym, ap, ◌∙◌, subst, arith}
use Rattle.std.specs.Global.{Vec}
use Rattle.std.specs.Vec.{vec_capacity, vec_len}
use Rattle.tree_core.specs.declared.event.Event.{Event}
use Rattle.tree_core.specs.declared.event.Deed.{Deed}
use Rattle.tree_core.specs.declared.event.Deed.TheVariants.{Claim, Split, Finish, Cut, Release}
use Rattle.tree_core.specs.declared.event.Kid.{Kid}
use Rattle.tree_core.specs.Nodes.{Node}
use Rattle.tree_core.specs.declared.node.Status.{Status}
use Rattle.tree_core.specs.Stories.{Story, status}
use Rattle.tree_core.specs.Replays.{allows, is_allowed}
use Rattle.tree_core.specs.Cores.{LacksRoom, NoRoom, ends, takes}

module _ {R : Type 0} where
  pub allowed_now : (s : Story R) (e : Event R (Vec (Kid R))) (nodes : List (Node R)) (events : List (Event R ℕ)) (st : Status) (b : Bool) → nodes ≡ s.nodes → events ≡ s.events
      → st ≡ status (record { nodes = nodes; events = events }) e.node → b ≡ allows st e.by e.deed → b ≡ true → IsTrue (is_allowed s e)
  allowed_now s e nodes events st b n v is test passed =
      let here : st ≡ status s e.node = is ∙ (λ k. status (record { nodes = n k; events = v k }) e.node) in
      ap (λ (x : Status). allows x e.by e.deed) (sym here) ∙ (sym test ∙ passed)

  pub lacks_room : (most room : ℕ) (nodes : List (Node R)) (events : Vec (Event R ℕ)) (held : ℕ) (d : Deed R (Vec (Kid R))) → NoRoom room events held d
      → LacksRoom (record { story = record { nodes = nodes; events = events.items }; most = most; node_room = room; event_room = vec_capacity events - (length events.items + held) }) d
  lacks_room most room nodes events held Claim full = let long : vec_len events ≡ length events.items = events.ok.0 in let full' : vec_capacity events < vec_len events + held + 2 = full in
      let goal : vec_capacity events - (length events.items + held) < 2 = omega arith in goal
  lacks_room most room nodes events held (Split kids) full = subst (λ (k : ℕ). room < k) kids.ok.0 full
  lacks_room most room nodes events held (Finish r) full = absurd full
  lacks_room most room nodes events held (Cut r) full = absurd full
  lacks_room most room nodes events held Release full = absurd full

  -- Each node that is held was claimed by an event, and so it is behind any event.
  pub still_claimed : (d : Deed R (Vec (Kid R))) (before after events : ℕ) → after + ends d ≡ before + takes d → before ≤ events → after ≤ events + 1
  still_claimed Claim before after events is claimed = let goal : after ≤ events + 1 = omega (arith, is, claimed) in goal
  still_claimed (Split kids) before after events is claimed = let goal : after ≤ events + 1 = omega (arith, is, claimed) in goal
  still_claimed (Finish r) before after events is claimed = let goal : after ≤ events + 1 = omega (arith, is, claimed) in goal
  still_claimed (Cut r) before after events is claimed = let goal : after ≤ events + 1 = omega (arith, is, claimed) in goal
  still_claimed Release before after events is claimed = let goal : after ≤ events + 1 = omega (arith, is, claimed) in goal
