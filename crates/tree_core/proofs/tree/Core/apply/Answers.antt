use Rattle.std.proofs.Common.{◌≡◌, ℕ, ◌+◌, ◌≤◌, ◌++◌, ◌∷◌, [], Some, None, Option, IsTrue, IsFalse, List, length, map, vec_len, vec_capacity, slice_set, refl, sym, subst, ap, ◌∙◌, arith}
use Rattle.tree_core.specs.declared.event.Event.{Event}
use Rattle.tree_core.specs.declared.event.Kid.{Kid}
use Rattle.tree_core.specs.Nodes.{Node}
use Rattle.tree_core.specs.Stories.{Story}
use Rattle.tree_core.specs.Replays.{IsFit, after_event, is_allowed, is_early, is_full, may_come, births, kids_of, deed_kept}
use Rattle.tree_core.specs.Cores.{CoreValue, IsCore, LacksRoom, let_go, takes, ends, unworked_of}
use Rattle.tree_core.proofs.Guards.{cannot, may-all, no_longer, noted_after}
use Rattle.tree_core.proofs.Keeping.{core-noted, ends-held}
use Rattle.tree_core.proofs.Rooms.{allowed_now, lacks_room, still_claimed}
use Rattle.tree_core.proofs.tree.Core.apply.Goals as goal

pub make_room-requires-clause-held : goal.make_room-requires-clause-held
make_room-requires-clause-held g c = let R : Type 0 = g.row.R.Denot in let i = c.self.inside in let s : Story R = record { nodes = i.shelves.nodes; events = i.events.items } in
    let fit : IsFit g.R.Cover.covers s c.args.event = subst (λ (k : CoreValue R). IsFit g.R.Cover.covers k.story c.args.event) (sym c.self.view_is) c.requires.fit in
    let may : IsTrue (is_allowed s c.args.event) = allowed_now s c.args.event _ _ c.status-status.result c.is_allowed.result refl c.deref.ensures.value c.status-status.ensures c.is_allowed.ensures c.if-not-is_allowed.false in
    ends-held g.R.Cover.covers g.R.Cover.by_nodes i.most s i.shelves.latest i.shelves.contents i.held c.args.event c.self.invariant.0 fit.0 may

pub held_after-self-inside-requires-clause-ends : goal.held_after-self-inside-requires-clause-ends
held_after-self-inside-requires-clause-ends g c = let R : Type 0 = g.row.R.Denot in let i = c.self.inside in let s : Story R = record { nodes = i.shelves.nodes; events = i.events.items } in
    let fit : IsFit g.R.Cover.covers s c.args.event = subst (λ (k : CoreValue R). IsFit g.R.Cover.covers k.story c.args.event) (sym c.self.view_is) c.requires.fit in
    let may : IsTrue (is_allowed s c.args.event) = allowed_now s c.args.event _ _ c.status-status.result c.is_allowed.result refl c.deref.ensures.value c.status-status.ensures c.is_allowed.ensures c.if-not-is_allowed.false in
    ends-held g.R.Cover.covers g.R.Cover.by_nodes i.most s i.shelves.latest i.shelves.contents i.held c.args.event c.self.invariant.0 fit.0 may

pub returns-in_err-make_room-clause-memory : goal.returns-in_err-make_room-clause-memory
returns-in_err-make_room-clause-memory g c = λ is. let i = c.self.inside in
    subst (λ (k : CoreValue g.row.R.Denot). LacksRoom k c.args.event.deed) c.self.view_is (lacks_room i.most i.shelves.room i.shelves.nodes i.events i.held c.args.event.deed c.in_err-make_room.ensures.err)

pub invariant_of-self-2 : goal.invariant_of-self-2
invariant_of-self-2 g c = let R : Type 0 = g.row.R.Denot in let i = c.self.inside in let s : Story R = record { nodes = i.shelves.nodes; events = i.events.items } in let e = c.args.event in
    let fit : IsFit g.R.Cover.covers s e = subst (λ (k : CoreValue R). IsFit g.R.Cover.covers k.story e) (sym c.self.view_is) c.requires.fit in
    let may : IsTrue (may_come g.R.Cover.by_nodes i.most s e) = may-all g.R.Cover.by_nodes i.most s e
    (allowed_now s e _ _ c.status-status.result c.is_allowed.result refl c.deref.ensures.value c.status-status.ensures c.is_allowed.ensures c.if-not-is_allowed.false)
    (no_longer (λ n. is_full i.most n e.deed) c.is_full.result c.len-nodes.result (length i.shelves.nodes) c.is_full.ensures (c.len-nodes.ensures) c.if-is_full.false)
    (no_longer (λ n. is_early g.R.Cover.by_nodes i.most n e.deed) c.is_early.result c.len-nodes.result (length i.shelves.nodes) c.is_early.ensures (c.len-nodes.ensures) c.if-is_early.false) in
    let held : c.held_after-self-inside.result + ends e.deed ≡ i.held + takes e.deed = c.held_after-self-inside.ensures in
    let core = core-noted g.R.Cover.covers g.R.Cover.by_nodes i.most s i.shelves.latest i.shelves.contents i.held c.held_after-self-inside.result e c.self.invariant.0 fit may held in
    let nodes : c.note.new.self.nodes ≡ i.shelves.nodes ++ births e.node e.deed = c.note.ensures.nodes ∙ (c.bear-deed.ensures.nodes ∙ ap (λ (l : List (Node R)). l ++ births e.node e.deed) c.make_room.ensures.nodes) in
    let place : c.len.result ≡ length i.events.items = c.len.ensures ∙ (c.make_room.new.events.ok.0 ∙ ap length c.make_room.ensures.events) in
    let latest : c.note.new.self.latest ≡ slice_set (i.shelves.latest ++ map (λ _. None) (kids_of e.deed)) e.node (Some (length i.events.items)) = c.note.ensures.latest
    ∙ (λ k. slice_set ((c.bear-deed.ensures.latest ∙ ap (λ (l : List (Option ℕ)). l ++ map (λ _. None) (kids_of e.deed)) c.make_room.ensures.latest) k) e.node (Some (place k))) in
    let own : Kid R → Option R = λ kid. unworked_of kid.is_leaf kid.content in
    let contents : c.note.new.self.contents ≡ let_go (deed_kept e.deed) e.node (i.shelves.contents ++ map own (kids_of e.deed)) = c.note.ensures.contents
    ∙ (λ k. let_go (c.bear-deed.ensures.deed k) e.node ((c.bear-deed.ensures.contents ∙ ap (λ (l : List (Option R)). l ++ map own (kids_of e.deed)) c.make_room.ensures.contents) k)) in
    let events : c.push_reserved.new.self.items ≡ i.events.items ++ record { by = e.by; node = e.node; deed = deed_kept e.deed } ∷ [] = c.push_reserved.ensures.items
    ∙ (λ k. c.make_room.ensures.events k ++ record { by = e.by; node = e.node; deed = c.bear-deed.ensures.deed k } ∷ []) in
    let room : vec_len c.make_room.new.events + 1 + i.held + takes e.deed ≤ vec_capacity c.make_room.new.events + ends e.deed = c.in_ok-make_room.ensures.event_room in
    let cap : vec_capacity c.push_reserved.new.self ≡ vec_capacity c.make_room.new.events = c.push_reserved.ensures.capacity in
    let len : vec_len c.push_reserved.new.self ≡ vec_len c.make_room.new.events + 1 = c.push_reserved.ensures.len in
    let long : vec_len c.push_reserved.new.self ≡ length c.push_reserved.new.self.items = c.push_reserved.new.self.ok.0 in
    let claimed : c.held_after-self-inside.result ≤ length i.events.items + 1 = still_claimed e.deed i.held c.held_after-self-inside.result (length i.events.items) held c.self.invariant.2 in
    let count : vec_len c.make_room.new.events ≡ length i.events.items = c.make_room.new.events.ok.0 ∙ ap length c.make_room.ensures.events in (
      subst (λ (t : List (Node R) × List (Event R ℕ) × List (Option ℕ) × List (Option R)). IsCore g.R.Cover.covers g.R.Cover.by_nodes i.most (record { nodes = t.0; events = t.1 }) t.2 t.3 c.held_after-self-inside.result)
          (λ k. (sym nodes k, sym events k, sym latest k, sym contents k)) core,
      omega arith,
      omega (arith, claimed, count, len, long),
    )

pub returns-clause-full : goal.returns-clause-full
returns-clause-full g c = let i = c.self.inside in
    let none = no_longer (λ n. is_full i.most n c.args.event.deed) c.is_full.result c.len-nodes.result (length i.shelves.nodes) c.is_full.ensures (c.len-nodes.ensures) c.if-is_full.false in
    let none' = subst (λ (k : CoreValue g.row.R.Denot). IsFalse (is_full k.most (length k.story.nodes) c.args.event.deed)) c.self.view_is none in
    (λ e. cc, λ both. absurd (cannot (is_full c.args.self.now.most (length c.args.self.now.story.nodes) c.args.event.deed) none' both.1))

pub returns-clause-early : goal.returns-clause-early
returns-clause-early g c = let i = c.self.inside in
    let none = no_longer (λ n. is_early g.R.Cover.by_nodes i.most n c.args.event.deed) c.is_early.result c.len-nodes.result (length i.shelves.nodes) c.is_early.ensures (c.len-nodes.ensures) c.if-is_early.false in
    let none' = subst (λ (k : CoreValue g.row.R.Denot). IsFalse (is_early g.R.Cover.by_nodes k.most (length k.story.nodes) c.args.event.deed)) c.self.view_is none in
    (λ e. cc, λ both. absurd (cannot (is_early g.R.Cover.by_nodes c.args.self.now.most (length c.args.self.now.story.nodes) c.args.event.deed) none' both.1))

pub returns-clause-after : goal.returns-clause-after
returns-clause-after g c = λ _. let R : Type 0 = g.row.R.Denot in let i = c.self.inside in let s : Story R = record { nodes = i.shelves.nodes; events = i.events.items } in let e = c.args.event in
    let may : IsTrue (may_come g.R.Cover.by_nodes i.most s e) = may-all g.R.Cover.by_nodes i.most s e
    (allowed_now s e _ _ c.status-status.result c.is_allowed.result refl c.deref.ensures.value c.status-status.ensures c.is_allowed.ensures c.if-not-is_allowed.false)
    (no_longer (λ n. is_full i.most n e.deed) c.is_full.result c.len-nodes.result (length i.shelves.nodes) c.is_full.ensures (c.len-nodes.ensures) c.if-is_full.false)
    (no_longer (λ n. is_early g.R.Cover.by_nodes i.most n e.deed) c.is_early.result c.len-nodes.result (length i.shelves.nodes) c.is_early.ensures (c.len-nodes.ensures) c.if-is_early.false) in
    let nodes : c.note.new.self.nodes ≡ i.shelves.nodes ++ births e.node e.deed = c.note.ensures.nodes ∙ (c.bear-deed.ensures.nodes ∙ ap (λ (l : List (Node R)). l ++ births e.node e.deed) c.make_room.ensures.nodes) in
    let events : c.push_reserved.new.self.items ≡ i.events.items ++ record { by = e.by; node = e.node; deed = deed_kept e.deed } ∷ [] = c.push_reserved.ensures.items
    ∙ (λ k. c.make_room.ensures.events k ++ record { by = e.by; node = e.node; deed = c.bear-deed.ensures.deed k } ∷ []) in
    let now : Story R = record { nodes = c.note.new.self.nodes; events = c.push_reserved.new.self.items } in
    let is : now ≡ after_event g.R.Cover.by_nodes i.most s e = noted_after g.R.Cover.by_nodes i.most s e now may (λ k. record { nodes = nodes k; events = events k }) in
    subst (λ (v : CoreValue R). now ≡ after_event g.R.Cover.by_nodes v.most v.story e) c.self.view_is is
