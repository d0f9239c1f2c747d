use Rattle.std.proofs.Common.{◌≡◌, ◌∙◌, ◌<◌, ℕ, List, Option, Some, None, get_or, length, sym, ap, arith}
use Rattle.std.specs.List.{slice_get}
use Rattle.std.proofs.lemmas.Option.{slice_get-get_or, slice_get_within}
use Rattle.tree_core.specs.Cores.{IsLast, Shelved}
use Rattle.tree_core.specs.Stories.{Story, last_on}
use Rattle.tree_core.specs.declared.event.Event.{Event}
use Rattle.tree_core.proofs.shelves.Shelves.last.Goals as goal

-- what stands in the field is the place of the last event
in_field : {R : Type 0} (s : Story R) (of_fields latest : List (Option ℕ)) (m : ℕ) (o p : Option ℕ) → of_fields ≡ latest → m < length latest → o ≡ get_or of_fields m o → o ≡ p
    → ((last : Option ℕ) → slice_get latest m ≡ Some last → IsLast s m last) → IsLast s m p
in_field s of_fields latest m o p same there is found last =
    last p (slice_get-get_or latest m o there ∙ (ap Some (sym (is ∙ ap (λ (l : List (Option ℕ)). get_or l m o) same)) ∙ ap Some found))

last_place : {R : Type 0} (s : Story R) (m k : ℕ) → IsLast s m (Some k) → k < length s.events
last_place s m k l = slice_get_within s.events k l.0 l.1

last_found : {R : Type 0} (s : Story R) (m k : ℕ) (e : Event R ℕ) → IsLast s m (Some k) → e ≡ get_or s.events k e → Some e ≡ last_on m s.events
last_found s m k e l is = let at : slice_get s.events k ≡ Some e = slice_get-get_or s.events k e (last_place s m k l) ∙ ap Some (sym is) in
    sym at ∙ (l.1 ∙ sym l.2)

pub bounds-events-place : goal.bounds-events-place
bounds-events-place g c = let R : Type 0 = g.row.R.Denot in let v : Shelved R = c.args.self.now in let s : Story R = record { nodes = v.nodes; events = c.args.events.now } in
    last_place s c.args.node c.in-Some.place
    (in_field s c.self.inside.latest.items v.latest c.args.node c.index.result.now (Some c.in-Some.place) (ap (λ (x : Shelved R). x.latest) c.self.view_is) c.requires.there c.index.ensures c.in-Some.is c.requires.last)

pub offset_bounds-events-place : goal.offset_bounds-events-place
offset_bounds-events-place g c = let low : c.in-Some.place < length c.args.events.now = bounds-events-place g c in omega arith

pub returns-in-Some : goal.returns-in-Some
returns-in-Some g c = let R : Type 0 = g.row.R.Denot in let v : Shelved R = c.args.self.now in let s : Story R = record { nodes = v.nodes; events = c.args.events.now } in
    last_found s c.args.node c.in-Some.place c.index-events-place.result
    (in_field s c.self.inside.latest.items v.latest c.args.node c.index.result.now (Some c.in-Some.place) (ap (λ (x : Shelved R). x.latest) c.self.view_is) c.requires.there c.index.ensures c.in-Some.is c.requires.last)
    c.index-events-place.is

pub returns-in-None : goal.returns-in-None
returns-in-None g c = let R : Type 0 = g.row.R.Denot in let v : Shelved R = c.args.self.now in let s : Story R = record { nodes = v.nodes; events = c.args.events.now } in
    sym (in_field s c.self.inside.latest.items v.latest c.args.node c.index.result.now None (ap (λ (x : Shelved R). x.latest) c.self.view_is) c.requires.there c.index.ensures c.in-None.is c.requires.last)
