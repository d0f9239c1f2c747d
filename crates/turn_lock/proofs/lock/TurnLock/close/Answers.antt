use Rattle.std.proofs.Common.{ap, ◌∙◌, sym}
use mathlib.Core.Option.{some, some-injective}
use Rattle.turn_lock.specs.Hands.{in_table}
use Rattle.turn_lock.proofs.Joining.{homes, closes}
use Rattle.turn_lock.proofs.Seen.{content_is}
use Rattle.turn_lock.proofs.lock.TurnLock.close.Goals as goal

pub unreachable-requires : goal.unreachable-requires
unreachable-requires g c = let r = c.requires in let seat = c.args.pass.seat in
    let home = homes (in_table g.V.Growing.fixed) g.V.Growing.nodes g.V.Growing.events
    g.V.Growing.worker _ seat.id seat.me.0 _ _ c.args.pass.live r.first r.turn r.ended
    c.close_with-closed.ensures.values.2 in
    c.in_default.not-Some home.0 (some-injective _ _ (sym c.take.ensures.value ∙ home.1))

pub returns-clause-fixed : goal.returns-clause-fixed
returns-clause-fixed g c = let r = c.requires in let seat = c.args.pass.seat in
    let end = closes (in_table g.V.Growing.fixed) g.V.Growing.nodes g.V.Growing.events
    g.V.Growing.worker _ seat.id seat.me.0 _ _ c.args.pass.live r.first r.turn r.ended
    c.close_with-closed.ensures.values.2 _ (c.take.ensures.value ∙ ap some c.in-Some.is) in
    content_is seat.me.0.fixed c.args.pass.told (g.V.Growing.fixed c.in-Some.value) end.fixed

pub returns-clause-seen_nodes : goal.returns-clause-seen_nodes
returns-clause-seen_nodes g c = let r = c.requires in let seat = c.args.pass.seat in
    let end = closes (in_table g.V.Growing.fixed) g.V.Growing.nodes g.V.Growing.events
    g.V.Growing.worker _ seat.id seat.me.0 _ _ c.args.pass.live r.first r.turn r.ended
    c.close_with-closed.ensures.values.2 _ (c.take.ensures.value ∙ ap some c.in-Some.is) in
    end.nodes

pub returns-clause-seen_events : goal.returns-clause-seen_events
returns-clause-seen_events g c = let r = c.requires in let seat = c.args.pass.seat in
    let end = closes (in_table g.V.Growing.fixed) g.V.Growing.nodes g.V.Growing.events
    g.V.Growing.worker _ seat.id seat.me.0 _ _ c.args.pass.live r.first r.turn r.ended
    c.close_with-closed.ensures.values.2 _ (c.take.ensures.value ∙ ap some c.in-Some.is) in
    end.events

pub returns-clause-events : goal.returns-clause-events
returns-clause-events g c = let r = c.requires in let seat = c.args.pass.seat in
    let end = closes (in_table g.V.Growing.fixed) g.V.Growing.nodes g.V.Growing.events
    g.V.Growing.worker _ seat.id seat.me.0 _ _ c.args.pass.live r.first r.turn r.ended
    c.close_with-closed.ensures.values.2 _ (c.take.ensures.value ∙ ap some c.in-Some.is) in
    record { own = end.are.own; ended = end.are.ended; others = end.are.others }
