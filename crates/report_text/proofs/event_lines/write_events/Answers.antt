use Rattle.std.proofs.Common.{◌≡◌, ◌∙◌, ◌+◌, ◌≤◌, ◌++◌, Vec, Global, ap, arith, drop, get_or, length, string_bytes, sym, ℕ}
use Rattle.tree_core.specs.declared.event.Event.{Event}
use Rattle.fork_tree.specs.Written.{born_by, lines_from, nodes_after, written_deed}
use Rattle.report_text.specs.Entries.{cut_by_place}
use Rattle.report_text.specs.Events.{deed_text, events_text}
use Rattle.text_parts.proofs.Made.{pushed}
use Rattle.report_text.proofs.EventTexts.{events_end, events_next, fits_in, nodes_next}
use Rattle.report_text.proofs.event_lines.write_events.Goals as goal

pub event_line-requires : goal.event_line-requires
event_line-requires g c =
    fits_in (cut_by_place g.R.Placed.place) c.args.nodes.now c.loop-event.first c.loop-event.event-index c.args.events.now c.event-item.result _ c.loop-event-test.true c.event-item.is c.loop-event.invariant.counted

pub overflow_add-first : goal.overflow_add-first
overflow_add-first g c =
    let within : c.loop-event.first + born_by c.event-item.result.deed ≤ length c.args.nodes.now =
    fits_in (cut_by_place g.R.Placed.place) c.args.nodes.now c.loop-event.first c.loop-event.event-index c.args.events.now c.event-item.result _ c.loop-event-test.true c.event-item.is c.loop-event.invariant.counted in
    omega (arith, within, c.born-first.ensures)

pub loop-event-preserved : goal.loop-event-preserved
loop-event-preserved g c =
    let cut = cut_by_place g.R.Placed.place in
    let nodes = c.args.nodes.now in
    let events = c.args.events.now in
    let first = c.loop-event.first in
    let i = c.loop-event.event-index in
    let d = c.event-item.result in
    let e = get_or events i d in
    let born : c.born-first.result ≡ born_by e.deed =
    c.born-first.ensures ∙ ap (λ (x : Event g.row.R.Denot ℕ). born_by x.deed) c.event-item.is in
    let line : string_bytes c.push_str.new.self ≡ string_bytes c.loop-event.text
    ++ deed_text e.by e.node (written_deed cut nodes first e.deed) =
    pushed _ _ _ _ c.in_ok-push_str.ensures.bytes
    (c.deref.ensures ∙ c.in_ok-line.ensures ∙ ap (λ (x : Event g.row.R.Denot ℕ). deed_text x.by x.node (written_deed cut nodes first x.deed)) c.event-item.is) in
    record {
      written =
          ap (λ n. string_bytes c.push_str.new.self ++ events_text (lines_from cut nodes (first + n) (drop (i + 1) events))) born
          ∙ events_next cut nodes first i events d _ _ c.loop-event-test.true line
          ∙ c.loop-event.invariant.written;
      counted =
          ap (λ n. nodes_after (first + n) (drop (i + 1) events)) born
          ∙ sym (nodes_next cut nodes first i events d c.loop-event-test.true)
          ∙ c.loop-event.invariant.counted;
    }

pub returns : goal.returns
returns g c =
    c.from_vec.ensures ∙ ap (λ (v : Vec ℕ Global). v.items) c.into_bytes.ensures.value
    ∙ events_end (cut_by_place g.R.Placed.place) c.args.nodes.now c.loop-event.first c.loop-event.event-index c.args.events.now _ c.loop-event-test.false
    ∙ c.loop-event.invariant.written
