use Rattle.std.proofs.Common.{◌≡◌, ◌++◌, drop, length, string_bytes}
use Rattle.fork_tree.specs.Written.{lines_from, nodes_after}
use Rattle.report_text.specs.Entries.{cut_by_place}
use Rattle.report_text.specs.Events.{events_text}
use Rattle.report_text.proofs.event_lines.write_events.Given as goal

-- what is written, and then the rest, is all of it; and the rest makes the nodes that are left
abbrev pub invariant-loop-event : goal.invariant-loop-event
invariant-loop-event g l = record {
  written : string_bytes l.text
      ++ events_text (lines_from (cut_by_place g.R.Placed.place) l.nodes l.first (drop l.event-index l.events))
      ≡ events_text (lines_from (cut_by_place g.R.Placed.place) l.nodes 1 l.events);
  counted : nodes_after l.first (drop l.event-index l.events) ≡ length l.nodes;
}
