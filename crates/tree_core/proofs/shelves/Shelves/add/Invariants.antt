use Rattle.std.proofs.Common.{◌≡◌, ◌+◌, ◌≤◌, ◌++◌, None, length, map, vec_len}
use Rattle.std.specs.Vec.{vec_capacity}
use Rattle.std.specs.Vec.Iter.{into_iter_items, into_iter_len}
use Rattle.tree_core.specs.Cores.{unworked_of}
use Rattle.tree_core.specs.Replays.{node_of}
use Rattle.tree_core.proofs.shelves.Shelves.add.Given as goal

abbrev pub invariant-loop-kid : goal.invariant-loop-kid
invariant-loop-kid g l = record {
  whole : l.yielded ++ into_iter_items l.kid-iterator ≡ into_iter_items l.initial.kid-iterator;
  left : into_iter_len l.kid-iterator ≡ length (into_iter_items l.kid-iterator);
  nodes : l.self-inside.nodes.items ≡ l.initial.self-inside.nodes.items ++ map (node_of l.parent) l.yielded;
  latest : l.self-inside.latest.items ≡ l.initial.self-inside.latest.items ++ map (λ _. None) l.yielded;
  contents : l.self-inside.contents.items ≡ l.initial.self-inside.contents.items ++ map (λ kid. unworked_of kid.is_leaf kid.content) l.yielded;
  node_room : vec_len l.self-inside.nodes + into_iter_len l.kid-iterator ≤ vec_capacity l.self-inside.nodes;
  latest_room : vec_len l.self-inside.latest + into_iter_len l.kid-iterator ≤ vec_capacity l.self-inside.latest;
  content_room : vec_len l.self-inside.contents + into_iter_len l.kid-iterator ≤ vec_capacity l.self-inside.contents;
}
