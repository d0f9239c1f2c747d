use Rattle.std.proofs.Common.{◌≡◌, drop, map}
use Rattle.text_parts.specs.Pieces.{named}
use Rattle.leaf_reader.proofs.cursor.named.Given as goal

abbrev pub invariant-loop-entry : goal.invariant-loop-entry
invariant-loop-entry g l =
    named (map (λ entry. (entry.0.now, entry.1)) (drop l.entry-index l.table)) l.text
    ≡ named (map (λ entry. (entry.0.now, entry.1)) l.table) l.text
