use Rattle.std.proofs.Common.{◌≡◌, ◌+◌, ◌*◌, map}
use Rattle.std.specs.List.{range_with_len}
use Rattle.elf_load.specs.Fields.{program_header_at}
use Rattle.elf_load.proofs.program_check.read_program_headers.Given as goal

abbrev pub invariant-loop-i : goal.invariant-loop-i
invariant-loop-i l = l.rows.items ≡ map (λ i. program_header_at l.bytes (l.header.table_offset + 32 * i)) (range_with_len 0 l.i)
