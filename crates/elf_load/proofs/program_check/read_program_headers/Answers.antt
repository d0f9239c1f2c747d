use Rattle.std.proofs.Common.{◌+◌, ◌*◌, sym, arith}
use Rattle.std.proofs.lemmas.List.FromFn.{map-range_with_len_more}
use Rattle.elf_load.specs.Fields.{program_header_at}
use Rattle.elf_load.proofs.program_check.read_program_headers.Goals as goal

pub loop-i-preserved : goal.loop-i-preserved
loop-i-preserved c =
    rw (c.in_ok-push.ensures.items, c.read_program_header.ensures, c.loop-i.invariant)
    (sym (map-range_with_len_more (λ i. program_header_at c.args.bytes.now (c.args.header.now.table_offset + 32 * i)) 0 c.loop-i.i c.loop-i.i (omega arith)))
