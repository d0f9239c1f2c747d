use Rattle.std.proofs.Common.{◌+◌, ◌-◌, ◌≤◌, ◌<◌, length, take, drop, ap, ◌∙◌, arith}
use Rattle.elf_load.proofs.Pasting.{pasted}
use Rattle.elf_load.proofs.page.put_bytes.Goals as goal

pub returns-then-from-past : goal.returns-then-from-past
returns-then-from-past c i inside =
    let some : 0 < c.args.area.now.file_size = omega arith in
    let fits : c.args.area.now.offset + c.args.area.now.file_size ≤ length c.args.bytes.now = c.requires.given some in
    pasted c.args.page.now c.args.bytes.now c.copy_from_slice.new.self c.args.start c.args.area.now.address c.args.area.now.offset c.args.area.now.file_size c.max-from.result c.min-past.result i
    c.max-from.ensures c.min-past.ensures c.if-from-past.true c.requires.size fits inside
    (c.copy_from_slice.ensures.after ∙ ap (λ k. take k (drop (c.args.area.now.offset + (c.max-from.result - c.args.area.now.address)) c.args.bytes.now)) (omega arith))
