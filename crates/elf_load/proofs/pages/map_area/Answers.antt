use Rattle.std.proofs.Common.{◌+◌, ◌-◌, ◌*◌, cond, slice_index, bit_and, bit_or, ap, ◌∙◌, arith}
use Rattle.std.specs.BTreeMap.{get}
use Rattle.std.specs.Ordering.{nat_cmp}
use Rattle.elf_load.specs.Images.{gives_byte}
use Rattle.elf_load.proofs.Mapping.{mapped_more, mapped_all}
use Rattle.elf_load.proofs.pages.map_area.Goals as goal

pub loop-number-preserved : goal.loop-number-preserved
loop-number-preserved c areas h =
    mapped_more c.args.bytes.now c.args.area.now areas c.loop-number.number (get nat_cmp c.loop-number.pages) (get nat_cmp c.insert.new.self) c.add_area.new.page
    (omega arith) (omega arith) c.in_ok-insert.ensures.updates.0
    (c.add_area.ensures.flags ∙ ap (bit_or (bit_and c.args.area.now.flags 7)) c.page_or_blank-page.ensures.flags)
    (λ i l. c.add_area.ensures.content i l
    ∙ ap (cond (gives_byte c.args.area.now (256 * c.loop-number.number + i)) (slice_index c.args.bytes.now (c.args.area.now.offset + (256 * c.loop-number.number + i - c.args.area.now.address)))) (c.page_or_blank-page.ensures.content i))
    c.add_area.ensures.size (c.loop-number.invariant areas h)

pub returns : goal.returns
returns c areas h = mapped_all c.args.bytes.now c.args.area.now areas c.loop-number.number (get nat_cmp c.loop-number.pages) c.requires (omega arith) (c.loop-number.invariant areas h)
