use Rattle.std.proofs.Common.{◌≡◌, None, false, filter, length, sym, ap, subst, ◌∙◌}
use Rattle.elf_load.specs.Fields.{headers, segments, is_segment}
use Rattle.elf_load.specs.Refusals.{refusal, program_refusal, segment_refusal, refused_file_over_memory, refused_bytes_past_end, refused_address_range, MayFail}
use Rattle.elf_load.proofs.Failing.{refused_so, fails_so}
use Rattle.elf_load.proofs.Rows.{refused_by_header, refused_by_program, refused_by_segments, segments_sized, segments_placed}
use Rattle.elf_load.proofs.loading.read_segments.Goals as goal

pub returns-in_err-header-clause-refused : goal.returns-in_err-header-clause-refused
returns-in_err-header-clause-refused c =
    refused_so c.from_residual.result _ c.in_err-header.field-0.0 c.from_residual.ensures.1
    (refused_by_header c.args.bytes.now _ c.in_err-header.ensures.refused)

pub returns-in_err-check_program_headers-clause-refused : goal.returns-in_err-check_program_headers-clause-refused
returns-in_err-check_program_headers-clause-refused c =
    refused_so c.from_residual-in_err-check_program_headers.result _ c.in_err-check_program_headers.field-0.0 c.from_residual-in_err-check_program_headers.ensures.1
    (refused_by_program c.args.bytes.now _ c.in_ok-header.ensures.fine (rw (← c.in_ok-rows.ensures, ← c.deref.ensures.value) c.in_err-check_program_headers.ensures.refused))

pub check_segments-requires : goal.check_segments-requires
check_segments-requires c = rw (c.deref-2.ensures.value, c.keep_segments.ensures) (segments_sized c.in_ok-rows.rows.items)

pub returns-in_err-check_segments-clause-refused : goal.returns-in_err-check_segments-clause-refused
unfolding segments
returns-in_err-check_segments-clause-refused c =
    let program : program_refusal (length c.args.bytes.now) (headers c.args.bytes.now) ≡ None = rw (← c.in_ok-rows.ensures, ← c.deref.ensures.value) c.in_ok-check_program_headers.ensures.fine in
    let kept : c.deref-2.result.now ≡ segments c.args.bytes.now = c.deref-2.ensures.value ∙ c.keep_segments.ensures ∙ ap (filter is_segment) c.in_ok-rows.ensures in
    let why : segment_refusal c.deref-2.result.now ≡ refusal c.args.bytes.now = ap segment_refusal kept ∙ sym (refused_by_segments c.args.bytes.now c.in_ok-header.ensures.fine program) in
    fails_so c.from_residual-in_err-check_segments.result _ c.in_err-check_segments.field-0.0 c.from_residual-in_err-check_segments.ensures.1
    (subst (λ o. MayFail o c.in_err-check_segments.field-0.0) why c.in_err-check_segments.ensures.refused)

pub returns-clause-placed : goal.returns-clause-placed
returns-clause-placed c =
    let over : refused_file_over_memory c.in_ok-rows.rows.items ≡ false = rw (← c.deref.ensures.value) c.in_ok-check_program_headers.ensures.over_none in
    let past : refused_bytes_past_end (length c.args.bytes.now) c.in_ok-rows.rows.items ≡ false = rw (← c.deref.ensures.value) c.in_ok-check_program_headers.ensures.past_none in
    let range : refused_address_range (filter is_segment c.in_ok-rows.rows.items) ≡ false = rw (← c.keep_segments.ensures, ← c.deref-2.ensures.value) c.in_ok-check_segments.ensures.in_range in
    rw c.keep_segments.ensures (segments_placed (length c.args.bytes.now) c.in_ok-rows.rows.items over past range)

pub returns-clause-fine : goal.returns-clause-fine
unfolding segments
returns-clause-fine c =
    let program : program_refusal (length c.args.bytes.now) (headers c.args.bytes.now) ≡ None = rw (← c.in_ok-rows.ensures, ← c.deref.ensures.value) c.in_ok-check_program_headers.ensures.fine in
    let kept : c.deref-2.result.now ≡ segments c.args.bytes.now = c.deref-2.ensures.value ∙ c.keep_segments.ensures ∙ ap (filter is_segment) c.in_ok-rows.ensures in
    refused_by_segments c.args.bytes.now c.in_ok-header.ensures.fine program ∙ sym (ap segment_refusal kept) ∙ c.in_ok-check_segments.ensures.fine
