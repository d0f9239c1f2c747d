use Rattle.std.proofs.Common.{◌∙◌, ◌∷◌, [], ap, sym, arith}
use Rattle.std.proofs.lemmas.List.{get_or_default}
use Rattle.rv_spec.specs.Memory.{with_bytes}
use Rattle.rv_machine.specs.Pages.{Pages, byte_on, flags_on, past_the_end}
use Rattle.rv_machine.proofs.Looking.{looked, not_mapped}
use Rattle.rv_machine.proofs.Writing.{order-written, flags-written, byte-written}
use Rattle.rv_machine.proofs.memory.Memory.write.Goals as goal

pub invariant_of-self : goal.invariant_of-self
invariant_of-self c =
    let found = rw c.deref.ensures.value at c.in-Some.ensures.found in
    let here = sym (c.index_mut.ensures.value ∙ get_or_default _ _ c.index_mut.result.now past_the_end found.in_range) in
    rw c.put.ensures.byte (order-written _ _ c.in-Some.place c.index_mut.result.now c.self.invariant found here _)

pub returns-in-Some-clause-flags : goal.returns-in-Some-clause-flags
returns-in-Some-clause-flags c =
    let found = rw c.deref.ensures.value at c.in-Some.ensures.found in
    let here = sym (c.index_mut.ensures.value ∙ get_or_default _ _ c.index_mut.result.now past_the_end found.in_range) in
    rw c.put.ensures.byte (flags-written _ _ c.in-Some.place c.index_mut.result.now c.self.invariant found here _ ∙ ap (λ (p : Pages). flags_on p) c.self.view_is)

pub returns-in-Some-clause-bytes : goal.returns-in-Some-clause-bytes
returns-in-Some-clause-bytes c =
    let found = rw c.deref.ensures.value at c.in-Some.ensures.found in
    let here = sym (c.index_mut.ensures.value ∙ get_or_default _ _ c.index_mut.result.now past_the_end found.in_range) in
    rw c.put.ensures.byte
    (byte-written _ c.in-Some.place c.index_mut.result.now c.args.address c.args.byte c.self.invariant found here (omega (arith, c.put.ensures.size))
    ∙ ap (λ (p : Pages). with_bytes (byte_on p) c.args.address (c.args.byte ∷ [])) c.self.view_is)

pub returns-in_default-clause-bytes : goal.returns-in_default-clause-bytes
returns-in_default-clause-bytes c =
    not_mapped c.args.self.now c.args.address _ c.requires
    (looked c.args.self.now c.self.inside.pages.items _ _ c.self.view_is (sym (rw c.deref.ensures.value at c.in_default.ensures.absent)))
