use Rattle.std.proofs.Common.{◌≡◌, ◌∙◌, ap}
use Rattle.std.specs.Prelude.{replicate}
use Rattle.sym_state.proofs.Opening.{first_formed}
use Rattle.sym_state.proofs.first.begin.Goals as goal

pub invariant_of-result : goal.invariant_of-result
invariant_of-result c =
    let zeros : c.in_ok-vec.field-0.items ≡ replicate c.args.terms.inputs 0 =
    c.in_ok-vec.ensures.items_if_clones_equal (λ y same. same)
    ∙ ap (λ n. replicate n 0) (c.inputs-inputs.ensures ∙ ap (λ t. t.inputs) c.terms.ensures) in
    rw (c.first_registers.ensures, c.new.ensures, c.new-2.ensures, c.new-3.ensures, c.new-4.ensures, c.new-5.ensures.items, c.from_vec.ensures, c.nothing.ensures, zeros)
    (first_formed c.args.entry c.args.memory c.args.terms c.ranges.entry.fits c.requires.has_bytes)
