use Rattle.std.proofs.Common.{◌≡◌, true, ap, sym, ◌∙◌}
use Rattle.fork_spec.specs.Evidence.{Found}
use Rattle.sym_state.specs.Symbolic.{stands_for}
use Rattle.sym_state.proofs.Tests.{all_true, same}
use Rattle.run_sides.proofs.Sides.{narrower_by}
use Rattle.node_split.proofs.Branching.{assigned_each}
use Rattle.node_split.proofs.pin.found_side.Goals as goal

pub sample_by-requires : goal.sample_by-requires
sample_by-requires c = record {
  each_input = rw (c.in_ok-from_slice.ensures, c.as_slice.ensures)
      (assigned_each c.args.state.now _ (rw (← c.at.view_is) at c.requires.has.0) ∙ sym c.in_ok-side.ensures.inputs);
}

pub returns-clause-narrower : goal.returns-clause-narrower
returns-clause-narrower c = rw (c.sample_by.ensures.value, ← c.at.view_is) (narrower_by c.args.state.now c.in_ok-side.side _ _ _ c.in_ok-side.ensures)

pub returns-clause-sampled : goal.returns-clause-sampled
returns-clause-sampled c =
    let f = c.args.at.now in
    let on : stands_for c.in_ok-side.side f.input ≡ true
    = c.in_ok-side.ensures.covers f.input ∙ all_true _ _ c.requires.has.0 (same _ _ (c.requires.has.1 ∙ sym (ap (λ (x : Found). x.value) c.at.view_is))) in
    rw (c.sample_by.ensures.value, c.in_ok-from_slice.ensures, c.as_slice.ensures) (rw (← c.at.view_is) at on)
