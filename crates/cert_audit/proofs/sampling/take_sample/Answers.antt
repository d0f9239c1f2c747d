use Rattle.std.proofs.Common.{rules, ◌≡◌, ◌∙◌, true}
use Rattle.sym_state.specs.Symbolic.{stands_for}
use Rattle.cert_audit.proofs.Meeting.{sampled_by}
use Rattle.cert_audit.proofs.sampling.take_sample.Goals as goal

pub returns-clause-sampled : goal.returns-clause-sampled
returns-clause-sampled c = λ yes.
    let met : stands_for c.args.run.now c.args.input.now ≡ true = search rules in
    sampled_by c.args.run.now c.sample_by.new.self c.args.input.now c.in_ok-from_slice.field-0 c.sample_by.ensures.value
    (c.in_ok-from_slice.ensures ∙ c.as_slice-2.ensures) met
