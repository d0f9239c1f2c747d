use Rattle.std.proofs.Common.{rules, ◌≡◌, ◌-◌, ◌∷◌, arith, drop, length, take}
use Rattle.std.proofs.lemmas.Grind.{common_steps}
use Rattle.cert_form.specs.declared.line.CertLine.TheVariants.{CutSteps}
use Rattle.cert_audit.specs.Steps.{IsSampledBy}
use Rattle.cert_audit.proofs.NodeLeaves.{steps_leaf}
use Rattle.cert_audit.proofs.nodes.take_cut_steps.Goals as goal

pub returns-clause-leaf : goal.returns-clause-leaf
returns-clause-leaf c = λ budgets.
    let at = c.in-CutSteps in
    let rest = take (length c.args.lines.now - 1) (drop 1 c.args.lines.now) in
    let by : IsSampledBy c.args.run.now at.input c.take_sample.new.run = search rules in
    let is : c.args.lines.now ≡ CutSteps at.input ∷ rest = first_of (search rules, grind (arith, common_steps)) in
    steps_leaf budgets c.args.run.now c.take_sample.new.run at.input c.args.lines.now rest c.in_ok-leaf.leaf by c.in_ok-leaf.ensures.sample
    is c.in_ok-leaf.ensures.leaf
