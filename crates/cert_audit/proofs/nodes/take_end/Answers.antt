use Rattle.std.proofs.Common.{rules, ◌≡◌, ◌-◌, ◌∷◌, arith, drop, length, take}
use Rattle.std.proofs.lemmas.Grind.{common_steps}
use Rattle.cert_form.specs.declared.line.CertLine.TheVariants.{End}
use Rattle.cert_audit.specs.Steps.{IsSampledBy}
use Rattle.cert_audit.proofs.NodeLeaves.{end_leaf}
use Rattle.cert_audit.proofs.nodes.take_end.Goals as goal

pub returns-clause-leaf : goal.returns-clause-leaf
returns-clause-leaf c = λ budgets.
    let at = c.in-End in
    let rest = take (length c.args.lines.now - 1) (drop 1 c.args.lines.now) in
    let by : IsSampledBy c.args.run.now at.input c.take_sample.new.run = search rules in
    let is : c.args.lines.now ≡ End at.input ∷ rest = first_of (search rules, grind (arith, common_steps)) in
    end_leaf budgets c.args.run.now c.take_sample.new.run at.input c.args.lines.now rest c.in_ok-leaf.leaf by c.in_ok-leaf.ensures.sample
    c.args.end is c.in_ok-leaf.ensures.leaf
