use Rattle.std.proofs.Common.{rules, ◌≡◌, arith}
use Rattle.std.proofs.lemmas.Bool.Decides.{nat_tests}
use Rattle.std.proofs.lemmas.List.{take_all}
use Rattle.cert_audit.proofs.Settling.{enough_nodes, none_missing}
use Rattle.cert_audit.proofs.auditing.has_nodes.Goals as goal

pub returns : goal.returns
returns c =
    let all = rw (take_all c.loop-line.line-index c.args.lines.now c.loop-line-test.false) at c.loop-line.invariant.missing in (
      λ is.
          let none : c.loop-line.missing ≡ 0 = search rules in
          enough_nodes c.args.nodes c.loop-line.missing c.args.lines.now all none,
      λ enough.
          let none = none_missing c.args.nodes c.loop-line.missing c.args.lines.now all enough in
          grind (arith, nat_tests, none),
    )
