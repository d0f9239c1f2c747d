use Rattle.std.proofs.Common.{◌≡◌, ◌-◌, take, length}
use Rattle.std.specs.Prelude.{sum_by}
use Rattle.cert_audit.specs.Names.{sides_in}
use Rattle.cert_audit.proofs.auditing.has_nodes.Given as goal

-- so many are missing behind the lines so far
abbrev pub invariant-loop-line : goal.invariant-loop-line
invariant-loop-line l = record {
  missing : l.missing ≡ l.fn.nodes - 1 - sum_by (λ line. length (sides_in line)) (take l.line-index l.lines);
}
