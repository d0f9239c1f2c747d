use Rattle.std.proofs.Common.{not, refl}
use Rattle.std.proofs.lemmas.List.Elements.{Contains-push}
use Rattle.bv_dag.specs.Graphs.{number_of}
use Rattle.run_sides.specs.Sides.{is_side}
use Rattle.run_sides.proofs.Branching.{branch_settled, tested_narrowed}
use Rattle.cert_audit.specs.Asking.{IsLast}
use Rattle.cert_audit.proofs.Parting.{none_passes}
use Rattle.cert_audit.proofs.branch.one_side.Goals as goal

pub take_proof-requires : goal.take_proof-requires
take_proof-requires c = rw c.in_ok-assert.ensures.ok (Contains-push c.in_ok-other.other.run.condition c.in_ok-other.other.test)

pub go_on-requires : goal.go_on-requires
go_on-requires c =
    let s = c.args.run.now in
    let other = not c.args.side in
    let shown = rw c.in-Ok.is at c.in_ok-rest.ensures.taken in
    branch_settled s c.args.term c.args.side c.requires
    (none_passes s c.assert.new.self (λ input. is_side other (number_of s.terms c.args.term input))
    (tested_narrowed s c.assert.new.self c.args.term other c.in_ok-other.other c.in_ok-other.ensures c.in_ok-assert.ensures.ok) shown.none)

pub returns-clause-cause : goal.returns-clause-cause
returns-clause-cause c =
    let tested = c.in_ok-other.other in
    let last : IsLast c.assert.new.self.condition tested.test = rw c.in_ok-assert.ensures.ok (tested.run.condition, refl) in
    let refused = rw c.in-Err.is at (c.in_ok-rest.ensures.cause last) in
    record {
      other = c.assert.new.self;
      is_other = record { tested = tested; is_tested = c.in_ok-other.ensures; same = c.in_ok-assert.ensures.ok };
      refused = refused;
    }
