use Rattle.std.proofs.Common.{arith}
use Rattle.term_simplify.proofs.Stepping.{as_quotient, Stands-grown, if_ok, or_ones_step, Stands-worth, of_32}
use Rattle.term_simplify.proofs.MachineNumbers.{quotient_number}
use Rattle.term_simplify.proofs.builder.Builder.quotient.Goals as goal

pub or_ones-requires-clause-divisor : goal.or_ones-requires-clause-divisor
or_ones-requires-clause-divisor c =
    let divisor = Stands-grown c.args.b 32 c.signed_quotient.ensures.continues c.requires.second (omega arith) in
    divisor.width

pub returns-clause-ok : goal.returns-clause-ok
returns-clause-ok c =
    let divisor = Stands-grown c.args.b 32 c.signed_quotient.ensures.continues c.requires.second (omega arith) in
    if_ok _ _ _ c.or_ones.ensures.ok (λ id n. Stands-worth
    (λ input bytes. quotient_number _ _ (of_32 c.args.self.now c.args.a input bytes
    c.in_ok-signed.ensures.first c.requires.first) (of_32 c.args.self.now c.args.b input bytes
    c.in_ok-signed.ensures.second c.requires.second))
    (as_quotient _ _ (or_ones_step divisor c.in_ok-signed.ensures.ok n)))
