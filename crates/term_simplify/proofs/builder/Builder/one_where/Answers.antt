use Rattle.std.proofs.Common.{false}
use Rattle.term_simplify.proofs.OperationNumbers.{set_number}
use Rattle.term_simplify.proofs.Stepping.{Stands-worth, if_ok, extend_step}
use Rattle.term_simplify.proofs.builder.Builder.one_where.Goals as goal

pub returns-clause-ok : goal.returns-clause-ok
returns-clause-ok c =
    if_ok _ _ _ c.step.ensures.ok (λ id n. Stands-worth (λ input bytes. set_number _)
    (extend_step 31 false c.in_ok-bit.ensures.ok n))
