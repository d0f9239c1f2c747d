use Rattle.term_simplify.proofs.OperationNumbers.{not_number}
use Rattle.term_simplify.proofs.Stepping.{Stands-worth, if_ok, not_step}
use Rattle.term_simplify.proofs.builder.Builder.not_compared.Goals as goal

pub returns-clause-ok : goal.returns-clause-ok
returns-clause-ok c =
    if_ok _ _ _ c.step.ensures.ok (λ id n. Stands-worth (λ input bytes. not_number _)
    (not_step c.in_ok-bit.ensures.ok n))
