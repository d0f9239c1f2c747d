use Rattle.term_simplify.proofs.OperationNumbers.{compare_number}
use Rattle.term_simplify.proofs.Stepping.{Stands-worth, if_ok, of_32}
use Rattle.term_simplify.proofs.builder.Builder.compared.Goals as goal

pub returns-clause-ok : goal.returns-clause-ok
returns-clause-ok c =
    if_ok _ _ _ c.step.ensures.ok (λ id n. Stands-worth
    (λ input bytes. compare_number c.args.op _ _
    (of_32 c.args.self.now c.args.a input bytes c.step.ensures.term.0 c.requires.first)
    (of_32 c.args.self.now c.args.b input bytes c.step.ensures.term.1 c.requires.second)) n)
