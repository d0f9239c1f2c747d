use Rattle.bv_dag.specs.declared.nodes.BinaryOp.TheVariants.{Sub}
use Rattle.term_simplify.proofs.OffsetReading.{of_words}
use Rattle.term_simplify.proofs.balances.balance_with.Goals as goal

pub returns-in-true-true-clause-some : goal.returns-in-true-true-clause-some
returns-in-true-true-clause-some c = λ g w first second.
    c.balance_by.ensures.of g w first second (rw c.apply-number.ensures (of_words w Sub c.args.o.number c.args.p.number first.number second.number))

pub returns-in-false-false-clause-some : goal.returns-in-false-false-clause-some
returns-in-false-false-clause-some c = λ g w first second.
    c.balance_by-in-false-false.ensures.of g w first second
    (rw c.apply-number-in-false-false.ensures (of_words w Sub c.args.p.number c.args.o.number second.number first.number))
