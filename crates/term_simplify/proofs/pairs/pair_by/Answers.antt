use Rattle.bv_dag.specs.declared.nodes.BinaryOp.TheVariants.{Add, Sub}
use Rattle.term_simplify.proofs.OffsetReading.{of_words}
use Rattle.term_simplify.proofs.pairs.pair_by.Goals as goal

pub returns-in-Add-clause-some : goal.returns-in-Add-clause-some
returns-in-Add-clause-some c = λ g w first second.
    c.by_signs.ensures.of g w first second (rw c.apply-number.ensures (of_words w Add c.args.o.number c.args.p.number first.number second.number))

pub returns-in-Sub-clause-some : goal.returns-in-Sub-clause-some
returns-in-Sub-clause-some c = λ g w first second.
    c.by_signs-in-Sub.ensures.of g w first second
    (rw c.apply-number-in-Sub.ensures (of_words w Sub c.args.o.number c.args.p.number first.number second.number))
