use Rattle.bv_dag.specs.declared.nodes.BinaryOp.TheVariants.{Add, Sub}
use Rattle.std.specs.Prelude.{not}
use Rattle.term_simplify.proofs.OffsetReading.{numbered, of_words}
use Rattle.term_simplify.proofs.offsets.first_offset.Goals as goal

pub returns-in-Add-clause-some : goal.returns-in-Add-clause-some
returns-in-Add-clause-some c = λ g w is number.
    numbered g w c.args.o.taken c.args.o c.apply.result _ is c.apply.ensures (of_words w Add c.args.o.number c.args.x is.number number)

pub returns-in-Sub-clause-some : goal.returns-in-Sub-clause-some
returns-in-Sub-clause-some c = λ g w is number.
    numbered g w (not c.args.o.taken) c.args.o c.apply-in-Sub.result _ is c.apply-in-Sub.ensures (of_words w Sub c.args.x c.args.o.number number is.number)
