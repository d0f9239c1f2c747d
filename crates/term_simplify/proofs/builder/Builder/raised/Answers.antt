use Rattle.std.proofs.Common.{arith, refl}
use Rattle.bv_dag.specs.Graphs.{width_of}
use Rattle.term_simplify.proofs.Multiplying.{joined_raised, not_raised}
use Rattle.term_simplify.proofs.Stepping.{Stands-grown, concat_step, if_ok}
use Rattle.term_simplify.proofs.builder.Builder.raised.Goals as goal

pub returns-then-by-eq0-clause-ok : goal.returns-then-by-eq0-clause-ok
returns-then-by-eq0-clause-ok c = not_raised c.args.self.now c.args.a c.args.by c.if-by-eq0.true c.requires.some

pub plain_step-requires-2 : goal.plain_step-requires-2
plain_step-requires-2 c =
    let upper = Stands-grown c.args.a (width_of c.args.self.now c.args.a) c.plain_step.ensures.continues refl c.requires.some in
    let zeros = c.in_ok-zeros.ensures.ok in
    (omega (arith, upper.width, c.requires.some), omega (arith, zeros.width, c.if-by-eq0.false), omega (arith, upper.width, zeros.width, c.requires.fits))

pub returns-clause-ok : goal.returns-clause-ok
returns-clause-ok c =
    let upper = Stands-grown c.args.a (width_of c.args.self.now c.args.a) c.plain_step.ensures.continues refl c.requires.some in
    let zeros = c.in_ok-zeros.ensures.ok in
    if_ok _ _ _ c.plain_step-2.ensures.ok (λ id n. joined_raised _ _ c.args.by c.if-by-eq0.false (concat_step upper zeros n))
