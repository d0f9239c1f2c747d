use Rattle.std.proofs.Common.{subst}
use Rattle.bv_dag.specs.Graphs.{IsDag}
use Rattle.bv_dag.specs.declared.nodes.Node.TheVariants.{Binary}
use Rattle.term_simplify.proofs.Building.{is_term_of}
use Rattle.term_simplify.proofs.PairReading.{alone_stands, pair_stands}
use Rattle.term_simplify.proofs.Stepping.{if_ok}
use Rattle.term_simplify.proofs.builder.Builder.made_step.Goals as goal

pub returns-in-Some-clause-ok : goal.returns-in-Some-clause-ok
returns-in-Some-clause-ok c =
    let g = c.args.self.now in
    let term = is_term_of g (Binary c.args.op c.args.a c.args.b) (subst IsDag c.known.ensures c.in-Some.ensures.fit) c.requires in
    if_ok _ _ _ c.paired.ensures.ok (λ id n. pair_stands c.known.result.now g c.known.ensures c.args.op c.args.a c.args.b term
    c.in-Some.p c.in-Some.ensures.is c.in-Some.ensures.some c.width.ensures.value n)

pub returns-in-Some-clause-term : goal.returns-in-Some-clause-term
returns-in-Some-clause-term c =
    is_term_of c.args.self.now (Binary c.args.op c.args.a c.args.b) (subst IsDag c.known.ensures c.in-Some.ensures.fit) c.requires

pub returns-in-None-clause-ok : goal.returns-in-None-clause-ok
returns-in-None-clause-ok c =
    if_ok _ _ _ c.sum_step.ensures.ok (λ id n. alone_stands c.known.result.now c.args.self.now c.known.ensures c.args.op c.args.a c.args.b c.sum_step.ensures.term
    c.in-None.ensures.is n)
