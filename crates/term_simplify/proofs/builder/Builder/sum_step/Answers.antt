use Rattle.std.proofs.Common.{subst}
use Rattle.bv_dag.specs.Graphs.{IsDag}
use Rattle.bv_dag.specs.declared.nodes.Node.TheVariants.{Binary}
use Rattle.term_simplify.proofs.Building.{is_term_of}
use Rattle.term_simplify.proofs.OffsetReading.{offset_stands, turned_stands}
use Rattle.term_simplify.proofs.Stepping.{if_ok}
use Rattle.term_simplify.proofs.builder.Builder.sum_step.Goals as goal

pub returns-in-Some-clause-ok : goal.returns-in-Some-clause-ok
returns-in-Some-clause-ok c =
    let g = c.args.self.now in
    let term = is_term_of g (Binary c.args.op c.args.a c.args.b) (subst IsDag c.known.ensures c.in-Some.ensures.fit) c.requires in
    if_ok _ _ _ c.wide_sum.ensures.ok (λ id n. offset_stands c.known.result.now g c.known.ensures c.args.op c.args.a c.args.b term
    c.in-Some.o c.in-Some.ensures.some c.in-Some.ensures.is c.width.ensures.value n)

pub returns-in-Some-clause-term : goal.returns-in-Some-clause-term
returns-in-Some-clause-term c =
    is_term_of c.args.self.now (Binary c.args.op c.args.a c.args.b) (subst IsDag c.known.ensures c.in-Some.ensures.fit) c.requires

pub returns-in-None-clause-ok : goal.returns-in-None-clause-ok
returns-in-None-clause-ok c =
    let g = c.args.self.now in
    let term = is_term_of g (Binary c.args.op c.args.a c.args.b) (subst IsDag c.known.ensures c.in-None.ensures.fit) c.requires in
    if_ok _ _ _ c.unsummed_step.ensures.ok (λ id n. turned_stands c.known.result.now g c.known.ensures c.args.op c.args.a c.args.b term
    c.known-in-None.result.now c.known-in-None.ensures c.turned-made.result c.in-None.ensures.is c.turned-made.ensures.is n)

pub returns-in-None-clause-term : goal.returns-in-None-clause-term
returns-in-None-clause-term c =
    is_term_of c.args.self.now (Binary c.args.op c.args.a c.args.b) (subst IsDag c.known.ensures c.in-None.ensures.fit) c.requires
