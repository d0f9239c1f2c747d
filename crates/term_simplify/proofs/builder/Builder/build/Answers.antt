use Rattle.std.proofs.Common.{subst}
use Rattle.bv_dag.specs.Graphs.{Graph, IsDag}
use Rattle.term_simplify.specs.Plans.{PlanFits}
use Rattle.term_simplify.proofs.Building.{is_term_of}
use Rattle.term_simplify.proofs.ValueRules.{valued_here}
use Rattle.term_simplify.proofs.builder.Builder.build.Goals as goal

pub stand-requires : goal.stand-requires
stand-requires c = subst (λ (k : Graph). PlanFits k c.in-Some.plan) c.self.view_is c.in-Some.ensures.fits

pub returns-in-Some-clause-ok : goal.returns-in-Some-clause-ok
returns-in-Some-clause-ok c =
    valued_here c.self.inside.known c.args.self.now c.stand.new.self c.stand.result c.args.node c.in-Some.plan c.self.view_is
    c.in-Some.ensures.tree c.in-Some.ensures.worth c.stand.ensures.there c.stand.ensures.tree c.stand.ensures.ok

pub returns-in-Some-clause-term : goal.returns-in-Some-clause-term
returns-in-Some-clause-term c = is_term_of c.args.self.now c.args.node (subst IsDag c.self.view_is c.in-Some.ensures.fit) c.requires
