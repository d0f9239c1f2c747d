use Rattle.std.proofs.Common.{subst}
use Rattle.bv_dag.specs.Graphs.{Graph, IsDag}
use Rattle.term_simplify.specs.Outside.{IsAbove}
use Rattle.term_simplify.proofs.AboveRules.{outside_here}
use Rattle.term_simplify.proofs.Building.{is_term_of}
use Rattle.term_simplify.proofs.builder.Builder.unshifted.Goals as goal

pub returns-in-Some-clause-ok : goal.returns-in-Some-clause-ok
returns-in-Some-clause-ok c =
    outside_here c.self.inside.known c.args.self.now c.outside.new.self c.outside.result c.args.node c.in-Some.interval c.self.view_is c.in-Some.ensures.some
    c.outside.ensures.ok

pub returns-in-Some-clause-term : goal.returns-in-Some-clause-term
returns-in-Some-clause-term c = is_term_of c.args.self.now c.args.node (subst IsDag c.self.view_is c.in-Some.ensures.fit) c.requires

pub outside-requires : goal.outside-requires
outside-requires c = (subst (λ (k : Graph). IsAbove k c.args.node c.in-Some.interval) c.self.view_is c.in-Some.ensures.some).is_between
