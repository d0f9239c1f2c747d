use Rattle.std.proofs.Common.{subst}
use Rattle.bv_dag.specs.Graphs.{Graph, IsDag}
use Rattle.term_simplify.specs.Told.{IsTold}
use Rattle.term_simplify.proofs.Building.{is_term_of}
use Rattle.term_simplify.proofs.Telling.{told_here}
use Rattle.term_simplify.proofs.builder.Builder.unmoved.Goals as goal

pub returns-in-Some-clause-ok : goal.returns-in-Some-clause-ok
returns-in-Some-clause-ok c =
    told_here c.self.inside.known c.args.self.now c.tell.new.self c.tell.result c.args.node c.in-Some.told c.self.view_is c.in-Some.ensures.some c.tell.ensures.ok

pub returns-in-Some-clause-term : goal.returns-in-Some-clause-term
returns-in-Some-clause-term c = is_term_of c.args.self.now c.args.node (subst IsDag c.self.view_is c.in-Some.ensures.fit) c.requires

pub tell-requires : goal.tell-requires
tell-requires c = subst (λ (k : Graph). IsTold k c.in-Some.told) c.self.view_is c.in-Some.ensures.some.is_told
