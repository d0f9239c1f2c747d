use Rattle.std.proofs.Common.{◌≡◌, None, ap, subst, sym, ◌∙◌}
use Rattle.bv_dag.specs.Graphs.{Graph, IsDag}
use Rattle.term_trees.specs.Trees.{tree_of}
use Rattle.term_simplify.specs.Narrowing.{node_narrowing}
use Rattle.term_simplify.proofs.Building.{is_term_of, named}
use Rattle.term_simplify.proofs.NarrowTerms.{as_own}
use Rattle.term_simplify.proofs.builder.Builder.unsummed.Goals as goal

pub narrow-requires-clause-term : goal.narrow-requires-clause-term
narrow-requires-clause-term c = is_term_of c.args.self.now c.args.node (subst IsDag c.self.view_is c.in-Some.ensures.fit) c.requires

pub returns-in-Some-clause-term : goal.returns-in-Some-clause-term
returns-in-Some-clause-term c = is_term_of c.args.self.now c.args.node (subst IsDag c.self.view_is c.in-Some.ensures.fit) c.requires

pub returns-in-None-clause-ok : goal.returns-in-None-clause-ok
returns-in-None-clause-ok c =
    let g = c.args.self.now in
    let none : node_narrowing (tree_of g) c.args.node ≡ None =
    ap (λ (h : Graph). node_narrowing (tree_of h) c.args.node) (sym c.self.view_is) ∙ sym c.narrowing_of.ensures.is ∙ c.in-None.is in
    named g c.own.new.self c.own.result c.args.node _ _ (as_own (tree_of g) c.args.node none) c.own.ensures.ok
