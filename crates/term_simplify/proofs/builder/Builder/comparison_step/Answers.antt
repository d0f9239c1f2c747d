use Rattle.std.proofs.Common.{◌≡◌, Some, None, subst, sym}
use Rattle.bv_dag.specs.Graphs.{Graph, IsDag}
use Rattle.bv_dag.specs.declared.nodes.Node.TheVariants.{Compare}
use Rattle.term_trees.specs.Trees.{tree_of}
use Rattle.term_simplify.specs.Zeros.{comparison_zeros}
use Rattle.term_simplify.proofs.Building.{is_term_of}
use Rattle.term_simplify.proofs.Reading.{has_bits, has_second_term, has_term}
use Rattle.term_simplify.proofs.Stepping.{Stands-worth, at_tree, if_ok}
use Rattle.term_simplify.proofs.ZeroRules.{comparison_here, comparison_leaves_here, comparison_is_over}
use Rattle.term_simplify.proofs.builder.Builder.comparison_step.Goals as goal

pub comparison_zeros-requires-clause-first : goal.comparison_zeros-requires-clause-first
comparison_zeros-requires-clause-first c = rw c.known.ensures (has_term c.args.self.now c.args.a c.requires.0)

pub comparison_zeros-requires-clause-second : goal.comparison_zeros-requires-clause-second
comparison_zeros-requires-clause-second c = rw c.known.ensures (has_second_term c.args.self.now c.args.a c.args.b c.requires.0 c.requires.1)

pub comparison_above-requires-clause-leaves : goal.comparison_above-requires-clause-leaves
comparison_above-requires-clause-leaves c =
    comparison_leaves_here c.args.self.now c.args.a c.args.b c.in-Some.z
    (sym (subst (λ (h : Graph). Some c.in-Some.z ≡ comparison_zeros (tree_of h c.args.a) (tree_of h c.args.b)) c.known.ensures c.in-Some.ensures.is))

pub comparison_above-requires-clause-at_most_64 : goal.comparison_above-requires-clause-at_most_64
comparison_above-requires-clause-at_most_64 c =
    (has_bits c.args.self.now c.args.a (subst IsDag c.known.ensures c.in-Some.ensures.fit) (has_term c.args.self.now c.args.a c.requires.0)).1

pub returns-in-Some-clause-ok : goal.returns-in-Some-clause-ok
returns-in-Some-clause-ok c =
    let g = c.args.self.now in
    let op = c.args.op in
    let a = c.args.a in
    let b = c.args.b in
    let z = c.in-Some.z in
    let is : Some z ≡ comparison_zeros (tree_of g a) (tree_of g b) =
    subst (λ (h : Graph). Some z ≡ comparison_zeros (tree_of h a) (tree_of h b)) c.known.ensures c.in-Some.ensures.is in
    let term = is_term_of g (Compare op a b) (subst IsDag c.known.ensures c.in-Some.ensures.fit) c.requires in
    if_ok _ _ _ c.comparison_above.ensures.ok (λ id n. at_tree (comparison_is_over op (tree_of g a) (tree_of g b) (Some z) is)
    (Stands-worth (λ input bytes. comparison_here g a b z input bytes op term (sym is)) n))

pub returns-in-Some-clause-term : goal.returns-in-Some-clause-term
returns-in-Some-clause-term c =
    is_term_of c.args.self.now (Compare c.args.op c.args.a c.args.b) (subst IsDag c.known.ensures c.in-Some.ensures.fit) c.requires

pub returns-in-None-clause-ok : goal.returns-in-None-clause-ok
returns-in-None-clause-ok c =
    let g = c.args.self.now in
    let op = c.args.op in
    let a = c.args.a in
    let b = c.args.b in
    let is : None ≡ comparison_zeros (tree_of g a) (tree_of g b) =
    subst (λ (h : Graph). None ≡ comparison_zeros (tree_of h a) (tree_of h b)) c.known.ensures c.in-None.ensures.is in
    if_ok _ _ _ c.plain_step.ensures.ok (λ id n. at_tree (comparison_is_over op (tree_of g a) (tree_of g b) None is) n)
