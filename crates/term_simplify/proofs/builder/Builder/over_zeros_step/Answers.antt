use Rattle.std.proofs.Common.{◌≡◌, Some, None, subst, sym}
use Rattle.bv_dag.specs.Graphs.{Graph, IsDag}
use Rattle.bv_dag.specs.declared.nodes.Node.TheVariants.{Binary}
use Rattle.term_trees.specs.Trees.{tree_of}
use Rattle.term_simplify.specs.Zeros.{binary_zeros}
use Rattle.term_simplify.proofs.Building.{is_term_of}
use Rattle.term_simplify.proofs.Reading.{has_bits, has_second_term, has_term}
use Rattle.term_simplify.proofs.Stepping.{Stands-worth, at_tree, if_ok}
use Rattle.term_simplify.proofs.ZeroRules.{binary_here, binary_leaves_here, binary_is_over}
use Rattle.term_simplify.proofs.builder.Builder.over_zeros_step.Goals as goal

pub binary_zeros-requires-clause-first : goal.binary_zeros-requires-clause-first
binary_zeros-requires-clause-first c = rw c.known.ensures (has_term c.args.self.now c.args.a c.requires.0)

pub binary_zeros-requires-clause-second : goal.binary_zeros-requires-clause-second
binary_zeros-requires-clause-second c = rw c.known.ensures (has_second_term c.args.self.now c.args.a c.args.b c.requires.0 c.requires.1)

pub binary_above-requires-clause-leaves : goal.binary_above-requires-clause-leaves
binary_above-requires-clause-leaves c =
    binary_leaves_here c.args.self.now c.args.a c.args.b c.in-Some.z c.args.op
    (sym (subst (λ (h : Graph). Some c.in-Some.z ≡ binary_zeros c.args.op (tree_of h c.args.a) (tree_of h c.args.b)) c.known.ensures c.in-Some.ensures.is))

pub binary_above-requires-clause-at_most_64 : goal.binary_above-requires-clause-at_most_64
binary_above-requires-clause-at_most_64 c =
    (has_bits c.args.self.now c.args.a (subst IsDag c.known.ensures c.in-Some.ensures.fit) (has_term c.args.self.now c.args.a c.requires.0)).1

pub returns-in-Some-clause-ok : goal.returns-in-Some-clause-ok
returns-in-Some-clause-ok c =
    let g = c.args.self.now in
    let op = c.args.op in
    let a = c.args.a in
    let b = c.args.b in
    let z = c.in-Some.z in
    let is : Some z ≡ binary_zeros op (tree_of g a) (tree_of g b) =
    subst (λ (h : Graph). Some z ≡ binary_zeros op (tree_of h a) (tree_of h b)) c.known.ensures c.in-Some.ensures.is in
    let term = is_term_of g (Binary op a b) (subst IsDag c.known.ensures c.in-Some.ensures.fit) c.requires in
    if_ok _ _ _ c.binary_above.ensures.ok (λ id n. at_tree (binary_is_over op (tree_of g a) (tree_of g b) (Some z) is)
    (Stands-worth (λ input bytes. binary_here g a b z input bytes op term (sym is)) n))

pub returns-in-Some-clause-term : goal.returns-in-Some-clause-term
returns-in-Some-clause-term c =
    is_term_of c.args.self.now (Binary c.args.op c.args.a c.args.b) (subst IsDag c.known.ensures c.in-Some.ensures.fit) c.requires

pub returns-in-None-clause-ok : goal.returns-in-None-clause-ok
returns-in-None-clause-ok c =
    let g = c.args.self.now in
    let op = c.args.op in
    let a = c.args.a in
    let b = c.args.b in
    let is : None ≡ binary_zeros op (tree_of g a) (tree_of g b) =
    subst (λ (h : Graph). None ≡ binary_zeros op (tree_of h a) (tree_of h b)) c.known.ensures c.in-None.ensures.is in
    if_ok _ _ _ c.plain_step.ensures.ok (λ id n. at_tree (binary_is_over op (tree_of g a) (tree_of g b) None is) n)
