use Rattle.std.proofs.Common.{◌≡◌, ◌∙◌, ap, subst, sym}
use Rattle.bv_dag.specs.Graphs.{Graph, IsDag}
use Rattle.bv_dag.specs.declared.nodes.Node.TheVariants.{Binary}
use Rattle.term_trees.specs.Trees.{Tree, Two, tree_of, tree_value}
use Rattle.term_simplify.specs.Joints.{joint_of, joint_tree}
use Rattle.term_simplify.specs.Zeros.{binary_over_zeros}
use Rattle.term_simplify.proofs.Building.{built_as, is_term_of, named, stands_as}
use Rattle.term_simplify.proofs.JointRules.{value-joint_of}
use Rattle.term_simplify.proofs.Stepping.{if_ok, on_ok}
use Rattle.term_simplify.proofs.builder.Builder.operation_step.Goals as goal

pub returns-in-Some-clause-ok : goal.returns-in-Some-clause-ok
returns-in-Some-clause-ok c =
    let g = c.args.self.now in
    let op = c.args.op in
    let node = Binary op c.args.a c.args.b in
    let s = tree_of g c.args.a in
    let t = tree_of g c.args.b in
    let made = joint_of op s t (binary_over_zeros op s t) in
    let term = is_term_of g node (subst IsDag c.known.ensures c.in-Some.ensures.fit) c.requires in
    let is : (otherwise : Tree) → joint_of op s t otherwise ≡ joint_tree g c.in-Some.joint =
    subst (λ (h : Graph). (otherwise : Tree) → joint_of op (tree_of h c.args.a) (tree_of h c.args.b) otherwise ≡ joint_tree h c.in-Some.joint)
    c.known.ensures c.in-Some.ensures.tree in
    let h = c.one_above.new.self in
    let joint = joint_tree g c.in-Some.joint in
    if_ok _ _ _ (named g h c.one_above.result node joint made (sym (is _)) (built_as g h c.one_above.result node joint
    (λ input bytes. ap (tree_value input) (sym (is (Two op s t))) ∙ value-joint_of g.inputs input bytes op s t term)
    c.one_above.ensures.there c.one_above.ensures.tree (on_ok c.one_above.result c.one_above.ensures.continues)))
    (stands_as g h node made)

pub returns-in-Some-clause-term : goal.returns-in-Some-clause-term
returns-in-Some-clause-term c =
    is_term_of c.args.self.now (Binary c.args.op c.args.a c.args.b) (subst IsDag c.known.ensures c.in-Some.ensures.fit) c.requires
