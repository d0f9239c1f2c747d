use Rattle.std.proofs.Common.{◌≡◌, ◌∙◌, true, refl, sym}
use Rattle.term_trees.specs.Trees.{Tree, tree_of}
use Rattle.term_simplify.specs.Joints.{joint_of, joint_tree, joins}
use Rattle.term_simplify.proofs.JointReading.{if_some}
use Rattle.term_simplify.proofs.Reading.{has_second_term, has_term}
use Rattle.term_simplify.proofs.joints.joint_of.Goals as goal

pub joint_by-requires-clause-first : goal.joint_by-requires-clause-first
joint_by-requires-clause-first c = has_term c.args.terms.now c.args.a c.requires.0

pub joint_by-requires-clause-second : goal.joint_by-requires-clause-second
joint_by-requires-clause-second c = has_second_term c.args.terms.now c.args.a c.args.b c.requires.0 c.requires.1

pub joint_by-requires-in-None-clause-first : goal.joint_by-requires-in-None-clause-first
joint_by-requires-in-None-clause-first c = has_second_term c.args.terms.now c.args.a c.args.b c.requires.0 c.requires.1

pub joint_by-requires-in-None-clause-second : goal.joint_by-requires-in-None-clause-second
joint_by-requires-in-None-clause-second c = has_term c.args.terms.now c.args.a c.requires.0

pub returns-then-not-joins-clause-none : goal.returns-then-not-joins-clause-none
unfolding joint_of
returns-then-not-joins-clause-none c = λ none otherwise. rw (← c.joins.ensures, c.if-not-joins.true) refl

pub returns-in-Some-clause-tree : goal.returns-in-Some-clause-tree
unfolding joint_of
returns-in-Some-clause-tree c = λ otherwise. rw (← c.joins.ensures, c.if-not-joins.false) (c.in-Some.ensures.tree _)

pub returns-in-None-clause-tree : goal.returns-in-None-clause-tree
unfolding joint_of
returns-in-None-clause-tree c =
    let joined : joins c.args.op ≡ true = sym c.joins.ensures ∙ c.if-not-joins.false in
    if_some _ _ (λ j. (otherwise : Tree) → joint_of c.args.op (tree_of c.args.terms.now c.args.a) (tree_of c.args.terms.now c.args.b) otherwise ≡ joint_tree c.args.terms.now j)
    c.joint_by-in-None.ensures.tree (λ j is otherwise. rw joined (c.in-None.ensures.none refl _ ∙ is _))

pub returns-in-None-clause-none : goal.returns-in-None-clause-none
unfolding joint_of
returns-in-None-clause-none c = λ none otherwise.
    let joined : joins c.args.op ≡ true = sym c.joins.ensures ∙ c.if-not-joins.false in
    rw joined (c.in-None.ensures.none refl _ ∙ c.joint_by-in-None.ensures.none none _)
