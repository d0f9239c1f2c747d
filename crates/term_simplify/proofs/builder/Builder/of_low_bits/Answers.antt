use Rattle.std.proofs.Common.{[], arith}
use Rattle.term_trees.specs.Trees.{tree_of}
use Rattle.term_simplify.proofs.NarrowTerms.{choice_here, choice_is, comparison_is, negative_here, negative_is, test_here}
use Rattle.term_simplify.proofs.Stepping.{Stands-worth, at_tree, if_ok}
use Rattle.term_simplify.proofs.builder.Builder.of_low_bits.Goals as goal

pub narrow_negative-requires : goal.narrow_negative-requires
narrow_negative-requires c =
    (negative_here c.args.self.now c.args.n [] (λ k d h. absurd (omega (arith, h))) c.in-Neg.a (rw c.in-Neg.is at c.requires.term) (rw c.in-Neg.is at c.requires.is)).fewer

pub narrow_test-requires-clause-first : goal.narrow_test-requires-clause-first
narrow_test-requires-clause-first c =
    (test_here c.args.self.now c.args.n [] (λ k d h. absurd (omega (arith, h))) c.in-Compare.op c.in-Compare.a c.in-Compare.b
    (rw c.in-Compare.is at c.requires.term) (rw c.in-Compare.is at c.requires.is)).fewer

pub narrow_choice-requires-clause-first : goal.narrow_choice-requires-clause-first
narrow_choice-requires-clause-first c =
    (choice_here c.args.self.now c.args.n [] (λ k d h. absurd (omega (arith, h))) c.in-Ite.condition c.in-Ite.yes c.in-Ite.no
    (rw c.in-Ite.is at c.requires.term) (rw c.in-Ite.is at c.requires.is)).fewer

pub returns-in-Neg-clause-ok : goal.returns-in-Neg-clause-ok
returns-in-Neg-clause-ok c =
    let g = c.args.self.now in
    let term = rw c.in-Neg.is at c.requires.term in
    let is = rw c.in-Neg.is at c.requires.is in
    rw c.in-Neg.is (if_ok _ _ _ c.narrow_negative.ensures.ok (λ id made. at_tree (negative_is (tree_of g c.in-Neg.a) c.args.n is)
    (Stands-worth (λ input bytes. (negative_here g c.args.n input bytes c.in-Neg.a term is).worth) made)))

pub returns-in-Compare-clause-ok : goal.returns-in-Compare-clause-ok
returns-in-Compare-clause-ok c =
    let g = c.args.self.now in
    let term = rw c.in-Compare.is at c.requires.term in
    let is = rw c.in-Compare.is at c.requires.is in
    let op = c.in-Compare.op in
    rw c.in-Compare.is (if_ok _ _ _ c.narrow_test.ensures.ok (λ id made. at_tree (comparison_is op (tree_of g c.in-Compare.a) (tree_of g c.in-Compare.b) c.args.n is)
    (Stands-worth (λ input bytes. (test_here g c.args.n input bytes op c.in-Compare.a c.in-Compare.b term is).worth) made)))

pub returns-in-Ite-clause-ok : goal.returns-in-Ite-clause-ok
returns-in-Ite-clause-ok c =
    let g = c.args.self.now in
    let term = rw c.in-Ite.is at c.requires.term in
    let is = rw c.in-Ite.is at c.requires.is in
    let condition = c.in-Ite.condition in
    rw c.in-Ite.is (if_ok _ _ _ c.narrow_choice.ensures.ok (λ id made. at_tree
    (choice_is (tree_of g condition) (tree_of g c.in-Ite.yes) (tree_of g c.in-Ite.no) c.args.n is)
    (Stands-worth (λ input bytes. (choice_here g c.args.n input bytes condition c.in-Ite.yes c.in-Ite.no term is).worth) made)))
