-- A test that the ends of its operands tell, as the builder makes it.
use Rattle.std.proofs.Common.{◌≡◌, ◌∙◌, ℕ, Bool, Some, None, ap, sym, subst}
use Rattle.std.specs.Prelude.{Result, Ok, Err}
use Rattle.std.specs.Result.{IfOk}
use Rattle.bv_dag.specs.BitVectors.{BitVector, bit}
use Rattle.bv_dag.specs.Graphs.{Graph, val}
use Rattle.bv_dag.specs.Nodes.{compare}
use Rattle.bv_dag.specs.declared.nodes.Comparison.{Comparison}
use Rattle.bv_dag.specs.declared.nodes.Node.TheVariants.{Num, Compare}
use Rattle.term_trees.specs.Trees.{Constant, Test, tree_of, tree_value, IsTerm}
use Rattle.term_trees.proofs.TreeLaws.{value-tree_of}
use Rattle.term_simplify.specs.Builds.{BuildsAs}
use Rattle.term_simplify.specs.Ends.{comparison_told, told_or}
use Rattle.term_simplify.specs.Plain.{plain}
use Rattle.term_simplify.specs.Simplified.{compared, undecided}
use Rattle.term_simplify.proofs.Building.{named}
use Rattle.term_simplify.proofs.EndsTests.{told_worth}

pub told_built : {E : Type 0} (h g more : Graph) (r : Result ℕ E) (op : Comparison) (a b w m : ℕ) (holds : Bool) → h ≡ g →
    bit holds ≡ record { width = w; number = m } → Some holds ≡ comparison_told op (tree_of h a) (tree_of h b) →
    IsTerm g.inputs (Test op (tree_of g a) (tree_of g b)) → IfOk r (BuildsAs (plain (tree_of g) (Num w m)) g more (Num w m)) →
    IfOk r (BuildsAs (compared op (tree_of g a) (tree_of g b)) g more (Compare op a b))
told_built h g more (Ok id) op a b w m holds e word is term built =
    let here : comparison_told op (tree_of g a) (tree_of g b) ≡ Some holds =
    sym (subst (λ (k : Graph). Some holds ≡ comparison_told op (tree_of k a) (tree_of k b)) e is) in
    record {
      continues = built.continues;
      there = built.there;
      tree = built.tree ∙ ap (λ (v : BitVector). Constant v.width v.number) (sym word)
          ∙ sym (ap (λ o. told_or o (undecided op (tree_of g a) (tree_of g b))) here);
      width = built.width ∙ ap (λ (v : BitVector). v.width) (sym word);
      value = λ input bytes.
          built.value input bytes ∙ sym word ∙ sym (told_worth g.inputs input bytes op (tree_of g a) (tree_of g b) holds term here)
          ∙ ap (λ v. compare op v (tree_value input (tree_of g b))) (value-tree_of g a input) ∙ ap (compare op (val g a input)) (value-tree_of g b input);
    }
told_built h g more (Err x) op a b w m holds e word is term built = tt

pub untold_built : {E : Type 0} (h g more : Graph) (r : Result ℕ E) (op : Comparison) (a b : ℕ) → h ≡ g →
    None ≡ comparison_told op (tree_of h a) (tree_of h b) → IfOk r (BuildsAs (undecided op (tree_of g a) (tree_of g b)) g more (Compare op a b)) →
    IfOk r (BuildsAs (compared op (tree_of g a) (tree_of g b)) g more (Compare op a b))
untold_built h g more r op a b e is built =
    let here : None ≡ comparison_told op (tree_of g a) (tree_of g b) =
    subst (λ (k : Graph). None ≡ comparison_told op (tree_of k a) (tree_of k b)) e is in
    named g more r (Compare op a b) (undecided op (tree_of g a) (tree_of g b)) (compared op (tree_of g a) (tree_of g b))
    (ap (λ o. told_or o (undecided op (tree_of g a) (tree_of g b))) here) built
