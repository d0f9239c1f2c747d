use Rattle.std.proofs.Common.{length, subst, refl}
use Rattle.std.specs.Prelude.{None, Some}
use Rattle.fork_spec.specs.Evidence.{Learnt}
use Rattle.fork_spec.specs.Leaves.{IsCount}
use Rattle.fork_spec.specs.Parts.{OnConflicts}
use Rattle.tree_core.specs.declared.cause.Cause.TheVariants.{Conflicts}
use Rattle.run_leaves.proofs.Cutting.{chosen, conflicts_side, cut_part, full_cut, writable_chosen}
use Rattle.run_leaves.proofs.Leaving.{leaf_ok}
use Rattle.run_leaves.proofs.cut.cut_conflicts.Goals as goal

pub leaf_of-requires : goal.leaf_of-requires
leaf_of-requires c = record {
  full = full_cut (chosen c.args.run.now c.args.choice) c.leaf_terms.new.state c.in_ok-terms.terms Conflicts
      (rw c.in_ok-choose.ensures.ok at c.in_ok-terms.ensures.grown) (rw c.in_ok-choose.ensures.ok at c.in_ok-terms.ensures.terms)
      (writable_chosen c.args.run.now c.args.choice c.requires.writable);
}

pub returns-clause-leaf : goal.returns-clause-leaf
returns-clause-leaf c =
    leaf_ok c.leaf_of.result (cut_part c.leaf_terms.new.state c.in_ok-terms.terms Conflicts None (Some (OnConflicts c.args.learnt))) _ c.leaf_of.ensures
    (λ p budgets sides s test was few formed is learning.
    let few_nodes : IsCount (length c.args.learnt.question.graph.nodes) =
    subst (λ (l : Learnt). IsCount (length l.question.graph.nodes)) c.learnt.view_is c.is_whole.ensures in
    conflicts_side p budgets sides s c.args.run.now c.leaf_terms.new.state c.args.choice test c.in_ok-terms.terms c.args.learnt was few formed is learning few_nodes c.requires.writable
    (rw c.in_ok-choose.ensures.ok at c.in_ok-terms.ensures.grown) (rw c.in_ok-choose.ensures.ok at c.in_ok-terms.ensures.terms))

pub returns-clause-sample : goal.returns-clause-sample
returns-clause-sample c =
    leaf_ok c.leaf_of.result (cut_part c.leaf_terms.new.state c.in_ok-terms.terms Conflicts None (Some (OnConflicts c.args.learnt))) _ c.leaf_of.ensures
    refl
