use Rattle.std.proofs.Common.{refl}
use Rattle.tree_core.specs.declared.cause.Cause.TheVariants.{Nodes}
use Rattle.fork_spec.specs.declared.end.LeafEnd.TheVariants.{Cut}
use Rattle.run_leaves.proofs.Leaving.{full-left, full_as, leaf_ok, nodes_part, nodes_whole}
use Rattle.run_leaves.proofs.ends.cut_nodes.Goals as goal

pub leaf_of-requires : goal.leaf_of-requires
leaf_of-requires c =
    record {
      full = full_as c.args.state.now c.leaf_terms.new.state c.in_ok-terms.terms (Cut Nodes) c.in_ok-terms.ensures.grown
          (full-left c.args.state.now c.in_ok-terms.terms c.in_ok-terms.ensures.terms (Cut Nodes) c.in_ok-terms.ensures.grown.before c.requires.writable tt);
    }

pub returns-clause-leaf : goal.returns-clause-leaf
returns-clause-leaf c =
    leaf_ok c.leaf_of.result (nodes_part c.leaf_terms.new.state c.in_ok-terms.terms c.args.nodes) _ c.leaf_of.ensures
    (λ p budgets few full was. nodes_whole p budgets c.args.nodes c.args.state.now c.leaf_terms.new.state c.in_ok-terms.terms c.in_ok-terms.ensures.grown
    c.in_ok-terms.ensures.terms c.requires.writable few full was)

pub returns-clause-sample : goal.returns-clause-sample
returns-clause-sample c =
    leaf_ok c.leaf_of.result (nodes_part c.leaf_terms.new.state c.in_ok-terms.terms c.args.nodes) _ c.leaf_of.ensures
    refl
