use Rattle.std.proofs.Common.{ap}
use Rattle.std.specs.Prelude.{Some}
use Rattle.tree_core.specs.declared.cause.Cause.TheVariants.{Steps}
use Rattle.fork_spec.specs.declared.end.LeafEnd.TheVariants.{Cut}
use Rattle.sym_state.specs.Symbolic.{Symbolic}
use Rattle.run_leaves.proofs.Leaving.{cut_whole, ends_as, full-left, full_as, leaf_ok, left_part}
use Rattle.run_leaves.proofs.ends.cut_steps.Goals as goal

pub leaf_of-requires : goal.leaf_of-requires
leaf_of-requires c =
    record {
      full = full_as c.args.state.now c.leaf_terms.new.state c.in_ok-terms.terms (Cut Steps) c.in_ok-terms.ensures.grown
          (full-left c.args.state.now c.in_ok-terms.terms c.in_ok-terms.ensures.terms (Cut Steps) c.in_ok-terms.ensures.grown.before c.requires.writable tt);
    }

pub returns-clause-leaf : goal.returns-clause-leaf
returns-clause-leaf c =
    leaf_ok c.leaf_of.result (left_part c.leaf_terms.new.state c.in_ok-terms.terms (Cut Steps)) _ (rw c.in_ok-sample_of.ensures at c.leaf_of.ensures)
    (λ p budgets spent was sampled. ends_as p budgets (Some Steps) c.args.state.now c.leaf_terms.new.state c.in_ok-terms.terms (Cut Steps) c.in_ok-terms.ensures.grown
    (cut_whole p budgets c.args.state.now c.in_ok-terms.terms c.in_ok-terms.ensures.terms c.in_ok-terms.ensures.grown.before c.requires.writable spent was sampled))

pub returns-clause-sample : goal.returns-clause-sample
returns-clause-sample c =
    leaf_ok c.leaf_of.result (left_part c.leaf_terms.new.state c.in_ok-terms.terms (Cut Steps)) _ (rw c.in_ok-sample_of.ensures at c.leaf_of.ensures)
    (ap (λ (s : Symbolic). Some s.sample) c.in_ok-terms.ensures.grown.same)
