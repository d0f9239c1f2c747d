use Rattle.std.proofs.Common.{ap}
use Rattle.std.specs.Prelude.{None, Some}
use Rattle.fork_spec.specs.declared.end.LeafEnd.TheVariants.{Traps}
use Rattle.sym_state.specs.Symbolic.{Symbolic}
use Rattle.run_leaves.proofs.Leaving.{ends_as, full-left, full_as, leaf_ok, left_part, trapped_whole}
use Rattle.run_leaves.proofs.ends.trapped.Goals as goal

pub leaf_of-requires : goal.leaf_of-requires
leaf_of-requires c =
    record {
      full = full_as c.args.state.now c.leaf_terms.new.state c.in_ok-terms.terms (Traps c.args.trap) c.in_ok-terms.ensures.grown
          (full-left c.args.state.now c.in_ok-terms.terms c.in_ok-terms.ensures.terms (Traps c.args.trap) c.in_ok-terms.ensures.grown.before c.requires.writable tt);
    }

pub returns-clause-leaf : goal.returns-clause-leaf
returns-clause-leaf c =
    leaf_ok c.leaf_of.result (left_part c.leaf_terms.new.state c.in_ok-terms.terms (Traps c.args.trap)) _ (rw c.in_ok-sample_of.ensures at c.leaf_of.ensures)
    (λ p budgets was sampled within. ends_as p budgets None c.args.state.now c.leaf_terms.new.state c.in_ok-terms.terms (Traps c.args.trap) c.in_ok-terms.ensures.grown
    (trapped_whole p budgets c.args.state.now c.in_ok-terms.terms c.args.trap c.in_ok-terms.ensures.terms c.in_ok-terms.ensures.grown.before c.requires.writable was sampled within))

pub returns-clause-sample : goal.returns-clause-sample
returns-clause-sample c =
    leaf_ok c.leaf_of.result (left_part c.leaf_terms.new.state c.in_ok-terms.terms (Traps c.args.trap)) _ (rw c.in_ok-sample_of.ensures at c.leaf_of.ensures)
    (ap (λ (s : Symbolic). Some s.sample) c.in_ok-terms.ensures.grown.same)
