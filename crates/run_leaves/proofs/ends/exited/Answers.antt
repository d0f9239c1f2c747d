use Rattle.std.proofs.Common.{subst, sym, arith, ap, ◌∙◌}
use Rattle.std.specs.Prelude.{None, Some}
use Rattle.fork_spec.specs.declared.end.LeafEnd.TheVariants.{Exits}
use Rattle.sym_state.proofs.Grown.{IsGrown-trans}
use Rattle.sym_state.specs.Symbolic.{Symbolic}
use Rattle.run_leaves.proofs.Leaving.{IsStatus, ends_as, exited_whole, first_there, full-left, full_as, leaf_ok, left_part, status_picked, status_there, terms_before}
use Rattle.run_leaves.proofs.ends.exited.Goals as goal

pub leaf_terms-requires : goal.leaf_terms-requires
leaf_terms-requires c = status_there c.args.state.now c.exit_status.new.state c.in_ok-status.status c.in_ok-status.ensures

pub index-status-requires : goal.index-status-requires
index-status-requires c =
    let there = first_there c.exit_status.new.state.terms c.in_ok-terms.terms.condition.graph c.in_ok-status.status c.in_ok-terms.terms.more.items
    c.in_ok-terms.ensures.more in
    omega (arith, there, c.in_ok-terms.terms.more.ok.0)

pub leaf_of-requires : goal.leaf_of-requires
leaf_of-requires c =
    record {
      full = full_as c.args.state.now c.leaf_terms.new.state c.in_ok-terms.terms (Exits c.index-status.result.now)
          (IsGrown-trans c.args.state.now c.exit_status.new.state c.leaf_terms.new.state c.in_ok-status.ensures.grown c.in_ok-terms.ensures.grown)
          (full-left c.args.state.now c.in_ok-terms.terms
          (terms_before c.args.state.now c.exit_status.new.state c.in_ok-terms.terms c.in_ok-status.ensures.grown c.in_ok-terms.ensures.terms)
          (Exits c.index-status.result.now) c.in_ok-status.ensures.grown.before c.requires.writable
          (subst (IsStatus c.args.state.now c.in_ok-terms.terms.condition.graph) (sym c.index-status.ensures)
          (status_picked c.args.state.now c.exit_status.new.state c.in_ok-terms.terms.condition.graph c.in_ok-status.status c.index-status.result.now
          c.in_ok-terms.terms.more.items c.in_ok-status.ensures c.in_ok-terms.ensures.more)).byte);
    }

pub returns-clause-leaf : goal.returns-clause-leaf
returns-clause-leaf c =
    leaf_ok c.leaf_of.result (left_part c.leaf_terms.new.state c.in_ok-terms.terms (Exits c.index-status.result.now)) _ (rw c.in_ok-sample_of.ensures at c.leaf_of.ensures)
    (λ p budgets was sampled within. ends_as p budgets None c.args.state.now c.leaf_terms.new.state c.in_ok-terms.terms (Exits c.index-status.result.now)
    (IsGrown-trans c.args.state.now c.exit_status.new.state c.leaf_terms.new.state c.in_ok-status.ensures.grown c.in_ok-terms.ensures.grown)
    (exited_whole p budgets c.args.state.now c.in_ok-terms.terms c.index-status.result.now
    (terms_before c.args.state.now c.exit_status.new.state c.in_ok-terms.terms c.in_ok-status.ensures.grown c.in_ok-terms.ensures.terms)
    c.in_ok-status.ensures.grown.before c.requires.writable was sampled
    (subst (IsStatus c.args.state.now c.in_ok-terms.terms.condition.graph) (sym c.index-status.ensures)
    (status_picked c.args.state.now c.exit_status.new.state c.in_ok-terms.terms.condition.graph c.in_ok-status.status c.index-status.result.now
    c.in_ok-terms.terms.more.items c.in_ok-status.ensures c.in_ok-terms.ensures.more)) within))

pub returns-clause-sample : goal.returns-clause-sample
returns-clause-sample c =
    leaf_ok c.leaf_of.result (left_part c.leaf_terms.new.state c.in_ok-terms.terms (Exits c.index-status.result.now)) _ (rw c.in_ok-sample_of.ensures at c.leaf_of.ensures)
    (ap (λ (s : Symbolic). Some s.sample) c.in_ok-terms.ensures.grown.same ∙ ap (λ (s : Symbolic). Some s.sample) c.in_ok-status.ensures.grown.same)
