use Rattle.run_leaves.proofs.Leaving.{picked_more_ok, picked_terms_ok}
use Rattle.run_leaves.proofs.leaf.leaf_terms.Goals as goal

pub returns-clause-terms : goal.returns-clause-terms
returns-clause-terms c =
    picked_terms_ok c.picked.result c.args.state.now c.output_terms.new.state c.deref.result.now c.args.more.now
    c.in_ok-outputs.ensures.grown (rw c.deref.ensures.value c.in_ok-outputs.ensures.terms) c.picked.ensures

pub returns-clause-more : goal.returns-clause-more
returns-clause-more c =
    picked_more_ok c.picked.result c.args.state.now c.output_terms.new.state c.deref.result.now c.args.more.now
    c.in_ok-outputs.ensures.grown c.requires c.picked.ensures
