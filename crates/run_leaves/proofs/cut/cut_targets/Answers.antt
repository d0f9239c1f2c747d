use Rattle.std.proofs.Common.{◌∙◌, ap, arith}
use Rattle.std.specs.Prelude.{Some}
use Rattle.bv_dag.specs.Graphs.{number_of, width_of}
use Rattle.fork_spec.specs.Evidence.{Spent}
use Rattle.fork_spec.specs.Parts.{OnTargets}
use Rattle.tree_core.specs.declared.cause.Cause.TheVariants.{Targets}
use Rattle.tree_core.specs.declared.choice.Choice.TheVariants.{Rest}
use Rattle.sym_state.specs.Symbolic.{Symbolic}
use Rattle.run_leaves.proofs.Cutting.{chosen, cut_part, full_cut, targets_side, term_there, writable_chosen}
use Rattle.run_leaves.proofs.Leaving.{first_number, first_there, first_width, leaf_ok}
use Rattle.run_leaves.proofs.cut.cut_targets.Goals as goal

pub leaf_terms-requires : goal.leaf_terms-requires
leaf_terms-requires c = rw c.in_ok-choose.ensures.ok (term_there c.args.run.now c.args.term c.requires.width)

pub index-requires : goal.index-requires
index-requires c =
    let there = first_there c.args.run.now.terms c.in_ok-terms.terms.condition.graph c.args.term c.in_ok-terms.terms.more.items
    (rw c.in_ok-choose.ensures.ok at c.in_ok-terms.ensures.more) in
    omega (arith, there, c.in_ok-terms.terms.more.ok.0)

pub leaf_of-requires : goal.leaf_of-requires
leaf_of-requires c = record {
  full = full_cut (chosen c.args.run.now Rest) c.leaf_terms.new.state c.in_ok-terms.terms Targets
      (rw c.in_ok-choose.ensures.ok at c.in_ok-terms.ensures.grown) (rw c.in_ok-choose.ensures.ok at c.in_ok-terms.ensures.terms)
      (writable_chosen c.args.run.now Rest c.requires.writable);
}

pub returns-clause-leaf : goal.returns-clause-leaf
returns-clause-leaf c =
    let new = c.leaf_terms.new.state in
    let spent : Spent = record { term = c.index.result.now; found = c.args.found.items } in
    leaf_ok c.leaf_of.result (cut_part new c.in_ok-terms.terms Targets (Some new.sample) (Some (OnTargets spent))) _ (rw c.in_ok-sample.ensures at c.leaf_of.ensures)
    (λ p budgets s was few formed unknown is sampled values spent.
    let copies = rw c.in_ok-choose.ensures.ok at c.in_ok-terms.ensures.more in
    let graph = c.in_ok-terms.terms.condition.graph in
    targets_side p budgets s c.args.run.now c.leaf_terms.new.state c.args.term c.index.result.now c.args.found.items c.in_ok-terms.terms was formed unknown is sampled values spent
    (rw c.in_ok-choose.ensures.ok at c.in_ok-terms.ensures.terms)
    (ap (width_of graph) c.index.ensures ∙ first_width c.args.run.now.terms graph c.args.term c.index.result.now c.in_ok-terms.terms.more.items copies ∙ c.requires.width)
    (λ input. ap (λ k. number_of graph k input) c.index.ensures ∙ first_number c.args.run.now.terms graph c.args.term c.index.result.now c.in_ok-terms.terms.more.items input copies)
    few c.requires.writable (rw c.in_ok-choose.ensures.ok at c.in_ok-terms.ensures.grown))

pub returns-clause-sample : goal.returns-clause-sample
returns-clause-sample c =
    leaf_ok c.leaf_of.result (cut_part c.leaf_terms.new.state c.in_ok-terms.terms Targets (Some c.leaf_terms.new.state.sample) (Some (OnTargets (record { term = c.index.result.now; found = c.args.found.items })))) _ (rw c.in_ok-sample.ensures at c.leaf_of.ensures)
    (ap (λ (s : Symbolic). Some s.sample) (rw c.in_ok-choose.ensures.ok at c.in_ok-terms.ensures.grown).same)
