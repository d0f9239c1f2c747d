use Rattle.std.proofs.Common.{◌≡◌, ℕ, List, false, ap, ◌∙◌}
use Rattle.bv_dag.specs.Graphs.{Graph}
use Rattle.bv_dag.specs.Queries.{IsUnsatisfiable, holds}
use Rattle.sym_state.specs.Symbolic.{stands_for}
use Rattle.term_trees.specs.Subsets.{AsksNoMore}
use Rattle.cert_audit.proofs.Showing.{asked_none, asked_ok, less_ok}
use Rattle.cert_audit.proofs.proof.is_of_run.Goals as goal

pub returns-clause-less : goal.returns-clause-less
returns-clause-less c =
    let s = c.args.run.now in
    let ids = c.deref.ensures.value ∙ c.in_ok-condition.ensures ∙ c.condition.ensures in
    less_ok c.asks_no_more.result s c.args.question.now c.in_ok-asked.asked c.terms.result.now c.deref.result.now
    (c.in_ok-asked.ensures.inputs) (c.in_ok-asked.ensures.same_trees) c.terms.ensures.value ids c.asks_no_more.ensures

pub returns-clause-none : goal.returns-clause-none
returns-clause-none c =
    let s = c.args.run.now in
    let question = c.args.question.now in
    let ids = c.deref.ensures.value ∙ c.in_ok-condition.ensures ∙ c.condition.ensures in
    asked_ok c.asks_no_more.result (AsksNoMore question c.in_ok-asked.asked) (IsUnsatisfiable question → (input : List ℕ) → stands_for s input ≡ false)
    c.asks_no_more.ensures
    (λ less. asked_none s question c.in_ok-asked.asked less
    (λ input. c.in_ok-asked.ensures.same_meaning input
    ∙ ap (λ (g : Graph). holds (record { graph = g; asserted = c.deref.result.now }) input) c.terms.ensures.value
    ∙ ap (λ (asserted : List ℕ). holds (record { graph = s.terms; asserted = asserted }) input) ids))
