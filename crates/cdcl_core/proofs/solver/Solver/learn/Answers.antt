use Rattle.std.proofs.Common.{◌≡◌, ◌∙◌, ◌==◌, ◌≤◌, ◌++◌, ◌∷◌, [], true, false, sym, ap, subst, length, List}
use Rattle.cnf_form.specs.Literals.{Literal}
use Rattle.cnf_form.specs.Refutations.{is_empty_clause}
use Rattle.proof_check.proofs.Turns.{empty_by_length}
use Rattle.cdcl_core.specs.Trails.{trail_values, IsTrail, AreCalmFirst}
use Rattle.cdcl_core.proofs.Learning.{ends, ends_over, learns}
use Rattle.cdcl_core.proofs.solver.Solver.learn.Goals as goal

pub returns-then-is_empty-clause-refuted : goal.returns-then-is_empty-clause-refuted
returns-then-is_empty-clause-refuted c =
    let empty : is_empty_clause c.in_ok-step.step.clause ≡ true =
    empty_by_length c.in_ok-step.step.clause ∙ ap (λ (ls : List Literal). length ls == 0) (sym (c.literals.ensures.value ∙ c.clause.ensures)) ∙ sym c.is_empty.ensures ∙ c.if-is_empty.true in
    ends c.args.formula.now c.lesson.new.self.clauses c.lesson.new.self.log c.push.new.self c.lesson.new.self.trail c.lesson.new.self.calm c.in_ok-step.step c.in_ok-step.ensures.search c.in_ok-step.ensures.lesson empty c.in_ok-push.ensures.ok

pub returns-then-is_empty-clause-over : goal.returns-then-is_empty-clause-over
returns-then-is_empty-clause-over c =
    ends_over c.args.formula.now c.lesson.new.self.clauses c.lesson.new.self.log c.push.new.self c.lesson.new.self.trail c.lesson.new.self.calm c.in_ok-step.step c.in_ok-step.ensures.search c.in_ok-step.ensures.lesson c.in_ok-push.ensures.ok

pub go_back-calm-requires : goal.go_back-calm-requires
go_back-calm-requires c = subst (λ (cs : List (List Literal)). IsTrail cs c.lesson.new.self.trail.entries) (sym c.list.ensures) c.in_ok-step.ensures.search.trail

pub returns-clause-search : goal.returns-clause-search
returns-clause-search c =
    let some : is_empty_clause c.in_ok-step.step.clause ≡ false =
    empty_by_length c.in_ok-step.step.clause ∙ ap (λ (ls : List Literal). length ls == 0) (sym (c.literals.ensures.value ∙ c.clause.ensures)) ∙ sym c.is_empty.ensures ∙ c.if-is_empty.false in
    let seen : c.list.result.now ≡ c.lesson.new.self.clauses = c.list.ensures in
    let trail : IsTrail (c.lesson.new.self.clauses ++ c.in_ok-step.step.clause ∷ []) c.go_back-calm.new.trail.entries
    = subst (λ (cs : List (List Literal)). IsTrail (cs ++ c.in_ok-step.step.clause ∷ []) c.go_back-calm.new.trail.entries) seen
    (subst (λ (d : List Literal). IsTrail (c.list.result.now ++ d ∷ []) c.go_back-calm.new.trail.entries) c.clause-2.ensures c.go_back-calm.ensures.trail) in
    learns c.args.formula.now c.lesson.new.self.clauses c.push-2.new.self c.lesson.new.self.log c.push-4.new.self c.lesson.new.self.trail c.go_back-calm.new.trail c.in_ok-step.step c.lesson.new.self.calm c.go_back-calm.result
    c.in_ok-step.ensures.search c.in_ok-step.ensures.lesson some trail c.go_back-calm.ensures.size
    (subst (λ (cs : List (List Literal)). c.go_back-calm.result ≤ length cs) seen c.go_back-calm.ensures.count)
    (subst (λ (cs : List (List Literal)). AreCalmFirst c.go_back-calm.result (trail_values c.go_back-calm.new.trail.entries) cs) seen c.go_back-calm.ensures.calm)
    (c.in_ok-push-2.ensures.ok ∙ ap (λ (d : List Literal). c.lesson.new.self.clauses ++ d ∷ []) (c.literals-2.ensures.value ∙ c.clause-3.ensures))
    c.in_ok-push-4.ensures.ok
