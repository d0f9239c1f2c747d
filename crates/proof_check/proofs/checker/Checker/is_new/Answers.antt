use Rattle.std.proofs.Common.{◌≡◌, ◌∙◌, not, ap, List}
use Rattle.cnf_form.specs.Literals.{Literal}
use Rattle.cnf_form.specs.Propagation.{falsify}
use Rattle.cnf_form.specs.Refutations.{is_new}
use Rattle.proof_check.specs.Marking.{marked}
use Rattle.proof_check.specs.Filing.{has_falsified_end}
use Rattle.proof_check.proofs.Filing.{new_by_ends, not_new}
use Rattle.proof_check.proofs.checker.Checker.is_new.Goals as goal
use Rattle.proof_check.proofs.checker.Checker.is_new.Goals.{then-not-has_falsified, else-not-has_falsified}

pub returns-clause-answer : goal.returns-clause-answer
returns-clause-answer c =
    let clauses = c.self.inside.clauses in
    let clause = c.args.clause.now in
    let values : marked c.falsify.new.marks ≡ falsify clause = c.in_ok-falsify.ensures ∙ ap falsify c.literals-literals.ensures.value in
    let viewed = ap (λ (cs : List (List Literal)). is_new cs clause) c.self.view_is in
    elim c.if-not-has_falsified.branch [
      | then-not-has_falsified w ↦
          let later : w.has_falsified_end.result ≡ has_falsified_end (marked c.falsify.new.marks) clauses clause
          = w.has_falsified_end.ensures ∙ ap (has_falsified_end (marked c.falsify.new.marks) clauses) c.literals-literals.ensures.value in
          w.result-is ∙ new_by_ends clauses clause (marked c.falsify.new.marks) c.has_falsified.result w.has_falsified_end.result c.literals-literals.ensures.in_order values c.has_falsified.ensures w.if-not-has_falsified.true later ∙ viewed
      | else-not-has_falsified w ↦
          w.result-is ∙ ap not w.if-not-has_falsified.false ∙ not_new clauses clause (marked c.falsify.new.marks) c.has_falsified.result c.literals-literals.ensures.in_order values c.has_falsified.ensures w.if-not-has_falsified.false ∙ viewed
    ]
