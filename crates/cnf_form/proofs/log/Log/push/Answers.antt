use Rattle.std.proofs.Common.{List, subst}
use Rattle.std.proofs.lemmas.List.Elements.{All-push}
use Rattle.cnf_form.specs.Literals.{Literal}
use Rattle.cnf_form.specs.Clauses.{IsClause}
use Rattle.cnf_form.specs.Refutations.{Step}
use Rattle.cnf_form.proofs.log.Log.push.Goals as goal

pub invariant_of-self-2 : goal.invariant_of-self-2
invariant_of-self-2 c =
    let formed : IsClause c.args.step.clause =
    subst (λ (ls : List Literal). IsClause ls) c.clause.ensures (record { from_one = c.literals.ensures.from_one; increasing = c.literals.ensures.in_order }) in
    rw c.in_ok-push.ensures.items (All-push (λ (s : Step). IsClause s.clause) c.self.inside.steps.items c.args.step c.self.invariant formed)
