use Rattle.std.proofs.Common.{◌≡◌, ◌∙◌, ℕ, ◌∷◌, List, get_or, take, ap, sym, arith}
use Rattle.std.proofs.lemmas.List.{take_all}
use Rattle.cnf_form.proofs.Pieces.{count_is, first_clauses, are_first}
use Rattle.cnf_form.proofs.clauses.Clauses.truncate.Goals as goal

pub invariant_of-self : goal.invariant_of-self
invariant_of-self c =
    let begins : c.start_of-end.result ≡ get_or (0 ∷ c.self.inside.ends.items) c.args.len 0 = c.start_of-end.ensures ∙ ap (λ (es : List ℕ). get_or (0 ∷ es) c.args.len 0) c.deref.ensures.value in
    rw (c.truncate.ensures.items, c.truncate-then-len.ensures.items)
    (are_first c.self.inside.literals.items c.self.inside.ends.items c.args.len c.start_of-end.result c.self.invariant (omega (arith, c.if-len.true, c.len.ensures, c.self.inside.ends.ok)) begins)

pub returns-then-len : goal.returns-then-len
returns-then-len c =
    let begins : c.start_of-end.result ≡ get_or (0 ∷ c.self.inside.ends.items) c.args.len 0 = c.start_of-end.ensures ∙ ap (λ (es : List ℕ). get_or (0 ∷ es) c.args.len 0) c.deref.ensures.value in
    rw (c.truncate.ensures.items, c.truncate-then-len.ensures.items)
    (first_clauses c.self.inside.literals.items c.self.inside.ends.items c.args.len c.start_of-end.result c.self.invariant (omega (arith, c.if-len.true, c.len.ensures, c.self.inside.ends.ok)) begins
    ∙ ap (take c.args.len) c.self.view_is)

pub returns-else-len : goal.returns-else-len
returns-else-len c =
    sym (take_all c.args.len c.args.self.now (omega (arith, c.if-len.false, c.len.ensures, c.self.inside.ends.ok, count_is c.self.inside.literals.items c.self.inside.ends.items c.args.self.now c.self.view_is)))
