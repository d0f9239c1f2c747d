use Rattle.std.proofs.Common.{rules, ◌≡◌, ◌∙◌, ◌+◌, ◌==◌, ◌||◌, Bool, ℕ, false, length, List, replicate, slice_get, Some, ap, sym, arith}
use Rattle.std.specs.List.{list_any}
use Rattle.std.proofs.lemmas.List.{length-replicate}
use Rattle.cnf_form.specs.Literals.{Literal}
use Rattle.cnf_form.specs.Variables.{is_below}
use Rattle.cert_query.specs.Variables.{is_noted}
use Rattle.cert_query.proofs.Noting.{holds_at, none_occurs, occurs_next}
use Rattle.cert_query.proofs.variables.occurring.Goals as goal

-- the clause at the place
at_place : (formula clauses : List (List Literal)) (k : ℕ) (c : List Literal) → clauses ≡ formula → slice_get clauses k ≡ Some c → slice_get formula k ≡ Some c
at_place formula clauses k c same at = ap (λ (cs : List (List Literal)). slice_get cs k) (sym same) ∙ at

pub loop-place-init : goal.loop-place-init
loop-place-init c =
    let items : c.in_ok-seen.seen.items ≡ replicate (c.variables.result + 1) false = search rules in
    record {
      size = ap length items ∙ length-replicate (c.variables.result + 1) false ∙ ap (λ k. k + 1) c.variables.ensures.greatest;
      noted = λ v. ap (λ (seen : List Bool). is_noted seen v) items ∙ none_occurs (c.variables.result + 1) v;
    }

pub note_clause-requires : goal.note_clause-requires
note_clause-requires c =
    let size : c.variables.result + 1 ≡ length c.loop-place.seen.items = omega (arith, c.variables.ensures.greatest, c.loop-place.invariant.size) in
    ap (λ n. is_below n c.at.result.now) (sym size)
    ∙ holds_at (is_below (c.variables.result + 1)) c.args.formula.now c.loop-place.place c.at.result.now c.variables.ensures.below
    (at_place c.args.formula.now c.clauses-clauses.result.now c.loop-place.place c.at.result.now c.clauses-clauses.ensures c.at.ensures.value)

pub loop-place-preserved : goal.loop-place-preserved
loop-place-preserved c = record {
  size = c.note_clause.ensures.size ∙ c.loop-place.invariant.size;
  noted = λ v. c.note_clause.ensures.there v
      ∙ ap (λ (b : Bool). b || list_any (λ (l : Literal). l.variable == v) c.at.result.now) (c.loop-place.invariant.noted v)
      ∙ sym (occurs_next c.args.formula.now c.loop-place.place c.at.result.now v
      (at_place c.args.formula.now c.clauses-clauses.result.now c.loop-place.place c.at.result.now c.clauses-clauses.ensures c.at.ensures.value));
}
