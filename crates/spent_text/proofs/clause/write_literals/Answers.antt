use Rattle.std.proofs.Common.{◌≡◌, ◌∙◌, ◌++◌, ◌+◌, ℕ, List, [], ◌∷◌, ap, string_bytes, subst, sym, take}
use Rattle.std.specs.List.{flat_map}
use Rattle.std.proofs.lemmas.List.{flat_map_more, take_more}
use Rattle.std.proofs.lemmas.List.Elements.{All-more}
use Rattle.cnf_form.specs.Literals.{Literal}
use Rattle.fork_spec.specs.Leaves.{IsSmall}
use Rattle.spent_text.specs.LearntLine.{literal_text}
use Rattle.spent_text.proofs.clause.write_literals.Goals as goal

pub loop-literal-preserved : goal.loop-literal-preserved
loop-literal-preserved c =
    let literals : List Literal = c.args.literals.now in
    let old : List ℕ = string_bytes c.args.text.now in
    let i = c.loop-literal.literal-index in
    let literal : Literal = c.literal-item.result in
    let more : take i literals ++ literal ∷ [] ≡ take (i + 1) literals =
    ap (λ (l : Literal). take i literals ++ l ∷ []) c.literal-item.is ∙ sym (take_more literals i literal c.loop-literal-test.true) in
    record {
      written = c.in_ok-write_literal.ensures.ok ∙ ap (λ (t : List ℕ). t ++ literal_text literal) c.loop-literal.invariant.written
          ∙ flat_map_more literal_text old (take i literals) literal ∙ ap (λ (ls : List Literal). old ++ flat_map literal_text ls) more;
      small = All-more (λ (l : Literal). IsSmall l.variable) literals i literal c.loop-literal-test.true c.loop-literal.invariant.small
          (subst (λ (l : Literal). IsSmall l.variable) c.literal-item.is c.write_literal.ensures.small);
    }
