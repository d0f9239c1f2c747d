use Rattle.std.proofs.Common.{◌≡◌, ℕ, ◌==◌, ◌||◌, length, take}
use Rattle.std.specs.List.{list_any}
use Rattle.cnf_form.specs.Literals.{Literal}
use Rattle.cert_query.specs.Variables.{is_noted}
use Rattle.cert_query.proofs.variables.note_clause.Given as goal

abbrev pub invariant-loop-literal : goal.invariant-loop-literal
invariant-loop-literal l = record {
  size : length l.seen.items ≡ length l.initial.seen.items;
  noted : (v : ℕ) → is_noted l.seen.items v
      ≡ (is_noted l.initial.seen.items v || list_any (λ (k : Literal). k.variable == v) (take l.literal-index l.clause));
}
