use Rattle.std.proofs.Common.{◌≡◌, ℕ, ◌==◌, ◌⊎◌, false, true, slice_index_or}
use Rattle.std.specs.List.{list_any}
use Rattle.cnf_form.specs.Literals.{Literal}
use Rattle.cdcl_core.proofs.occurrences.note_clause.Given as goal

abbrev pub invariant-loop-literal : goal.invariant-loop-literal
invariant-loop-literal l =
    (v : ℕ) → slice_index_or l.seen.items v false ≡ true →
    (slice_index_or l.initial.seen.items v false ≡ true) ⊎ (list_any (λ (k : Literal). k.variable == v) l.clause ≡ true)
