use Rattle.std.proofs.Common.{◌≡◌, ◌∙◌, ◌+◌, ◌<◌, ℕ, true, List, ap, length, arith, Some, slice_get}
use Rattle.std.specs.List.{list_any}
use Rattle.std.proofs.lemmas.Option.{slice_get_within}
use Rattle.cnf_form.specs.Literals.{Literal, negation, same_literal}
use Rattle.cdcl_core.specs.Places.{is_among}
use Rattle.cdcl_core.proofs.Pending.{entry_looked}
use Rattle.cdcl_core.proofs.following.look_after.Goals as goal

pub returns-clause-looked : goal.returns-clause-looked
returns-clause-looked c =
    λ place at pending.
    let within : place < length c.args.trail.now.entries = slice_get_within c.args.trail.now.entries place at.0 at.1 in
    let noted : (k : ℕ) (d : List Literal) → slice_get c.args.clauses.now k ≡ Some d → list_any (same_literal (negation c.args.literal)) d ≡ true → is_among c.places.result.now k ≡ true
    = λ k d got has. c.places.ensures k d got (ap (λ (l : Literal). list_any (same_literal l) d) c.negated.ensures ∙ has) in
    let looked = rw c.list.ensures at c.look_at.ensures.looked in
    looked (place + 1) (omega (arith, within)) (entry_looked c.args.clauses.now c.args.trail.now.entries place c.args.literal c.places.result.now at noted pending)
