use Rattle.std.proofs.Common.{◌≡◌, ◌<◌, ℕ, true, get_or}
use Rattle.cnf_form.specs.Literals.{Literal}
use Rattle.cdcl_core.specs.Places.{is_among, places_of, AreKept}
use Rattle.cdcl_core.proofs.clause_list.Places.add.Given as goal

abbrev pub invariant-loop-literal : goal.invariant-loop-literal
invariant-loop-literal l = record {
  kept : AreKept l.initial.self l.self;
  noted : (i : ℕ) (d : Literal) → i < l.literal-index → is_among (places_of l.self (get_or l.clause i d)) l.place ≡ true;
}
