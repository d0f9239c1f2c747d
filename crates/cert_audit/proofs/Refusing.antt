-- Lines that don't say where a run at a fork goes.
use Rattle.std.proofs.Common.{◌≡◌, ℕ, Bool, true, false, List, ◌∷◌, length, refl, subst}
use Rattle.std.specs.Prelude.{Option, None}
use Rattle.cert_form.specs.declared.line.CertLine.{CertLine}
use Rattle.cert_form.specs.declared.line.CertLine.TheVariants.{One}
use Rattle.cert_query.specs.Faults.{fault_at}
use Rattle.cert_query.specs.declared.fault.Fault.{Fault}
use Rattle.cert_query.specs.declared.fault.Reason.TheVariants.{Place}
use Rattle.fork_spec.specs.Walks.{Side}
use Rattle.run_sides.specs.Sides.{branch_choice}
use Rattle.sym_state.specs.Symbolic.{Symbolic}
use Rattle.tree_core.specs.declared.choice.Choice.{Choice}
use Rattle.tree_core.specs.declared.choice.Choice.TheVariants as choice
use Rattle.cert_audit.specs.ForkFaults.{AreValueSides, IsBranchFault, IsPartFault, IsWithoutFault, MayBeSides, in_proof}
use Rattle.cert_audit.specs.declared.values.RestCut.{RestCut}

-- it goes on along what is no side of a branch
pub one_no_side : (s : Symbolic) (term : ℕ) (c : Choice) (lines : List CertLine) (fault : Fault) → ((side : Bool) → c ≡ branch_choice side → ⊥) → fault ≡ fault_at (One c ∷ lines) Place
    → IsBranchFault s term (One c ∷ lines) fault
one_no_side s term choice.No lines fault never is = absurd (never false refl)
one_no_side s term choice.Yes lines fault never is = absurd (never true refl)
one_no_side s term (choice.Value v) lines fault never is = is
one_no_side s term choice.Rest lines fault never is = is

-- it parts by values, and lines don't show that there is no other
pub all_not_shown : (s : Symbolic) (term targets : ℕ) (sides : List Side) (values : List ℕ) (rest : Option RestCut) (lines : List CertLine) (fault : Fault) → AreValueSides sides values rest
    → MayBeSides (length values) rest targets → rest ≡ None → IsWithoutFault s term values lines fault → IsPartFault s term targets sides lines fault
all_not_shown s term targets sides values rest lines fault are few none refused =
    in_proof values (subst (λ (r : Option RestCut). AreValueSides sides values r) none are) (subst (λ (r : Option RestCut). MayBeSides (length values) r targets) none few) refused
