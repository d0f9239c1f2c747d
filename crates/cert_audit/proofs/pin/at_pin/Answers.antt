use Rattle.std.proofs.Common.{◌≡◌, ◌-◌, ◌∷◌, ◌++◌, ◌∙◌, List, arith, drop, length, map, rules, subst, sym, take, ap}
use Rattle.std.proofs.lemmas.Grind.{common_steps}
use Rattle.cert_form.specs.declared.line.CertLine.{CertLine}
use Rattle.cert_form.specs.declared.line.CertLine.TheVariants.{One, Split}
use Rattle.fork_spec.specs.Walks.{Side, value_side}
use Rattle.tree_core.specs.declared.budgets.Budgets.{Budgets}
use Rattle.tree_core.specs.declared.choice.Choice.TheVariants.{Value}
use Rattle.cert_query.specs.Faults.{fault_at}
use Rattle.cert_audit.specs.ForkFaults.{AreValueSides, IsPinFault, IsSidesFault, MayBeSides, in_sides}
use Rattle.cert_audit.specs.Kids.{IsPut, own_ahead, sides_behind}
use Rattle.cert_audit.specs.Names.{side_ahead}
use Rattle.cert_audit.specs.Steps.{IsWent}
use Rattle.cert_audit.proofs.Refusing.{all_not_shown}
use Rattle.cert_audit.proofs.Showing.{fault_ok, taken_ok}
use Rattle.cert_audit.proofs.Went.{went_one, went_split}
use Rattle.cert_audit.proofs.pin.at_pin.Goals as goal

pub returns-in-One-clause-went : goal.returns-in-One-clause-went
returns-in-One-clause-went c =
    let s = c.args.run.now in
    let rest = take (length c.args.lines.now - 1) (drop 1 c.args.lines.now) in
    let is : c.args.lines.now ≡ One (Value c.in-One.value) ∷ rest = first_of (search rules, grind (arith, common_steps)) in
    taken_ok c.one_value.result (λ w. IsPut s (own_ahead s) rest w.kids.items w.rest.now)
    (λ w. (budgets : Budgets) → IsWent budgets s c.args.lines.now w.kids.items w.rest.now) c.one_value.ensures.put
    (λ w put budgets. subst (λ (lines : List CertLine). IsWent budgets s lines w.kids.items w.rest.now) (sym is)
    (went_one budgets s (Value c.in-One.value) rest w.rest.now w.kids.items put))

pub returns-in-Ok-clause-went : goal.returns-in-Ok-clause-went
returns-in-Ok-clause-went c =
    let s = c.args.run.now in
    let sides = c.in-Split.sides in
    let rest = take (length c.args.lines.now - 1) (drop 1 c.args.lines.now) in
    let is : c.args.lines.now ≡ Split sides ∷ rest = first_of (search rules, grind (arith, common_steps)) in
    let same : c.as_slice.result.now ≡ sides = first_of (search rules, grind (arith, common_steps)) in
    let said = map value_side c.in-Ok.sides.values.items ++ sides_behind c.in-Ok.sides.rest in
    let read : c.as_slice.result.now ≡ said = (rw c.in-Ok.is at c.in_ok-sides-in-Split.ensures.sides).are in
    taken_ok c.part.result (λ w. IsPut s (map (side_ahead s.choices) said) rest w.kids.items w.rest.now)
    (λ w. (budgets : Budgets) → IsWent budgets s c.args.lines.now w.kids.items w.rest.now) c.part.ensures.put
    (λ w put budgets. subst (λ (lines : List CertLine). IsWent budgets s lines w.kids.items w.rest.now) (sym is)
    (went_split budgets s sides rest w.rest.now w.kids.items
    (subst (λ (xs : List Side). IsPut s (map (side_ahead s.choices) xs) rest w.kids.items w.rest.now) (sym read ∙ same) put)))

pub returns-in-Ok-clause-cause : goal.returns-in-Ok-clause-cause
returns-in-Ok-clause-cause c =
    let s = c.args.run.now in
    let term = c.args.pin.now.term in
    let sides = c.in-Split.sides in
    let rest = take (length c.args.lines.now - 1) (drop 1 c.args.lines.now) in
    let is : c.args.lines.now ≡ Split sides ∷ rest = first_of (search rules, grind (arith, common_steps)) in
    let same : c.as_slice.result.now ≡ sides = first_of (search rules, grind (arith, common_steps)) in
    let read : AreValueSides c.as_slice.result.now c.in-Ok.sides.values.items c.in-Ok.sides.rest = rw c.in-Ok.is at c.in_ok-sides-in-Split.ensures.sides in
    let few : MayBeSides (length c.in-Ok.sides.values.items) c.in-Ok.sides.rest c.args.targets = rw c.in-Ok.is at c.in_ok-sides-in-Split.ensures.count in
    let are = subst (λ (xs : List Side). AreValueSides xs c.in-Ok.sides.values.items c.in-Ok.sides.rest) same read in
    fault_ok c.part.result _ _
    (λ fault refused other. subst (λ (lines : List CertLine). IsPinFault s term c.args.targets lines fault) (sym is)
    (all_not_shown s term c.args.targets sides c.in-Ok.sides.values.items c.in-Ok.sides.rest rest fault are few refused.0 refused.1))
    c.part.ensures.cause

pub returns-in-Err-clause-cause : goal.returns-in-Err-clause-cause
returns-in-Err-clause-cause c = λ other.
    let s = c.args.run.now in
    let sides = c.in-Split.sides in
    let rest = take (length c.args.lines.now - 1) (drop 1 c.args.lines.now) in
    let is : c.args.lines.now ≡ Split sides ∷ rest = first_of (search rules, grind (arith, common_steps)) in
    let same : c.as_slice.result.now ≡ sides = first_of (search rules, grind (arith, common_steps)) in
    let refused : IsSidesFault c.args.targets c.as_slice.result.now c.in-Err.reason = rw c.in-Err.is at c.in_ok-sides-in-Split.ensures.cause in
    subst (λ (lines : List CertLine). IsPinFault s c.args.pin.now.term c.args.targets lines c.at.result) (sym is)
    (in_sides c.in-Err.reason (subst (λ (xs : List Side). IsSidesFault c.args.targets xs c.in-Err.reason) same refused)
    (c.at.ensures ∙ ap (λ (lines : List CertLine). fault_at lines c.in-Err.reason) is))
