use Rattle.std.proofs.Common.{◌≡◌, ◌-◌, ◌∷◌, List, arith, drop, length, map, rules, subst, sym, take, ap, ◌∙◌}
use Rattle.std.proofs.lemmas.Grind.{common_steps}
use Rattle.cert_form.specs.declared.line.CertLine.{CertLine}
use Rattle.cert_form.specs.declared.line.CertLine.TheVariants.{One, Split}
use Rattle.fork_spec.specs.Walks.{Side}
use Rattle.tree_core.specs.declared.budgets.Budgets.{Budgets}
use Rattle.cert_query.specs.Faults.{fault_at}
use Rattle.cert_query.specs.declared.fault.Reason.TheVariants.{Place}
use Rattle.cert_audit.specs.ForkFaults.{IsBranchFault}
use Rattle.cert_audit.specs.Kids.{AreKids, IsPut, own_ahead}
use Rattle.cert_audit.specs.Names.{side_ahead}
use Rattle.cert_audit.specs.Steps.{IsWent}
use Rattle.cert_audit.proofs.Refusing.{one_no_side}
use Rattle.cert_audit.proofs.Showing.{taken_ok}
use Rattle.cert_audit.proofs.Went.{passed_none, went_one, went_split}
use Rattle.cert_audit.proofs.branch.at_branch.Goals as goal

pub returns-in-Some-clause-went : goal.returns-in-Some-clause-went
returns-in-Some-clause-went c =
    let s = c.args.run.now in
    let rest = take (length c.args.lines.now - 1) (drop 1 c.args.lines.now) in
    let is : c.args.lines.now ≡ One c.in-One.choice ∷ rest = first_of (search rules, grind (arith, common_steps)) in
    taken_ok c.one_side.result (λ w. IsPut s (own_ahead s) rest w.kids.items w.rest.now)
    (λ w. (budgets : Budgets) → IsWent budgets s c.args.lines.now w.kids.items w.rest.now) c.one_side.ensures.put
    (λ w put budgets. subst (λ (lines : List CertLine). IsWent budgets s lines w.kids.items w.rest.now) (sym is)
    (went_one budgets s c.in-One.choice rest w.rest.now w.kids.items put))

pub returns-in-Some-2-clause-went : goal.returns-in-Some-2-clause-went
returns-in-Some-2-clause-went c =
    let s = c.args.run.now in
    let sides = c.in-Split.sides in
    let kids = c.in-Some-2.kids.items in
    let rest = take (length c.args.lines.now - 1) (drop 1 c.args.lines.now) in
    let is : c.args.lines.now ≡ Split sides ∷ rest = first_of (search rules, grind (arith, common_steps)) in
    let same : c.as_slice.result.now ≡ sides = first_of (search rules, grind (arith, common_steps)) in
    let are = rw c.in-Some-2.is at c.in_ok-kids-in-Split.ensures in
    λ budgets. subst (λ (lines : List CertLine). IsWent budgets s lines kids rest) (sym is)
    (went_split budgets s sides rest rest kids
    (record {
      are_kids = subst (λ (xs : List Side). AreKids s (map (side_ahead s.choices) xs) kids) same are;
      passed = passed_none (map (side_ahead s.choices) sides) rest;
    }))

pub returns-in-None-clause-cause : goal.returns-in-None-clause-cause
returns-in-None-clause-cause c = λ other.
    let s = c.args.run.now in
    let rest = take (length c.args.lines.now - 1) (drop 1 c.args.lines.now) in
    let is : c.args.lines.now ≡ One c.in-One.choice ∷ rest = first_of (search rules, grind (arith, common_steps)) in
    subst (λ (lines : List CertLine). IsBranchFault s c.args.term lines c.at.result) (sym is)
    (one_no_side s c.args.term c.in-One.choice rest c.at.result (λ side same. c.in-None.ensures side (cc same)) (c.at.ensures ∙ ap (λ (lines : List CertLine). fault_at lines Place) is))
