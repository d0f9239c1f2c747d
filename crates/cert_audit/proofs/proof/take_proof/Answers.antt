use Rattle.std.proofs.Common.{◌≡◌, ◌-◌, ◌∷◌, List, arith, drop, length, rules, subst, sym, take}
use Rattle.std.proofs.lemmas.Grind.{common_steps}
use Rattle.cert_form.specs.declared.line.CertLine.{CertLine}
use Rattle.cert_form.specs.declared.line.CertLine.TheVariants.{Tried}
use Rattle.cert_audit.specs.Shown.{IsShownEmpty}
use Rattle.cert_audit.proofs.Showing.{tried_shown}
use Rattle.cert_audit.proofs.proof.take_proof.Goals as goal

pub returns-then-branch-clause-taken : goal.returns-then-branch-clause-taken
returns-then-branch-clause-taken c =
    let s = c.args.run.now in
    let rest = take (length c.args.lines.now - 1) (drop 1 c.args.lines.now) in
    let is : c.args.lines.now ≡ Tried ∷ rest = first_of (search rules, grind (arith, common_steps)) in
    subst (λ (lines : List CertLine). IsShownEmpty s lines rest) (sym is) (tried_shown s rest (c.in_ok-is_tried.ensures.tried c.if-branch.true))
