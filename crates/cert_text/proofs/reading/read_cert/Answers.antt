use Rattle.std.proofs.Common.{◌≡◌, ◌∙◌, ℕ, List, Vec, Global, ap, subst, sym, Result, Ok, Err, Bor}
use Rattle.std.specs.Prelude.{IfErr, IfOk}
use Rattle.cert_form.specs.Certificates.{Certificate}
use Rattle.cert_form.specs.declared.cert.Limits.{Limits}
use Rattle.cert_form.specs.declared.line.CertLine.{CertLine}
use Rattle.elf_load.specs.declared.region.Region.{Region}
use Rattle.cert_text.specs.Texts.{cert_text}
use Rattle.cert_text.specs.Legible.{IsLegible}
use Rattle.cert_text.specs.Parts.{AreRead, HasHeading, IsRefusedBehind}
use Rattle.cert_text.specs.Refusals.{IsRefusedAt}
use Rattle.cert_text.specs.declared.reading.CertRefused.{CertRefused}
use Rattle.cert_text.proofs.Whole.{never_refused, one_cert, refused_behind, whole_legible, whole_text}
use Rattle.cert_text.proofs.reading.read_cert.Goals as goal

-- the heading that was found
abbrev Heading : Type 0
Heading = List Region × Limits × Bor (List ℕ)

heading_from : (text : List ℕ) (r : Result Heading CertRefused) (heading : Heading) → IfOk r (λ h. HasHeading text h.0 h.1 h.2.now) → r ≡ Ok heading →
    HasHeading text heading.0 heading.1 heading.2.now
heading_from text r heading h is = subst (λ (o : Result Heading CertRefused). IfOk o (λ h. HasHeading text h.0 h.1 h.2.now)) is h

pub returns-in-Err-clause-only : goal.returns-in-Err-clause-only
returns-in-Err-clause-only c =
    λ cert legible e.
    let refused : IsRefusedAt c.args.text.now c.in-Err.refused.line =
    subst (λ (o : Result Heading CertRefused). IfErr o (λ refused. IsRefusedAt c.args.text.now refused.line)) c.in-Err.is c.in_ok-heading.ensures.refused in
    absurd (never_refused c.args.text.now c.in-Err.refused.line cert refused legible e)

lines_from : (text : List ℕ) (r : Result (Vec CertLine Global) CertRefused) (lines : Vec CertLine Global) → IfOk r (λ ls. AreRead text ls.items) → r ≡ Ok lines →
    AreRead text lines.items
lines_from text r lines h is = subst (λ (o : Result (Vec CertLine Global) CertRefused). IfOk o (λ ls. AreRead text ls.items)) is h

refusal_from : (text : List ℕ) (r : Result (Vec CertLine Global) CertRefused) (refused : CertRefused) → IfErr r (λ x. IsRefusedBehind text x.line) → r ≡ Err refused →
    IsRefusedBehind text refused.line
refusal_from text r refused h is = subst (λ (o : Result (Vec CertLine Global) CertRefused). IfErr o (λ x. IsRefusedBehind text x.line)) is h

pub returns-in-Ok-2-clause-is_its_text : goal.returns-in-Ok-2-clause-is_its_text
returns-in-Ok-2-clause-is_its_text c =
    whole_text c.args.text.now c.in-Ok.heading.0 c.in-Ok.heading.1 c.in-Ok.heading.2.now c.in-Ok-2.lines.items
    (heading_from c.args.text.now _ c.in-Ok.heading c.in_ok-heading.ensures.read c.in-Ok.is)
    (lines_from c.in-Ok.heading.2.now _ c.in-Ok-2.lines c.in_ok-lines.ensures.whole c.in-Ok-2.is)

pub returns-in-Ok-2-clause-only : goal.returns-in-Ok-2-clause-only
returns-in-Ok-2-clause-only c =
    λ cert legible e.
    let heading = heading_from c.args.text.now _ c.in-Ok.heading c.in_ok-heading.ensures.read c.in-Ok.is in
    let walk = lines_from c.in-Ok.heading.2.now _ c.in-Ok-2.lines c.in_ok-lines.ensures.whole c.in-Ok-2.is in
    let found : Certificate = record { regions = c.in-Ok.heading.0; budgets = c.in-Ok.heading.1; lines = c.in-Ok-2.lines.items } in
    let text : c.args.text.now ≡ cert_text found =
    whole_text c.args.text.now c.in-Ok.heading.0 c.in-Ok.heading.1 c.in-Ok.heading.2.now c.in-Ok-2.lines.items heading walk in
    let small : IsLegible found = whole_legible c.args.text.now c.in-Ok.heading.0 c.in-Ok.heading.1 c.in-Ok.heading.2.now c.in-Ok-2.lines.items heading walk in
    ap Ok (one_cert found cert small legible (sym text ∙ e))

pub returns-in-Err-2-clause-refused : goal.returns-in-Err-2-clause-refused
returns-in-Err-2-clause-refused c =
    refused_behind c.args.text.now c.in-Ok.heading.0 c.in-Ok.heading.1 c.in-Ok.heading.2.now c.in-Err-2.refused.line
    (heading_from c.args.text.now _ c.in-Ok.heading c.in_ok-heading.ensures.read c.in-Ok.is)
    (refusal_from c.in-Ok.heading.2.now _ c.in-Err-2.refused c.in_ok-lines.ensures.refused c.in-Err-2.is)

pub returns-in-Err-2-clause-only : goal.returns-in-Err-2-clause-only
returns-in-Err-2-clause-only c =
    λ cert legible e.
    let refused : IsRefusedAt c.args.text.now c.in-Err-2.refused.line =
    refused_behind c.args.text.now c.in-Ok.heading.0 c.in-Ok.heading.1 c.in-Ok.heading.2.now c.in-Err-2.refused.line
    (heading_from c.args.text.now _ c.in-Ok.heading c.in_ok-heading.ensures.read c.in-Ok.is)
    (refusal_from c.in-Ok.heading.2.now _ c.in-Err-2.refused c.in_ok-lines.ensures.refused c.in-Err-2.is) in
    absurd (never_refused c.args.text.now c.in-Err-2.refused.line cert refused legible e)
