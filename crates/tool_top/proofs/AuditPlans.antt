-- Making the plan of an audit, from what its parts are.
use Rattle.std.proofs.Common.{◌≡◌, ℕ, List, [], ◌∷◌, refl, inl, inr}
use Rattle.std.specs.Prelude.{Some, Result, Ok, Err, IfOk}
use Rattle.std.specs.declared.alloc.AllocError.{AllocError}
use Rattle.tool_io.specs.Told.{Seen, after, Gives}
use Rattle.elf_load.specs.Images.{Image, Loads}
use Rattle.elf_load.specs.Refusals.{refusal}
use Rattle.elf_load.specs.declared.refused.Refused.{Refused as WhyRefused}
use Rattle.cert_audit.specs.declared.auditing.Verdict.{Verdict as Judgement}
use Rattle.tool_words.specs.Job.{Audit}
use Rattle.tool_top.specs.Auditing.{IsSaidOf, most_certificate_bytes, verdict_for}
use Rattle.tool_top.specs.Lines.{audit_line, refused_line}
use Rattle.tool_top.specs.Plan.{IsPlanned, TreatsCertificate, most_bytes}
use Rattle.tool_top.specs.declared.plan.Plan.{Plan as Made}
use Rattle.tool_top.specs.declared.verdict.Verdict.TheVariants.{Refused}

pub planned_audit : (program certificate : List ℕ) (old new : Seen) (bytes text : List ℕ) (made : Result Made AllocError) → Gives old.told program most_bytes bytes
    → Gives old.told certificate most_certificate_bytes text → new.told ≡ after old.told (record { names = program ∷ certificate ∷ []; puts = []; said = [] })
    → IfOk made (λ p. TreatsCertificate bytes text p.verdict p.files.items p.text)
    → IfOk made (λ p. IsPlanned old new (Some (Audit program certificate)) p.verdict p.files.items p.text)
planned_audit program certificate old new bytes text (Ok p) given also read treated = record {
  names = program ∷ certificate ∷ [];
  plan = inl (bytes, text, given, also, refl, treated);
  changes = read;
}
planned_audit program certificate old new bytes text (Err e) given also read treated = tt

module _ (bytes text : List ℕ) where
  -- the file is that of no program
  pub audit_refused : (why : WhyRefused) (made : Result Made AllocError) → refusal bytes ≡ Some why
      → IfOk made (λ p. p.verdict ≡ Refused) → IfOk made (λ p. p.files.items ≡ []) → IfOk made (λ p. p.text ≡ refused_line why)
      → IfOk made (λ p. TreatsCertificate bytes text p.verdict p.files.items p.text)
  audit_refused why (Err e) refuses v f t = tt
  audit_refused why (Ok made) refuses v f t = inl (record { why = why; refuses = refuses; is = v; no_files = f; line = t })

  -- what is said of the text
  pub audit_said : (image : Image) (judgement : Judgement) (made : Result Made AllocError) → Loads bytes image → IsSaidOf image text judgement
      → IfOk made (λ p. p.verdict ≡ verdict_for judgement) → IfOk made (λ p. p.files.items ≡ []) → IfOk made (λ p. p.text ≡ audit_line judgement)
      → IfOk made (λ p. TreatsCertificate bytes text p.verdict p.files.items p.text)
  audit_said image judgement (Err e) loads says v f t = tt
  audit_said image judgement (Ok made) loads says v f t = inr (record { image = image; loads = loads; judgement = judgement; says = says; is = v; no_files = f; line = t })
