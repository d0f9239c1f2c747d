-- What the verdict of an audit's plan says.
use Rattle.std.proofs.Common.{◌≡◌, ◌≢◌, ◌⊎◌, ℕ, List, [], inl, inr, refl, sym, ◌∙◌, ap, take}
use Rattle.std.specs.Prelude.{None, Some}
use Rattle.std.specs.Option.{option_map}
use Rattle.tool_io.specs.Causes.{Rose}
use Rattle.tool_io.specs.Told.{Seen, Gives, told_held}
use Rattle.elf_load.specs.Images.{Image, Loads}
use Rattle.elf_load.specs.Refusals.{refusal}
use Rattle.elf_load.specs.declared.refused.Refused.{Refused as WhyRefused}
use Rattle.cert_audit.specs.Audits.{AreLeavesOf}
use Rattle.cert_audit.specs.Walks.{AreCounted}
use Rattle.cert_audit.specs.declared.auditing.Verdict.{Verdict as Judgement}
use Rattle.cert_audit.specs.declared.auditing.Verdict.TheVariants.{Yes, No}
use Rattle.cert_audit.specs.declared.walking.Leaves.{Leaves}
use Rattle.cert_form.specs.Certificates.{Certificate}
use Rattle.fork_spec.specs.Parts.{Part}
use Rattle.tool_words.specs.Job.{Audit}
use Rattle.tool_top.specs.Answer.{IsDoubted}
use Rattle.tool_top.specs.Auditing.{IsAuditSaid, IsCertificate, IsSaidOf, most_certificate_bytes, verdict_for}
use Rattle.tool_top.specs.Lines.{audit_line, audit_yes}
use Rattle.tool_top.specs.Plan.{IsPlan, Plan, most_bytes}
use Rattle.tool_top.specs.declared.verdict.Verdict.{Verdict}
use Rattle.tool_top.specs.declared.verdict.Verdict.TheVariants.{Done, Differs, Refused, ReadFault}
use Rattle.tool_top.proofs.ReplayEndings.{given_held}

-- the certificate, its leaves and their numbers, where yes is said
pub record IsYes (image : Image) (text said : List ℕ) : Type 0 where
  pub cert : Certificate
  pub parts : List Part
  pub leaves : Leaves
  pub reads : IsCertificate text cert
  pub shown : AreLeavesOf image cert parts
  pub counted : AreCounted parts leaves
  pub line : said ≡ audit_yes leaves

yes_of : (image : Image) (text said : List ℕ) (judgement : Judgement) → IsSaidOf image text judgement → said ≡ audit_line judgement → Done ≡ verdict_for judgement → IsYes image text said
yes_of image text said (Yes leaves) (inl long) line is = let other = long.is in cc
yes_of image text said (Yes leaves) (inr (inl none)) line is = let other = none.is in cc
yes_of image text said (Yes leaves) (inr (inr judged)) line is = record {
  cert = judged.cert;
  parts = judged.audited.0;
  leaves = leaves;
  reads = judged.reads;
  shown = judged.audited.1;
  counted = judged.audited.2;
  line = line;
}
yes_of image text said (No at reason) says line is = cc

-- one of two verdicts
two_verdicts : (judgement : Judgement) → (verdict_for judgement ≡ Done) ⊎ (verdict_for judgement ≡ Differs)
two_verdicts (Yes leaves) = inl refl
two_verdicts (No at reason) = inr refl

module _ (old new : Seen) (program certificate : List ℕ) (plan : Plan) where
  said_only : (bytes text : List ℕ) → IsAuditSaid bytes text plan.verdict plan.puts plan.text → (plan.verdict ≡ Done) ⊎ (plan.verdict ≡ Differs)
  said_only bytes text said = elim (two_verdicts said.judgement) [ inl done ↦ inl (said.is ∙ done) | inr differs ↦ inr (said.is ∙ differs) ]

  -- the plan of an audit has one of four verdicts
  pub audited_only : IsPlan old new (Some (Audit program certificate)) plan
      → (plan.verdict ≡ Done) ⊎ (plan.verdict ≡ Differs) ⊎ (plan.verdict ≡ Refused) ⊎ (plan.verdict ≡ ReadFault)
  audited_only (inl (bytes, text, given, also, names, inl none)) = inr (inr (inl none.is))
  audited_only (inl (bytes, text, given, also, names, inr said)) = elim (said_only bytes text said) [ inl done ↦ inl done | inr differs ↦ inr (inl differs) ]
  audited_only (inr (rose, (begins, is))) = inr (inr (inr (ap (λ (p : Plan). p.verdict) is)))

  pub not_audited : (verdict : Verdict) → plan.verdict ≡ verdict → verdict ≢ Done → verdict ≢ Differs → verdict ≢ Refused → verdict ≢ ReadFault
      → IsPlan old new (Some (Audit program certificate)) plan → ⊥
  not_audited verdict is done differs refused fault planned = elim (audited_only planned) [
    | inl it ↦ done (sym is ∙ it)
    | inr (inl it) ↦ differs (sym is ∙ it)
    | inr (inr (inl it)) ↦ refused (sym is ∙ it)
    | inr (inr (inr it)) ↦ fault (sym is ∙ it)
  ]

  pub audit_puts : IsPlan old new (Some (Audit program certificate)) plan → plan.puts ≡ []
  audit_puts (inl (bytes, text, given, also, names, inl none)) = none.no_files
  audit_puts (inl (bytes, text, given, also, names, inr said)) = said.no_files
  audit_puts (inr (rose, (begins, is))) = ap (λ (p : Plan). p.puts) is

  pub audit_done : plan.verdict ≡ Done → IsPlan old new (Some (Audit program certificate)) plan
      → (bytes : List ℕ) × (text : List ℕ) × (image : Image) × Gives old.told program most_bytes bytes × Gives old.told certificate most_certificate_bytes text
      × Loads bytes image × IsYes image text plan.text
  audit_done done (inl (bytes, text, given, also, names, inl none)) = let other = none.is in cc
  audit_done done (inl (bytes, text, given, also, names, inr said)) =
      (bytes, text, said.image, given, also, said.loads, yes_of said.image text plan.text said.judgement said.says said.line (sym done ∙ said.is))
  audit_done done (inr (rose, (begins, is))) = let other : plan.verdict ≡ ReadFault = ap (λ (p : Plan). p.verdict) is in cc

  doubted : (bytes text : List ℕ) → Gives old.told program most_bytes bytes → Gives old.told certificate most_certificate_bytes text
      → (image : Image) → Loads bytes image → (judgement : Judgement) → IsSaidOf image text judgement → Differs ≡ verdict_for judgement → IsDoubted old.told program certificate
  doubted bytes text given also image loads (Yes leaves) says is = cc
  doubted bytes text given also image loads (No at reason) says is = (bytes, text, image, at, reason, given, also, loads, says)

  pub audit_other : plan.verdict ≡ Differs → IsPlan old new (Some (Audit program certificate)) plan → IsDoubted old.told program certificate
  audit_other differs (inl (bytes, text, given, also, names, inl none)) = let other = none.is in cc
  audit_other differs (inl (bytes, text, given, also, names, inr said)) = doubted bytes text given also said.image said.loads said.judgement said.says (sym differs ∙ said.is)
  audit_other differs (inr (rose, (begins, is))) = let other : plan.verdict ≡ ReadFault = ap (λ (p : Plan). p.verdict) is in cc

  -- no audit is refused for its certificate
  said_not_refused : (judgement : Judgement) → Refused ≡ verdict_for judgement → ⊥
  said_not_refused (Yes leaves) is = cc
  said_not_refused (No at reason) is = cc

  pub audit_no_program : plan.verdict ≡ Refused → IsPlan old new (Some (Audit program certificate)) plan
      → (bytes : List ℕ) × (why : WhyRefused) × Gives old.told program most_bytes bytes × (refusal bytes ≡ Some why)
  audit_no_program refused (inl (bytes, text, given, also, names, inl none)) = (bytes, none.why, given, none.refuses)
  audit_no_program refused (inl (bytes, text, given, also, names, inr said)) = absurd (said_not_refused said.judgement (sym refused ∙ said.is))
  audit_no_program refused (inr (rose, (begins, is))) = let other : plan.verdict ≡ ReadFault = ap (λ (p : Plan). p.verdict) is in cc

  said_no_fault : (judgement : Judgement) → ReadFault ≡ verdict_for judgement → ⊥
  said_no_fault (Yes leaves) is = cc
  said_no_fault (No at reason) is = cc

  pub audit_fault : plan.verdict ≡ ReadFault → IsPlan old new (Some (Audit program certificate)) plan → Rose old.reads new.reads
  audit_fault fault (inl (bytes, text, given, also, names, inl none)) = let other = none.is in cc
  audit_fault fault (inl (bytes, text, given, also, names, inr said)) = absurd (said_no_fault said.judgement (sym fault ∙ said.is))
  audit_fault fault (inr (rose, read_fault)) = rose

  -- where the names hold a program and a text, yes or no is said
  pub audit_kept : (bytes : List ℕ) (image : Image) → option_map (take most_bytes) (told_held old.told program) ≡ Some bytes → Loads bytes image
      → ¬ Rose old.reads new.reads → IsPlan old new (Some (Audit program certificate)) plan → (plan.verdict ≡ Done) ⊎ (plan.verdict ≡ Differs)
  audit_kept bytes image held loads read_well (inl (given, text, gives, also, names, inl none)) =
      let same : given ≡ bytes = given_held most_bytes program bytes given old.told.holds held gives in
      let fine : refusal given ≡ None = ap refusal same ∙ loads.fine in
      let refuses : refusal given ≡ Some none.why = none.refuses in
      cc
  audit_kept bytes image held loads read_well (inl (given, text, gives, also, names, inr said)) = said_only given text said
  audit_kept bytes image held loads read_well (inr (rose, read_fault)) = absurd (read_well rose)
