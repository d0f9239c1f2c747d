-- A plan that was made, and then carried out.
use Rattle.std.proofs.Common.{◌≡◌, ◌≢◌, ◌⊎◌, ℕ, List, [], ◌∷◌, inl, inr, refl, sym, ◌∙◌, ap, subst, arith}
use Rattle.std.specs.Prelude.{Option, None, Some, IfSome, if◌then◌else◌, ◌==◌}
use Rattle.tool_io.specs.Told.{Told, Seen, Put, Deeds, Gives, after, says, puts_all, IsPrefix, names_since}
use Rattle.tool_io.specs.Causes.{Rose}
use Rattle.tool_io.proofs.Deeds.{then_says, then_all, IsPrefix-nothing, IsPrefix-whole}
use Rattle.tool_io.proofs.Since.{names_since-after, puts_since-after, said_since-after}
use Rattle.elf_load.specs.Fits.{unfit}
use Rattle.elf_load.specs.Refusals.{refusal}
use Rattle.elf_load.specs.declared.refused.Refused.{Refused as WhyRefused}
use Rattle.elf_load.specs.declared.region.Region.{Region}
use Rattle.elf_load.specs.declared.unfit.Unfit.{Unfit as WhyUnfit}
use Rattle.prog_gen.specs.Generated.{generated_file, generated_regions}
use Rattle.tool_words.specs.Job.{Job, Audit, Bench, Explore, Replay, Upgrade}
use Rattle.tool_words.specs.Limits.{default_budgets}
use Rattle.tool_top.specs.Lines.{audit_yes, no_memory, upgraded_line}
use Rattle.tool_top.specs.Reports.{IsReportOf}
use Rattle.tool_top.specs.Plan.{Plan, names_of, IsPlan, IsPlanned, IsReadFault, IsReported, IsRefusal, IsMisfit, Means, OnlyReads, most_bytes}
use Rattle.elf_load.specs.Images.{Image, Loads}
use Rattle.tree_core.specs.declared.budgets.Budgets.{Budgets}
use Rattle.replay_core.specs.Replays.{IsAsSaid}
use Rattle.tool_top.proofs.AuditEndings.{audit_done, audit_fault, audit_no_program, audit_other, audit_puts, not_audited}
use Rattle.tool_top.proofs.BenchEndings.{benched, not_benched}
use Rattle.tool_top.proofs.UpgradeEndings.{not_upgraded, upgrade_done, upgrade_fault, upgrade_no_test, upgrade_puts}
use Rattle.tool_top.proofs.ReplayEndings.{replay_fault, replay_no_job, replay_misfit, replay_no_program, replay_no_test, replay_other, replay_puts, replay_same}
use Rattle.report_text.specs.Claims.{IsReport, Report}
use Rattle.report_text.specs.Files.{files_of, summary_of}
use Rattle.tool_top.specs.Answer.{HasEnded, Asked, Ran, named, numbered, line_with, status_of, IsAnswered, IsFaulted, IsFile, IsWanting, IsCarriedOut, IsCutByFault, IsWritten, WritesFor, OnReplayed, AuditsFor, UpgradesFor, HoldsNoProgram, HoldsMisfit, HoldsNoTest, HoldsOther, verdict_status}
use Rattle.tool_top.specs.ReadBack.{AreReadBack}
use Rattle.tool_top.proofs.ReadingBack.{read_back}
use Rattle.tool_top.specs.declared.verdict.Verdict.{Verdict}
use Rattle.tool_top.specs.declared.verdict.Verdict.TheVariants.{Done, Differs, NoJob, Refused, Unfit, ReadFault, TestRefused}
use Rattle.tool_top.specs.declared.verdict.Ending.{Ending}
use Rattle.tool_top.specs.declared.verdict.Ending.TheVariants.{Planned, WriteFault, NoMemory}

-- a plan stays one where the count of read faults stands still
plan_later : (old mid new : Seen) (job : Option Job) (plan : Plan) → new.reads ≡ mid.reads → IsPlan old mid job plan → IsPlan old new job plan
plan_later old mid new job plan same (inl means) = inl means
plan_later old mid new job plan same (inr (rose, fault)) = inr (rw same rose, fault)

-- a count of write faults that rose since the plan was made rose in the whole run
rose_whole : (old mid new : Seen) → mid.writes ≡ old.writes → Rose mid.writes new.writes → Rose old.writes new.writes
rose_whole old mid new same rose = rw (← same) rose

means_names : (told : Told) (job : Option Job) (plan : Plan) → Means told job plan → IsPrefix plan.names (names_of job)
means_names told None plan is = rw is (IsPrefix-whole _)
means_names told (Some (Explore program out asked budgets workers)) plan (bytes, given, names, treated) = rw names (IsPrefix-whole _)
means_names told (Some (Replay program test)) plan (bytes, text, given, also, names, treated) = rw names (IsPrefix-whole _)
means_names told (Some (Bench number workers out)) plan (names, benched) = rw names (IsPrefix-whole _)
means_names told (Some (Upgrade test out)) plan (text, given, names, treated) = rw names (IsPrefix-whole _)
means_names told (Some (Audit program certificate)) plan (bytes, text, given, also, names, treated) = rw names (IsPrefix-whole _)

fault_names : (job : Option Job) (plan : Plan) → IsReadFault job plan → IsPrefix plan.names (names_of job)
fault_names None plan none = absurd none
fault_names (Some (Explore program out asked budgets workers)) plan (begins, is) = begins
fault_names (Some (Replay program test)) plan (begins, is) = begins
fault_names (Some (Bench number workers out)) plan none = absurd none
fault_names (Some (Upgrade test out)) plan (begins, is) = begins
fault_names (Some (Audit program certificate)) plan (begins, is) = begins

fault_verdict : (job : Option Job) (plan : Plan) → IsReadFault job plan → plan.verdict ≡ ReadFault
fault_verdict None plan none = absurd none
fault_verdict (Some (Explore program out asked budgets workers)) plan (begins, is) = ap (λ (p : Plan). p.verdict) is
fault_verdict (Some (Replay program test)) plan (begins, is) = ap (λ (p : Plan). p.verdict) is
fault_verdict (Some (Bench number workers out)) plan none = absurd none
fault_verdict (Some (Upgrade test out)) plan (begins, is) = ap (λ (p : Plan). p.verdict) is
fault_verdict (Some (Audit program certificate)) plan (begins, is) = ap (λ (p : Plan). p.verdict) is

pub plan_names : (old new : Seen) (job : Option Job) (plan : Plan) → IsPlan old new job plan → IsPrefix plan.names (names_of job)
plan_names old new job plan (inl means) = means_names old.told job plan means
plan_names old new job plan (inr (rose, fault)) = fault_names job plan fault

-- The verdict of a plan says which plan it is.
left_of : {A B : Type 0} → A ⊎ B → (B → ⊥) → A
left_of (inl a) not_right = a
left_of (inr b) not_right = absurd (not_right b)

not_done : (bytes : List ℕ) (asked : List Region) (verdict : Verdict) (puts : List Put) (text : List ℕ) → verdict ≡ Done → IsRefusal bytes verdict puts text ⊎ IsMisfit bytes asked verdict puts text → ⊥
not_done bytes asked verdict puts text done (inl none) = let other = none.is in cc
not_done bytes asked verdict puts text done (inr misfit) = let other = misfit.is in cc

not_fault : (old new : Seen) (job : Option Job) (plan : Plan) → plan.verdict ≡ Done → Rose old.reads new.reads × IsReadFault job plan → ⊥
not_fault old new job plan done (rose, fault) = let other : plan.verdict ≡ ReadFault = fault_verdict job plan fault in cc

done_reported : (old new : Seen) (program out : List ℕ) (asked : List Region) (budgets : Budgets) (workers : ℕ) (plan : Plan) → plan.verdict ≡ Done → IsPlan old new (Some (Explore program out asked budgets workers)) plan → (bytes : List ℕ) × Gives old.told program most_bytes bytes × IsReported out bytes asked budgets workers plan.verdict plan.puts plan.text
done_reported old new program out asked budgets workers plan done planned =
    let means : Means old.told (Some (Explore program out asked budgets workers)) plan = left_of planned (not_fault old new (Some (Explore program out asked budgets workers)) plan done) in
    (means.0, means.1, left_of means.3 (not_done means.0 asked plan.verdict plan.puts plan.text done))

refused_refusal : (old new : Seen) (program out : List ℕ) (asked : List Region) (budgets : Budgets) (workers : ℕ) (plan : Plan) → plan.verdict ≡ Refused → IsPlan old new (Some (Explore program out asked budgets workers)) plan → (bytes : List ℕ) × (why : WhyRefused) × Gives old.told program most_bytes bytes × (refusal bytes ≡ Some why)
refused_refusal old new program out asked budgets workers plan refused (inl (bytes, given, names, inl report)) = let other = report.done in cc
refused_refusal old new program out asked budgets workers plan refused (inl (bytes, given, names, inr (inl none))) = (bytes, none.why, given, none.refuses)
refused_refusal old new program out asked budgets workers plan refused (inl (bytes, given, names, inr (inr misfit))) = let other = misfit.is in cc
refused_refusal old new program out asked budgets workers plan refused (inr (rose, (begins, is))) = let other : plan.verdict ≡ ReadFault = ap (λ (p : Plan). p.verdict) is in cc

unfit_misfit : (old new : Seen) (program out : List ℕ) (asked : List Region) (budgets : Budgets) (workers : ℕ) (plan : Plan) → plan.verdict ≡ Unfit → IsPlan old new (Some (Explore program out asked budgets workers)) plan → (bytes : List ℕ) × (image : Image) × (why : WhyUnfit) × Gives old.told program most_bytes bytes × Loads bytes image × (unfit image asked ≡ Some why)
unfit_misfit old new program out asked budgets workers plan unfit (inl (bytes, given, names, inl report)) = let other = report.done in cc
unfit_misfit old new program out asked budgets workers plan unfit (inl (bytes, given, names, inr (inl none))) = let other = none.is in cc
unfit_misfit old new program out asked budgets workers plan unfit (inl (bytes, given, names, inr (inr misfit))) = (bytes, misfit.image, misfit.why, given, misfit.loads, misfit.misfits)
unfit_misfit old new program out asked budgets workers plan unfit (inr (rose, (begins, is))) = let other : plan.verdict ≡ ReadFault = ap (λ (p : Plan). p.verdict) is in cc

pub fault_rose : (old new : Seen) (program out : List ℕ) (asked : List Region) (budgets : Budgets) (workers : ℕ) (plan : Plan) → plan.verdict ≡ ReadFault → IsPlan old new (Some (Explore program out asked budgets workers)) plan → Rose old.reads new.reads
fault_rose old new program out asked budgets workers plan fault (inl (bytes, given, names, inl report)) = let other = report.done in cc
fault_rose old new program out asked budgets workers plan fault (inl (bytes, given, names, inr (inl none))) = let other = none.is in cc
fault_rose old new program out asked budgets workers plan fault (inl (bytes, given, names, inr (inr misfit))) = let other = misfit.is in cc
fault_rose old new program out asked budgets workers plan fault (inr (rose, read)) = rose

-- a plan to explore has one of four verdicts
pub explored_only : (old new : Seen) (program out : List ℕ) (asked : List Region) (budgets : Budgets) (workers : ℕ) (plan : Plan) → IsPlan old new (Some (Explore program out asked budgets workers)) plan
    → (plan.verdict ≡ Done) ⊎ (plan.verdict ≡ Refused) ⊎ (plan.verdict ≡ Unfit) ⊎ (plan.verdict ≡ ReadFault)
explored_only old new program out asked budgets workers plan (inl (bytes, given, names, inl report)) = inl report.done
explored_only old new program out asked budgets workers plan (inl (bytes, given, names, inr (inl none))) = inr (inl none.is)
explored_only old new program out asked budgets workers plan (inl (bytes, given, names, inr (inr misfit))) = inr (inr (inl misfit.is))
explored_only old new program out asked budgets workers plan (inr (rose, (begins, is))) = inr (inr (inr (ap (λ (p : Plan). p.verdict) is)))

not_explored : (old new : Seen) (program out : List ℕ) (asked : List Region) (budgets : Budgets) (workers : ℕ) (plan : Plan) (verdict : Verdict) → plan.verdict ≡ verdict
    → verdict ≢ Done → verdict ≢ Refused → verdict ≢ Unfit → verdict ≢ ReadFault → IsPlan old new (Some (Explore program out asked budgets workers)) plan → ⊥
not_explored old new program out asked budgets workers plan verdict is done refused unfit fault planned = elim (explored_only old new program out asked budgets workers plan planned) [
  | inl it ↦ done (sym is ∙ it)
  | inr (inl it) ↦ refused (sym is ∙ it)
  | inr (inr (inl it)) ↦ unfit (sym is ∙ it)
  | inr (inr (inr it)) ↦ fault (sym is ∙ it)
]

-- without a job the plan says so, and puts nothing
none_puts : (old new : Seen) (plan : Plan) → IsPlan old new None plan → plan.puts ≡ []
none_puts old new plan (inl is) = ap (λ (p : Plan). p.puts) is
none_puts old new plan (inr (rose, none)) = absurd none

none_only : (old new : Seen) (plan : Plan) → IsPlan old new None plan → plan.verdict ≡ NoJob
none_only old new plan (inl is) = ap (λ (p : Plan). p.verdict) is
none_only old new plan (inr (rose, none)) = absurd none

none_other : (old new : Seen) (plan : Plan) (verdict : Verdict) → plan.verdict ≡ verdict → verdict ≢ NoJob → IsPlan old new None plan → ⊥
none_other old new plan verdict is no_job planned = no_job (sym is ∙ none_only old new plan planned)

-- a plan that puts files is done
some_puts_done : (old new : Seen) (job : Option Job) (plan : Plan) → plan.puts ≢ [] → IsPlan old new job plan → plan.verdict ≡ Done
some_puts_done old new None plan some planned = absurd (some (none_puts old new plan planned))
some_puts_done old new (Some (Explore program out asked budgets workers)) plan some (inl (bytes, given, names, inl report)) = report.done
some_puts_done old new (Some (Explore program out asked budgets workers)) plan some (inl (bytes, given, names, inr (inl none))) = absurd (some none.no_files)
some_puts_done old new (Some (Explore program out asked budgets workers)) plan some (inl (bytes, given, names, inr (inr misfit))) = absurd (some misfit.no_files)
some_puts_done old new (Some (Explore program out asked budgets workers)) plan some (inr (rose, (begins, is))) = absurd (some (ap (λ (p : Plan). p.puts) is))
some_puts_done old new (Some (Replay program test)) plan some planned = absurd (some (replay_puts old new program test plan planned))
some_puts_done old new (Some (Bench number workers out)) plan some planned = (benched old new number workers out plan planned).done
some_puts_done old new (Some (Upgrade test out)) plan some planned = upgrade_puts old new test out plan some planned
some_puts_done old new (Some (Audit program certificate)) plan some planned = absurd (some (audit_puts old new program certificate plan planned))

pub answered : (old mid new : Seen) (job : Option Job) (verdict : Verdict) (puts : List Put) (text : List ℕ) → IsPlanned old mid job verdict puts text → mid.writes ≡ old.writes → new.reads ≡ mid.reads → IsCarriedOut mid new verdict puts text [] → IsAnswered old new job verdict
answered old mid new job verdict puts text planned writes reads out = record {
  plan = record { verdict = verdict; names = planned.names; puts = puts; text = text };
  is = refl;
  planned = plan_later old mid new job _ reads planned.plan;
  out = record {
    said = out.said;
    begins = out.begins;
    whole = elim out.whole [ inl all ↦ inl all | inr cut ↦ inr (rose_whole old mid new writes cut.0, cut.1) ];
    changes = then_all _ _ _ _ _ _ planned.changes out.changes;
  };
}

pub faulted : (old mid new : Seen) (job : Option Job) (verdict : Verdict) (puts : List Put) (text : List ℕ) → IsPlanned old mid job verdict puts text → mid.writes ≡ old.writes → new.reads ≡ mid.reads → Rose mid.writes new.writes → (verdict ≡ Done) ⊎ (puts ≢ []) → IsCutByFault mid new puts text [] → IsFaulted old new job
faulted old mid new job verdict puts text planned writes reads rose only out = record {
  plan = record { verdict = verdict; names = planned.names; puts = puts; text = text };
  rose = rose_whole old mid new writes rose;
  only_done = elim only [ inl done ↦ done | inr some ↦ some_puts_done old mid job _ some planned.plan ];
  planned = plan_later old mid new job _ reads planned.plan;
  out = record {
    puts = out.puts;
    said = out.said;
    files = out.files;
    begins = out.begins;
    in_order = out.in_order;
    changes = then_all _ _ _ _ _ _ planned.changes out.changes;
  };
}

-- memory was refused while the plan was carried out, and that was said
pub wanting_later : (old mid late new : Seen) (job : Option Job) (verdict : Verdict) (puts : List Put) (text : List ℕ) → IsPlanned old mid job verdict puts text → late.reads ≡ mid.reads → new.reads ≡ late.reads → (made : List Put) × IsPrefix made puts × (late.told ≡ after mid.told (puts_all made)) → (said : List ℕ) × IsPrefix said no_memory × (new.told ≡ after late.told (says said)) → IsWanting old new job
wanting_later old mid late new job verdict puts text planned reads reads' (made, begins, put) (said, cut, spoke) = record {
  names = planned.names;
  whole = puts;
  reading = plan_names old mid job _ planned.plan;
  writing = inr (record { verdict = verdict; names = planned.names; puts = puts; text = text }, plan_later old mid new job _ (reads' ∙ reads) planned.plan, refl, refl);
  out = record {
    puts = made;
    said = said;
    files = begins;
    begins = cut;
    changes = then_says _ _ _ _ _ _ (then_all _ _ _ _ _ _ planned.changes put) spoke;
  };
}

-- memory was refused while the plan was made, and that was said
pub wanting_early : (old mid new : Seen) (job : Option Job) → OnlyReads old mid (names_of job) → (said : List ℕ) × IsPrefix said no_memory × (new.told ≡ after mid.told (says said)) → IsWanting old new job
wanting_early old mid new job only (said, cut, spoke) = record {
  names = only.names;
  whole = [];
  reading = only.begins;
  writing = inl refl;
  out = record { puts = []; said = said; files = IsPrefix-nothing []; begins = cut; changes = then_says _ _ _ _ _ _ only.changes spoke };
}

-- the names read are those of the job, from the first on
pub answered_names : (old new : Seen) (job : Option Job) (ending : Ending) → HasEnded old new job ending → IfSome (names_since old.told new.told) (λ names. IsPrefix names (names_of job))
answered_names old new job (Planned verdict) h = names_since-after _ _ (record { names = h.plan.names; puts = h.plan.puts; said = h.out.said }) _ h.out.changes (plan_names old new job h.plan h.planned)
answered_names old new job WriteFault h = names_since-after _ _ (record { names = h.plan.names; puts = h.out.puts; said = h.out.said }) _ h.out.changes (plan_names old new job h.plan h.planned)
answered_names old new job NoMemory h = names_since-after _ _ (record { names = h.names; puts = h.out.puts; said = h.out.said }) _ h.out.changes h.reading

-- what was written, where the plan is done and all was put and said
written : (r : Ran) (asked : Asked) (bytes : List ℕ) (image : Image) (Claim : Report → Type 0) (plan : Plan) (summary : List ℕ)
    → ((report : Report) → IsReport report → Claim report)
    → IsFile r.old.told asked.source bytes → Loads bytes image → unfit image asked.regions ≡ None
    → IsReportOf asked.out image asked.regions asked.budgets asked.workers plan.puts summary → plan.text ≡ line_with asked.source summary
    → IsCarriedOut r.old r.new Done plan.puts plan.text plan.names → IsWritten r asked Claim
written r asked bytes image Claim plan summary claims given loads fits report text carried =
    let old = r.old.told in
    let new = r.new.told in
    let deeds : Deeds = record { names = plan.names; puts = plan.puts; said = carried.said } in
    let said : carried.said ≡ plan.text = elim carried.whole [ inl all ↦ all | inr cut ↦ absurd (cut.1 refl) ] in
    let whole : Report = record { image = image; regions = asked.regions; budgets = asked.budgets; workers = asked.workers; lines = report.lines; entries = report.entries } in
    record {
      image = image;
      lines = report.lines;
      entries = report.entries;
      bytes = bytes;
      given = given;
      loads = loads;
      fits = fits;
      files = puts_since-after old new deeds (λ puts. puts ≡ files_of asked.out asked.budgets asked.workers asked.regions report.lines report.entries) carried.changes report.files;
      read_back =
          puts_since-after old new deeds (λ puts. AreReadBack asked.out puts report.lines report.entries) carried.changes
          (subst (λ puts. AreReadBack asked.out puts report.lines report.entries) (sym report.files)
          (read_back asked.out whole report.claims report.counts fits));
      summary = said_since-after old new deeds (λ said. said ≡ line_with asked.source (summary_of report.entries)) carried.changes (said ∙ text ∙ ap (line_with asked.source) report.summary);
      claim = claims whole report.claims;
    }

pub done_written : (old new : Seen) (job : Option Job) (Claim : Report → Type 0) → ((report : Report) → IsReport report → Claim report)
    → IsAnswered old new job Done → WritesFor (record { old = old; new = new; job = job }) job Claim
done_written old new None Claim claims h = none_other old new h.plan Done h.is (λ e. cc) h.planned
done_written old new (Some (Explore program out asked budgets workers)) Claim claims h =
    let r = done_reported old new program out asked budgets workers h.plan h.is h.planned in
    written (record { old = old; new = new; job = Some (Explore program out asked budgets workers) })
    (record { source = named program; out = out; regions = asked; budgets = budgets; workers = workers }) r.0 r.2.image Claim h.plan h.plan.text
    claims r.1 r.2.loads r.2.fits r.2.report refl h.out
done_written old new (Some (Replay program test)) Claim claims h = tt
done_written old new (Some (Upgrade test out)) Claim claims h = tt
done_written old new (Some (Audit program certificate)) Claim claims h = tt
done_written old new (Some (Bench number workers out)) Claim claims h =
    let is = benched old new number workers out h.plan h.planned in
    written (record { old = old; new = new; job = Some (Bench number workers out) })
    (record { source = numbered number; out = out; regions = generated_regions number; budgets = default_budgets; workers = workers }) (generated_file number) is.image Claim h.plan is.summary
    claims refl is.loads is.fits is.report is.line h.out

-- what was the same, and what was not
pub done_same : (old new : Seen) (job : Option Job) → IsAnswered old new job Done → OnReplayed old.told job IsAsSaid
done_same old new None h = none_other old new h.plan Done h.is (λ e. cc) h.planned
done_same old new (Some (Explore program out asked budgets workers)) h = tt
done_same old new (Some (Bench number workers out)) h = tt
done_same old new (Some (Upgrade test out)) h = tt
done_same old new (Some (Audit program certificate)) h = tt
done_same old new (Some (Replay program test)) h = replay_same old new program test h.plan h.is h.planned

-- what was upgraded
pub done_upgraded : (old new : Seen) (job : Option Job) → IsAnswered old new job Done → UpgradesFor (record { old = old; new = new; job = job }) job
done_upgraded old new None h = none_other old new h.plan Done h.is (λ e. cc) h.planned
done_upgraded old new (Some (Explore program out asked budgets workers)) h = tt
done_upgraded old new (Some (Replay program test)) h = tt
done_upgraded old new (Some (Bench number workers out)) h = tt
done_upgraded old new (Some (Audit program certificate)) h = tt
done_upgraded old new (Some (Upgrade test out)) h =
    let done = upgrade_done old new test out h.plan h.is h.planned in
    let deeds : Deeds = record { names = h.plan.names; puts = h.plan.puts; said = h.out.said } in
    let said : h.out.said ≡ h.plan.text = elim h.out.whole [ inl all ↦ all | inr cut ↦ absurd (cut.1 refl) ] in
    record {
      text = done.0;
      new = done.2.new;
      given = done.1;
      gives = done.2.gives;
      file = puts_since-after old.told new.told deeds (λ puts. puts ≡ (record { name = out; bytes = done.2.new }) ∷ []) h.out.changes done.2.file;
      line = said_since-after old.told new.told deeds (λ said. said ≡ upgraded_line) h.out.changes (said ∙ done.2.line);
    }

-- what was audited
pub done_audited : (old new : Seen) (job : Option Job) → IsAnswered old new job Done → AuditsFor (record { old = old; new = new; job = job }) job
done_audited old new None h = none_other old new h.plan Done h.is (λ e. cc) h.planned
done_audited old new (Some (Explore program out asked budgets workers)) h = tt
done_audited old new (Some (Replay program test)) h = tt
done_audited old new (Some (Bench number workers out)) h = tt
done_audited old new (Some (Upgrade test out)) h = tt
done_audited old new (Some (Audit program certificate)) h =
    let (bytes, text, image, given, also, loads, shows) = audit_done old new program certificate h.plan h.is h.planned in
    let deeds : Deeds = record { names = h.plan.names; puts = h.plan.puts; said = h.out.said } in
    let said : h.out.said ≡ h.plan.text = elim h.out.whole [ inl all ↦ all | inr cut ↦ absurd (cut.1 refl) ] in
    record {
      bytes = bytes;
      text = text;
      image = image;
      cert = shows.cert;
      parts = shows.parts;
      leaves = shows.leaves;
      program_given = given;
      certificate_given = also;
      loads = loads;
      reads = shows.reads;
      shown = shows.shown;
      counted = shows.counted;
      no_files = puts_since-after old.told new.told deeds (λ puts. puts ≡ []) h.out.changes (audit_puts old new program certificate h.plan h.planned);
      line = said_since-after old.told new.told deeds (λ said. said ≡ audit_yes shows.leaves) h.out.changes (said ∙ shows.line);
    }

pub differs_other : (old new : Seen) (job : Option Job) → IsAnswered old new job Differs → HoldsOther old.told job
differs_other old new None h = none_other old new h.plan Differs h.is (λ e. cc) h.planned
differs_other old new (Some (Explore program out asked budgets workers)) h = not_explored old new program out asked budgets workers h.plan Differs h.is (λ e. cc) (λ e. cc) (λ e. cc) (λ e. cc) h.planned
differs_other old new (Some (Replay program test)) h = replay_other old new program test h.plan h.is h.planned
differs_other old new (Some (Bench number workers out)) h = not_benched old new number workers out h.plan Differs h.is (λ e. cc) h.planned
differs_other old new (Some (Upgrade test out)) h = not_upgraded old new test out h.plan Differs h.is (λ e. cc) (λ e. cc) (λ e. cc) h.planned
differs_other old new (Some (Audit program certificate)) h = audit_other old new program certificate h.plan h.is h.planned

-- what is refused is no test
pub refused_no_test : (old new : Seen) (job : Option Job) → IsAnswered old new job TestRefused → HoldsNoTest old.told job
refused_no_test old new None h = none_other old new h.plan TestRefused h.is (λ e. cc) h.planned
refused_no_test old new (Some (Explore program out asked budgets workers)) h = not_explored old new program out asked budgets workers h.plan TestRefused h.is (λ e. cc) (λ e. cc) (λ e. cc) (λ e. cc) h.planned
refused_no_test old new (Some (Replay program test)) h = replay_no_test old new program test h.plan h.is h.planned
refused_no_test old new (Some (Bench number workers out)) h = not_benched old new number workers out h.plan TestRefused h.is (λ e. cc) h.planned
refused_no_test old new (Some (Upgrade test out)) h = upgrade_no_test old new test out h.plan h.is h.planned
refused_no_test old new (Some (Audit program certificate)) h = not_audited old new program certificate h.plan TestRefused h.is (λ e. cc) (λ e. cc) (λ e. cc) (λ e. cc) h.planned

-- what is refused is no program
pub refused_no_program : (old new : Seen) (job : Option Job) → IsAnswered old new job Refused → HoldsNoProgram old.told job
refused_no_program old new None h = none_other old new h.plan Refused h.is (λ e. cc) h.planned
refused_no_program old new (Some (Explore program out asked budgets workers)) h = refused_refusal old new program out asked budgets workers h.plan h.is h.planned
refused_no_program old new (Some (Replay program test)) h = replay_no_program old new program test h.plan h.is h.planned
refused_no_program old new (Some (Bench number workers out)) h = not_benched old new number workers out h.plan Refused h.is (λ e. cc) h.planned
refused_no_program old new (Some (Upgrade test out)) h = not_upgraded old new test out h.plan Refused h.is (λ e. cc) (λ e. cc) (λ e. cc) h.planned
refused_no_program old new (Some (Audit program certificate)) h = audit_no_program old new program certificate h.plan h.is h.planned

-- what doesn't fit is a program for another input
pub unfit_holds : (old new : Seen) (job : Option Job) → IsAnswered old new job Unfit → HoldsMisfit old.told job
unfit_holds old new None h = none_other old new h.plan Unfit h.is (λ e. cc) h.planned
unfit_holds old new (Some (Explore program out asked budgets workers)) h = unfit_misfit old new program out asked budgets workers h.plan h.is h.planned
unfit_holds old new (Some (Replay program test)) h = replay_misfit old new program test h.plan h.is h.planned
unfit_holds old new (Some (Bench number workers out)) h = not_benched old new number workers out h.plan Unfit h.is (λ e. cc) h.planned
unfit_holds old new (Some (Upgrade test out)) h = not_upgraded old new test out h.plan Unfit h.is (λ e. cc) (λ e. cc) (λ e. cc) h.planned
unfit_holds old new (Some (Audit program certificate)) h = not_audited old new program certificate h.plan Unfit h.is (λ e. cc) (λ e. cc) (λ e. cc) (λ e. cc) h.planned

-- Each status is that of one ending.
abbrev verdict_of : ℕ → Option Verdict
verdict_of status =
    if status == 0 then Some Done else if status == 1 then Some Differs else if status == 2 then Some NoJob else if status == 3 then Some Refused
    else if status == 4 then Some Unfit else if status == 5 then Some ReadFault else if status == 7 then Some TestRefused else None

says_verdict : (verdict : Verdict) → verdict_of (verdict_status verdict) ≡ Some verdict
says_verdict Done = refl
says_verdict Differs = refl
says_verdict NoJob = refl
says_verdict Refused = refl
says_verdict Unfit = refl
says_verdict ReadFault = refl
says_verdict TestRefused = refl

one_verdict : (verdict other : Verdict) (status : ℕ) → status ≡ verdict_status verdict → status ≡ verdict_status other → verdict ≡ other
one_verdict verdict other status is also =
    let both : Some verdict ≡ Some other = sym (says_verdict verdict) ∙ ap verdict_of (sym is ∙ also) ∙ says_verdict other in
    cc

no_verdict : (verdict : Verdict) (status : ℕ) → status ≡ verdict_status verdict → verdict_of status ≡ None → ⊥
no_verdict verdict status is none =
    let both : Some verdict ≡ None = sym (says_verdict verdict) ∙ ap verdict_of (sym is) ∙ none in
    cc

pub answered_as : (old new : Seen) (job : Option Job) (ending : Ending) (verdict : Verdict) (status : ℕ) → HasEnded old new job ending → status ≡ status_of ending → status ≡ verdict_status verdict → IsAnswered old new job verdict
answered_as old new job (Planned other) verdict status h is means = subst (IsAnswered old new job) (one_verdict other verdict status is means) h
answered_as old new job WriteFault verdict status h is means = absurd (no_verdict verdict status means (ap verdict_of is))
answered_as old new job NoMemory verdict status h is means = absurd (no_verdict verdict status means (ap verdict_of is))

pub answered_faulted : (old new : Seen) (job : Option Job) (ending : Ending) (status : ℕ) → HasEnded old new job ending → status ≡ status_of ending → status ≡ 6 → IsFaulted old new job
answered_faulted old new job (Planned verdict) status h is six = absurd (no_verdict verdict status is (ap verdict_of six))
answered_faulted old new job WriteFault status h is six = h
answered_faulted old new job NoMemory status h is six = absurd (omega (arith, is, six))

-- there is no job, where that is said
pub no_job_none : (old new : Seen) (job : Option Job) → IsAnswered old new job NoJob → job ≡ None
no_job_none old new None h = refl
no_job_none old new (Some (Explore program out asked budgets workers)) h = absurd (not_explored old new program out asked budgets workers h.plan NoJob h.is (λ e. cc) (λ e. cc) (λ e. cc) (λ e. cc) h.planned)
no_job_none old new (Some (Replay program test)) h = absurd (replay_no_job old new program test h.plan h.is h.planned)
no_job_none old new (Some (Bench number workers out)) h = absurd (not_benched old new number workers out h.plan NoJob h.is (λ e. cc) h.planned)
no_job_none old new (Some (Upgrade test out)) h = absurd (not_upgraded old new test out h.plan NoJob h.is (λ e. cc) (λ e. cc) (λ e. cc) h.planned)
no_job_none old new (Some (Audit program certificate)) h = absurd (not_audited old new program certificate h.plan NoJob h.is (λ e. cc) (λ e. cc) (λ e. cc) (λ e. cc) h.planned)

-- a read fault was counted, where that is said
none_fault : (old new : Seen) (plan : Plan) → plan.verdict ≡ ReadFault → IsPlan old new None plan → Rose old.reads new.reads
none_fault old new plan fault (inl is) = let other : plan.verdict ≡ NoJob = ap (λ (p : Plan). p.verdict) is in cc
none_fault old new plan fault (inr (rose, none)) = absurd none

pub read_rose : (old new : Seen) (job : Option Job) → IsAnswered old new job ReadFault → Rose old.reads new.reads
read_rose old new None h = none_fault old new h.plan h.is h.planned
read_rose old new (Some (Explore program out asked budgets workers)) h = fault_rose old new program out asked budgets workers h.plan h.is h.planned
read_rose old new (Some (Replay program test)) h = replay_fault old new program test h.plan h.is h.planned
read_rose old new (Some (Bench number workers out)) h = absurd (not_benched old new number workers out h.plan ReadFault h.is (λ e. cc) h.planned)
read_rose old new (Some (Upgrade test out)) h = upgrade_fault old new test out h.plan h.is h.planned
read_rose old new (Some (Audit program certificate)) h = audit_fault old new program certificate h.plan h.is h.planned

-- a write fault is answered only where there is a job
pub faulted_job : (old new : Seen) (job : Option Job) → IsFaulted old new job → job ≢ None
faulted_job old new None h is = none_other old new h.plan Done h.only_done (λ e. cc) h.planned
faulted_job old new (Some job) h is = cc
