-- What is done where files are held and no fault is counted.
use Rattle.std.proofs.Common.{◌≡◌, ◌⊎◌, ℕ, List, inl, inr, sym, ◌∙◌, ap, subst}
use Rattle.std.specs.Prelude.{Option, None, Some}
use Rattle.tool_io.specs.Told.{Told, Seen}
use Rattle.tool_io.specs.Causes.{Rose}
use Rattle.elf_load.specs.Fits.{unfit}
use Rattle.elf_load.specs.Images.{Image, Loads}
use Rattle.elf_load.specs.Refusals.{refusal}
use Rattle.elf_load.proofs.OneImage.{one_image}
use Rattle.tool_words.specs.Job.{Job, Audit, Bench, Explore, Replay, Upgrade}
use Rattle.tool_top.specs.Plan.{most_bytes}
use Rattle.tool_top.specs.Answer.{HasEnded, status_of, IsAnswered, HoldsProgram, HoldsNoProgram, HoldsMisfit, HoldsTest, HoldsText, HoldsUpgrade, verdict_status}
use Rattle.tool_top.proofs.AuditEndings.{audit_kept}
use Rattle.tool_top.proofs.BenchEndings.{benched}
use Rattle.tool_top.proofs.Endings.{explored_only, fault_rose, refused_no_program, unfit_holds}
use Rattle.tool_top.proofs.ReplayEndings.{given_held, replay_kept}
use Rattle.tool_top.proofs.UpgradeEndings.{upgrade_kept}
use Rattle.tool_top.specs.declared.verdict.Verdict.{Verdict}
use Rattle.tool_top.specs.declared.verdict.Verdict.TheVariants.{Refused, Unfit}
use Rattle.tool_top.specs.declared.verdict.Ending.{Ending}
use Rattle.tool_top.specs.declared.verdict.Ending.TheVariants.{Planned, WriteFault, NoMemory}

-- a file that loads is not refused
held_not_refused : (told : Told) (job : Option Job) → HoldsProgram told job → HoldsNoProgram told job → ⊥
held_not_refused told None holds none = holds
held_not_refused told (Some (Explore program out asked budgets workers)) (bytes, image, held, loads, fits) (given, why, gives, refuses) =
    let same : given ≡ bytes = given_held most_bytes program bytes given told.holds held gives in
    let fine : refusal given ≡ None = ap refusal same ∙ loads.fine in
    cc
held_not_refused told (Some (Replay program test)) holds none = holds
held_not_refused told (Some (Bench number workers out)) holds none = none
held_not_refused told (Some (Upgrade test out)) holds none = holds
held_not_refused told (Some (Audit program certificate)) holds none = holds

-- nor is an input that fits
held_not_unfit : (told : Told) (job : Option Job) → HoldsProgram told job → HoldsMisfit told job → ⊥
held_not_unfit told None holds misfit = holds
held_not_unfit told (Some (Explore program out asked budgets workers)) (bytes, here, held, loads, fits) (given, image, why, gives, is, misfits) =
    let same = given_held most_bytes program bytes given told.holds held gives in
    let one : here ≡ image = one_image bytes here image loads (subst (λ (b : List ℕ). Loads b image) same is) in
    let also : unfit image asked ≡ None = subst (λ (i : Image). unfit i asked ≡ None) one fits in
    cc
held_not_unfit told (Some (Replay program test)) holds misfit = holds
held_not_unfit told (Some (Bench number workers out)) holds misfit = misfit
held_not_unfit told (Some (Upgrade test out)) holds misfit = holds
held_not_unfit told (Some (Audit program certificate)) holds misfit = holds

-- where it is held, and no fault was counted, it is explored to the end
explored_whole : (old new : Seen) (job : Option Job) (verdict : Verdict) (status : ℕ) → IsAnswered old new job verdict → status ≡ verdict_status verdict → HoldsProgram old.told job → ¬ Rose old.reads new.reads → status ≡ 0
explored_whole old new None verdict status h is holds read = absurd holds
explored_whole old new (Some (Replay program test)) verdict status h is holds read = absurd holds
explored_whole old new (Some (Upgrade test out)) verdict status h is holds read = absurd holds
explored_whole old new (Some (Audit program certificate)) verdict status h is holds read = absurd holds
explored_whole old new (Some (Bench number workers out)) verdict status h is holds read =
    is ∙ ap verdict_status (sym h.is ∙ (benched old new number workers out h.plan h.planned).done)
explored_whole old new (Some (Explore program out asked budgets workers)) verdict status h is holds read =
    let job : Option Job = Some (Explore program out asked budgets workers) in
    let said : (v : Verdict) → h.plan.verdict ≡ v → IsAnswered old new job v = λ v e. subst (IsAnswered old new job) (sym h.is ∙ e) h in
    elim (explored_only old new program out asked budgets workers h.plan h.planned) [
      | inl done ↦ is ∙ ap verdict_status (sym h.is ∙ done)
      | inr (inl refused) ↦ absurd (held_not_refused old.told job holds (refused_no_program old new job (said Refused refused)))
      | inr (inr (inl unfit)) ↦ absurd (held_not_unfit old.told job holds (unfit_holds old new job (said Unfit unfit)))
      | inr (inr (inr fault)) ↦ absurd (read (fault_rose old new program out asked budgets workers h.plan fault h.planned))
    ]

pub complete : (old new : Seen) (job : Option Job) (ending : Ending) (status : ℕ) → HasEnded old new job ending → status ≡ status_of ending → HoldsProgram old.told job → ¬ Rose old.reads new.reads → ¬ Rose old.writes new.writes → (status ≡ 0) ⊎ (status ≡ 8)
complete old new job (Planned verdict) status h is holds read wrote = inl (explored_whole old new job verdict status h is holds read)
complete old new job WriteFault status h is holds read wrote = absurd (wrote h.rose)
complete old new job NoMemory status h is holds read wrote = inr is

-- where a test is held, and no fault was counted, it is replayed
replayed_whole : (old new : Seen) (job : Option Job) (verdict : Verdict) (status : ℕ) → IsAnswered old new job verdict → status ≡ verdict_status verdict → HoldsTest old.told job → ¬ Rose old.reads new.reads → (status ≡ 0) ⊎ (status ≡ 1)
replayed_whole old new None verdict status h is holds read = absurd holds
replayed_whole old new (Some (Explore program out asked budgets workers)) verdict status h is holds read = absurd holds
replayed_whole old new (Some (Bench number workers out)) verdict status h is holds read = absurd holds
replayed_whole old new (Some (Upgrade test out)) verdict status h is holds read = absurd holds
replayed_whole old new (Some (Audit program certificate)) verdict status h is holds read = absurd holds
replayed_whole old new (Some (Replay program test)) verdict status h is (bytes, text, image, test_read, held, held_text, replayable) read =
    elim (replay_kept old new program test h.plan bytes text image test_read held held_text replayable read h.planned) [
      | inl done ↦ inl (is ∙ ap verdict_status (sym h.is ∙ done))
      | inr differs ↦ inr (is ∙ ap verdict_status (sym h.is ∙ differs))
    ]

pub complete_replay : (old new : Seen) (job : Option Job) (ending : Ending) (status : ℕ) → HasEnded old new job ending → status ≡ status_of ending → HoldsTest old.told job → ¬ Rose old.reads new.reads → ¬ Rose old.writes new.writes
    → (status ≡ 0) ⊎ (status ≡ 1) ⊎ (status ≡ 8)
complete_replay old new job (Planned verdict) status h is holds read wrote = elim (replayed_whole old new job verdict status h is holds read) [ inl zero ↦ inl zero | inr one ↦ inr (inl one) ]
complete_replay old new job WriteFault status h is holds read wrote = absurd (wrote h.rose)
complete_replay old new job NoMemory status h is holds read wrote = inr (inr is)

-- where a test that has a text in format 2 is held, and no fault was counted, it is upgraded
upgraded_whole : (old new : Seen) (job : Option Job) (verdict : Verdict) (status : ℕ) → IsAnswered old new job verdict → status ≡ verdict_status verdict → HoldsUpgrade old.told job → ¬ Rose old.reads new.reads → status ≡ 0
upgraded_whole old new None verdict status h is holds read = absurd holds
upgraded_whole old new (Some (Explore program out asked budgets workers)) verdict status h is holds read = absurd holds
upgraded_whole old new (Some (Replay program test)) verdict status h is holds read = absurd holds
upgraded_whole old new (Some (Bench number workers out)) verdict status h is holds read = absurd holds
upgraded_whole old new (Some (Audit program certificate)) verdict status h is holds read = absurd holds
upgraded_whole old new (Some (Upgrade test out)) verdict status h is (text, changed, held, gives) read =
    is ∙ ap verdict_status (sym h.is ∙ upgrade_kept old new test out h.plan text changed held gives read h.planned)

pub complete_upgrade : (old new : Seen) (job : Option Job) (ending : Ending) (status : ℕ) → HasEnded old new job ending → status ≡ status_of ending → HoldsUpgrade old.told job → ¬ Rose old.reads new.reads → ¬ Rose old.writes new.writes → (status ≡ 0) ⊎ (status ≡ 8)
complete_upgrade old new job (Planned verdict) status h is holds read wrote = inl (upgraded_whole old new job verdict status h is holds read)
complete_upgrade old new job WriteFault status h is holds read wrote = absurd (wrote h.rose)
complete_upgrade old new job NoMemory status h is holds read wrote = inr is

-- where a program and a text are held, and no fault was counted, yes or no is said
audited_whole : (old new : Seen) (job : Option Job) (verdict : Verdict) (status : ℕ) → IsAnswered old new job verdict → status ≡ verdict_status verdict → HoldsText old.told job → ¬ Rose old.reads new.reads → (status ≡ 0) ⊎ (status ≡ 1)
audited_whole old new None verdict status h is holds read = absurd holds
audited_whole old new (Some (Explore program out asked budgets workers)) verdict status h is holds read = absurd holds
audited_whole old new (Some (Replay program test)) verdict status h is holds read = absurd holds
audited_whole old new (Some (Bench number workers out)) verdict status h is holds read = absurd holds
audited_whole old new (Some (Upgrade test out)) verdict status h is holds read = absurd holds
audited_whole old new (Some (Audit program certificate)) verdict status h is (bytes, text, image, held, held_text, loads) read =
    elim (audit_kept old new program certificate h.plan bytes image held loads read h.planned) [
      | inl done ↦ inl (is ∙ ap verdict_status (sym h.is ∙ done))
      | inr differs ↦ inr (is ∙ ap verdict_status (sym h.is ∙ differs))
    ]

pub complete_audit : (old new : Seen) (job : Option Job) (ending : Ending) (status : ℕ) → HasEnded old new job ending → status ≡ status_of ending → HoldsText old.told job → ¬ Rose old.reads new.reads → ¬ Rose old.writes new.writes
    → (status ≡ 0) ⊎ (status ≡ 1) ⊎ (status ≡ 8)
complete_audit old new job (Planned verdict) status h is holds read wrote = elim (audited_whole old new job verdict status h is holds read) [ inl zero ↦ inl zero | inr one ↦ inr (inl one) ]
complete_audit old new job WriteFault status h is holds read wrote = absurd (wrote h.rose)
complete_audit old new job NoMemory status h is holds read wrote = inr (inr is)
