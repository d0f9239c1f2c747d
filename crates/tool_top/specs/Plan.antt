-- What the tool means to put and say for a job.
use Rattle.std.specs.Prelude.{◌≡◌, ℕ, ◌⊎◌, List, [], ◌∷◌, Option, None, Some}
use Rattle.tool_io.specs.Told.{Told, Seen, Put, after, Gives, IsPrefix}
use Rattle.tool_io.specs.Causes.{Rose}
use Rattle.elf_load.specs.Fits.{unfit}
use Rattle.elf_load.specs.Images.{Image, Loads}
use Rattle.elf_load.specs.Refusals.{refusal}
use Rattle.elf_load.specs.declared.refused.Refused.{Refused as WhyRefused}
use Rattle.elf_load.specs.declared.region.Region.{Region}
use Rattle.elf_load.specs.declared.unfit.Unfit.{Unfit as WhyUnfit}
use Rattle.prog_gen.specs.Generated.{generated_file, generated_regions}
use Rattle.tool_words.specs.Job.{Job, Audit, Bench, Explore, Replay, Upgrade}
use Rattle.tool_words.specs.Limits.{default_budgets}
use Rattle.tree_core.specs.declared.budgets.Budgets.{Budgets}
use Rattle.tool_top.specs.Auditing.{IsAuditSaid, most_certificate_bytes}
use Rattle.tool_top.specs.Lines.{bench_line, read_fault, refused_line, unfit_line, usage}
use Rattle.tool_top.specs.Replaying.{IsNoTest, IsReplayed, IsTestMisfit, most_test_bytes}
use Rattle.tool_top.specs.Reports.{IsReportOf}
use Rattle.tool_top.specs.Upgrading.{TreatsUpgrade}
use Rattle.tool_top.specs.declared.plan.TheConstants.{MOST_BYTES}
use Rattle.tool_top.specs.declared.verdict.Verdict.{Verdict}
use Rattle.tool_top.specs.declared.verdict.Verdict.TheVariants.{Done, NoJob, Refused, Unfit, ReadFault}

-- the names that a job reads, in their order
abbrev pub names_of : Option Job → List (List ℕ)
names_of None = []
names_of (Some (Explore program out asked budgets workers)) = program ∷ []
names_of (Some (Replay program test)) = program ∷ test ∷ []
names_of (Some (Bench number workers out)) = []
names_of (Some (Upgrade test out)) = test ∷ []
names_of (Some (Audit program certificate)) = program ∷ certificate ∷ []

-- the names that were read, and what is to be put and said
pub record Plan : Type 0 where
  pub verdict : Verdict
  pub names : List (List ℕ)
  pub puts : List Put
  pub text : List ℕ

-- the most bytes of a program's file that are read
abbrev pub most_bytes : ℕ
most_bytes = MOST_BYTES

-- a text is said, and no file is put
abbrev pub says_only : Verdict → List (List ℕ) → List ℕ → Plan
says_only verdict names text = record { verdict = verdict; names = names; puts = []; text = text }

-- the bytes are the file of a program, the input that is asked fits it, and the report is put into `out`
pub record IsReported (out bytes : List ℕ) (asked : List Region) (budgets : Budgets) (workers : ℕ)
    (verdict : Verdict) (puts : List Put) (text : List ℕ) : Type 0 where
  pub image : Image
  pub loads : Loads bytes image
  pub fits : unfit image asked ≡ None
  pub done : verdict ≡ Done
  pub report : IsReportOf out image asked budgets workers puts text

-- the bytes are the file of no program, and why is said
pub record IsRefusal (bytes : List ℕ) (verdict : Verdict) (puts : List Put)
    (text : List ℕ) : Type 0 where
  pub why : WhyRefused
  pub refuses : refusal bytes ≡ Some why
  pub is : verdict ≡ Refused
  pub no_files : puts ≡ []
  pub line : text ≡ refused_line why

-- the bytes are the file of a program, but the input that is asked doesn't fit it, and why is said
pub record IsMisfit (bytes : List ℕ) (asked : List Region) (verdict : Verdict) (puts : List Put)
    (text : List ℕ) : Type 0 where
  pub image : Image
  pub loads : Loads bytes image
  pub why : WhyUnfit
  pub misfits : unfit image asked ≡ Some why
  pub is : verdict ≡ Unfit
  pub no_files : puts ≡ []
  pub line : text ≡ unfit_line why

-- the report of the generated program of this number, with the default budgets, is put into `out`
pub record IsBenched (number workers : ℕ) (out : List ℕ) (verdict : Verdict) (puts : List Put)
    (text : List ℕ) : Type 0 where
  pub image : Image
  pub loads : Loads (generated_file number) image
  pub fits : unfit image (generated_regions number) ≡ None
  pub done : verdict ≡ Done
  pub summary : List ℕ
  pub report : IsReportOf out image (generated_regions number) default_budgets workers puts summary
  pub line : text ≡ bench_line number summary

-- what is put and said for the bytes of a program's file, the regions that are asked, the budgets and the number of workers
abbrev pub Treats : (out bytes : List ℕ) → List Region → Budgets → (workers : ℕ) → Verdict
    → List Put → List ℕ → Type 0
Treats out bytes asked budgets workers verdict puts text =
    IsReported out bytes asked budgets workers verdict puts text
    ⊎ (IsRefusal bytes verdict puts text ⊎ IsMisfit bytes asked verdict puts text)

-- what is put and said for the bytes of a program's file and of a test's
abbrev pub TreatsTest : (bytes text : List ℕ) → Verdict → List Put → List ℕ → Type 0
TreatsTest bytes text verdict puts said =
    IsRefusal bytes verdict puts said
    ⊎ (IsNoTest bytes text verdict puts said
    ⊎ (IsTestMisfit bytes text verdict puts said ⊎ IsReplayed bytes text verdict puts said))

-- what is put and said for the bytes of a program's file and of a certificate's
abbrev pub TreatsCertificate : (bytes text : List ℕ) → Verdict → List Put → List ℕ → Type 0
TreatsCertificate bytes text verdict puts said =
    IsRefusal bytes verdict puts said ⊎ IsAuditSaid bytes text verdict puts said

-- what is meant, where all that the job reads was read
abbrev pub Means : Told → Option Job → Plan → Type 0
Means told None plan = plan ≡ says_only NoJob [] usage
Means told (Some (Explore program out asked budgets workers)) plan =
    (bytes : List ℕ) × Gives told program most_bytes bytes
    × (plan.names ≡ program ∷ [])
    × Treats out bytes asked budgets workers plan.verdict plan.puts plan.text
Means told (Some (Replay program test)) plan =
    (bytes : List ℕ) × (text : List ℕ) × Gives told program most_bytes bytes
    × Gives told test most_test_bytes text
    × (plan.names ≡ program ∷ test ∷ []) × TreatsTest bytes text plan.verdict plan.puts plan.text
Means told (Some (Bench number workers out)) plan = (plan.names ≡ [])
    × IsBenched number workers out plan.verdict plan.puts plan.text
Means told (Some (Upgrade test out)) plan =
    (text : List ℕ) × Gives told test most_test_bytes text × (plan.names ≡ test ∷ [])
    × TreatsUpgrade out text plan.verdict plan.puts plan.text
Means told (Some (Audit program certificate)) plan =
    (bytes : List ℕ) × (text : List ℕ) × Gives told program most_bytes bytes
    × Gives told certificate most_certificate_bytes text
    × (plan.names ≡ program ∷ certificate ∷ [])
    × TreatsCertificate bytes text plan.verdict plan.puts plan.text

-- of these names some were read, from the first on, the last of them in vain
abbrev pub IsFaultAmong : (names : List (List ℕ)) → Plan → Type 0
IsFaultAmong names plan = IsPrefix plan.names names
    × (plan ≡ says_only ReadFault plan.names read_fault)

-- a read failed, where the job reads at all
abbrev pub IsReadFault : Option Job → Plan → Type 0
IsReadFault None plan = ⊥
IsReadFault (Some (Explore program out asked budgets workers)) plan =
    IsFaultAmong (program ∷ []) plan
IsReadFault (Some (Replay program test)) plan = IsFaultAmong (program ∷ test ∷ []) plan
IsReadFault (Some (Bench number workers out)) plan = ⊥
IsReadFault (Some (Upgrade test out)) plan = IsFaultAmong (test ∷ []) plan
IsReadFault (Some (Audit program certificate)) plan =
    IsFaultAmong (program ∷ certificate ∷ []) plan

-- the plan of a job, for the bytes that its names give
abbrev pub IsPlan : Seen → Seen → Option Job → Plan → Type 0
IsPlan old new job plan = Means old.told job plan
    ⊎ (Rose old.reads new.reads × IsReadFault job plan)

-- some of these names were read, from the first on, and nothing else was done
pub record OnlyReads (old new : Seen) (whole : List (List ℕ)) : Type 0 where
  pub names : List (List ℕ)
  pub begins : IsPrefix names whole
  pub changes : new.told ≡ after old.told (record { names = names; puts = []; said = [] })

-- a plan was made, and nothing was done but to read its names
pub record IsPlanned (old new : Seen) (job : Option Job) (verdict : Verdict) (puts : List Put)
    (text : List ℕ) : Type 0 where
  pub names : List (List ℕ)
  pub plan : IsPlan old new job
      (record { verdict = verdict; names = names; puts = puts; text = text })
  pub changes : new.told ≡ after old.told (record { names = names; puts = []; said = [] })
