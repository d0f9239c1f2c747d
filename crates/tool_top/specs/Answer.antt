-- How a run of the tool may end, why, and what stands then.
use Rattle.std.specs.Prelude.{◌≡◌, ◌≢◌, ℕ, ◌⊎◌, List, [], ◌∷◌, map, take, Option, None, Some, IfSome, Ok, Err, String, string_bytes}
use Rattle.std.specs.Global.{Global}
use Rattle.std.specs.Option.{option_map}
use Rattle.tool_io.specs.Told.{Told, Seen, Put, after, Gives, IsPrefix, IsCutShort, puts_since, said_since, told_held}
use Rattle.tool_io.specs.Causes.{Rose}
use Rattle.fork_spec.specs.Walks.{Line}
use Rattle.elf_load.specs.Fits.{unfit}
use Rattle.elf_load.specs.Refusals.{refusal}
use Rattle.elf_load.specs.declared.refused.Refused.{Refused as WhyRefused}
use Rattle.elf_load.specs.declared.region.Region.{Region}
use Rattle.elf_load.specs.declared.unfit.Unfit.{Unfit as WhyUnfit}
use Rattle.prog_gen.specs.Generated.{generated_file, generated_regions}
use Rattle.tool_words.specs.Job.{Job, Audit, Bench, Explore, Replay, Upgrade, job_of}
use Rattle.tool_words.specs.Limits.{default_budgets}
use Rattle.cert_audit.specs.Audits.{AreLeavesOf}
use Rattle.cert_audit.specs.Walks.{AreCounted}
use Rattle.cert_audit.specs.declared.auditing.Verdict.TheVariants.{No}
use Rattle.cert_audit.specs.declared.walking.Leaves.{Leaves}
use Rattle.cert_form.specs.Certificates.{Certificate}
use Rattle.cert_query.specs.declared.fault.Reason.{Reason}
use Rattle.fork_spec.specs.Parts.{Part}
use Rattle.tool_top.specs.Auditing.{IsCertificate, IsSaidOf, most_certificate_bytes}
use Rattle.tool_top.specs.Lines.{audit_yes, bench_line, no_memory, upgraded_line}
use Rattle.tool_top.specs.Plan.{Plan, IsPlan, names_of, most_bytes}
use Rattle.tree_core.specs.declared.budgets.Budgets.{Budgets}
use Rattle.elf_load.specs.Images.{Image, Loads}
use Rattle.tool_top.specs.ReadBack.{AreReadBack}
use Rattle.tool_top.specs.Replaying.{IsReplayable, most_test_bytes}
use Rattle.report_text.specs.Claims.{Entry, Report}
use Rattle.report_text.specs.Files.{files_of, summary_of}
use Rattle.replay_core.specs.Replays.{IsAsSaid}
use Rattle.test_files.specs.Reading.{reading}
use Rattle.test_files.specs.Tests.{Test}
use Rattle.test_files.specs.Upgrading.{upgraded}
use Rattle.test_files.specs.declared.refused.TestRefused.{TestRefused as WhyNoTest}
use Rattle.tool_top.specs.declared.verdict.Verdict.{Verdict}
use Rattle.tool_top.specs.declared.verdict.Verdict.TheVariants.{Done, Differs, NoJob, Refused, Unfit, ReadFault, TestRefused}
use Rattle.tool_top.specs.declared.verdict.Ending.{Ending}
use Rattle.tool_top.specs.declared.verdict.Ending.TheVariants.{Planned, WriteFault, NoMemory}

-- the exit statuses
abbrev pub verdict_status : Verdict → ℕ
verdict_status Done = 0
verdict_status Differs = 1
verdict_status NoJob = 2
verdict_status Refused = 3
verdict_status Unfit = 4
verdict_status ReadFault = 5
verdict_status TestRefused = 7

abbrev pub status_of : Ending → ℕ
status_of (Planned verdict) = verdict_status verdict
status_of WriteFault = 6
status_of NoMemory = 8

-- all was put and the text was said; unless it is done, only a beginning where the count of write faults rose
pub record IsCarriedOut (old new : Seen) (verdict : Verdict) (puts : List Put) (text : List ℕ)
    (names : List (List ℕ)) : Type 0 where
  pub said : List ℕ
  pub begins : IsPrefix said text
  pub whole : (said ≡ text) ⊎ (Rose old.writes new.writes × (verdict ≢ Done))
  pub changes : new.told ≡ after old.told (record { names = names; puts = puts; said = said })

-- the first files were put, the last maybe cut short; a beginning of the text was said where all were put, and else nothing
pub record IsCutByFault (old new : Seen) (whole : List Put) (text : List ℕ)
    (names : List (List ℕ)) : Type 0 where
  pub puts : List Put
  pub said : List ℕ
  pub files : IsCutShort puts whole
  pub begins : IsPrefix said text
  pub in_order : (said ≡ []) ⊎ (puts ≡ whole)
  pub changes : new.told ≡ after old.told (record { names = names; puts = puts; said = said })

-- the first files were put, each whole, and a beginning of this text was said
pub record IsBegun (old new : Seen) (whole : List Put) (text : List ℕ)
    (names : List (List ℕ)) : Type 0 where
  pub puts : List Put
  pub said : List ℕ
  pub files : IsPrefix puts whole
  pub begins : IsPrefix said text
  pub changes : new.told ≡ after old.told (record { names = names; puts = puts; said = said })

-- a plan of the job was carried out
pub record IsAnswered (old new : Seen) (job : Option Job) (verdict : Verdict) : Type 0 where
  pub plan : Plan
  pub is : plan.verdict ≡ verdict
  pub planned : IsPlan old new job plan
  pub out : IsCarriedOut old new verdict plan.puts plan.text plan.names

-- carrying a plan of the job out was cut by a fault, and the plan is one that is done:
-- any other verdict stands even where saying its line failed
pub record IsFaulted (old new : Seen) (job : Option Job) : Type 0 where
  pub plan : Plan
  pub rose : Rose old.writes new.writes
  pub only_done : plan.verdict ≡ Done
  pub planned : IsPlan old new job plan
  pub out : IsCutByFault old new plan.puts plan.text plan.names

-- memory was refused while the job's names were read, or while a plan was carried out
pub record IsWanting (old new : Seen) (job : Option Job) : Type 0 where
  pub names : List (List ℕ)
  pub whole : List Put
  pub reading : IsPrefix names (names_of job)
  pub writing : (whole ≡ [])
      ⊎ ((plan : Plan) × IsPlan old new job plan × (plan.puts ≡ whole) × (plan.names ≡ names))
  pub out : IsBegun old new whole no_memory names

-- why a run of this job ended so, and what stands then
abbrev pub HasEnded : Seen → Seen → Option Job → Ending → Type 0
HasEnded old new job (Planned verdict) = IsAnswered old new job verdict
HasEnded old new job WriteFault = IsFaulted old new job
HasEnded old new job NoMemory = IsWanting old new job

-- A run of the tool: what its object told and had counted before and after it, and the job of its words.
pub record Ran : Type 0 where
  pub old : Seen
  pub new : Seen
  pub job : Option Job

-- the run of these words over an object that is seen so before and after it
abbrev pub ran : {X : Type 0} → (X → Seen) → X → X → List (String Global) → Ran
ran seen old new words =
    record { old = seen old; new = seen new; job = job_of (map string_bytes words) }

-- why the run ended so, and what stands then
abbrev pub Ends : Ran → Ending → Type 0
Ends r ending = HasEnded r.old r.new r.job ending

-- this held of the run's job before it
abbrev pub Before : Ran → (Told → Option Job → Type 0) → Type 0
Before r Holds = Holds r.old.told r.job

-- where the file of a program is from: it is held under a name, or generated by a number
pub data Source : Type 0 where
  named : List ℕ → Source
  numbered : ℕ → Source

abbrev pub IsFile : Told → Source → List ℕ → Type 0
IsFile told (named name) bytes = Gives told name most_bytes bytes
IsFile told (numbered number) bytes = bytes ≡ generated_file number

-- the line that is said with a summary
abbrev pub line_with : Source → List ℕ → List ℕ
line_with (named name) summary = summary
line_with (numbered number) summary = bench_line number summary

-- a report that is asked for: of which program, into which folder, and with what
pub record Asked : Type 0 where
  pub source : Source
  pub out : List ℕ
  pub regions : List Region
  pub budgets : Budgets
  pub workers : ℕ

-- The claim holds of a report that was written as it was asked for. The image is that of the program's file. The events and the entries
-- are those that were written: where the object tells its files, the files put are their texts, and no others, and they read as these
-- events and entries and as no others; where it tells what was said, the line said has the summary.
pub record IsWritten (r : Ran) (asked : Asked) (Claim : Report → Type 0) : Type 0 where
  pub image : Image
  pub lines : List Line
  pub entries : List Entry
  pub bytes : List ℕ
  pub given : IsFile r.old.told asked.source bytes
  pub loads : Loads bytes image
  pub fits : unfit image asked.regions ≡ None
  pub files : IfSome (puts_since r.old.told r.new.told)
      (λ puts. puts ≡ files_of asked.out asked.budgets asked.workers asked.regions lines entries)
  pub read_back : IfSome (puts_since r.old.told r.new.told)
      (λ puts. AreReadBack asked.out puts lines entries)
  pub summary : IfSome (said_since r.old.told r.new.told)
      (λ said. said ≡ line_with asked.source (summary_of entries))
  pub claim : Claim (record {
    image = image;
    regions = asked.regions;
    budgets = asked.budgets;
    workers = asked.workers;
    lines = lines;
    entries = entries;
  })

-- what a job to explore asks for: a program that its name holds, or one that is generated
abbrev pub WritesFor : Ran → Option Job → (Report → Type 0) → Type 0
WritesFor r None Claim = ⊥
WritesFor r (Some (Explore program out asked budgets workers)) Claim =
    IsWritten r (record {
      source = named program;
      out = out;
      regions = asked;
      budgets = budgets;
      workers = workers;
    }) Claim
WritesFor r (Some (Replay program test)) Claim = Unit {0}
WritesFor r (Some (Upgrade test out)) Claim = Unit {0}
WritesFor r (Some (Audit program certificate)) Claim = Unit {0}
WritesFor r (Some (Bench number workers out)) Claim =
    IsWritten r (record {
      source = numbered number;
      out = out;
      regions = generated_regions number;
      budgets = default_budgets;
      workers = workers;
    }) Claim

-- there is a job, and where it is to explore, the claim holds of what was written for it
abbrev pub Writes : Ran → (Report → Type 0) → Type 0
Writes r Claim = WritesFor r r.job Claim

-- The names of a program and of a test give the file of a program and that of a test whose regions fit it,
-- and the claim holds of the program's image and of the test.
pub record IsRunTest (told : Told) (program test : List ℕ)
    (Claim : Image → Test → Type 0) : Type 0 where
  pub bytes : List ℕ
  pub text : List ℕ
  pub image : Image
  pub read : Test
  pub program_given : Gives told program most_bytes bytes
  pub test_given : Gives told test most_test_bytes text
  pub replayable : IsReplayable bytes text image read
  pub claim : Claim image read

-- there is a job, and the claim holds of its program and its test, where it is to replay one
abbrev pub OnReplayed : Told → Option Job → (Image → Test → Type 0) → Type 0
OnReplayed told None Claim = ⊥
OnReplayed told (Some (Explore program out asked budgets workers)) Claim = Unit {0}
OnReplayed told (Some (Replay program test)) Claim = IsRunTest told program test Claim
OnReplayed told (Some (Bench number workers out)) Claim = Unit {0}
OnReplayed told (Some (Upgrade test out)) Claim = Unit {0}
OnReplayed told (Some (Audit program certificate)) Claim = Unit {0}

-- The test's name gives a test, and its text in format 2 was put as the file `out`, and no other file, where the object tells its files;
-- where it tells what was said, that was said.
pub record IsUpgradedTo (r : Ran) (test out : List ℕ) : Type 0 where
  pub text : List ℕ
  pub new : List ℕ
  pub given : Gives r.old.told test most_test_bytes text
  pub gives : upgraded (reading text) ≡ Ok new
  pub file : IfSome (puts_since r.old.told r.new.told)
      (λ puts. puts ≡ (record { name = out; bytes = new }) ∷ [])
  pub line : IfSome (said_since r.old.told r.new.told) (λ said. said ≡ upgraded_line)

abbrev pub UpgradesFor : Ran → Option Job → Type 0
UpgradesFor r None = ⊥
UpgradesFor r (Some (Explore program out asked budgets workers)) = Unit {0}
UpgradesFor r (Some (Replay program test)) = Unit {0}
UpgradesFor r (Some (Bench number workers out)) = Unit {0}
UpgradesFor r (Some (Upgrade test out)) = IsUpgradedTo r test out
UpgradesFor r (Some (Audit program certificate)) = Unit {0}

-- there is a job, and where it is to upgrade a test, that was done
abbrev pub Upgrades : Ran → Type 0
Upgrades r = UpgradesFor r r.job

-- The names of a program and of a certificate give the file of a program and a certificate's text, and the leaves that the certificate
-- names are leaves of the program that share out all assignments; no file was put, where the object tells its files, and where it
-- tells what was said, that was their numbers.
pub record IsShownBy (r : Ran) (program certificate : List ℕ) : Type 0 where
  pub bytes : List ℕ
  pub text : List ℕ
  pub image : Image
  pub cert : Certificate
  pub parts : List Part
  pub leaves : Leaves
  pub program_given : Gives r.old.told program most_bytes bytes
  pub certificate_given : Gives r.old.told certificate most_certificate_bytes text
  pub loads : Loads bytes image
  pub reads : IsCertificate text cert
  pub shown : AreLeavesOf image cert parts
  pub counted : AreCounted parts leaves
  pub no_files : IfSome (puts_since r.old.told r.new.told) (λ puts. puts ≡ [])
  pub line : IfSome (said_since r.old.told r.new.told) (λ said. said ≡ audit_yes leaves)

abbrev pub AuditsFor : Ran → Option Job → Type 0
AuditsFor r None = ⊥
AuditsFor r (Some (Explore program out asked budgets workers)) = Unit {0}
AuditsFor r (Some (Replay program test)) = Unit {0}
AuditsFor r (Some (Bench number workers out)) = Unit {0}
AuditsFor r (Some (Upgrade test out)) = Unit {0}
AuditsFor r (Some (Audit program certificate)) = IsShownBy r program certificate

-- there is a job, and where it is to audit a certificate, its leaves are shown
abbrev pub Audits : Ran → Type 0
Audits r = AuditsFor r r.job

-- the names of a program and of a certificate give the file of a program and a text of which an audit says no
abbrev pub IsDoubted : Told → (program certificate : List ℕ) → Type 0
IsDoubted told program certificate =
    (bytes : List ℕ) × (text : List ℕ) × (image : Image) × (line : ℕ) × (reason : Reason)
    × Gives told program most_bytes bytes × Gives told certificate most_certificate_bytes text
    × Loads bytes image × IsSaidOf image text (No line reason)

-- there is a job to replay a test, and the claim holds of its program and its test; or to audit a certificate, of which no is said
abbrev pub HoldsOther : Told → Option Job → Type 0
HoldsOther told None = ⊥
HoldsOther told (Some (Explore program out asked budgets workers)) = ⊥
HoldsOther told (Some (Bench number workers out)) = ⊥
HoldsOther told (Some (Upgrade test out)) = ⊥
HoldsOther told (Some (Audit program certificate)) = IsDoubted told program certificate
HoldsOther told (Some (Replay program test)) =
    IsRunTest told program test (λ image read. ¬ IsAsSaid image read)

-- there is a job to replay a test, its program's name gives the file of a program, and the other name's bytes are no test; or to
-- upgrade one, and its name's bytes are no test, or one that format 2 has no text of
abbrev pub HoldsNoTest : Told → Option Job → Type 0
HoldsNoTest told None = ⊥
HoldsNoTest told (Some (Explore program out asked budgets workers)) = ⊥
HoldsNoTest told (Some (Bench number workers out)) = ⊥
HoldsNoTest told (Some (Audit program certificate)) = ⊥
HoldsNoTest told (Some (Upgrade test out)) =
    (text : List ℕ) × (why : WhyNoTest) × Gives told test most_test_bytes text
    × (upgraded (reading text) ≡ Err why)
HoldsNoTest told (Some (Replay program test)) =
    (bytes : List ℕ) × (text : List ℕ) × (image : Image) × (why : WhyNoTest)
    × Gives told program most_bytes bytes × Gives told test most_test_bytes text × Loads bytes image
    × (reading text ≡ Err why)

-- there is a job, and the bytes that its program's name gives are the file of no program
abbrev pub HoldsNoProgram : Told → Option Job → Type 0
HoldsNoProgram told None = ⊥
HoldsNoProgram told (Some (Bench number workers out)) = ⊥
HoldsNoProgram told (Some (Upgrade test out)) = ⊥
HoldsNoProgram told (Some (Explore program out asked budgets workers)) =
    (bytes : List ℕ) × (why : WhyRefused) × Gives told program most_bytes bytes
    × (refusal bytes ≡ Some why)
HoldsNoProgram told (Some (Replay program test)) =
    (bytes : List ℕ) × (why : WhyRefused) × Gives told program most_bytes bytes
    × (refusal bytes ≡ Some why)
HoldsNoProgram told (Some (Audit program certificate)) =
    (bytes : List ℕ) × (why : WhyRefused) × Gives told program most_bytes bytes
    × (refusal bytes ≡ Some why)

-- there is a job, and the bytes that its program's name gives are the file of a program, but the input that is asked, or that the test has, doesn't fit it
abbrev pub HoldsMisfit : Told → Option Job → Type 0
HoldsMisfit told None = ⊥
HoldsMisfit told (Some (Bench number workers out)) = ⊥
HoldsMisfit told (Some (Upgrade test out)) = ⊥
HoldsMisfit told (Some (Audit program certificate)) = ⊥
HoldsMisfit told (Some (Explore program out asked budgets workers)) =
    (bytes : List ℕ) × (image : Image) × (why : WhyUnfit) × Gives told program most_bytes bytes
    × Loads bytes image × (unfit image asked ≡ Some why)
HoldsMisfit told (Some (Replay program test)) =
    (bytes : List ℕ) × (text : List ℕ) × (image : Image) × (read : Test) × (why : WhyUnfit)
    × Gives told program most_bytes bytes × Gives told test most_test_bytes text × Loads bytes image
    × (reading text ≡ Ok read) × (unfit image read.regions ≡ Some why)

-- there is a job to explore; and it is told that its program's name holds the file of a program, and the input that is asked fits it, unless
-- the program is one that is generated
abbrev pub HoldsProgram : Told → Option Job → Type 0
HoldsProgram told None = ⊥
HoldsProgram told (Some (Explore program out asked budgets workers)) =
    (bytes : List ℕ) × (image : Image)
    × (option_map (take most_bytes) (told_held told program) ≡ Some bytes) × Loads bytes image
    × (unfit image asked ≡ None)
HoldsProgram told (Some (Replay program test)) = ⊥
HoldsProgram told (Some (Upgrade test out)) = ⊥
HoldsProgram told (Some (Audit program certificate)) = ⊥
HoldsProgram told (Some (Bench number workers out)) = Unit {0}

-- there is a job to replay a test, and it is told that its names hold the files of a program and of a test whose regions fit it
abbrev pub HoldsTest : Told → Option Job → Type 0
HoldsTest told None = ⊥
HoldsTest told (Some (Explore program out asked budgets workers)) = ⊥
HoldsTest told (Some (Bench number workers out)) = ⊥
HoldsTest told (Some (Upgrade test out)) = ⊥
HoldsTest told (Some (Audit program certificate)) = ⊥
HoldsTest told (Some (Replay program test)) =
    (bytes : List ℕ) × (text : List ℕ) × (image : Image) × (read : Test)
    × (option_map (take most_bytes) (told_held told program) ≡ Some bytes)
    × (option_map (take most_test_bytes) (told_held told test) ≡ Some text)
    × IsReplayable bytes text image read

-- there is a job to upgrade a test, and it is told that its name holds one that has a text in format 2
abbrev pub HoldsUpgrade : Told → Option Job → Type 0
HoldsUpgrade told None = ⊥
HoldsUpgrade told (Some (Explore program out asked budgets workers)) = ⊥
HoldsUpgrade told (Some (Replay program test)) = ⊥
HoldsUpgrade told (Some (Bench number workers out)) = ⊥
HoldsUpgrade told (Some (Audit program certificate)) = ⊥
HoldsUpgrade told (Some (Upgrade test out)) =
    (text : List ℕ) × (new : List ℕ)
    × (option_map (take most_test_bytes) (told_held told test) ≡ Some text)
    × (upgraded (reading text) ≡ Ok new)

-- there is a job to audit a certificate, and it is told that its names hold the file of a program and any text
abbrev pub HoldsText : Told → Option Job → Type 0
HoldsText told None = ⊥
HoldsText told (Some (Explore program out asked budgets workers)) = ⊥
HoldsText told (Some (Replay program test)) = ⊥
HoldsText told (Some (Bench number workers out)) = ⊥
HoldsText told (Some (Upgrade test out)) = ⊥
HoldsText told (Some (Audit program certificate)) =
    (bytes : List ℕ) × (text : List ℕ) × (image : Image)
    × (option_map (take most_bytes) (told_held told program) ≡ Some bytes)
    × (option_map (take most_certificate_bytes) (told_held told certificate) ≡ Some text)
    × Loads bytes image
