-- What the words of the command line ask for.
use Rattle.std.specs.Prelude.{ℕ, List, [], ◌∷◌, Option, None, Some, if◌then◌else◌, codes, option_and_then}
use Rattle.std.specs.Str.{bytes_eq}
use Rattle.clap.specs.Words.{Kinds, Row, all_of, fault_of, first_of, subcommand_of}
use Rattle.elf_load.specs.declared.region.Region.{Region}
use Rattle.tool_words.specs.Command.{rvklee_command}
use Rattle.tool_words.specs.Limits.{IsBudgets, IsWithin, budgets_found, number_said, numbers_limit, workers_found, workers_limit}
use Rattle.tool_words.specs.Region.{regions_said}
use Rattle.tree_core.specs.declared.budgets.Budgets.{Budgets}

pub data Job : Type 0 where
  -- the leaves of a program's file, whose regions hold the input bytes, and their tests, are put into
  -- the folder `out`, within the budgets, by so many workers
  Explore : (program out : List ℕ) → (regions : List Region) → (budgets : Budgets) → (workers : ℕ)
      → Job
  -- the run of a test's file on a program's file is compared with what the test says
  Replay : (program test : List ℕ) → Job
  -- the leaves of the generated program of this number, and their tests, are put into the folder `out`,
  -- by so many workers
  Bench : (number workers : ℕ) → (out : List ℕ) → Job
  -- a test's file of either format is written in format 2, as the file `out`
  Upgrade : (test out : List ℕ) → Job
  -- a certificate's file is audited, on a program's file
  Audit : (program certificate : List ℕ) → Job

-- the job, where all is there
abbrev pub explore_with : Option (List ℕ) → Option (List ℕ) → Option (List Region) → Option Budgets
    → Option ℕ → Option Job
explore_with (Some program) (Some out) (Some regions) (Some budgets) (Some workers) =
    Some (Explore program out regions budgets workers)
explore_with _ _ _ _ _ = None

-- the job of `explore`, from what `clap` finds for it
unfoldable pub explore_job : List Row → Option Job
explore_job rows = explore_with (first_of (codes "PROGRAM") rows) (first_of (codes "OUT") rows)
    (option_and_then regions_said (all_of (codes "INPUT") rows)) (budgets_found rows)
    (workers_found rows)

abbrev pub replay_with : Option (List ℕ) → Option (List ℕ) → Option Job
replay_with (Some program) (Some test) = Some (Replay program test)
replay_with _ _ = None

-- the job of `replay`, likewise
unfoldable pub replay_job : List Row → Option Job
replay_job rows = replay_with (first_of (codes "PROGRAM") rows) (first_of (codes "TEST") rows)

abbrev pub bench_with : Option ℕ → Option ℕ → Option (List ℕ) → Option Job
bench_with (Some number) (Some workers) (Some out) = Some (Bench number workers out)
bench_with _ _ _ = None

-- the job of `bench`, likewise
unfoldable pub bench_job : List Row → Option Job
bench_job rows = bench_with (number_said numbers_limit (codes "NUMBER") rows)
    (number_said workers_limit (codes "WORKERS") rows) (first_of (codes "OUT") rows)

abbrev pub upgrade_with : Option (List ℕ) → Option (List ℕ) → Option Job
upgrade_with (Some test) (Some out) = Some (Upgrade test out)
upgrade_with _ _ = None

-- the job of `upgrade`, likewise
unfoldable pub upgrade_job : List Row → Option Job
upgrade_job rows = upgrade_with (first_of (codes "TEST") rows) (first_of (codes "OUT") rows)

abbrev pub audit_with : Option (List ℕ) → Option (List ℕ) → Option Job
audit_with (Some program) (Some certificate) = Some (Audit program certificate)
audit_with _ _ = None

-- the job of `audit`, likewise
unfoldable pub audit_job : List Row → Option Job
audit_job rows = audit_with (first_of (codes "PROGRAM") rows) (first_of (codes "CERT") rows)

-- the job of the command that `clap` finds in the words
abbrev pub command_job : Option (List ℕ × List Row) → Option Job
command_job None = None
command_job (Some (name, rows)) =
    if bytes_eq name (codes "explore") then explore_job rows else
    if bytes_eq name (codes "replay") then replay_job rows else
    if bytes_eq name (codes "bench") then bench_job rows else
    if bytes_eq name (codes "upgrade") then upgrade_job rows else
    if bytes_eq name (codes "audit") then audit_job rows else None

-- no job where `clap` finds a fault, a call for help among them
abbrev pub without_fault : Kinds → Option Job → Option Job
without_fault [] job = job
without_fault (fault ∷ faults) job = None

-- the job of these words, of which the first is the tool's name: there is one where `clap` finds no
-- fault in them, each INPUT names a region, --order an order, and each other option, NUMBER and WORKERS a
-- number within its limit
unfoldable pub job_of : List (List ℕ) → Option Job
job_of words = without_fault (fault_of rvklee_command words)
    (command_job (subcommand_of rvklee_command words))

-- the numbers of the job are within their limits
abbrev pub IsWithinLimits : Job → Type 0
IsWithinLimits (Explore program out regions budgets workers) =
    IsBudgets budgets × IsWithin workers_limit workers
IsWithinLimits (Replay program test) = Unit {0}
IsWithinLimits (Bench number workers out) =
    IsWithin numbers_limit number × IsWithin workers_limit workers
IsWithinLimits (Upgrade test out) = Unit {0}
IsWithinLimits (Audit program certificate) = Unit {0}
