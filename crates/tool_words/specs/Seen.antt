-- What the code reads, as the definitions have it.
use Rattle.std.specs.Prelude.{◌≡◌, ⊤, Option, None, Some, Result, Ok, Err, string_bytes}
use Rattle.clap.specs.declared.error.kind.ErrorKind.{ErrorKind}
use Rattle.clap.specs.declared.error.kind.ErrorKind.TheVariants.{OutOfMemory}
use Rattle.tool_words.specs.Job as spec
use Rattle.tool_words.specs.declared.job.Exploration.{Exploration}
use Rattle.tool_words.specs.declared.job.Job.{Job}
use Rattle.tool_words.specs.declared.job.Job.TheVariants.{Audit, Bench, Explore, Replay, Upgrade}
use Rattle.tool_words.specs.declared.job.WordsError.{WordsError}
use Rattle.tool_words.specs.declared.job.WordsError.TheVariants.{Usage, NoMemory}

-- the job, with its texts as lists of bytes
abbrev pub exploration_seen : Exploration → spec.Job
exploration_seen e =
    spec.Explore (string_bytes e.program) (string_bytes e.out) e.regions e.budgets e.workers

abbrev pub job_seen : Job → spec.Job
job_seen (Explore e) = exploration_seen e
job_seen (Replay program test) = spec.Replay (string_bytes program) (string_bytes test)
job_seen (Bench number workers out) = spec.Bench number workers (string_bytes out)
job_seen (Upgrade test out) = spec.Upgrade (string_bytes test) (string_bytes out)
job_seen (Audit program certificate) = spec.Audit (string_bytes program) (string_bytes certificate)

-- what stands for an error of `clap`'s
abbrev pub error_of : ErrorKind → WordsError
error_of OutOfMemory = NoMemory
error_of _ = Usage

-- a read gave just what the words say, or ran out of memory
abbrev pub IsRead : {T V : Type 0} → (T → V) → Option V → Result T WordsError → Type 0
IsRead seen said (Ok x) = said ≡ Some (seen x)
IsRead seen said (Err Usage) = said ≡ None
IsRead seen said (Err NoMemory) = ⊤
