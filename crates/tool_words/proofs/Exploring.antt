-- The job of a command, from what the getters of clap's matches give.
use Rattle.std.proofs.Common.{ℕ, List, ◌≡◌, codes, refl, Option, None, Some, Result, Err, option_map}
use Rattle.std.specs.Prelude.{option_and_then}
use Rattle.clap.specs.Words.{first_value, matched_of, raw_values, rows_of}
use Rattle.clap.specs.declared.parser.matches.Found.{Found}
use Rattle.clap.proofs.WalkLemmas.{first_value-rows, raw_values-rows}
use Rattle.elf_load.specs.declared.region.Region.{Region}
use Rattle.tool_words.specs.Job.{audit_job, audit_with, bench_job, bench_with, explore_job, explore_with, replay_job, replay_with, upgrade_job, upgrade_with}
use Rattle.tool_words.specs.Limits.{budgets_found, number_said, numbers_limit, workers_found, workers_limit}
use Rattle.tool_words.specs.Region.{regions_said}
use Rattle.tree_core.specs.declared.budgets.Budgets.{Budgets}
use Rattle.tool_words.specs.Seen.{IsRead}
use Rattle.tool_words.specs.declared.job.WordsError.{WordsError}
use Rattle.tool_words.specs.declared.job.WordsError.TheVariants.{Usage, NoMemory}

pub explore_job_is : (found : Found) (program out : Option (List ℕ)) (inputs : Option (List (List ℕ))) (budgets : Option Budgets) (workers : Option ℕ)
    → program ≡ first_value found (codes "PROGRAM") → out ≡ first_value found (codes "OUT")
    → inputs ≡ option_map raw_values (matched_of found (codes "INPUT")) → budgets ≡ budgets_found (rows_of found) → workers ≡ workers_found (rows_of found)
    → explore_job (rows_of found) ≡ explore_with program out (option_and_then regions_said inputs) budgets workers
unfolding explore_job
explore_job_is found program out inputs budgets workers is_program is_out is_inputs is_budgets is_workers =
    rw (is_program, is_out, is_inputs, is_budgets, is_workers, first_value-rows found (codes "PROGRAM"), first_value-rows found (codes "OUT"), raw_values-rows found (codes "INPUT")) refl

pub replay_job_is : (found : Found) (program test : Option (List ℕ)) → program ≡ first_value found (codes "PROGRAM") → test ≡ first_value found (codes "TEST")
    → replay_job (rows_of found) ≡ replay_with program test
unfolding replay_job
replay_job_is found program test is_program is_test = rw (is_program, is_test, first_value-rows found (codes "PROGRAM"), first_value-rows found (codes "TEST")) refl

pub bench_job_is : (found : Found) (number workers : Option ℕ) (out : Option (List ℕ)) → number ≡ number_said numbers_limit (codes "NUMBER") (rows_of found)
    → workers ≡ number_said workers_limit (codes "WORKERS") (rows_of found) → out ≡ first_value found (codes "OUT") → bench_job (rows_of found) ≡ bench_with number workers out
unfolding bench_job
bench_job_is found number workers out is_number is_workers is_out = rw (is_number, is_workers, is_out, first_value-rows found (codes "OUT")) refl

pub upgrade_job_is : (found : Found) (test out : Option (List ℕ)) → test ≡ first_value found (codes "TEST") → out ≡ first_value found (codes "OUT")
    → upgrade_job (rows_of found) ≡ upgrade_with test out
unfolding upgrade_job
upgrade_job_is found test out is_test is_out = rw (is_test, is_out, first_value-rows found (codes "TEST"), first_value-rows found (codes "OUT")) refl

pub audit_job_is : (found : Found) (program certificate : Option (List ℕ)) → program ≡ first_value found (codes "PROGRAM") → certificate ≡ first_value found (codes "CERT")
    → audit_job (rows_of found) ≡ audit_with program certificate
unfolding audit_job
audit_job_is found program certificate is_program is_certificate = rw (is_program, is_certificate, first_value-rows found (codes "PROGRAM"), first_value-rows found (codes "CERT")) refl

-- without one of the numbers there is no job
pub no_budgets : (program out : List ℕ) (regions : Option (List Region)) (workers : Option ℕ) → explore_with (Some program) (Some out) regions None workers ≡ None
no_budgets program out None workers = refl
no_budgets program out (Some regions) workers = refl

pub no_workers : (program out : List ℕ) (regions : Option (List Region)) (budgets : Budgets) → explore_with (Some program) (Some out) regions (Some budgets) None ≡ None
no_workers program out None budgets = refl
no_workers program out (Some regions) budgets = refl

-- an error is handed on
pub same_error : {T V S W : Type 0} → (seen : T → V) (said : Option V) (first : Result T WordsError) (also_seen : S → W) (also_said : Option W) (second : Result S WordsError)
    (e : WordsError) → first ≡ Err e → second ≡ Err e → IsRead seen said first → (said ≡ None → also_said ≡ None)
    → IsRead also_seen also_said second
same_error seen said first also_seen also_said second Usage is also_is read none = rw also_is (none (rw is at read))
same_error seen said first also_seen also_said second NoMemory is also_is read none = rw also_is tt
