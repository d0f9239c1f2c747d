-- The numbers of a job are within their limits.
use Rattle.std.proofs.Common.{ℕ, Bool, true, false, List, [], ◌∷◌, ◌≡◌, Option, Some, None, Result, Ok, Err, refl, codes, arith}
use Rattle.std.specs.Prelude.{IfOk, if◌then◌else◌, option_and_then}
use Rattle.std.specs.Str.{bytes_eq}
use Rattle.std.proofs.lemmas.Bool.Decides.{nat_tests}
use Rattle.clap.specs.Words.{Kinds, Row, all_of, fault_of, first_of, subcommand_of}
use Rattle.elf_load.specs.declared.region.Region.{Region}
use Rattle.tool_words.specs.Command.{rvklee_command}
use Rattle.tool_words.specs.Job as spec
use Rattle.tool_words.specs.Job.{Audit, Bench, Explore, IsWithinLimits, Replay, Upgrade, audit_job, audit_with, bench_job, bench_with, command_job, explore_job, explore_with, job_of, replay_job, replay_with, upgrade_job, upgrade_with, without_fault}
use Rattle.tool_words.specs.Limits.{IsBudgets, IsWithin, budgets_found, budgets_with, conflicts_limit, is_within, nodes_limit, number_found, number_given, number_said, number_within, numbers_limit, plain_number, steps_limit, targets_limit, within, workers_found, workers_limit}
use Rattle.tool_words.specs.Orders.{order_found}
use Rattle.tool_words.specs.Region.{regions_said}
use Rattle.tool_words.specs.Seen.{IsRead, job_seen}
use Rattle.tool_words.specs.declared.job.Job.{Job}
use Rattle.tool_words.specs.declared.job.WordsError.{WordsError}
use Rattle.tree_core.specs.declared.budgets.Budgets.{Budgets}
use Rattle.tree_core.specs.declared.order.Order.{Order}
use Rattle.tool_words.specs.declared.limit.Limit.{Limit}

-- ---- numbers

within_bounds : (limit : Limit) (n m : ℕ) → within limit n ≡ Some m → IsWithin limit m
within_bounds limit n m is = go (is_within limit n) refl is
  where
    go : (b : Bool) → is_within limit n ≡ b → (if b then Some n else None) ≡ Some m → IsWithin limit m
    go true tests is =
        let same : n ≡ m = cc in
        rw (← same) (grind (arith, nat_tests, tests))
    go false tests is = cc

number_bounds : (limit : Limit) (value : List ℕ) (n : ℕ) → number_within limit value ≡ Some n → IsWithin limit n
number_bounds limit value n is = go (plain_number value) is
  where
    go : (number : Option ℕ) → option_and_then (within limit) number ≡ Some n → IsWithin limit n
    go None is = cc
    go (Some m) is = within_bounds limit m n is

said_bounds : (limit : Limit) (name : List ℕ) (rows : List Row) (n : ℕ) → number_said limit name rows ≡ Some n → IsWithin limit n
said_bounds limit name rows n = go (first_of name rows)
  where
    go : (value : Option (List ℕ)) → option_and_then (number_within limit) value ≡ Some n → IsWithin limit n
    go None is = cc
    go (Some value) is = number_bounds limit value n is

pub given_bounds : (limit : Limit) (value : Option (List ℕ)) (n : ℕ) → IsWithin limit limit.default → number_given limit value ≡ Some n → IsWithin limit n
given_bounds limit None n default is =
    let same : limit.default ≡ n = cc in
    rw (← same) default
given_bounds limit (Some value) n default is = number_bounds limit value n is

budgets_bounds : (steps targets conflicts nodes : Option ℕ) (order : Option Order) (budgets : Budgets) → ((n : ℕ) → steps ≡ Some n → IsWithin steps_limit n)
    → ((n : ℕ) → targets ≡ Some n → IsWithin targets_limit n) → ((n : ℕ) → conflicts ≡ Some n → IsWithin conflicts_limit n)
    → ((n : ℕ) → nodes ≡ Some n → IsWithin nodes_limit n) → budgets_with steps targets conflicts nodes order ≡ Some budgets → IsBudgets budgets
budgets_bounds None targets conflicts nodes order budgets s t c k is = cc
budgets_bounds (Some steps) None conflicts nodes order budgets s t c k is = cc
budgets_bounds (Some steps) (Some targets) None nodes order budgets s t c k is = cc
budgets_bounds (Some steps) (Some targets) (Some conflicts) None order budgets s t c k is = cc
budgets_bounds (Some steps) (Some targets) (Some conflicts) (Some nodes) None budgets s t c k is = cc
budgets_bounds (Some steps) (Some targets) (Some conflicts) (Some nodes) (Some order) budgets s t c k is =
    let same : record { steps = steps; targets = targets; conflicts = conflicts; nodes = nodes; order = order } ≡ budgets = cc in
    rw (← same) (record { steps_within = s steps refl; targets_within = t targets refl; conflicts_within = c conflicts refl; nodes_within = k nodes refl })

found_budgets : (rows : List Row) (budgets : Budgets) → budgets_found rows ≡ Some budgets → IsBudgets budgets
found_budgets rows budgets = budgets_bounds (number_found steps_limit (codes "steps") rows) (number_found targets_limit (codes "targets") rows)
    (number_found conflicts_limit (codes "conflicts") rows) (number_found nodes_limit (codes "nodes") rows) (order_found rows) budgets
    (λ n. given_bounds steps_limit (first_of (codes "steps") rows) n (omega arith, omega arith))
    (λ n. given_bounds targets_limit (first_of (codes "targets") rows) n (omega arith, omega arith))
    (λ n. given_bounds conflicts_limit (first_of (codes "conflicts") rows) n (omega arith, omega arith))
    (λ n. given_bounds nodes_limit (first_of (codes "nodes") rows) n (omega arith, omega arith))

found_workers : (rows : List Row) (n : ℕ) → workers_found rows ≡ Some n → IsWithin workers_limit n
found_workers rows n = given_bounds workers_limit (first_of (codes "workers") rows) n (omega arith, omega arith)

-- ---- jobs

with_bounds : (program out : Option (List ℕ)) (regions : Option (List Region)) (budgets : Option Budgets) (workers : Option ℕ) (job : spec.Job)
    → ((b : Budgets) → budgets ≡ Some b → IsBudgets b) → ((n : ℕ) → workers ≡ Some n → IsWithin workers_limit n)
    → explore_with program out regions budgets workers ≡ Some job → IsWithinLimits job
with_bounds None out regions budgets workers job b w is = cc
with_bounds (Some program) None regions budgets workers job b w is = cc
with_bounds (Some program) (Some out) None budgets workers job b w is = cc
with_bounds (Some program) (Some out) (Some regions) None workers job b w is = cc
with_bounds (Some program) (Some out) (Some regions) (Some budgets) None job b w is = cc
with_bounds (Some program) (Some out) (Some regions) (Some budgets) (Some workers) job b w is =
    let same : Explore program out regions budgets workers ≡ job = cc in
    rw (← same) (b budgets refl, w workers refl)

explore_bounds : (rows : List Row) (job : spec.Job) → explore_job rows ≡ Some job → IsWithinLimits job
unfolding explore_job
explore_bounds rows job = with_bounds (first_of (codes "PROGRAM") rows) (first_of (codes "OUT") rows)
    (option_and_then regions_said (all_of (codes "INPUT") rows)) (budgets_found rows) (workers_found rows) job (found_budgets rows) (found_workers rows)

replay_with_bounds : (program test : Option (List ℕ)) (job : spec.Job) → replay_with program test ≡ Some job → IsWithinLimits job
replay_with_bounds None test job is = cc
replay_with_bounds (Some program) None job is = cc
replay_with_bounds (Some program) (Some test) job is =
    let same : Replay program test ≡ job = cc in
    rw (← same) tt

replay_bounds : (rows : List Row) (job : spec.Job) → replay_job rows ≡ Some job → IsWithinLimits job
unfolding replay_job
replay_bounds rows job = replay_with_bounds (first_of (codes "PROGRAM") rows) (first_of (codes "TEST") rows) job

bench_with_bounds : (number workers : Option ℕ) (out : Option (List ℕ)) (job : spec.Job) → ((n : ℕ) → number ≡ Some n → IsWithin numbers_limit n)
    → ((n : ℕ) → workers ≡ Some n → IsWithin workers_limit n) → bench_with number workers out ≡ Some job → IsWithinLimits job
bench_with_bounds None workers out job b w is = cc
bench_with_bounds (Some number) None out job b w is = cc
bench_with_bounds (Some number) (Some workers) None job b w is = cc
bench_with_bounds (Some number) (Some workers) (Some out) job b w is =
    let same : Bench number workers out ≡ job = cc in
    rw (← same) (b number refl, w workers refl)

bench_bounds : (rows : List Row) (job : spec.Job) → bench_job rows ≡ Some job → IsWithinLimits job
unfolding bench_job
bench_bounds rows job = bench_with_bounds (number_said numbers_limit (codes "NUMBER") rows) (number_said workers_limit (codes "WORKERS") rows) (first_of (codes "OUT") rows) job
    (said_bounds numbers_limit (codes "NUMBER") rows) (said_bounds workers_limit (codes "WORKERS") rows)

upgrade_with_bounds : (test out : Option (List ℕ)) (job : spec.Job) → upgrade_with test out ≡ Some job → IsWithinLimits job
upgrade_with_bounds None out job is = cc
upgrade_with_bounds (Some test) None job is = cc
upgrade_with_bounds (Some test) (Some out) job is =
    let same : Upgrade test out ≡ job = cc in
    rw (← same) tt

upgrade_bounds : (rows : List Row) (job : spec.Job) → upgrade_job rows ≡ Some job → IsWithinLimits job
unfolding upgrade_job
upgrade_bounds rows job = upgrade_with_bounds (first_of (codes "TEST") rows) (first_of (codes "OUT") rows) job

audit_with_bounds : (program certificate : Option (List ℕ)) (job : spec.Job) → audit_with program certificate ≡ Some job → IsWithinLimits job
audit_with_bounds None certificate job is = cc
audit_with_bounds (Some program) None job is = cc
audit_with_bounds (Some program) (Some certificate) job is =
    let same : Audit program certificate ≡ job = cc in
    rw (← same) tt

audit_bounds : (rows : List Row) (job : spec.Job) → audit_job rows ≡ Some job → IsWithinLimits job
unfolding audit_job
audit_bounds rows job = audit_with_bounds (first_of (codes "PROGRAM") rows) (first_of (codes "CERT") rows) job

command_bounds : (found : Option (List ℕ × List Row)) (job : spec.Job) → command_job found ≡ Some job → IsWithinLimits job
command_bounds None job is = cc
command_bounds (Some (name, rows)) job is =
    go (bytes_eq name (codes "explore")) (bytes_eq name (codes "replay")) (bytes_eq name (codes "bench")) (bytes_eq name (codes "upgrade")) (bytes_eq name (codes "audit")) is
  where
    go : (e r b u a : Bool) → (if e then explore_job rows else if r then replay_job rows else if b then bench_job rows else if u then upgrade_job rows else if a then audit_job rows else None) ≡ Some job
        → IsWithinLimits job
    go true r b u a is = explore_bounds rows job is
    go false true b u a is = replay_bounds rows job is
    go false false true u a is = bench_bounds rows job is
    go false false false true a is = upgrade_bounds rows job is
    go false false false false true is = audit_bounds rows job is
    go false false false false false is = cc

pub job_bounds : (words : List (List ℕ)) (job : spec.Job) → job_of words ≡ Some job → IsWithinLimits job
unfolding job_of
job_bounds words job is = go (fault_of rvklee_command words) (command_bounds (subcommand_of rvklee_command words) job) is
  where
    go : (kinds : Kinds) → (command_job (subcommand_of rvklee_command words) ≡ Some job → IsWithinLimits job)
        → without_fault kinds (command_job (subcommand_of rvklee_command words)) ≡ Some job → IsWithinLimits job
    go [] bounds is = bounds is
    go (kind ∷ kinds) bounds is = cc

-- what is read of words
pub read_bounds : (words : List (List ℕ)) (read : Result Job WordsError) → IsRead job_seen (job_of words) read
    → IfOk read (λ job. IsWithinLimits (job_seen job))
read_bounds words (Ok job) is = job_bounds words (job_seen job) is
read_bounds words (Err e) is = tt
