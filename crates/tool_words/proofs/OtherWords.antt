-- Words that have no job.
use Rattle.std.proofs.Common.{ℕ, Bool, true, false, List, [], ◌∷◌, ◌≡◌, ◌≢◌, sym, ap, codes, refl, None}
use Rattle.std.specs.Str.{bytes_eq}
use Rattle.std.proofs.lemmas.Slice.Eq.{bytes_eq-Decides}
use Rattle.clap.specs.Faults.{turn_fault, walk_fault}
use Rattle.clap.specs.Walk.{nothing_held, walk, walk_from, walked}
use Rattle.clap.specs.Words.{Kinds, subcommand_of}
use Rattle.clap.specs.Kinds.{or_else}
use Rattle.clap.specs.declared.error.kind.ErrorKind.{ErrorKind}
use Rattle.clap.specs.declared.error.kind.ErrorKind.TheVariants.{DisplayHelp, InvalidSubcommand, UnknownArgument}
use Rattle.clap.proofs.OnLiterals.{clap_on_literals}
use Rattle.tool_words.specs.Command.{audit_command, bench_command, explore_command, replay_command, rvklee_command, upgrade_command}
use Rattle.tool_words.specs.Job.{command_job, job_of, without_fault}
use Rattle.tool_words.specs.Plain.{has_no_hyphen}
use Rattle.tool_words.proofs.PlainWords.{faults_above, faults_after, faults_below, leaf, names, no_dashes, no_long, no_short, top}

-- a fault at the first word after the program's name
pub faulty : (tool word : List ℕ) (rest : List (List ℕ)) (kind : ErrorKind) (kinds : Kinds) → turn_fault top names (walk_from nothing_held) word ≡ kind ∷ kinds
    → job_of (tool ∷ word ∷ rest) ≡ None
unfolding job_of walk_fault rvklee_command
faulty tool word rest kind kinds turn =
    let later = walk_fault top names (walked top.rules names (walk_from nothing_held) word) rest in
    ap (λ faults. without_fault (faults_above (or_else faults later) (walk top.rules names nothing_held (word ∷ rest)))
    (command_job (subcommand_of rvklee_command (tool ∷ word ∷ rest)))) turn

-- a fault at the first word after `explore`
faulty_explore : (tool word : List ℕ) (rest : List (List ℕ)) (kind : ErrorKind) (kinds : Kinds) → turn_fault leaf [] (walk_from nothing_held) word ≡ kind ∷ kinds
    → job_of (tool ∷ codes "explore" ∷ word ∷ rest) ≡ None
unfolding job_of walk_fault
faulty_explore tool word rest kind kinds turn =
    let later = walk_fault leaf [] (walked leaf.rules [] (walk_from nothing_held) word) rest in
    ap (λ faults. without_fault faults (command_job (subcommand_of rvklee_command (tool ∷ codes "explore" ∷ word ∷ rest))))
    (faults_below tool (word ∷ rest) (kind ∷ kinds) (ap (λ faults. faults_after (or_else faults later) (walk leaf.rules [] nothing_held (word ∷ rest))) turn))

-- ---- calls for help

pub asks_long : (tool : List ℕ) (rest : List (List ℕ)) → job_of (tool ∷ codes "--help" ∷ rest) ≡ None
unfolding rvklee_command explore_command replay_command bench_command upgrade_command audit_command clap_on_literals
asks_long tool rest = faulty tool (codes "--help") rest DisplayHelp [] refl

pub asks_short : (tool : List ℕ) (rest : List (List ℕ)) → job_of (tool ∷ codes "-h" ∷ rest) ≡ None
unfolding rvklee_command explore_command replay_command bench_command upgrade_command audit_command clap_on_literals
asks_short tool rest = faulty tool (codes "-h") rest DisplayHelp [] refl

pub asks_version : (tool : List ℕ) (rest : List (List ℕ)) → job_of (tool ∷ codes "--version" ∷ rest) ≡ None
unfolding rvklee_command explore_command replay_command bench_command upgrade_command audit_command clap_on_literals
asks_version tool rest = faulty tool (codes "--version") rest UnknownArgument [] refl

pub asks_explore : (tool : List ℕ) (rest : List (List ℕ)) → job_of (tool ∷ codes "explore" ∷ codes "--help" ∷ rest) ≡ None
unfolding rvklee_command explore_command replay_command bench_command upgrade_command audit_command clap_on_literals
asks_explore tool rest = faulty_explore tool (codes "--help") rest DisplayHelp [] refl

-- ---- other commands

other : (command : List ℕ) → has_no_hyphen command ≡ true → bytes_eq (codes "explore") command ≡ false → bytes_eq (codes "replay") command ≡ false → bytes_eq (codes "bench") command ≡ false → bytes_eq (codes "upgrade") command ≡ false → bytes_eq (codes "audit") command ≡ false → bytes_eq (codes "help") command ≡ false
    → turn_fault top names (walk_from nothing_held) command ≡ UnknownArgument ∷ InvalidSubcommand ∷ []
unfolding rvklee_command explore_command replay_command bench_command upgrade_command audit_command
other command plain no_explore no_replay no_bench no_upgrade no_audit no_help = rw (no_explore, no_replay, no_bench, no_upgrade, no_audit, no_help, no_dashes command plain, no_long command plain, no_short command plain) refl

help : (command : List ℕ) → bytes_eq (codes "explore") command ≡ false → bytes_eq (codes "replay") command ≡ false → bytes_eq (codes "bench") command ≡ false → bytes_eq (codes "upgrade") command ≡ false → bytes_eq (codes "audit") command ≡ false → bytes_eq (codes "help") command ≡ true
    → turn_fault top names (walk_from nothing_held) command ≡ DisplayHelp ∷ InvalidSubcommand ∷ []
unfolding rvklee_command explore_command replay_command bench_command upgrade_command audit_command
help command no_explore no_replay no_bench no_upgrade no_audit is_help = rw (no_explore, no_replay, no_bench, no_upgrade, no_audit, is_help) refl

pub other_command : (tool command : List ℕ) (rest : List (List ℕ)) → has_no_hyphen command ≡ true → command ≢ codes "explore" → command ≢ codes "replay" → command ≢ codes "bench" → command ≢ codes "upgrade"
    → command ≢ codes "audit"
    → job_of (tool ∷ command ∷ rest) ≡ None
other_command tool command rest plain no_explore no_replay no_bench no_upgrade no_audit = go (bytes_eq (codes "help") command) refl
  where
    unlike : (name : List ℕ) → command ≢ name → bytes_eq name command ≡ false
    unlike name is_other = first (bytes_eq name command) refl
      where
        first : (b : Bool) → bytes_eq name command ≡ b → bytes_eq name command ≡ false
        first true same = absurd (is_other (sym ((bytes_eq-Decides name command).0 same)))
        first false same = same

    go : (b : Bool) → bytes_eq (codes "help") command ≡ b → job_of (tool ∷ command ∷ rest) ≡ None
    go true is = faulty tool command rest _ _ (help command (unlike (codes "explore") no_explore) (unlike (codes "replay") no_replay) (unlike (codes "bench") no_bench) (unlike (codes "upgrade") no_upgrade) (unlike (codes "audit") no_audit) is)
    go false is = faulty tool command rest _ _ (other command plain (unlike (codes "explore") no_explore) (unlike (codes "replay") no_replay) (unlike (codes "bench") no_bench) (unlike (codes "upgrade") no_upgrade) (unlike (codes "audit") no_audit) is)
