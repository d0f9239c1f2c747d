-- The job of the words, from what `clap` answers.
use Rattle.std.proofs.Common.{ℕ, List, [], ◌∷◌, ◌≡◌, ◌≢◌, ◌∙◌, sym, ap, refl, Option, Some, None, Err, option_map, Box, Global}
use Rattle.clap.specs.Matches.{subcommand_name_of}
use Rattle.clap.specs.Simple.{subcommand_rows}
use Rattle.clap.specs.Words.{Kinds, Row, fault_of, subcommand_of, subcommand_rows_of}
use Rattle.clap.specs.declared.error.kind.ErrorKind.{ErrorKind}
use Rattle.clap.specs.declared.error.kind.ErrorKind.TheVariants.{OutOfMemory}
use Rattle.clap.specs.declared.parser.matches.ArgMatches.{ArgMatches}
use Rattle.clap.specs.declared.parser.matches.ArgMatches.TheViews.{out-ArgMatches}
use Rattle.tool_words.specs.Command.{rvklee_command}
use Rattle.clap.specs.declared.parser.matches.ArgMatches.TheViews.{out-SubCommand}
use Rattle.clap.specs.declared.parser.matches.SubCommand.{SubCommand}
use Rattle.std.specs.Box.{box_value}
use Rattle.tool_words.specs.Seen.{IsRead, error_of}
use Rattle.tool_words.specs.Job.{command_job, job_of}

pub job_taken : (words : List (List ℕ)) → fault_of rvklee_command words ≡ []
    → job_of words ≡ command_job (subcommand_of rvklee_command words)
unfolding job_of
job_taken words takes = rw takes refl

pub job_refused : (words : List (List ℕ)) → fault_of rvklee_command words ≢ [] → job_of words ≡ None
unfolding job_of
job_refused words refuses = go (fault_of rvklee_command words) refl
  where
    go : (kinds : Kinds) → fault_of rvklee_command words ≡ kinds → job_of words ≡ None
    go [] is = absurd (refuses is)
    go (kind ∷ kinds) is = rw is refl

name_is : (m : ArgMatches) → subcommand_name_of m ≡ option_map (λ p. p.0) (subcommand_rows_of m)
name_is m = go (out-ArgMatches m).subcommand
  where
    go : (o : Option (Box SubCommand Global)) → option_map (λ b. (out-SubCommand (box_value b)).name.now) o ≡ option_map (λ p. p.0) (subcommand_rows o)
    go None = refl
    go (Some b) = refl

pub none_named : (words : List (List ℕ)) (m : ArgMatches) → fault_of rvklee_command words ≡ []
    → subcommand_rows_of m ≡ subcommand_of rvklee_command words → None ≡ subcommand_name_of m → job_of words ≡ None
none_named words m takes finds name = job_taken words takes ∙ ap command_job (sym finds) ∙ go (subcommand_rows_of m) (name ∙ name_is m)
  where
    go : (o : Option (List ℕ × List Row)) → None ≡ option_map (λ p. p.0) o → command_job o ≡ None
    go None is = refl
    go (Some p) is = cc

pub command_named : (words : List (List ℕ)) (m : ArgMatches) (name : List ℕ) (rows : List Row) → fault_of rvklee_command words ≡ []
    → subcommand_rows_of m ≡ subcommand_of rvklee_command words → Some name ≡ subcommand_name_of m
    → Some rows ≡ option_map (λ p. p.1) (subcommand_rows_of m) → job_of words ≡ command_job (Some (name, rows))
command_named words m name rows takes finds named has =
    job_taken words takes ∙ ap command_job (sym finds ∙ go (subcommand_rows_of m) (named ∙ name_is m) has)
  where
    go : (o : Option (List ℕ × List Row)) → Some name ≡ option_map (λ p. p.0) o → Some rows ≡ option_map (λ p. p.1) o → o ≡ Some (name, rows)
    go None is at = cc
    go (Some (its_name, its_rows)) is at =
        let same : name ≡ its_name = cc in
        let same_rows : rows ≡ its_rows = cc in
        rw (same, same_rows) refl

-- an error of clap's is handed on
pub error_read : {T V : Type 0} → (seen : T → V) (said : Option V) (kind : ErrorKind) → (kind ≢ OutOfMemory → said ≡ None)
    → IsRead seen said (Err (error_of kind))
error_read seen said OutOfMemory none = tt
error_read seen said kind none = none (λ e. cc)
