-- The command line of rvklee, as what `clap` reads of a command.
use Rattle.std.specs.Prelude.{ℕ, List, Some, true, codes}
use Rattle.clap.specs.Lexer.{usize_max}
use Rattle.clap.specs.Simple.{on_top}
use Rattle.clap.specs.Words.{App, Rule, new_app, new_rule, with_rule, with_subcommand}

-- an option with a value, `--name VALUE`
abbrev pub value_option : List ℕ → Rule
value_option name = record (new_rule name) { long = Some name }

-- a word that has to be given, by its place
abbrev pub required_word : List ℕ → Rule
required_word id = record (new_rule id) { required = true }

-- one such word or more
abbrev pub required_words : List ℕ → Rule
required_words id = record (required_word id) {
  range = Some (record { start_inclusive = 1; end_inclusive = usize_max });
}

-- the options of explore
abbrev pub with_options : App → App
with_options app = with_rule (with_rule (with_rule (with_rule (with_rule (with_rule app
    (value_option (codes "steps"))) (value_option (codes "targets")))
    (value_option (codes "conflicts"))) (value_option (codes "workers")))
    (value_option (codes "nodes"))) (value_option (codes "order"))

-- explore [--steps N] [--targets N] [--conflicts N] [--workers N] [--nodes N]
-- [--order O] PROGRAM OUT INPUT..
unfoldable pub explore_command : App
explore_command = with_rule (with_rule (with_rule (with_options (new_app (codes "explore")))
    (required_word (codes "PROGRAM"))) (required_word (codes "OUT")))
    (required_words (codes "INPUT"))

-- replay PROGRAM TEST
unfoldable pub replay_command : App
replay_command = with_rule (with_rule (new_app (codes "replay"))
    (required_word (codes "PROGRAM"))) (required_word (codes "TEST"))

-- bench NUMBER WORKERS OUT
unfoldable pub bench_command : App
bench_command = with_rule (with_rule (with_rule (new_app (codes "bench"))
    (required_word (codes "NUMBER"))) (required_word (codes "WORKERS")))
    (required_word (codes "OUT"))

-- upgrade TEST OUT
unfoldable pub upgrade_command : App
upgrade_command = with_rule (with_rule (new_app (codes "upgrade"))
    (required_word (codes "TEST"))) (required_word (codes "OUT"))

-- audit PROGRAM CERT
unfoldable pub audit_command : App
audit_command = with_rule (with_rule (new_app (codes "audit"))
    (required_word (codes "PROGRAM"))) (required_word (codes "CERT"))

-- rvklee COMMAND ..
unfoldable pub rvklee_command : App
rvklee_command = with_subcommand (with_subcommand (with_subcommand (with_subcommand (with_subcommand
    (on_top (λ top. record top { subcommand_required = true }) (new_app (codes "rvklee")))
    explore_command.top) replay_command.top) bench_command.top) upgrade_command.top) audit_command.top
