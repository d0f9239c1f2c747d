-- What `clap` reads of a command, from what was added to it.
use Rattle.std.proofs.Common.{◌≡◌, ◌∙◌, ap, ap₂, false, refl, Option, Some, None}
use Rattle.std.specs.Prelude.{IsSomeAnd}
use Rattle.clap.specs.Words.{AddsArg, AddsSubcommand, App, Rule, app_of, rule_of, with_rule, with_subcommand}
use Rattle.clap.specs.declared.builder.arg.Arg.{Arg}
use Rattle.clap.specs.declared.builder.command.Command.{Command}
use Rattle.clap.specs.declared.builder.command.Command.TheViews.{out-Command as fields_of}

pub arg_added : (old new : Command) (a : Arg) (app : App) (rule : Rule) → AddsArg old a new → app_of old ≡ app
    → rule_of a ≡ rule → a.global ≡ false → app_of new ≡ with_rule app rule
arg_added old new a app rule added is_app is_rule local = added.shape local ∙ ap₂ with_rule is_app is_rule

pub stays_local : (old new : Command) (a : Arg) → AddsArg old a new → (fields_of old).has_globals ≡ false → a.global ≡ false
    → (fields_of new).has_globals ≡ false
stays_local old new a added none local = rw (added.globals, none, local) refl

pub subcommand_added : (old new sub : Command) (app below : App) → AddsSubcommand old sub new → app_of old ≡ app → app_of sub ≡ below
    → (fields_of sub).has_globals ≡ false → app_of new ≡ with_subcommand app below.top
subcommand_added old new sub app below added is_app is_sub local =
    added.shape local ∙ ap₂ with_subcommand is_app (ap (λ (a : App). a.top) is_sub)

pub only_value : {T : Type 0} → (o : Option T) (v : T) → IsSomeAnd o (λ x. x ≡ v) → o ≡ Some v
only_value (Some x) v is = ap Some is
only_value None v is = absurd is
