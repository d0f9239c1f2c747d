-- What `clap` says of a parse by the command line of rvklee.
use Rattle.std.proofs.Common.{ℕ, [], ◌∷◌, ◌≡◌, ◌≢◌, true, refl, inl, inr, Result, Ok, Err, List}
use Rattle.std.specs.Prelude.{IfErr, IfOk}
use Rattle.clap.specs.Words.{App, FailsBy, Kinds, fault_of, is_simple, is_simple_and_free, kind_of}
use Rattle.clap.specs.declared.error.Error.{Error}
use Rattle.clap.specs.declared.error.kind.ErrorKind.TheVariants.{OutOfMemory}
use Rattle.tool_words.specs.Command.{audit_command, bench_command, explore_command, replay_command, rvklee_command, upgrade_command}

pub rvklee_is_simple : is_simple rvklee_command ≡ true
unfolding rvklee_command explore_command replay_command bench_command upgrade_command audit_command
rvklee_is_simple = refl

pub rvklee_is_free : is_simple_and_free rvklee_command ≡ true
unfolding rvklee_command explore_command replay_command bench_command upgrade_command audit_command
rvklee_is_free = refl

taken : {T : Type 0} → (kinds : Kinds) (r : Result T Error) → FailsBy kinds r → IfOk r (λ _. kinds ≡ [])
taken kinds (Ok m) h = h
taken kinds (Err e) h = tt

refused : {T : Type 0} → (kinds : Kinds) (r : Result T Error) → FailsBy kinds r → IfErr r (λ e. kind_of e ≢ OutOfMemory → kinds ≢ [])
refused kinds (Ok m) h = tt
refused kinds (Err e) (inl memory) = λ other. absurd (other memory)
refused [] (Err e) (inr among) = absurd among
refused (k ∷ ks) (Err e) (inr among) = λ _ none. cc

-- the same of a command that `clap` reads as that command line
module _ {T : Type 0} (app : App) (words : List (List ℕ)) (r : Result T Error) (is : app ≡ rvklee_command)
    (fails : is_simple_and_free app ≡ true → FailsBy (fault_of app words) r) where
  fails_by : FailsBy (fault_of rvklee_command words) r
  fails_by = rw is at fails rvklee_is_free

  pub takes_words : IfOk r (λ _. fault_of rvklee_command words ≡ [])
  takes_words = taken (fault_of rvklee_command words) r fails_by

  pub refuses_words : IfErr r (λ e. kind_of e ≢ OutOfMemory → fault_of rvklee_command words ≢ [])
  refuses_words = refused (fault_of rvklee_command words) r fails_by
