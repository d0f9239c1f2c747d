-- What `clap` makes of `upgrade` with two words.
use Rattle.std.proofs.Common.{ℕ, true, List, [], ◌∷◌, ◌≡◌, codes, refl, Some}
use Rattle.std.specs.Prelude.{slice_get, unwrap_or}
use Rattle.std.specs.List.{list_all}
use Rattle.clap.specs.Faults.{defaults_fault}
use Rattle.clap.specs.Simple.{Shape, new_shape}
use Rattle.clap.specs.Walk.{walked}
use Rattle.tool_words.specs.Command.{audit_command, bench_command, explore_command, replay_command, rvklee_command, upgrade_command}
use Rattle.tool_words.specs.Job.{Upgrade, upgrade_job, job_of}
use Rattle.tool_words.specs.Plain.{has_no_hyphen}
use Rattle.tool_words.proofs.PlainPair.{TakesPair, plain_pair}
use Rattle.tool_words.proofs.PlainWords.{commands}

-- `upgrade`, as clap builds it
abbrev upgrades : Shape
upgrades = unwrap_or (slice_get commands 3) (new_shape [])

takes : TakesPair upgrades (codes "upgrade") (codes "TEST") (codes "OUT") Upgrade
unfolding rvklee_command explore_command replay_command bench_command upgrade_command audit_command upgrade_job defaults_fault walked
takes = record {
  steps = λ a. refl;
  passes = refl;
  steps_on = λ a b. refl;
  passes_on = λ a. refl;
  finishes = λ a b. refl;
  faults = λ a b. refl;
  settles = λ a b. refl;
  enters = refl;
  stands = refl;
  above = λ words. refl;
  whole = λ tool words. refl;
  found = λ tool words. refl;
  enters_it = λ words. refl;
  names_job = λ a b. refl;
}

pub plain_upgrade : (test out : List ℕ) → list_all has_no_hyphen (test ∷ out ∷ []) ≡ true
    → (tool : List ℕ) → job_of (tool ∷ codes "upgrade" ∷ test ∷ out ∷ []) ≡ Some (Upgrade test out)
plain_upgrade test out plain tool = plain_pair takes test out plain tool
