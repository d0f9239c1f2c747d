-- What `clap` makes of a command that takes two words, where none of them begins with a hyphen.
use Rattle.std.proofs.Common.{ℕ, true, false, List, [], ◌∷◌, ◌≡◌, ◌∙◌, sym, ap, ap₂, refl, Some}
use Rattle.std.specs.Prelude.{fold}
use Rattle.std.specs.List.{list_all}
use Rattle.clap.specs.Faults.{check_fault, defaults_fault, level_fault, settle_fault, step_fault, turn_fault, walk_fault}
use Rattle.clap.specs.Kinds.{or_else}
use Rattle.clap.specs.Simple.{Shape, built, entered}
use Rattle.clap.specs.Walk.{arg_by_index, finished, nothing_held, rows_after, settled, to_positional, value, Walk, walk, walk_from, walked}
use Rattle.clap.specs.Words.{Kinds, Row, fault_of, subcommand_of}
use Rattle.clap.proofs.FaultLemmas.{stopped_fault}
use Rattle.clap.proofs.WalkLemmas.{walk_stopped}
use Rattle.tool_words.specs.Command.{rvklee_command}
use Rattle.tool_words.specs.Job.{Job, command_job, job_of, without_fault}
use Rattle.tool_words.specs.Plain.{has_no_hyphen}
use Rattle.tool_words.proofs.PlainWords.{at, both_plain, faults_above, names, pass_one, plain_step, plain_turn, row, top, waits}

-- the walk after each of the two
abbrev pub after_first : (id a : List ℕ) → Walk
after_first id a = at (waits [] id (a ∷ [])) false 2

abbrev pub after_second : (id a other b : List ℕ) → Walk
after_second id a other b = at (waits (row id (a ∷ []) ∷ []) other (b ∷ [])) false 3

abbrev pub pair_rows : (id a other b : List ℕ) → List Row
pair_rows id a other b = row id (a ∷ []) ∷ row other (b ∷ []) ∷ []

-- the faults of a command, by those of its walk and by the end of it
abbrev pub pair_faults : Shape → Kinds → Walk → Kinds
pair_faults s kinds w = or_else kinds (or_else [] (or_else (settle_fault s.rules s.args_override_self w.held)
    (or_else (defaults_fault (settled s.rules w.held).rows s.rules) (check_fault s (finished s.rules w.held) false))))

abbrev pub entered_walk : (name : List ℕ) (words : List (List ℕ)) → Walk
entered_walk name words = record (walk_from nothing_held) { stopped = Some (name, words) }

-- How a command takes two words of these names: what `clap` computes of each.
pub record TakesPair (s : Shape) (name id other : List ℕ) (job : (a b : List ℕ) → Job) : Type 0 where
  pub steps : (a : List ℕ) → to_positional s.rules (arg_by_index s.rules 1) a (at nothing_held false 1) nothing_held ≡ after_first id a
  pub passes : step_fault s 1 nothing_held value ≡ []
  pub steps_on : (a b : List ℕ) → to_positional s.rules (arg_by_index s.rules 2) b (after_first id a) (after_first id a).held ≡ after_second id a other b
  pub passes_on : (a : List ℕ) → step_fault s 2 (after_first id a).held value ≡ []
  pub finishes : (a b : List ℕ) → finished s.rules (after_second id a other b).held ≡ pair_rows id a other b
  pub faults : (a b : List ℕ) → level_fault s [] nothing_held (a ∷ b ∷ []) false []
      ≡ pair_faults s (walk_fault s [] (walk_from nothing_held) (a ∷ b ∷ [])) (walk s.rules [] nothing_held (a ∷ b ∷ []))
  pub settles : (a b : List ℕ) → pair_faults s [] (after_second id a other b) ≡ []
  pub enters : walked top.rules names (walk_from nothing_held) name ≡ entered_walk name []
  pub stands : turn_fault top names (walk_from nothing_held) name ≡ []
  pub above : (words : List (List ℕ)) → faults_above [] (entered_walk name words) ≡ or_else (level_fault s [] nothing_held words false []) []
  pub whole : (tool : List ℕ) (words : List (List ℕ)) → fault_of rvklee_command (tool ∷ name ∷ words)
      ≡ faults_above (walk_fault top names (walk_from nothing_held) (name ∷ words)) (walk top.rules names nothing_held (name ∷ words))
  pub found : (tool : List ℕ) (words : List (List ℕ)) → subcommand_of rvklee_command (tool ∷ name ∷ words)
      ≡ entered (built rvklee_command) (walk top.rules names nothing_held (name ∷ words)).stopped
  pub enters_it : (words : List (List ℕ)) → entered (built rvklee_command) (Some (name, words)) ≡ Some (name, rows_after s.rules [] words)
  pub names_job : (a b : List ℕ) → command_job (Some (name, pair_rows id a other b)) ≡ Some (job a b)

module _ {s : Shape} {name id other : List ℕ} {job : (a b : List ℕ) → Job} (t : TakesPair s name id other job)
    (a b : List ℕ) (plain : list_all has_no_hyphen (a ∷ b ∷ []) ≡ true) where
  plain_first : has_no_hyphen a ≡ true
  plain_first = (both_plain a (b ∷ []) plain).0

  plain_second : has_no_hyphen b ≡ true
  plain_second = (both_plain b [] (both_plain a (b ∷ []) plain).1).0

  takes_first : walked s.rules [] (walk_from nothing_held) a ≡ after_first id a
  takes_first = plain_step s.rules nothing_held false 1 a plain_first ∙ t.steps a

  takes_second : walked s.rules [] (after_first id a) b ≡ after_second id a other b
  takes_second = plain_step s.rules (after_first id a).held false 2 b plain_second ∙ t.steps_on a b

  first_passes : turn_fault s [] (walk_from nothing_held) a ≡ []
  first_passes = plain_turn s nothing_held false 1 a plain_first ∙ t.passes

  second_passes : turn_fault s [] (after_first id a) b ≡ []
  second_passes = plain_turn s (after_first id a).held false 2 b plain_second ∙ t.passes_on a

  abbrev words : List (List ℕ)
  words = a ∷ b ∷ []

  walks : walk s.rules [] nothing_held words ≡ after_second id a other b
  walks = ap (λ w. fold (walked s.rules []) w (b ∷ [])) takes_first ∙ takes_second

  none_left : walk_fault s [] (after_second id a other b) [] ≡ []
  unfolding walk_fault
  none_left = refl

  walk_passes : walk_fault s [] (walk_from nothing_held) words ≡ []
  walk_passes = pass_one s _ _ a _ first_passes takes_first (pass_one s _ _ b _ second_passes takes_second none_left)

  finds : rows_after s.rules [] words ≡ pair_rows id a other b
  finds = ap (λ w. finished s.rules w.held) walks ∙ t.finishes a b

  -- the command has no fault to find in them
  level_passes : level_fault s [] nothing_held words false [] ≡ []
  level_passes = t.faults a b ∙ ap₂ (pair_faults s) walk_passes walks ∙ t.settles a b

  -- ---- what `clap` makes of the words of rvklee

  stops : walk top.rules names nothing_held (name ∷ words) ≡ entered_walk name words
  stops = ap (λ w. fold (walked top.rules names) w words) t.enters ∙ sym (walk_stopped top.rules names (walk_from nothing_held) name [] words)

  top_passes : walk_fault top names (walk_from nothing_held) (name ∷ words) ≡ []
  unfolding walk_fault
  top_passes = rw (t.stands, t.enters) (stopped_fault top names (walk_from nothing_held) (name, []) words)

  no_fault : (tool : List ℕ) → fault_of rvklee_command (tool ∷ name ∷ words) ≡ []
  no_fault tool = t.whole tool words ∙ ap₂ faults_above top_passes stops ∙ t.above words ∙ ap (λ kinds. or_else kinds []) level_passes

  found : (tool : List ℕ) → subcommand_of rvklee_command (tool ∷ name ∷ words) ≡ Some (name, pair_rows id a other b)
  found tool = t.found tool words ∙ ap (λ w. entered (built rvklee_command) w.stopped) stops ∙ t.enters_it words ∙ ap (λ rows. Some (name, rows)) finds

  pub plain_pair : (tool : List ℕ) → job_of (tool ∷ name ∷ a ∷ b ∷ []) ≡ Some (job a b)
  unfolding job_of
  plain_pair tool = ap₂ (λ kinds command. without_fault kinds (command_job command)) (no_fault tool) (found tool) ∙ t.names_job a b
