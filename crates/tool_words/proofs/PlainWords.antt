-- What `clap` makes of a command line without options.
use Rattle.std.proofs.Common.{ℕ, Bool, true, false, not, List, [], ◌∷◌, ◌++◌, ◌≡◌, ◌∙◌, ◌<◌, ◌≤◌, ◌==◌, length, rules, ◌^◌, sym, ap, ap₂, codes, refl, arith, Option, Some, None, append-nil, append_assoc, nat_lt, option_map}
use Rattle.std.specs.Prelude.{fold, is_some, slice_get, unwrap_or}
use Rattle.std.specs.List.{list_all}
use Rattle.std.specs.Str.{bytes_eq}
use Rattle.std.proofs.lemmas.Bool.{and_parts}
use Rattle.clap.specs.Lexer.{long_of, short_of, usize_max}
use Rattle.clap.specs.Faults.{check_fault, defaults_fault, entered_fault, level_fault, settle_fault, step_fault, turn_fault, walk_fault}
use Rattle.clap.specs.Kinds.{or_else, range_kinds, values_kinds}
use Rattle.clap.specs.Simple.{Shape, built, entered, names_of, new_shape}
use Rattle.tool_words.specs.Command.{audit_command, bench_command, explore_command, replay_command, rvklee_command, upgrade_command}
use Rattle.clap.specs.Walk.{Held, Names, finished, rows_after, settled, Waiting, Walk, arg_by_index, idle, nothing_held, positional, to_positional, value, walk, walk_from, walked}
use Rattle.clap.specs.Words.{Kinds, Row, Rule, fault_of, subcommand_of}
use Rattle.clap.specs.declared.builder.value_parser.ValueParser.TheVariants as vp
use Rattle.clap.specs.declared.parser.matches.ValueSource.TheVariants.{CommandLine}
use Rattle.clap.specs.declared.builder.value_parser.Reading.TheVariants.{AsWritten}
use Rattle.clap.proofs.FaultLemmas.{stopped_fault}
use Rattle.clap.proofs.WalkLemmas.{walk_stopped}
use Rattle.elf_load.specs.declared.region.Region.{Region}
use Rattle.tool_words.specs.Job.{Explore, command_job, explore_job, explore_with, job_of, without_fault}
use Rattle.tool_words.specs.Limits.{default_budgets, workers_limit}
use Rattle.tool_words.specs.Region.{regions_said}
use Rattle.tool_words.specs.Plain.{has_no_hyphen}

pub both_plain : (word : List ℕ) (words : List (List ℕ)) → list_all has_no_hyphen (word ∷ words) ≡ true
    → (has_no_hyphen word ≡ true) × (list_all has_no_hyphen words ≡ true)
both_plain word words plain = and_parts (has_no_hyphen word) (list_all has_no_hyphen words) plain

pub pass_one : (s : Shape) (w next : Walk) (word : List ℕ) (rest : List (List ℕ)) → turn_fault s [] w word ≡ [] → walked s.rules [] w word ≡ next
    → walk_fault s [] next rest ≡ [] → walk_fault s [] w (word ∷ rest) ≡ []
unfolding walk_fault
pass_one s w next word rest turn step passes = rw (turn, step) passes

-- ---- a word without a hyphen

pub no_dashes : (word : List ℕ) → has_no_hyphen word ≡ true → bytes_eq word (45 ∷ 45 ∷ []) ≡ false
no_dashes [] plain = refl
no_dashes (x ∷ xs) plain = go (x == 45) refl plain
  where
    go : (b : Bool) → (x == 45) ≡ b → not (x == 45) ≡ true → bytes_eq (x ∷ xs) (45 ∷ 45 ∷ []) ≡ false
    go true is plain = cc
    go false is plain = rw is refl

pub no_long : (word : List ℕ) → has_no_hyphen word ≡ true → long_of word ≡ None
no_long [] plain = refl
no_long (x ∷ xs) plain = go (x == 45) refl plain
  where
    go : (b : Bool) → (x == 45) ≡ b → not (x == 45) ≡ true → long_of (x ∷ xs) ≡ None
    go true is plain = cc
    go false is plain = rw is refl

pub no_short : (word : List ℕ) → has_no_hyphen word ≡ true → short_of word ≡ None
no_short [] plain = refl
no_short (x ∷ xs) plain = go (x == 45) refl plain
  where
    go : (b : Bool) → (x == 45) ≡ b → not (x == 45) ≡ true → short_of (x ∷ xs) ≡ None
    go true is plain = cc
    go false is plain = rw is refl

-- the walk between two words; a positional may wait for more of its values
abbrev between : Bool → Waiting
between false = idle
between true = positional

abbrev pub at : Held → Bool → ℕ → Walk
at held more position = record { held = held; waiting = between more; position = position; is_trailing = false; stopped = None }

pub plain_step : (c : List Rule) (held : Held) (more : Bool) (position : ℕ) (word : List ℕ) → has_no_hyphen word ≡ true
    → walked c [] (at held more position) word ≡ to_positional c (arg_by_index c position) word (at held more position) held
unfolding walked
plain_step c held false position word plain = rw (no_dashes word plain, no_long word plain, no_short word plain) refl
plain_step c held true position word plain = rw (no_dashes word plain, no_long word plain, no_short word plain) refl

pub plain_turn : (s : Shape) (held : Held) (more : Bool) (position : ℕ) (word : List ℕ) → has_no_hyphen word ≡ true
    → turn_fault s [] (at held more position) word ≡ step_fault s position held value
plain_turn s held false position word plain = rw (no_dashes word plain, no_long word plain, no_short word plain) refl
plain_turn s held true position word plain = rw (no_dashes word plain, no_long word plain, no_short word plain) refl

-- ---- `explore`, as clap builds it

-- the commands of the built command line, and `explore` among them
abbrev pub commands : List Shape
commands = (built rvklee_command).subs

abbrev pub leaf : Shape
leaf = unwrap_or (slice_get commands 0) (new_shape [])

abbrev pub row : List ℕ → List (List ℕ) → Row
row id values = record { id = id; values = values; count = None; source = Some CommandLine; reading = AsWritten }

abbrev pub waits : List Row → List ℕ → List (List ℕ) → Held
waits rows id values = record { rows = rows; pending = Some (id, values); skip = 0 }

-- the walk after the program, after the folder, and after so many inputs
module _ (program out : List ℕ) where
  abbrev after_program : Walk
  after_program = at (waits [] (codes "PROGRAM") (program ∷ [])) false 2

  abbrev after_out : Walk
  after_out = at (waits (row (codes "PROGRAM") (program ∷ []) ∷ []) (codes "OUT") (out ∷ [])) false 3

  abbrev two_rows : List Row
  two_rows = row (codes "PROGRAM") (program ∷ []) ∷ row (codes "OUT") (out ∷ []) ∷ []

  abbrev after_inputs : List (List ℕ) → Walk
  after_inputs inputs = at (waits two_rows (codes "INPUT") inputs) true 3

  module _ (plain_program : has_no_hyphen program ≡ true) (plain_out : has_no_hyphen out ≡ true) where
    takes_program : walked leaf.rules [] (walk_from nothing_held) program ≡ after_program
    unfolding rvklee_command explore_command replay_command bench_command upgrade_command audit_command
    takes_program = plain_step leaf.rules nothing_held false 1 program plain_program

    takes_out : walked leaf.rules [] after_program out ≡ after_out
    unfolding rvklee_command explore_command replay_command bench_command upgrade_command audit_command
    takes_out = plain_step leaf.rules after_program.held false 2 out plain_out

    program_passes : turn_fault leaf [] (walk_from nothing_held) program ≡ []
    unfolding rvklee_command explore_command replay_command bench_command upgrade_command audit_command
    program_passes = plain_turn leaf nothing_held false 1 program plain_program

    out_passes : turn_fault leaf [] after_program out ≡ []
    unfolding rvklee_command explore_command replay_command bench_command upgrade_command audit_command
    out_passes = plain_turn leaf after_program.held false 2 out plain_out

  takes_input : (input : List ℕ) → has_no_hyphen input ≡ true → walked leaf.rules [] after_out input ≡ after_inputs (input ∷ [])
  unfolding rvklee_command explore_command replay_command bench_command upgrade_command audit_command
  takes_input input plain = plain_step leaf.rules after_out.held false 3 input plain

  input_passes : (input : List ℕ) → has_no_hyphen input ≡ true → turn_fault leaf [] after_out input ≡ []
  unfolding rvklee_command explore_command replay_command bench_command upgrade_command audit_command
  input_passes input plain = plain_turn leaf after_out.held false 3 input plain

  takes_more : (seen : List (List ℕ)) (input : List ℕ) → has_no_hyphen input ≡ true
      → walked leaf.rules [] (after_inputs seen) input ≡ after_inputs (seen ++ input ∷ [])
  unfolding rvklee_command explore_command replay_command bench_command upgrade_command audit_command
  takes_more seen input plain = plain_step leaf.rules (after_inputs seen).held true 3 input plain

  more_passes : (seen : List (List ℕ)) (input : List ℕ) → has_no_hyphen input ≡ true → turn_fault leaf [] (after_inputs seen) input ≡ []
  unfolding rvklee_command explore_command replay_command bench_command upgrade_command audit_command
  more_passes seen input plain = plain_turn leaf (after_inputs seen).held true 3 input plain

  takes_all : (seen inputs : List (List ℕ)) → list_all has_no_hyphen inputs ≡ true
      → fold (walked leaf.rules []) (after_inputs seen) inputs ≡ after_inputs (seen ++ inputs)
  takes_all seen [] plain = ap after_inputs (sym (append-nil seen))
  takes_all seen (input ∷ inputs) plain =
      let both = both_plain input inputs plain in
      ap (λ w. fold (walked leaf.rules []) w inputs) (takes_more seen input both.0)
      ∙ takes_all (seen ++ input ∷ []) inputs both.1 ∙ ap after_inputs (append_assoc seen (input ∷ []) inputs)

  all_pass : (seen inputs : List (List ℕ)) → list_all has_no_hyphen inputs ≡ true → walk_fault leaf [] (after_inputs seen) inputs ≡ []
  unfolding walk_fault
  all_pass seen [] plain = refl
  all_pass seen (input ∷ inputs) plain =
      let both = both_plain input inputs plain in
      pass_one leaf (after_inputs seen) _ input inputs (more_passes seen input both.0) (takes_more seen input both.0) (all_pass (seen ++ input ∷ []) inputs both.1)

-- ---- what `clap` makes of the words of `explore`

in_range : (n : ℕ) → 0 < n → n ≤ usize_max → range_kinds 1 usize_max n ≡ []
in_range n some room =
    let more : (n == 0) ≡ false = search (rules, arith, some) in
    let least : nat_lt n 1 ≡ false = search (rules, arith, some) in
    let most : nat_lt usize_max n ≡ false = search (rules, arith, room) in
    rw (more, least, most) refl

all_texts : (values : List (List ℕ)) → values_kinds false vp.String values ≡ []
all_texts [] = refl
all_texts (text ∷ values) = all_texts values

-- the faults of `explore`, by those of its walk and by the end of it
abbrev pub faults_after : Kinds → Walk → Kinds
faults_after kinds w = or_else kinds (or_else [] (or_else (settle_fault leaf.rules leaf.args_override_self w.held)
    (or_else (defaults_fault (settled leaf.rules w.held).rows leaf.rules) (check_fault leaf (finished leaf.rules w.held) false))))

module _ (program out input : List ℕ) (inputs : List (List ℕ)) (plain : list_all has_no_hyphen (program ∷ out ∷ input ∷ inputs) ≡ true)
    (room : length (input ∷ inputs) < 2 ^ 64) where
  abbrev words : List (List ℕ)
  words = program ∷ out ∷ input ∷ inputs

  plain_program : has_no_hyphen program ≡ true
  plain_program = (both_plain program (out ∷ input ∷ inputs) plain).0

  plain_rest : list_all has_no_hyphen (out ∷ input ∷ inputs) ≡ true
  plain_rest = (both_plain program (out ∷ input ∷ inputs) plain).1

  plain_out : has_no_hyphen out ≡ true
  plain_out = (both_plain out (input ∷ inputs) plain_rest).0

  plain_input : has_no_hyphen input ≡ true
  plain_input = (both_plain input inputs (both_plain out (input ∷ inputs) plain_rest).1).0

  plain_inputs : list_all has_no_hyphen inputs ≡ true
  plain_inputs = (both_plain input inputs (both_plain out (input ∷ inputs) plain_rest).1).1

  walks : walk leaf.rules [] nothing_held words ≡ after_inputs program out (input ∷ inputs)
  walks = ap (λ w. fold (walked leaf.rules []) w (out ∷ input ∷ inputs)) (takes_program program out plain_program plain_out)
      ∙ ap (λ w. fold (walked leaf.rules []) w (input ∷ inputs)) (takes_out program out plain_program plain_out)
      ∙ ap (λ w. fold (walked leaf.rules []) w inputs) (takes_input program out input plain_input)
      ∙ takes_all program out (input ∷ []) inputs plain_inputs

  walk_passes : walk_fault leaf [] (walk_from nothing_held) words ≡ []
  walk_passes = pass_one leaf _ _ program _ (program_passes program out plain_program plain_out) (takes_program program out plain_program plain_out)
      (pass_one leaf _ _ out _ (out_passes program out plain_program plain_out) (takes_out program out plain_program plain_out)
      (pass_one leaf _ _ input _ (input_passes program out input plain_input) (takes_input program out input plain_input)
      (all_pass program out (input ∷ []) inputs plain_inputs)))

  settles : settle_fault leaf.rules leaf.args_override_self (after_inputs program out (input ∷ inputs)).held ≡ []
  unfolding rvklee_command explore_command replay_command bench_command upgrade_command audit_command
  settles = ap₂ or_else (in_range (length (input ∷ inputs)) (omega arith) (omega (arith, room))) (all_texts (input ∷ inputs))

  abbrev all_rows : List Row
  all_rows = row (codes "PROGRAM") (program ∷ []) ∷ row (codes "OUT") (out ∷ []) ∷ row (codes "INPUT") (input ∷ inputs) ∷ []

  finds : rows_after leaf.rules [] words ≡ all_rows
  unfolding rvklee_command explore_command replay_command bench_command upgrade_command audit_command
  finds = ap (λ w. finished leaf.rules w.held) walks

  abbrev end : Held
  end = (after_inputs program out (input ∷ inputs)).held

  -- `explore` has no fault to find in them
  level_passes : level_fault leaf [] nothing_held words false [] ≡ []
  unfolding rvklee_command explore_command replay_command bench_command upgrade_command audit_command defaults_fault
  level_passes = ap₂ faults_after walk_passes walks
      ∙ ap (λ kinds. or_else kinds (or_else (defaults_fault (settled leaf.rules end).rows leaf.rules) (check_fault leaf (finished leaf.rules end) false))) settles

-- ---- what `clap` makes of the words of rvklee

abbrev pub top : Shape
top = (built rvklee_command).top

abbrev pub names : Names
names = names_of (built rvklee_command)

enters : walked top.rules names (walk_from nothing_held) (codes "explore") ≡ record (walk_from nothing_held) { stopped = Some (codes "explore", []) }
unfolding rvklee_command explore_command replay_command bench_command upgrade_command audit_command walked
enters = refl

stops : (rest : List (List ℕ)) → walk top.rules names nothing_held (codes "explore" ∷ rest) ≡ record (walk_from nothing_held) { stopped = Some (codes "explore", rest) }
stops rest = ap (λ w. fold (walked top.rules names) w rest) enters ∙ sym (walk_stopped top.rules names (walk_from nothing_held) (codes "explore") [] rest)

top_passes : (rest : List (List ℕ)) → walk_fault top names (walk_from nothing_held) (codes "explore" ∷ rest) ≡ []
unfolding rvklee_command explore_command replay_command bench_command upgrade_command audit_command walk_fault
top_passes rest = ap (λ w. walk_fault top names w rest) enters ∙ stopped_fault top names (walk_from nothing_held) (codes "explore", []) rest

abbrev pub faults_above : Kinds → Walk → Kinds
faults_above kinds w = or_else kinds (or_else (entered_fault (built rvklee_command) w.stopped)
    (or_else (settle_fault top.rules top.args_override_self w.held)
    (or_else (defaults_fault (settled top.rules w.held).rows top.rules)
    (check_fault top (finished top.rules w.held) (is_some (entered (built rvklee_command) w.stopped))))))

-- rvklee has the faults that `explore` has
pub faults_below : (tool : List ℕ) (rest : List (List ℕ)) (faults : Kinds) → level_fault leaf [] nothing_held rest false [] ≡ faults
    → fault_of rvklee_command (tool ∷ codes "explore" ∷ rest) ≡ or_else faults []
unfolding rvklee_command explore_command replay_command bench_command upgrade_command audit_command defaults_fault
faults_below tool rest faults below = ap₂ faults_above (top_passes rest) (stops rest) ∙ ap (λ kinds. or_else kinds []) below

found_below : (tool : List ℕ) (rest : List (List ℕ)) → subcommand_of rvklee_command (tool ∷ codes "explore" ∷ rest) ≡ Some (codes "explore", rows_after leaf.rules [] rest)
unfolding rvklee_command explore_command replay_command bench_command upgrade_command audit_command
found_below tool rest = ap (λ w. entered (built rvklee_command) w.stopped) (stops rest)

-- ---- the job of these words

module _ (tool program out input : List ℕ) (inputs : List (List ℕ)) (plain : list_all has_no_hyphen (program ∷ out ∷ input ∷ inputs) ≡ true)
    (room : length (input ∷ inputs) < 2 ^ 64) where
  -- no option is given
  with_regions : (regions : Option (List Region)) → explore_with (Some program) (Some out) regions (Some default_budgets) (Some workers_limit.default)
      ≡ option_map (λ regions. Explore program out regions default_budgets workers_limit.default) regions
  with_regions None = refl
  with_regions (Some regions) = refl

  rows_job : explore_job (all_rows program out input inputs plain room)
      ≡ option_map (λ regions. Explore program out regions default_budgets workers_limit.default) (regions_said (input ∷ inputs))
  unfolding explore_job
  rows_job = with_regions (regions_said (input ∷ inputs))

  pub plain_job : job_of (tool ∷ codes "explore" ∷ program ∷ out ∷ input ∷ inputs)
      ≡ option_map (λ regions. Explore program out regions default_budgets workers_limit.default) (regions_said (input ∷ inputs))
  unfolding job_of
  plain_job = ap₂ (λ kinds found. without_fault kinds (command_job found)) (faults_below tool _ [] (level_passes program out input inputs plain room))
      (found_below tool (program ∷ out ∷ input ∷ inputs) ∙ ap (λ rows. Some (codes "explore", rows)) (finds program out input inputs plain room))
      ∙ rows_job
