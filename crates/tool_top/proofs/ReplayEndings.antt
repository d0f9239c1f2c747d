-- What the verdict of a replay's plan says.
use Rattle.std.proofs.Common.{◌≡◌, ◌⊎◌, ℕ, List, [], inl, inr, sym, ◌∙◌, ap, subst, take}
use Rattle.std.specs.Prelude.{Option, None, Some, IfSome, Ok, Err, option_and_then}
use Rattle.std.specs.Option.{option_map}
use Rattle.tool_io.specs.Told.{Seen, Gives, told_held}
use Rattle.tool_io.specs.Causes.{Rose}
use Rattle.elf_load.specs.Images.{Image, Loads}
use Rattle.elf_load.specs.Fits.{unfit}
use Rattle.elf_load.specs.Refusals.{refusal}
use Rattle.elf_load.specs.declared.refused.Refused.{Refused as WhyRefused}
use Rattle.elf_load.specs.declared.unfit.Unfit.{Unfit as WhyUnfit}
use Rattle.elf_load.proofs.OneImage.{one_image}
use Rattle.replay_core.specs.Replays.{IsAsSaid}
use Rattle.test_files.specs.Reading.{reading}
use Rattle.test_files.specs.Tests.{Test}
use Rattle.test_files.specs.declared.refused.TestRefused.{TestRefused as WhyNoTest}
use Rattle.tool_words.specs.Job.{Replay}
use Rattle.tool_top.specs.Answer.{IsRunTest}
use Rattle.tool_top.specs.Plan.{IsPlan, Plan, most_bytes}
use Rattle.tool_top.specs.Replaying.{IsReplayable, most_test_bytes}
use Rattle.tool_top.specs.declared.verdict.Verdict.TheVariants.{Done, Differs, NoJob, Refused, Unfit, ReadFault, TestRefused}

-- what a name gives is what it holds
pub given_held : (most : ℕ) (name held given : List ℕ) (holds : Option (List ℕ → Option (List ℕ))) → option_map (take most) (option_and_then (λ (h : List ℕ → Option (List ℕ)). h name) holds) ≡ Some held → IfSome holds (λ h. option_map (take most) (h name) ≡ Some given) → given ≡ held
given_held most name held given None is g = cc
given_held most name held given (Some h) is g = cc

module _ (old new : Seen) (program test : List ℕ) (plan : Plan) where
  pub replay_puts : IsPlan old new (Some (Replay program test)) plan → plan.puts ≡ []
  replay_puts (inl (bytes, text, given, also, names, inl none)) = none.no_files
  replay_puts (inl (bytes, text, given, also, names, inr (inl no_test))) = no_test.no_files
  replay_puts (inl (bytes, text, given, also, names, inr (inr (inl misfit)))) = misfit.no_files
  replay_puts (inl (bytes, text, given, also, names, inr (inr (inr replayed)))) = replayed.no_files
  replay_puts (inr (rose, (begins, is))) = ap (λ (p : Plan). p.puts) is

  pub replay_same : plan.verdict ≡ Done → IsPlan old new (Some (Replay program test)) plan → IsRunTest old.told program test IsAsSaid
  replay_same done (inl (bytes, text, given, also, names, inl none)) = let other = none.is in cc
  replay_same done (inl (bytes, text, given, also, names, inr (inl no_test))) = let other = no_test.is in cc
  replay_same done (inl (bytes, text, given, also, names, inr (inr (inl misfit)))) = let other = misfit.is in cc
  replay_same done (inl (bytes, text, given, also, names, inr (inr (inr replayed)))) = elim replayed.answer [
    | inl same ↦ record { bytes = bytes; text = text; image = replayed.image; read = replayed.test; program_given = given; test_given = also; replayable = replayed.replayable; claim = same.as_said }
    | inr other ↦ let is = other.is in cc
  ]
  replay_same done (inr (rose, (begins, is))) = let other : plan.verdict ≡ ReadFault = ap (λ (p : Plan). p.verdict) is in cc

  pub replay_other : plan.verdict ≡ Differs → IsPlan old new (Some (Replay program test)) plan → IsRunTest old.told program test (λ image read. ¬ IsAsSaid image read)
  replay_other differs (inl (bytes, text, given, also, names, inl none)) = let other = none.is in cc
  replay_other differs (inl (bytes, text, given, also, names, inr (inl no_test))) = let other = no_test.is in cc
  replay_other differs (inl (bytes, text, given, also, names, inr (inr (inl misfit)))) = let other = misfit.is in cc
  replay_other differs (inl (bytes, text, given, also, names, inr (inr (inr replayed)))) = elim replayed.answer [
    | inl same ↦ let is = same.is in cc
    | inr other ↦ record { bytes = bytes; text = text; image = replayed.image; read = replayed.test; program_given = given; test_given = also; replayable = replayed.replayable; claim = other.other }
  ]
  replay_other differs (inr (rose, (begins, is))) = let other : plan.verdict ≡ ReadFault = ap (λ (p : Plan). p.verdict) is in cc

  pub replay_no_program : plan.verdict ≡ Refused → IsPlan old new (Some (Replay program test)) plan → (bytes : List ℕ) × (why : WhyRefused) × Gives old.told program most_bytes bytes × (refusal bytes ≡ Some why)
  replay_no_program refused (inl (bytes, text, given, also, names, inl none)) = (bytes, none.why, given, none.refuses)
  replay_no_program refused (inl (bytes, text, given, also, names, inr (inl no_test))) = let other = no_test.is in cc
  replay_no_program refused (inl (bytes, text, given, also, names, inr (inr (inl misfit)))) = let other = misfit.is in cc
  replay_no_program refused (inl (bytes, text, given, also, names, inr (inr (inr replayed)))) = elim replayed.answer [ inl same ↦ let is = same.is in cc | inr other ↦ let is = other.is in cc ]
  replay_no_program refused (inr (rose, (begins, is))) = let other : plan.verdict ≡ ReadFault = ap (λ (p : Plan). p.verdict) is in cc

  pub replay_no_test : plan.verdict ≡ TestRefused → IsPlan old new (Some (Replay program test)) plan
      → (bytes : List ℕ) × (text : List ℕ) × (image : Image) × (why : WhyNoTest) × Gives old.told program most_bytes bytes × Gives old.told test most_test_bytes text × Loads bytes image × (reading text ≡ Err why)
  replay_no_test refused (inl (bytes, text, given, also, names, inl none)) = let other = none.is in cc
  replay_no_test refused (inl (bytes, text, given, also, names, inr (inl no_test))) = (bytes, text, no_test.image, no_test.why, given, also, no_test.loads, no_test.refuses)
  replay_no_test refused (inl (bytes, text, given, also, names, inr (inr (inl misfit)))) = let other = misfit.is in cc
  replay_no_test refused (inl (bytes, text, given, also, names, inr (inr (inr replayed)))) = elim replayed.answer [ inl same ↦ let is = same.is in cc | inr other ↦ let is = other.is in cc ]
  replay_no_test refused (inr (rose, (begins, is))) = let other : plan.verdict ≡ ReadFault = ap (λ (p : Plan). p.verdict) is in cc

  pub replay_misfit : plan.verdict ≡ Unfit → IsPlan old new (Some (Replay program test)) plan
      → (bytes : List ℕ) × (text : List ℕ) × (image : Image) × (read : Test) × (why : WhyUnfit) × Gives old.told program most_bytes bytes × Gives old.told test most_test_bytes text × Loads bytes image × (reading text ≡ Ok read) × (unfit image read.regions ≡ Some why)
  replay_misfit unfit (inl (bytes, text, given, also, names, inl none)) = let other = none.is in cc
  replay_misfit unfit (inl (bytes, text, given, also, names, inr (inl no_test))) = let other = no_test.is in cc
  replay_misfit unfit (inl (bytes, text, given, also, names, inr (inr (inl misfit)))) = (bytes, text, misfit.image, misfit.test, misfit.why, given, also, misfit.loads, misfit.reads, misfit.misfits)
  replay_misfit unfit (inl (bytes, text, given, also, names, inr (inr (inr replayed)))) = elim replayed.answer [ inl same ↦ let is = same.is in cc | inr other ↦ let is = other.is in cc ]
  replay_misfit unfit (inr (rose, (begins, is))) = let other : plan.verdict ≡ ReadFault = ap (λ (p : Plan). p.verdict) is in cc

  pub replay_no_job : plan.verdict ≡ NoJob → IsPlan old new (Some (Replay program test)) plan → ⊥
  replay_no_job no_job (inl (bytes, text, given, also, names, inl none)) = let other = none.is in cc
  replay_no_job no_job (inl (bytes, text, given, also, names, inr (inl no_test))) = let other = no_test.is in cc
  replay_no_job no_job (inl (bytes, text, given, also, names, inr (inr (inl misfit)))) = let other = misfit.is in cc
  replay_no_job no_job (inl (bytes, text, given, also, names, inr (inr (inr replayed)))) = elim replayed.answer [ inl same ↦ let is = same.is in cc | inr other ↦ let is = other.is in cc ]
  replay_no_job no_job (inr (rose, (begins, is))) = let other : plan.verdict ≡ ReadFault = ap (λ (p : Plan). p.verdict) is in cc

  pub replay_fault : plan.verdict ≡ ReadFault → IsPlan old new (Some (Replay program test)) plan → Rose old.reads new.reads
  replay_fault fault (inl (bytes, text, given, also, names, inl none)) = let other = none.is in cc
  replay_fault fault (inl (bytes, text, given, also, names, inr (inl no_test))) = let other = no_test.is in cc
  replay_fault fault (inl (bytes, text, given, also, names, inr (inr (inl misfit)))) = let other = misfit.is in cc
  replay_fault fault (inl (bytes, text, given, also, names, inr (inr (inr replayed)))) = elim replayed.answer [ inl same ↦ let is = same.is in cc | inr other ↦ let is = other.is in cc ]
  replay_fault fault (inr (rose, read_fault)) = rose

  -- where the names hold a program and a test that can be run on it, the run is the same or differs
  module _ (bytes text : List ℕ) (image : Image) (read : Test) (held : option_map (take most_bytes) (told_held old.told program) ≡ Some bytes) (held_text : option_map (take most_test_bytes) (told_held old.told test) ≡ Some text)
      (replayable : IsReplayable bytes text image read) where
    same_image : (given : List ℕ) (other : Image) → Gives old.told program most_bytes given → Loads given other → image ≡ other
    same_image given other gives loads =
        let same = given_held most_bytes program bytes given old.told.holds held gives in
        one_image bytes image other replayable.loads (subst (λ (b : List ℕ). Loads b other) same loads)

    pub replay_kept : ¬ Rose old.reads new.reads → IsPlan old new (Some (Replay program test)) plan → (plan.verdict ≡ Done) ⊎ (plan.verdict ≡ Differs)
    replay_kept read_well (inl (given, given_text, gives, gives_text, names, inl none)) =
        let same : given ≡ bytes = given_held most_bytes program bytes given old.told.holds held gives in
        let fine : refusal given ≡ None = ap refusal same ∙ replayable.loads.fine in
        let refuses : refusal given ≡ Some none.why = none.refuses in
        cc
    replay_kept read_well (inl (given, given_text, gives, gives_text, names, inr (inl no_test))) =
        let same = given_held most_test_bytes test text given_text old.told.holds held_text gives_text in
        let reads : Ok read ≡ Err no_test.why = sym replayable.reads ∙ ap reading (sym same) ∙ no_test.refuses in
        cc
    replay_kept read_well (inl (given, given_text, gives, gives_text, names, inr (inr (inl misfit)))) =
        let same = given_held most_test_bytes test text given_text old.told.holds held_text gives_text in
        let reads : Ok read ≡ Ok misfit.test = sym replayable.reads ∙ ap reading (sym same) ∙ misfit.reads in
        let one : read ≡ misfit.test = cc in
        let fits : unfit misfit.image misfit.test.regions ≡ None = subst (λ (t : Test). unfit misfit.image t.regions ≡ None) one
        (subst (λ (i : Image). unfit i read.regions ≡ None) (same_image given misfit.image gives misfit.loads) replayable.fits) in
        let other : unfit misfit.image misfit.test.regions ≡ Some misfit.why = misfit.misfits in
        cc
    replay_kept read_well (inl (given, given_text, gives, gives_text, names, inr (inr (inr replayed)))) = elim replayed.answer [ inl same ↦ inl same.is | inr other ↦ inr other.is ]
    replay_kept read_well (inr (rose, read_fault)) = absurd (read_well rose)
