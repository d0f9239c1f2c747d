-- Making the plan of a replay, from what its parts are.
use Rattle.std.proofs.Common.{◌≡◌, ℕ, List, [], ◌∷◌, refl, inl, inr}
use Rattle.std.specs.Prelude.{Some, Result, Ok, Err, IfOk}
use Rattle.std.specs.declared.alloc.AllocError.{AllocError}
use Rattle.tool_io.specs.Told.{Seen, after, Gives}
use Rattle.elf_load.specs.Fits.{unfit}
use Rattle.elf_load.specs.Images.{Image, Loads}
use Rattle.elf_load.specs.Refusals.{refusal}
use Rattle.elf_load.specs.declared.refused.Refused.{Refused as WhyRefused}
use Rattle.elf_load.specs.declared.unfit.Unfit.{Unfit as WhyUnfit}
use Rattle.replay_core.specs.Differences.{difference_text}
use Rattle.replay_core.specs.Replays.{IsAsSaid, run_of}
use Rattle.test_files.specs.Reading.{reading}
use Rattle.test_files.specs.Tests.{Test}
use Rattle.test_files.specs.declared.refused.TestRefused.{TestRefused as WhyNoTest}
use Rattle.tool_words.specs.Job.{Replay}
use Rattle.tool_top.specs.Lines.{refused_line, same, test_refused, unfit_line}
use Rattle.tool_top.specs.Plan.{IsPlanned, TreatsTest, most_bytes}
use Rattle.tool_top.specs.Replaying.{IsReplayable, most_test_bytes}
use Rattle.tool_top.specs.declared.plan.Plan.{Plan as Made}
use Rattle.tool_top.specs.declared.verdict.Verdict.TheVariants.{Done, Differs, Refused, TestRefused, Unfit}

module _ (program test : List ℕ) where
  pub planned_replay : (old new : Seen) (bytes text : List ℕ) (made : Result Made AllocError) → Gives old.told program most_bytes bytes → Gives old.told test most_test_bytes text
      → new.told ≡ after old.told (record { names = program ∷ test ∷ []; puts = []; said = [] }) → IfOk made (λ p. TreatsTest bytes text p.verdict p.files.items p.text)
      → IfOk made (λ p. IsPlanned old new (Some (Replay program test)) p.verdict p.files.items p.text)
  planned_replay old new bytes text (Ok p) given also read treated = record {
    names = program ∷ test ∷ [];
    plan = inl (bytes, text, given, also, refl, treated);
    changes = read;
  }
  planned_replay old new bytes text (Err e) given also read treated = tt

module _ (bytes text : List ℕ) where
  -- the file is that of no program
  pub replays_refused : (why : WhyRefused) (made : Result Made AllocError) → refusal bytes ≡ Some why
      → IfOk made (λ p. p.verdict ≡ Refused) → IfOk made (λ p. p.files.items ≡ []) → IfOk made (λ p. p.text ≡ refused_line why)
      → IfOk made (λ p. TreatsTest bytes text p.verdict p.files.items p.text)
  replays_refused why (Err e) refuses v f t = tt
  replays_refused why (Ok made) refuses v f t = inl (record { why = why; refuses = refuses; is = v; no_files = f; line = t })

  -- the text is no test
  pub replays_no_test : (image : Image) (why : WhyNoTest) (made : Result Made AllocError) → Loads bytes image → reading text ≡ Err why → IfOk made (λ p. p.verdict ≡ TestRefused) → IfOk made (λ p. p.files.items ≡ []) → IfOk made (λ p. p.text ≡ test_refused why)
      → IfOk made (λ p. TreatsTest bytes text p.verdict p.files.items p.text)
  replays_no_test image why (Err e) loads refuses v f t = tt
  replays_no_test image why (Ok made) loads refuses v f t = inr (inl (record { image = image; loads = loads; why = why; refuses = refuses; is = v; no_files = f; line = t }))

  -- the test's regions don't fit
  pub replays_misfit : (image : Image) (test : Test) (why : WhyUnfit) (made : Result Made AllocError) → Loads bytes image → reading text ≡ Ok test → unfit image test.regions ≡ Some why
      → IfOk made (λ p. p.verdict ≡ Unfit) → IfOk made (λ p. p.files.items ≡ []) → IfOk made (λ p. p.text ≡ unfit_line why) → IfOk made (λ p. TreatsTest bytes text p.verdict p.files.items p.text)
  replays_misfit image test why (Err e) loads reads is v f t = tt
  replays_misfit image test why (Ok made) loads reads is v f t = inr (inr (inl (record {
    image = image;
    test = test;
    loads = loads;
    reads = reads;
    why = why;
    misfits = is;
    is = v;
    no_files = f;
    line = t;
  })))

  -- the run was the same, or not
  pub replays_same : (image : Image) (test : Test) (made : Result Made AllocError) → IsReplayable bytes text image test → IsAsSaid image test → IfOk made (λ p. p.verdict ≡ Done) → IfOk made (λ p. p.files.items ≡ []) → IfOk made (λ p. p.text ≡ same)
      → IfOk made (λ p. TreatsTest bytes text p.verdict p.files.items p.text)
  replays_same image test (Err e) replayable is v f t = tt
  replays_same image test (Ok made) replayable is v f t = inr (inr (inr (record { image = image; test = test; replayable = replayable; no_files = f; answer = inl (record { as_said = is; is = v; line = t }) })))

  pub replays_other : (image : Image) (test : Test) (made : Result Made AllocError) → IsReplayable bytes text image test → ¬ IsAsSaid image test → IfOk made (λ p. p.verdict ≡ Differs) → IfOk made (λ p. p.files.items ≡ [])
      → IfOk made (λ p. p.text ≡ difference_text (run_of image test)) → IfOk made (λ p. TreatsTest bytes text p.verdict p.files.items p.text)
  replays_other image test (Err e) replayable is v f t = tt
  replays_other image test (Ok made) replayable is v f t = inr (inr (inr (record { image = image; test = test; replayable = replayable; no_files = f; answer = inr (record { other = is; is = v; lines = t }) })))
