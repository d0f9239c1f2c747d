-- Making the plan of an upgrade, and what its verdict says.
use Rattle.std.proofs.Common.{◌≡◌, ◌≢◌, ◌⊎◌, ℕ, List, [], ◌∷◌, inl, inr, sym, ◌∙◌, ap, take}
use Rattle.std.specs.Prelude.{Some, Result, Ok, Err, IfOk}
use Rattle.std.specs.Option.{option_map}
use Rattle.std.specs.declared.alloc.AllocError.{AllocError}
use Rattle.tool_io.specs.Causes.{Rose}
use Rattle.tool_io.specs.Told.{Seen, Gives, told_held}
use Rattle.test_files.specs.Reading.{reading}
use Rattle.test_files.specs.Upgrading.{upgraded}
use Rattle.test_files.specs.declared.refused.TestRefused.{TestRefused as WhyNoTest}
use Rattle.tool_words.specs.Job.{Upgrade}
use Rattle.tool_top.specs.Lines.{test_refused, upgraded_line}
use Rattle.tool_top.specs.Plan.{IsPlan, Plan}
use Rattle.tool_top.specs.Replaying.{most_test_bytes}
use Rattle.tool_top.specs.Upgrading.{IsUpgraded, TreatsUpgrade}
use Rattle.tool_top.specs.declared.plan.Plan.{Plan as Made}
use Rattle.tool_top.specs.declared.verdict.Verdict.{Verdict}
use Rattle.tool_top.specs.declared.verdict.Verdict.TheVariants.{Done, ReadFault, TestRefused}
use Rattle.tool_top.proofs.ReplayEndings.{given_held}

module _ (out text : List ℕ) where
  -- the test has a text in format 2
  pub upgrades_file : (new : List ℕ) (made : Result Made AllocError) → upgraded (reading text) ≡ Ok new → IfOk made (λ p. p.verdict ≡ Done)
      → IfOk made (λ p. p.files.items ≡ (record { name = out; bytes = new }) ∷ []) → IfOk made (λ p. p.text ≡ upgraded_line)
      → IfOk made (λ p. TreatsUpgrade out text p.verdict p.files.items p.text)
  upgrades_file new (Err e) gives v f t = tt
  upgrades_file new (Ok made) gives v f t = inl (record { new = new; gives = gives; is = v; file = f; line = t })

  -- or it has none
  pub upgrades_refused : (why : WhyNoTest) (made : Result Made AllocError) → upgraded (reading text) ≡ Err why → IfOk made (λ p. p.verdict ≡ TestRefused)
      → IfOk made (λ p. p.files.items ≡ []) → IfOk made (λ p. p.text ≡ test_refused why)
      → IfOk made (λ p. TreatsUpgrade out text p.verdict p.files.items p.text)
  upgrades_refused why (Err e) refuses v f t = tt
  upgrades_refused why (Ok made) refuses v f t = inr (record { why = why; refuses = refuses; is = v; no_files = f; line = t })

module _ (old new : Seen) (test out : List ℕ) (plan : Plan) where
  -- the plan of an upgrade has one of three verdicts
  pub upgraded_only : IsPlan old new (Some (Upgrade test out)) plan → (plan.verdict ≡ Done) ⊎ (plan.verdict ≡ TestRefused) ⊎ (plan.verdict ≡ ReadFault)
  upgraded_only (inl (text, given, names, inl done)) = inl done.is
  upgraded_only (inl (text, given, names, inr none)) = inr (inl none.is)
  upgraded_only (inr (rose, (begins, is))) = inr (inr (ap (λ (p : Plan). p.verdict) is))

  pub not_upgraded : (verdict : Verdict) → plan.verdict ≡ verdict → verdict ≢ Done → verdict ≢ TestRefused → verdict ≢ ReadFault → IsPlan old new (Some (Upgrade test out)) plan → ⊥
  not_upgraded verdict is done refused fault planned = elim (upgraded_only planned) [
    | inl it ↦ done (sym is ∙ it)
    | inr (inl it) ↦ refused (sym is ∙ it)
    | inr (inr it) ↦ fault (sym is ∙ it)
  ]

  pub upgrade_done : plan.verdict ≡ Done → IsPlan old new (Some (Upgrade test out)) plan
      → (text : List ℕ) × Gives old.told test most_test_bytes text × IsUpgraded out text plan.verdict plan.puts plan.text
  upgrade_done done (inl (text, given, names, inl is)) = (text, given, is)
  upgrade_done done (inl (text, given, names, inr none)) = let other = none.is in cc
  upgrade_done done (inr (rose, (begins, is))) = let other : plan.verdict ≡ ReadFault = ap (λ (p : Plan). p.verdict) is in cc

  pub upgrade_no_test : plan.verdict ≡ TestRefused → IsPlan old new (Some (Upgrade test out)) plan
      → (text : List ℕ) × (why : WhyNoTest) × Gives old.told test most_test_bytes text × (upgraded (reading text) ≡ Err why)
  upgrade_no_test refused (inl (text, given, names, inl done)) = let other = done.is in cc
  upgrade_no_test refused (inl (text, given, names, inr none)) = (text, none.why, given, none.refuses)
  upgrade_no_test refused (inr (rose, (begins, is))) = let other : plan.verdict ≡ ReadFault = ap (λ (p : Plan). p.verdict) is in cc

  pub upgrade_fault : plan.verdict ≡ ReadFault → IsPlan old new (Some (Upgrade test out)) plan → Rose old.reads new.reads
  upgrade_fault fault (inl (text, given, names, inl done)) = let other = done.is in cc
  upgrade_fault fault (inl (text, given, names, inr none)) = let other = none.is in cc
  upgrade_fault fault (inr (rose, read_fault)) = rose

  pub upgrade_puts : plan.puts ≢ [] → IsPlan old new (Some (Upgrade test out)) plan → plan.verdict ≡ Done
  upgrade_puts some (inl (text, given, names, inl done)) = done.is
  upgrade_puts some (inl (text, given, names, inr none)) = absurd (some none.no_files)
  upgrade_puts some (inr (rose, (begins, is))) = absurd (some (ap (λ (p : Plan). p.puts) is))

  -- where the name holds a test that has a text in format 2, it is done
  pub upgrade_kept : (text changed : List ℕ) → option_map (take most_test_bytes) (told_held old.told test) ≡ Some text → upgraded (reading text) ≡ Ok changed
      → ¬ Rose old.reads new.reads → IsPlan old new (Some (Upgrade test out)) plan → plan.verdict ≡ Done
  upgrade_kept text changed held gives read_well (inl (given, also, names, inl done)) = done.is
  upgrade_kept text changed held gives read_well (inl (given, also, names, inr none)) =
      let same : given ≡ text = given_held most_test_bytes test text given old.told.holds held also in
      let both : Ok changed ≡ Err none.why = sym gives ∙ ap (λ t. upgraded (reading t)) (sym same) ∙ none.refuses in
      cc
  upgrade_kept text changed held gives read_well (inr (rose, read_fault)) = absurd (read_well rose)
