-- What the verdict of a bench's plan says: it is done, whatever was read.
use Rattle.std.proofs.Common.{◌≡◌, ◌≢◌, ℕ, List, inl, inr, sym, ◌∙◌}
use Rattle.std.specs.Prelude.{Some}
use Rattle.tool_io.specs.Told.{Seen}
use Rattle.tool_words.specs.Job.{Bench}
use Rattle.tool_top.specs.Plan.{IsBenched, IsPlan, Plan}
use Rattle.tool_top.specs.declared.verdict.Verdict.{Verdict}
use Rattle.tool_top.specs.declared.verdict.Verdict.TheVariants.{Done}

module _ (old new : Seen) (number workers : ℕ) (out : List ℕ) (plan : Plan) where
  pub benched : IsPlan old new (Some (Bench number workers out)) plan → IsBenched number workers out plan.verdict plan.puts plan.text
  benched (inl (names, is)) = is
  benched (inr (rose, none)) = absurd none

  pub not_benched : (verdict : Verdict) → plan.verdict ≡ verdict → verdict ≢ Done → IsPlan old new (Some (Bench number workers out)) plan → ⊥
  not_benched verdict is other planned = other (sym is ∙ (benched planned).done)
