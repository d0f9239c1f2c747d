-- What is found among samples.
use Rattle.std.specs.Prelude.{◌≡◌, true, false, ℕ, List, All, Option, None, Some}
use Rattle.std.specs.Borrow.{Bor}
use Rattle.std.specs.Iterator.{Drains, YieldsThen}
use Rattle.bv_dag.specs.Queries.{Condition, holds}

-- by the calls of an iterator: none is found where these samples are all that come, and none of them meets the condition;
-- and a sample is found where it comes after some others, and meets it
abbrev pub IsScan : {S : Type 0} → (steps : S → Option (Bor (List ℕ)) → S → Type 0) → Condition → S
    → Option (List ℕ) → Type 0
IsScan steps q samples None = (all : List (Bor (List ℕ))) × Drains steps samples all
    × All (λ sample. holds q sample.now ≡ false) all
IsScan {S} steps q samples (Some found) = (holds q found ≡ true)
    × ((before : List (Bor (List ℕ))) × (sample : Bor (List ℕ)) × (rest : S)
    × YieldsThen steps samples before (Some sample) rest × (found ≡ sample.now))
