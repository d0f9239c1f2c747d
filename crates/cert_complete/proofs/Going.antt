-- How the walk goes on.
use Rattle.std.proofs.Common.{ℕ, All, List, [], ◌∷◌, ◌++◌}
use Rattle.std.proofs.lemmas.List.Elements.{All-cons, All-head, All-nil, All-tail}
use Rattle.cert_complete.specs.Stopping.{IsStoppedAt}
use Rattle.sym_machine.specs.Advancing.{StoppedBy}
use Rattle.sym_machine.specs.declared.stepping.Stop.{Stop}
use Rattle.sym_machine.specs.declared.stepping.Stop.TheVariants.{Branch, Pin, Ended, Steps}
use Rattle.sym_state.specs.Programs.{Program}
use Rattle.sym_state.specs.Symbolic.{Symbolic}

-- where a run of a program has stopped
pub stopped_at : (p : Program) (most : ℕ) (s : Symbolic) (stop : Stop) → StoppedBy p most s stop → IsStoppedAt s stop
stopped_at p most s (Branch term) is = is.1
stopped_at p most s (Pin place term) is = is.1
stopped_at p most s (Ended end) is = tt
stopped_at p most s Steps is = tt

-- ---- what holds of a list holds of its parts
pub all_back : {X : Type 0} (P : X → Type 0) (xs ys : List X) → All P (xs ++ ys) → All P ys
all_back P [] ys all = all
all_back P (x ∷ xs) ys all = all_back P xs ys (All-tail P x (xs ++ ys) all)

pub all_front : {X : Type 0} (P : X → Type 0) (xs ys : List X) → All P (xs ++ ys) → All P xs
all_front P [] ys all = All-nil P
all_front P (x ∷ xs) ys all = All-cons P x xs (All-head P x (xs ++ ys) all) (all_front P xs ys (All-tail P x (xs ++ ys) all))
