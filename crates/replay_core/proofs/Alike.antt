-- What `==` says of paths.
use Rattle.std.proofs.Common.{◌≡◌, Bool, List, refl, ap}
use Rattle.std.specs.Bool.{Decides}
use Rattle.std.specs.Cmp.Lexicographic.{pointwise}
use Rattle.std.proofs.lemmas.Bool.Decides.{Decides-eqb}
use Rattle.std.proofs.lemmas.Slice.Eq.{slice_eq-Decides}
use Rattle.rv_decode.specs.declared.ends.PathStep.{PathStep}
use Rattle.rv_decode.specs.declared.ends.PathStep.TheVariants.{Taken, NotTaken, Target}
use Rattle.rv_decode.specs.contracts.ends.PathStepPartialEq.TheImpl.{eq-value}

step_decides : (a b : PathStep) → Decides (eq-value.it a b) (a ≡ b)
step_decides Taken Taken = (λ _. refl, λ _. refl)
step_decides Taken NotTaken = (λ e. cc, λ e. cc)
step_decides Taken (Target t) = (λ e. cc, λ e. cc)
step_decides NotTaken Taken = (λ e. cc, λ e. cc)
step_decides NotTaken NotTaken = (λ _. refl, λ _. refl)
step_decides NotTaken (Target t) = (λ e. cc, λ e. cc)
step_decides (Target t) Taken = (λ e. cc, λ e. cc)
step_decides (Target t) NotTaken = (λ e. cc, λ e. cc)
step_decides (Target t) (Target u) =
    let d = Decides-eqb t u in
    (λ e. ap Target (d.0 e), λ e. d.1 (cc))

pub paths_decide : (xs ys : List PathStep) (r : Bool) → r ≡ pointwise eq-value.it xs ys → Decides r (xs ≡ ys)
paths_decide xs ys r is = slice_eq-Decides step_decides xs ys r is
