-- Runs that decide alike have the same terms.
use Rattle.std.proofs.Common.{◌≡◌, ℕ, zero, suc, ◌<◌, List, refl, ap, ◌∙◌, arith}
use Rattle.elf_load.specs.Images.{Image}
use Rattle.elf_load.specs.declared.region.Region.{Region}
use Rattle.fork_spec.specs.Decisions.{step_decisions}
use Rattle.rv_spec.specs.Runs.{run}
use Rattle.sym_state.specs.Unfolding.{next_unfolded, unfolded_run}

pub same_terms : (image : Image) (regions : List Region) (a b : List ℕ) (steps : ℕ)
    → ((k : ℕ) → k < steps → step_decisions (run image regions a k).state ≡ step_decisions (run image regions b k).state)
    → unfolded_run image regions a steps ≡ unfolded_run image regions b steps
unfolding unfolded_run
same_terms image regions a b zero alike = refl
same_terms image regions a b (suc most) alike =
    ap (λ u. next_unfolded u (step_decisions (run image regions a most).state))
    (same_terms image regions a b most (λ k below. alike k (omega (arith, below))))
    ∙ ap (next_unfolded (unfolded_run image regions b most)) (alike most (omega arith))
