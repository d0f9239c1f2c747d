-- What a term is worth on the sample of a run.
use Rattle.std.proofs.Common.{◌≡◌, ℕ, ◌<◌, arith, get_or, List, [], ◌∷◌, length, map}
use Rattle.bv_dag.specs.Graphs.{Graph, val}

-- the copy of the one term that was asked for
pub first_copied : (old new : Graph) (term d : ℕ) (copies input : List ℕ)
    → map (λ id. val new id input) copies ≡ map (λ id. val old id input) (term ∷ []) → val new (get_or copies 0 d) input ≡ val old term input
first_copied old new term d [] input is = absurd (cc is)
first_copied old new term d (c ∷ cs) input is = let first : val new c input ≡ val old term input = cc is in first

pub first_within : {A : Type 0} (f g : ℕ → A) (term : ℕ) (copies : List ℕ) → map f copies ≡ map g (term ∷ []) → 0 < length copies
first_within f g term [] is = absurd (cc is)
first_within f g term (c ∷ cs) is = omega arith
