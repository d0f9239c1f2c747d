-- What meets a condition meets any of its terms alone.
use Rattle.std.proofs.Common.{◌≡◌, ◌==◌, ℕ, zero, suc, Bool, true, List, [], ◌∷◌, refl}
use Rattle.std.specs.Prelude.{take, drop}
use Rattle.std.specs.List.{list_all}
use Rattle.std.proofs.lemmas.Bool.{and_parts, and_from}
use Rattle.bv_dag.specs.Graphs.{Graph, number_of}
use Rattle.bv_dag.specs.Queries.{holds}

all_of_take : {X : Type 0} (p : X → Bool) (n : ℕ) (xs : List X) → list_all p xs ≡ true → list_all p (take n xs) ≡ true
all_of_take p zero xs h = refl
all_of_take p (suc n) [] h = refl
all_of_take p (suc n) (x ∷ xs) h = let parts = and_parts _ _ h in and_from _ _ parts.0 (all_of_take p n xs parts.1)

all_of_drop : {X : Type 0} (p : X → Bool) (n : ℕ) (xs : List X) → list_all p xs ≡ true → list_all p (drop n xs) ≡ true
all_of_drop p zero xs h = h
all_of_drop p (suc n) [] h = refl
all_of_drop p (suc n) (x ∷ xs) h = all_of_drop p n xs (and_parts _ _ h).1

pub fewer_hold : (graph : Graph) (asserted : List ℕ) (before count : ℕ) (input : List ℕ) → holds (record { graph = graph; asserted = asserted }) input ≡ true
    → holds (record { graph = graph; asserted = take count (drop before asserted) }) input ≡ true
fewer_hold graph asserted before count input h =
    let one : ℕ → Bool = λ id. number_of graph id input == 1 in
    let parts = and_parts _ _ h in
    and_from _ _ parts.0 (all_of_take one count (drop before asserted) (all_of_drop one before asserted parts.1))
