-- A list is one of bytes just where each of its elements is a byte.
use Rattle.std.proofs.Common.{◌≡◌, ℕ, ◌<◌, true, nat_lt, List, [], ◌∷◌, refl}
use Rattle.std.specs.Prelude.{All}
use Rattle.std.proofs.lemmas.Bool.{and_from, and_parts, lt-ltb, ltb-true}
use Rattle.std.proofs.lemmas.List.Elements.{All-nil, All-cons, All-head, All-tail}
use Rattle.fork_spec.specs.Leaves.{are_bytes}

pub are_bytes-each : (input : List ℕ) → are_bytes input ≡ true → All (λ b. b < 256) input
are_bytes-each [] is = All-nil (λ b. b < 256)
are_bytes-each (b ∷ bs) is =
    let parts : (nat_lt b 256 ≡ true) × (are_bytes bs ≡ true) = and_parts _ _ is in
    All-cons (λ n. n < 256) b bs (ltb-true b 256 parts.0) (are_bytes-each bs parts.1)

pub are_bytes-of : (input : List ℕ) → All (λ b. b < 256) input → are_bytes input ≡ true
are_bytes-of [] all = refl
are_bytes-of (b ∷ bs) all =
    and_from _ _ (lt-ltb b 256 (All-head (λ n. n < 256) b bs all)) (are_bytes-of bs (All-tail (λ n. n < 256) b bs all))
