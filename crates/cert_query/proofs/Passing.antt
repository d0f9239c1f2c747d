-- Lists of which some were passed.
use Rattle.std.proofs.Common.{◌≡◌, ◌∙◌, ◌≤◌, List, [], ◌∷◌, ◌++◌, length, ap, sym, arith, append_assoc, length-append}

-- what is left is no longer
pub no_longer : {X : Type 0} (all before rest : List X) → all ≡ before ++ rest → length rest ≤ length all
no_longer all before rest passed = omega (arith, ap length passed, length-append before rest)

-- one more is passed
pub one_more : {X : Type 0} (all before rest : List X) (x : X) (more : List X) → all ≡ before ++ rest → rest ≡ x ∷ more → all ≡ (before ++ x ∷ []) ++ more
one_more all before rest x more passed next = passed ∙ ap (λ xs. before ++ xs) next ∙ sym (append_assoc before (x ∷ []) more)
