-- What the answer of a call says of what was taken, if anything was.
use Rattle.std.proofs.Common.{Option, Some, None, Result, Ok, Err, IfOk, ◌≡◌, true, false, sym}
use Rattle.std.specs.Prelude.{MatchOption, IfErr}
use Rattle.std.specs.Option.{is_some}
use Rattle.std.proofs.lemmas.Bool.{false≢true}

-- what one fact says
pub of_one : {X F E : Type 0} (P S : X → Type 0) (r : Result (Result X F) E) → ((x : X) → P x → S x) →
    IfOk r (λ taken. IfOk taken P) → IfOk r (λ taken. IfOk taken S)
of_one P S (Ok (Ok x)) means p = means x p
of_one P S (Ok (Err fault)) means p = tt
of_one P S (Err none) means p = tt

-- what three say together
pub of_each : {X F E : Type 0} (P Q R S : X → Type 0) (r : Result (Result X F) E) → ((x : X) → P x → Q x → R x → S x) →
    IfOk r (λ taken. IfOk taken P) → IfOk r (λ taken. IfOk taken Q) → IfOk r (λ taken. IfOk taken R) → IfOk r (λ taken. IfOk taken S)
of_each P Q R S (Ok (Ok x)) means p q r = means x p q r
of_each P Q R S (Ok (Err fault)) means p q r = tt
of_each P Q R S (Err none) means p q r = tt

-- what a fact on faults says
pub of_fault : {X F E : Type 0} (P S : F → Type 0) (r : Result (Result X F) E) → ((x : F) → P x → S x) →
    IfOk r (λ taken. IfErr taken P) → IfOk r (λ taken. IfErr taken S)
of_fault P S (Ok (Ok x)) means p = tt
of_fault P S (Ok (Err fault)) means p = means fault p
of_fault P S (Err none) means p = tt

-- what is there, and that nothing is
pub of_some : {X : Type 0} (P : Type 0) (Q : X → Type 0) (o : Option X) → true ≡ is_some o → MatchOption o P Q → (x : X) × Q x
of_some P Q (Some x) is h = (x, h)
of_some P Q None is h = absurd (false≢true (sym is))

pub of_none : {X : Type 0} (P : Type 0) (Q : X → Type 0) (o : Option X) → false ≡ is_some o → MatchOption o P Q → P
of_none P Q (Some x) is h = absurd (false≢true is)
of_none P Q None is h = h
