-- Tests of what a run stands for, and what is the same where there are bytes.
use Rattle.std.proofs.Common.{◌≡◌, ℕ, Bool, true, false, ◌&&◌, refl, ap, rules}
use Rattle.std.specs.Prelude.{◌==◌, not}
use Rattle.rv_spec.specs.Arithmetic.{one_where}

pub all_true : (a b : Bool) → a ≡ true → b ≡ true → (a && b) ≡ true
all_true a b h k = cc (h, k)

pub not_true : (b : Bool) → not b ≡ true → b ≡ false
not_true true h = cc
not_true false h = refl

pub not_false : (b : Bool) → not b ≡ false → b ≡ true
not_false true h = refl
not_false false h = cc

pub and-assoc : (a b c : Bool) → (a && (b && c)) ≡ ((a && b) && c)
and-assoc true b c = refl
and-assoc false b c = refl

-- one more that is to be true
pub and_last : (a b c : Bool) → (a && (b && (c && true))) ≡ ((a && b) && c)
and_last true true true = refl
and_last true true false = refl
and_last true false c = refl
and_last false b c = refl

-- what is the same where there are bytes
pub by_bytes : (b h one test : Bool) → (b ≡ true → one ≡ test) → (b && (h && one)) ≡ ((b && h) && test)
by_bytes true h one test is = ap (λ x. h && x) (is refl)
by_bytes false h one test is = refl

pub one_is : (b : Bool) → (one_where b == 1) ≡ b
one_is true = refl
one_is false = refl

pub same : (n m : ℕ) → n ≡ m → (n == m) ≡ true
same n m is = search (rules, is)

pub equals : (n m : ℕ) → (n == m) ≡ true → n ≡ m
equals n m is = search (rules, is)
