-- The top literal of a row, and what it is worth.
use Rattle.std.proofs.Common.{◌≡◌, ℕ, suc, ◌+◌, ◌-◌, ◌*◌, ◌^◌, ◌<◌, nat_le, Bool, true, false, not, List, [], ◌∷◌, length, get_or, set, take, drop, ap, ◌∙◌, arith}
use Rattle.std.proofs.lemmas.Bool.{le-leb, lt-leb}
use Rattle.std.proofs.lemmas.List.{length-take-le, length-set, drop_more, drop_all, take-set-le, get_or-set_same}
use Rattle.cnf_form.specs.Literals.{Literal, negation}
use Rattle.cnf_form.specs.Valuations.{literal_value}
use Rattle.circuit_spec.specs.Bytes.{bit_of, number_of_row}
use Rattle.circuit_spec.specs.Formulas.{constant}
use Rattle.circuit_spec.specs.Rows.{top_of, with_top_negated}
use Rattle.circuit_spec.proofs.Truths.{value_not}
use Rattle.circuit_spec.proofs.Numbers.{number_one, number_below, number_split}

number_top : (v : ℕ → Bool) (a : List Literal) (k : ℕ) (d : Literal) → length a ≡ suc k → number_of_row v a ≡ number_of_row v (take k a) + 2 ^ k * bit_of (literal_value v (get_or a k d))
number_top v a k d is =
    let alone : drop k a ≡ get_or a k d ∷ [] = drop_more a k d (omega arith) ∙ ap (λ ls. get_or a k d ∷ ls) (drop_all (k + 1) a (omega arith)) in
    number_split v k a ∙ ap (λ n. number_of_row v (take k a) + 2 ^ k * n) (ap (number_of_row v) alone ∙ number_one v (get_or a k d))

number_put : (v : ℕ → Bool) (a : List Literal) (k : ℕ) (l : Literal) → length a ≡ suc k → number_of_row v (set a k l) ≡ number_of_row v (take k a) + 2 ^ k * bit_of (literal_value v l)
number_put v a k l is =
    number_top v (set a k l) k l (length-set a k l ∙ is)
    ∙ ap (λ ls. number_of_row v ls + 2 ^ k * bit_of (literal_value v (get_or (set a k l) k l))) (take-set-le k a k l (omega arith))
    ∙ ap (λ t. number_of_row v (take k a) + 2 ^ k * bit_of (literal_value v t)) (get_or-set_same a k l l (omega arith))

high_or_low : (low p n : ℕ) (t : Bool) → low < p → n ≡ low + p * bit_of t → nat_le p n ≡ t
high_or_low low p n true small is = le-leb p n (omega arith)
high_or_low low p n false small is = lt-leb p n (omega arith)

-- a row and its top literal
pub record Topped (v : ℕ → Bool) (a : List Literal) (p low : ℕ) : Type 0 where
  pub small : low < p
  pub number : number_of_row v a ≡ low + p * bit_of (literal_value v (top_of a))
  pub negated : number_of_row v (with_top_negated a) ≡ low + p * bit_of (not (literal_value v (top_of a)))
  pub sign : nat_le p (number_of_row v a) ≡ literal_value v (top_of a)

last_place : (n : ℕ) → 0 < n → n ≡ suc (n - 1)
last_place n some = omega arith

pub topped : (v : ℕ → Bool) (a : List Literal) → 0 < length a → Topped v a (2 ^ (length a - 1)) (number_of_row v (take (length a - 1) a))
topped v a some =
    let k : ℕ = length a - 1 in
    let is : length a ≡ suc k = last_place (length a) some in
    let small : number_of_row v (take k a) < 2 ^ k = number_below v (take k a) k (length-take-le k a (omega arith)) in
    let number : number_of_row v a ≡ number_of_row v (take k a) + 2 ^ k * bit_of (literal_value v (top_of a)) = number_top v a k (constant false) is in
    record {
      small = small;
      number = number;
      negated = number_put v a k (negation (top_of a)) is ∙ ap (λ (t : Bool). number_of_row v (take k a) + 2 ^ k * bit_of t) (value_not v (top_of a));
      sign = high_or_low (number_of_row v (take k a)) (2 ^ k) (number_of_row v a) (literal_value v (top_of a)) small number;
    }
