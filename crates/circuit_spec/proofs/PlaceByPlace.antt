-- What a gate at each place of two rows makes of their numbers: what the standard does bit by bit, and its choice.
use Rattle.std.proofs.Common.{◌≡◌, ℕ, zero, suc, ◌+◌, ◌-◌, ◌*◌, ◌%◌, ◌^◌, ◌<◌, ◌≤◌, min, max, Bool, true, false, ◌&&◌, ◌||◌, if◌then◌else◌, List, [], ◌∷◌, length, replicate, refl, ap, sym, ◌∙◌, arith}
use Rattle.std.specs.Int.Bits.{bit_and, bit_or, bit_xor}
use Rattle.std.specs.Int.{bit_at}
use Rattle.std.proofs.Math.Nat.{mod-eq_of_lt}
use Rattle.std.proofs.lemmas.List.{length-replicate}
use Rattle.std.proofs.lemmas.Nat.{and_mask}
use Rattle.std.proofs.lemmas.Nat.Bits.{bit_at_lowest, bit_at-suc, bit_at_and, bit_at_or, bit_at_xor, same_from_bits}
use Rattle.cnf_form.specs.Literals.{Literal}
use Rattle.cnf_form.specs.Valuations.{literal_value}
use Rattle.bv_dag.specs.BitVectors.{bvand, bvor, bvxor, ite}
use Rattle.circuit_spec.specs.Bytes.{bit_of, number_of_row}
use Rattle.circuit_spec.specs.Formulas.{Formula}
use Rattle.circuit_spec.specs.Gates.{and_gate, or_gate, xor_gate, mux_gate}
use Rattle.circuit_spec.specs.Rows.{each}
use Rattle.circuit_spec.specs.Circuits.{lowest_of}
use Rattle.circuit_spec.specs.Meaning.{is_xor, row_value}
use Rattle.circuit_spec.proofs.EarlierClauses.{Holds, and_before, or_before, xor_before, mux_before, each_before}
use Rattle.circuit_spec.proofs.GateValues.{and_says, or_says, xor_says, mux_says}
use Rattle.circuit_spec.proofs.Numbers.{bit_small, half_of, number_nil, number_cons, number_below, number_falses, number_trues}
use Rattle.circuit_spec.proofs.Words.{word, one_bit_number}

-- a gate of two literals that has the value of a function of theirs
record Says (v : ℕ → Bool) (g : Literal → Literal → Formula → Literal × Formula) (op : Bool → Bool → Bool) : Type 0 where
  before : (a b : Literal) (f : Formula) → Holds v (g a b f).1 → Holds v f
  value : (a b : Literal) (f : Formula) → Holds v (g a b f).1 → literal_value v (g a b f).0 ≡ op (literal_value v a) (literal_value v b)

-- a function of two numbers that is another one at each of their bits
record IsByBits (op : Bool → Bool → Bool) (F : ℕ → ℕ → ℕ) : Type 0 where
  none : F 0 0 ≡ 0
  more : (x y : Bool) (m n : ℕ) → F (bit_of x + 2 * m) (bit_of y + 2 * n) ≡ bit_of (op x y) + 2 * F m n

pub length_each : (g : Literal → Literal → Formula → Literal × Formula) (a b : List Literal) (f : Formula) → length a ≡ length b → length (each g a b f).0 ≡ length a
unfolding each
length_each g [] b f same = refl
length_each g (x ∷ a) [] f same = absurd (omega arith)
length_each g (x ∷ a) (y ∷ b) f same = ap suc (length_each g a b (g x y f).1 (omega arith))

each_says : (v : ℕ → Bool) (g : Literal → Literal → Formula → Literal × Formula) (op : Bool → Bool → Bool) (F : ℕ → ℕ → ℕ) → Says v g op → IsByBits op F
    → (a b : List Literal) (f : Formula) → length a ≡ length b → Holds v (each g a b f).1 → number_of_row v (each g a b f).0 ≡ F (number_of_row v a) (number_of_row v b)
unfolding each
each_says v g op F says bits [] [] f same h = rw (number_nil v) (sym bits.none)
each_says v g op F says bits [] (y ∷ b) f same h = absurd (omega arith)
each_says v g op F says bits (x ∷ a) [] f same h = absurd (omega arith)
each_says v g op F says bits (x ∷ a) (y ∷ b) f same h =
    let o : Literal × Formula = g x y f in
    number_cons v o.0 (each g a b o.1).0
    ∙ ap (λ m. bit_of (literal_value v o.0) + 2 * m) (each_says v g op F says bits a b o.1 (omega arith) h)
    ∙ ap (λ (t : Bool). bit_of t + 2 * F (number_of_row v a) (number_of_row v b)) (says.value x y f (each_before v g says.before a b o.1 h))
    ∙ sym (rw (number_cons v x a, number_cons v y b) (bits.more (literal_value v x) (literal_value v y) (number_of_row v a) (number_of_row v b)))

-- bit by bit
lowest_bit : (x : Bool) (m : ℕ) → bit_at (bit_of x + 2 * m) 0 ≡ bit_of x
lowest_bit x m =
    let small : bit_of x ≤ 1 = bit_small x in
    rw (bit_at_lowest (bit_of x + 2 * m)) (omega arith)

higher_bit : (x : Bool) (m i : ℕ) → bit_at (bit_of x + 2 * m) (suc i) ≡ bit_at m i
higher_bit x m i = bit_at-suc (bit_of x + 2 * m) i ∙ ap (λ k. bit_at k i) (half_of (bit_of x) m (bit_small x))

min_bit : (x y : Bool) → min (bit_of x) (bit_of y) ≡ bit_of (x && y)
min_bit true true = refl
min_bit true false = refl
min_bit false true = refl
min_bit false false = refl

max_bit : (x y : Bool) → max (bit_of x) (bit_of y) ≡ bit_of (x || y)
max_bit true true = refl
max_bit true false = refl
max_bit false true = refl
max_bit false false = refl

odd_bit : (x y : Bool) → (bit_of x + bit_of y) % 2 ≡ bit_of (is_xor x y)
odd_bit true true = refl
odd_bit true false = refl
odd_bit false true = refl
odd_bit false false = refl

by_bits : (op : Bool → Bool → Bool) (F : ℕ → ℕ → ℕ) (G : ℕ → ℕ → ℕ) → ((a b i : ℕ) → bit_at (F a b) i ≡ G (bit_at a i) (bit_at b i)) → ((x y : Bool) → G (bit_of x) (bit_of y) ≡ bit_of (op x y))
    → (x y : Bool) (m n i : ℕ) → bit_at (F (bit_of x + 2 * m) (bit_of y + 2 * n)) i ≡ bit_at (bit_of (op x y) + 2 * F m n) i
by_bits op F G at same x y m n zero =
    at (bit_of x + 2 * m) (bit_of y + 2 * n) 0 ∙ ap (λ s. G s (bit_at (bit_of y + 2 * n) 0)) (lowest_bit x m) ∙ ap (λ s. G (bit_of x) s) (lowest_bit y n)
    ∙ same x y ∙ sym (lowest_bit (op x y) (F m n))
by_bits op F G at same x y m n (suc i) =
    at (bit_of x + 2 * m) (bit_of y + 2 * n) (suc i) ∙ ap (λ s. G s (bit_at (bit_of y + 2 * n) (suc i))) (higher_bit x m i) ∙ ap (λ s. G (bit_at m i) s) (higher_bit y n i)
    ∙ sym (at m n i) ∙ sym (higher_bit (op x y) (F m n) i)

and_by_bits : IsByBits (λ a b. a && b) bit_and
and_by_bits = record { none = refl; more = λ x y m n. same_from_bits _ _ (by_bits (λ a b. a && b) bit_and min bit_at_and min_bit x y m n) }

or_by_bits : IsByBits (λ a b. a || b) bit_or
or_by_bits = record { none = refl; more = λ x y m n. same_from_bits _ _ (by_bits (λ a b. a || b) bit_or max bit_at_or max_bit x y m n) }

xor_by_bits : IsByBits is_xor bit_xor
xor_by_bits = record { none = refl; more = λ x y m n. same_from_bits _ _ (by_bits is_xor bit_xor (λ s t. (s + t) % 2) bit_at_xor odd_bit x y m n) }

-- a choice of two numbers is one at each bit
choice_more : (c x y : Bool) (m n : ℕ) → (if c then bit_of x + 2 * m else bit_of y + 2 * n) ≡ bit_of (if c then x else y) + 2 * (if c then m else n)
choice_more true x y m n = refl
choice_more false x y m n = refl

choice_same : (c : Bool) (m : ℕ) → (if c then m else m) ≡ m
choice_same true m = refl
choice_same false m = refl

choice_by_bits : (c : Bool) → IsByBits (λ a b. if c then a else b) (λ m n. if c then m else n)
choice_by_bits c = record { none = choice_same c 0; more = choice_more c }

and_row_number : (v : ℕ → Bool) (a b : List Literal) (f : Formula) → length a ≡ length b → Holds v (each and_gate a b f).1 → number_of_row v (each and_gate a b f).0 ≡ bit_and (number_of_row v a) (number_of_row v b)
and_row_number v a b f same h = each_says v and_gate (λ a b. a && b) bit_and (record { before = and_before v; value = and_says v }) and_by_bits a b f same h

pub choice_row_number : (v : ℕ → Bool) (c : Literal) (a b : List Literal) (f : Formula) → length a ≡ length b → Holds v (each (mux_gate c) a b f).1
    → number_of_row v (each (mux_gate c) a b f).0 ≡ (if literal_value v c then number_of_row v a else number_of_row v b)
choice_row_number v c a b f same h =
    each_says v (mux_gate c) (λ a b. if literal_value v c then a else b) (λ m n. if literal_value v c then m else n) (record { before = mux_before v c; value = mux_says v c }) (choice_by_bits (literal_value v c)) a b f same h

-- a row of which each place is taken with one literal: the number, or 0
with_copies : (v : ℕ → Bool) (b : Literal) (m n : ℕ) (t : Bool) → m < 2 ^ n → literal_value v b ≡ t → bit_and m (number_of_row v (replicate n b)) ≡ (if t then m else 0)
with_copies v b m n true small is =
    let ones : number_of_row v (replicate n b) ≡ 2 ^ n - 1 = omega (arith, number_trues v n b is) in
    ap (bit_and m) ones ∙ and_mask m n ∙ mod-eq_of_lt small
with_copies v b m n false small is = ap (bit_and m) (number_falses v n b is) ∙ and_mask m 0 ∙ omega arith

pub masked_row_number : (v : ℕ → Bool) (b : Literal) (a : List Literal) (n : ℕ) (f : Formula) → length a ≡ n → Holds v (each and_gate a (replicate n b) f).1
    → number_of_row v (each and_gate a (replicate n b) f).0 ≡ (if literal_value v b then number_of_row v a else 0)
masked_row_number v b a n f long h =
    and_row_number v a (replicate n b) f (long ∙ sym (length-replicate n b)) h ∙ with_copies v b (number_of_row v a) n (literal_value v b) (number_below v a n long) refl

-- so these rows are the standard's
pub and_row_means : (v : ℕ → Bool) (a b : List Literal) (f : Formula) → length a ≡ length b → Holds v (each and_gate a b f).1 → row_value v (each and_gate a b f).0 ≡ bvand (row_value v a) (row_value v b)
unfolding bvand
and_row_means v a b f same h = word _ _ _ _ (length_each and_gate a b f same) (and_row_number v a b f same h)

pub or_row_means : (v : ℕ → Bool) (a b : List Literal) (f : Formula) → length a ≡ length b → Holds v (each or_gate a b f).1 → row_value v (each or_gate a b f).0 ≡ bvor (row_value v a) (row_value v b)
unfolding bvor
or_row_means v a b f same h =
    word _ _ _ _ (length_each or_gate a b f same) (each_says v or_gate (λ a b. a || b) bit_or (record { before = or_before v; value = or_says v }) or_by_bits a b f same h)

pub xor_row_means : (v : ℕ → Bool) (a b : List Literal) (f : Formula) → length a ≡ length b → Holds v (each xor_gate a b f).1 → row_value v (each xor_gate a b f).0 ≡ bvxor (row_value v a) (row_value v b)
unfolding bvxor
xor_row_means v a b f same h =
    word _ _ _ _ (length_each xor_gate a b f same) (each_says v xor_gate is_xor bit_xor (record { before = xor_before v; value = xor_says v }) xor_by_bits a b f same h)

pub ite_means : (v : ℕ → Bool) (t a b : List Literal) (f : Formula) → length t ≡ 1 → length a ≡ length b → Holds v (each (mux_gate (lowest_of t)) a b f).1
    → row_value v (each (mux_gate (lowest_of t)) a b f).0 ≡ ite (row_value v t) (row_value v a) (row_value v b)
unfolding ite
ite_means v t a b f one same h =
    word _ _ _ _ (length_each (mux_gate (lowest_of t)) a b f same)
    (choice_row_number v (lowest_of t) a b f same h ∙ ap (λ (k : Bool). if k then number_of_row v a else number_of_row v b) (one_bit_number v t one))
