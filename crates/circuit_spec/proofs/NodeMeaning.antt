-- The row of a term is worth what the term is, given that those of its operands are.
use Rattle.std.proofs.Common.{◌≡◌, ℕ, ◌+◌, ◌<◌, ◌%◌, ◌^◌, Bool, true, false, List, [], ◌∷◌, ◌++◌, length, get_or, map, take, drop, replicate, refl, ap, sym, ◌∙◌}
use Rattle.std.proofs.Math.Nat.{mod-eq_of_lt}
use Rattle.cnf_form.specs.Literals.{Literal}
use Rattle.bv_dag.specs.BitVectors.{BitVector, IsBitVector, bvnot, bvneg, ite, extract, concat}
use Rattle.bv_dag.specs.Nodes.{binary, compare, extend, Fits, vector_at, width}
use Rattle.bv_dag.specs.declared.nodes.BinaryOp.{BinaryOp}
use Rattle.bv_dag.specs.declared.nodes.BinaryOp.TheVariants.{Add, Sub, Mul, Udiv, Urem, And, Or, Xor, Shl, Lshr, Ashr}
use Rattle.bv_dag.specs.declared.nodes.Comparison.{Comparison}
use Rattle.bv_dag.specs.declared.nodes.Comparison.TheVariants.{Ult, Slt, Eq}
use Rattle.bv_dag.specs.declared.nodes.Node.TheVariants.{Binary, Compare, Ite, Extract, Extend}
use Rattle.circuit_spec.specs.Formulas.{Formula}
use Rattle.circuit_spec.specs.Rows.{negations, number_row, neg_row, each}
use Rattle.circuit_spec.specs.Gates.{mux_gate}
use Rattle.circuit_spec.specs.Circuits.{row_at, lowest_of, extension_of, binary_row, compare_gate}
use Rattle.circuit_spec.specs.Meaning.{row_value}
use Rattle.circuit_spec.proofs.EarlierClauses.{Holds}
use Rattle.circuit_spec.proofs.SumMeaning.{add_means, sub_means, neg_means}
use Rattle.circuit_spec.proofs.ProductValues.{mul_means}
use Rattle.circuit_spec.proofs.QuotientValues.{udiv_means, urem_means}
use Rattle.circuit_spec.proofs.SliceMeaning.{number_means, not_means, extract_means, zero_extend_means, sign_extend_means, concat_means}
use Rattle.circuit_spec.proofs.Words.{word, words_of, row_word, row_width}
use Rattle.circuit_spec.proofs.PlaceByPlace.{and_row_means, or_row_means, xor_row_means, ite_means}
use Rattle.circuit_spec.proofs.ComparisonMeaning.{ult_row_means, slt_row_means, equal_row_means}
use Rattle.circuit_spec.proofs.ShiftMeaning.{shl_means, lshr_means, ashr_means}

pub binary_means : (v : ℕ → Bool) (op : BinaryOp) (a b : List Literal) (f : Formula) → v 1 ≡ true → 0 < length a → length a ≡ length b → Holds v (binary_row op a b f).1
    → row_value v (binary_row op a b f).0 ≡ binary op (row_value v a) (row_value v b)
unfolding binary_row
binary_means v Add a b f truth some same h = add_means v a b f truth same h
binary_means v Sub a b f truth some same h = sub_means v a b f truth same h
binary_means v Mul a b f truth some same h = mul_means v a b f truth same h
binary_means v Udiv a b f truth some same h = udiv_means v a b f truth same h
binary_means v Urem a b f truth some same h = urem_means v a b f truth same h
binary_means v And a b f truth some same h = and_row_means v a b f same h
binary_means v Or a b f truth some same h = or_row_means v a b f same h
binary_means v Xor a b f truth some same h = xor_row_means v a b f same h
binary_means v Shl a b f truth some same h = shl_means v a b f truth h
binary_means v Lshr a b f truth some same h = lshr_means v a b f truth h
binary_means v Ashr a b f truth some same h = ashr_means v a b f truth some h

pub compare_means : (v : ℕ → Bool) (op : Comparison) (a b : List Literal) (f : Formula) → v 1 ≡ true → 0 < length a → length a ≡ length b → Holds v (compare_gate op a b f).1
    → row_value v ((compare_gate op a b f).0 ∷ []) ≡ compare op (row_value v a) (row_value v b)
unfolding compare_gate
compare_means v Ult a b f truth some same h = ult_row_means v a b f truth same h
compare_means v Slt a b f truth some same h = slt_row_means v a b f truth some same h
compare_means v Eq a b f truth some same h = equal_row_means v a b f truth same h

pub extend_means : (v : ℕ → Bool) (by : ℕ) (signed : Bool) (a : List Literal) → v 1 ≡ true → 0 < length a → row_value v (a ++ replicate by (extension_of signed a)) ≡ extend signed by (row_value v a)
extend_means v by true a truth some = sign_extend_means v by a some
extend_means v by false a truth some = zero_extend_means v by a truth

-- each kind of term
pub num_means : (v : ℕ → Bool) (w n : ℕ) → v 1 ≡ true → IsBitVector w n → row_value v (number_row w n) ≡ record { width = w; number = n }
num_means v w n truth fits = number_means v w n truth ∙ word w w (n % 2 ^ w) n refl (mod-eq_of_lt fits.in_range)

pub not_term : (v : ℕ → Bool) (rows : List (List Literal)) (a : ℕ) → row_value v (negations (row_at rows a)) ≡ bvnot (vector_at (words_of v rows) a)
not_term v rows a = not_means v (row_at rows a) ∙ ap bvnot (row_word v rows a)

pub neg_term : (v : ℕ → Bool) (rows : List (List Literal)) (a : ℕ) (f : Formula) → v 1 ≡ true → Holds v (neg_row (row_at rows a) f).1 → row_value v (neg_row (row_at rows a) f).0 ≡ bvneg (vector_at (words_of v rows) a)
neg_term v rows a f truth h = neg_means v (row_at rows a) f truth h ∙ ap bvneg (row_word v rows a)

both_words : (v : ℕ → Bool) (rows : List (List Literal)) (g : BitVector → BitVector → BitVector) (a b : ℕ) → g (row_value v (row_at rows a)) (row_value v (row_at rows b)) ≡ g (vector_at (words_of v rows) a) (vector_at (words_of v rows) b)
both_words v rows g a b = ap (λ (s : BitVector). g s (row_value v (row_at rows b))) (row_word v rows a) ∙ ap (λ (t : BitVector). g (vector_at (words_of v rows) a) t) (row_word v rows b)

-- what `Fits` says of two operands
wide : (v : ℕ → Bool) (rows : List (List Literal)) (a : ℕ) → 0 < get_or (map width (words_of v rows)) a 0 → 0 < length (row_at rows a)
wide v rows a some = rw (row_width v rows a) some

alike : (v : ℕ → Bool) (rows : List (List Literal)) (a b : ℕ) → get_or (map width (words_of v rows)) a 0 ≡ get_or (map width (words_of v rows)) b 0 → length (row_at rows a) ≡ length (row_at rows b)
alike v rows a b same = row_width v rows a ∙ same ∙ sym (row_width v rows b)

pub binary_term : (v : ℕ → Bool) (rows : List (List Literal)) (inputs : ℕ) (op : BinaryOp) (a b : ℕ) (f : Formula) → v 1 ≡ true → Fits inputs (map width (words_of v rows)) (Binary op a b)
    → Holds v (binary_row op (row_at rows a) (row_at rows b) f).1 → row_value v (binary_row op (row_at rows a) (row_at rows b) f).0 ≡ binary op (vector_at (words_of v rows) a) (vector_at (words_of v rows) b)
binary_term v rows inputs op a b f truth fits h =
    binary_means v op (row_at rows a) (row_at rows b) f truth (wide v rows a fits.0) (alike v rows a b fits.1) h ∙ both_words v rows (binary op) a b

pub compare_term : (v : ℕ → Bool) (rows : List (List Literal)) (inputs : ℕ) (op : Comparison) (a b : ℕ) (f : Formula) → v 1 ≡ true → Fits inputs (map width (words_of v rows)) (Compare op a b)
    → Holds v (compare_gate op (row_at rows a) (row_at rows b) f).1 → row_value v ((compare_gate op (row_at rows a) (row_at rows b) f).0 ∷ []) ≡ compare op (vector_at (words_of v rows) a) (vector_at (words_of v rows) b)
compare_term v rows inputs op a b f truth fits h =
    compare_means v op (row_at rows a) (row_at rows b) f truth (wide v rows a fits.0) (alike v rows a b fits.1) h ∙ both_words v rows (compare op) a b

pub ite_term : (v : ℕ → Bool) (rows : List (List Literal)) (inputs : ℕ) (t a b : ℕ) (f : Formula) → Fits inputs (map width (words_of v rows)) (Ite t a b)
    → Holds v (each (mux_gate (lowest_of (row_at rows t))) (row_at rows a) (row_at rows b) f).1
    → row_value v (each (mux_gate (lowest_of (row_at rows t))) (row_at rows a) (row_at rows b) f).0 ≡ ite (vector_at (words_of v rows) t) (vector_at (words_of v rows) a) (vector_at (words_of v rows) b)
ite_term v rows inputs t a b f fits h =
    ite_means v (row_at rows t) (row_at rows a) (row_at rows b) f (row_width v rows t ∙ fits.0) (alike v rows a b fits.2) h
    ∙ both_words v rows (ite (row_value v (row_at rows t))) a b
    ∙ ap (λ (s : BitVector). ite s (vector_at (words_of v rows) a) (vector_at (words_of v rows) b)) (row_word v rows t)

pub extract_term : (v : ℕ → Bool) (rows : List (List Literal)) (inputs high low a : ℕ) → Fits inputs (map width (words_of v rows)) (Extract high low a)
    → row_value v (drop low (take (high + 1) (row_at rows a))) ≡ extract high low (vector_at (words_of v rows) a)
extract_term v rows inputs high low a fits =
    extract_means v high low (row_at rows a) fits.0 (rw (row_width v rows a) fits.1) ∙ ap (extract high low) (row_word v rows a)

pub extend_term : (v : ℕ → Bool) (rows : List (List Literal)) (inputs by : ℕ) (signed : Bool) (a : ℕ) → v 1 ≡ true → Fits inputs (map width (words_of v rows)) (Extend by signed a)
    → row_value v (row_at rows a ++ replicate by (extension_of signed (row_at rows a))) ≡ extend signed by (vector_at (words_of v rows) a)
extend_term v rows inputs by signed a truth fits =
    extend_means v by signed (row_at rows a) truth (wide v rows a fits.0) ∙ ap (extend signed by) (row_word v rows a)

pub concat_term : (v : ℕ → Bool) (rows : List (List Literal)) (high low : ℕ) → row_value v (row_at rows low ++ row_at rows high) ≡ concat (vector_at (words_of v rows) high) (vector_at (words_of v rows) low)
concat_term v rows high low = concat_means v (row_at rows high) (row_at rows low) ∙ both_words v rows concat high low
