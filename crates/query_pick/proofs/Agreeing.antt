-- A condition that rests on one input byte at most holds just where it holds with zeros in place of the others. So where no value
-- of the byte meets it, no input does.
use Rattle.std.proofs.Common.{◌≡◌, ◌==◌, ℕ, ◌<◌, ◌≤◌, ◌⊎◌, inl, inr, Bool, true, false, List, length, replicate, refl, sym, subst, ◌∙◌, arith, slice_index, slice_set}
use Rattle.std.specs.Prelude.{All}
use Rattle.std.proofs.lemmas.Bool.{cases_lt}
use Rattle.std.proofs.lemmas.Bool.Decides.{Decides-eqb}
use Rattle.std.proofs.lemmas.List.{length-set, length-replicate, get_or-set_same, get_or_past}
use Rattle.std.proofs.lemmas.List.Elements.{All-contains}
use Rattle.bv_dag.specs.Inputs.{asserted_inputs, AgreeOn}
use Rattle.bv_dag.specs.Queries.{Condition, holds, IsUnsatisfiable}
use Rattle.bv_dag.proofs.Resting.{holds-agrees}
use Rattle.query_pick.specs.Occurring.{IsAlone}

-- the bytes with zeros in place of all but one
abbrev pub only : ℕ → List ℕ → ℕ → List ℕ
only count input place = slice_set (replicate count 0) place (slice_index input place)

by_place : (input : List ℕ) (count place : ℕ) → length input ≡ count → (place < count) ⊎ (count ≤ place) → slice_index input place ≡ slice_index (only count input place) place
by_place input count place long (inl within) = sym (get_or-set_same (replicate count 0) place (slice_index input place) 0 (rw (length-replicate {A = ℕ} count 0) within))
by_place input count place long (inr past) =
    get_or_past input place 0 (rw long past) ∙ sym (get_or_past (only count input place) place 0 (rw (length-set (replicate count 0) place (slice_index input place), length-replicate {A = ℕ} count 0) past))

pub same_holds : (q : Condition) (input : List ℕ) (place : ℕ) → IsAlone (asserted_inputs q) place → length input ≡ q.graph.inputs → holds q input ≡ holds q (only q.graph.inputs input place)
same_holds q input place alone long =
    let other : List ℕ = only q.graph.inputs input place in
    let also : length other ≡ q.graph.inputs = length-set (replicate q.graph.inputs 0) place (slice_index input place) ∙ length-replicate q.graph.inputs 0 in
    let here : slice_index input place ≡ slice_index other place = by_place input q.graph.inputs place long (cases_lt place q.graph.inputs) in
    let agree : AgreeOn input other (asserted_inputs q) = λ i is. subst (λ k. slice_index input k ≡ slice_index other k) (sym (All-contains (λ k. k ≡ place) (asserted_inputs q) i alone is)) here in
    holds-agrees q input other (long ∙ sym also) agree

byte_below : (input : List ℕ) (place : ℕ) → All (λ b. b < 256) input → (place < length input) ⊎ (length input ≤ place) → slice_index input place < 256
byte_below input place small (inl within) = small place 0 within
byte_below input place small (inr past) = rw (get_or_past input place 0 past) (omega arith)

by_length : (q : Condition) (input : List ℕ) (b : Bool) → (length input == q.graph.inputs) ≡ b → (length input ≡ q.graph.inputs → holds q input ≡ false) → holds q input ≡ false
by_length q input true long is = is ((Decides-eqb (length input) q.graph.inputs).0 long)
by_length q input false short is = rw short refl

pub none_holds : (q : Condition) (place : ℕ) → IsAlone (asserted_inputs q) place → ((b : ℕ) → b < 256 → holds q (slice_set (replicate q.graph.inputs 0) place b) ≡ false) → IsUnsatisfiable q
none_holds q place alone none input small =
    by_length q input (length input == q.graph.inputs) refl (λ long. same_holds q input place alone long ∙ none (slice_index input place) (byte_below input place small (cases_lt place (length input))))
