-- The input bytes of a circuit: a term makes at most one, of eight literals, and the others stay as they are.
use Rattle.std.proofs.Common.{◌≡◌, ℕ, zero, suc, ◌⊎◌, Bool, List, [], ◌∷◌, length, set, map, replicate, fold, Option, Some, None, refl, ap, sym, ◌∙◌, arith, inl, inr}
use Rattle.std.specs.Prelude.{slice_index, slice_index_or}
use Rattle.std.proofs.lemmas.Bool.{cases_eq, cases_lt}
use Rattle.std.proofs.lemmas.List.{length-set, get_or_past, get_or-set_same, get_or-set_other, take_all}
use Rattle.cnf_form.specs.Literals.{Literal}
use Rattle.bv_dag.specs.declared.nodes.Node.{Node}
use Rattle.bv_dag.specs.declared.nodes.Node.TheVariants.{Num, Input, Not, Neg, Binary, Compare, Ite, Extract, Extend, Concat}
use Rattle.circuit_spec.specs.Formulas.{Formula, with_variable}
use Rattle.circuit_spec.specs.Bytes.{number_of_row, input_byte}
use Rattle.circuit_spec.specs.Rows.{fresh_row}
use Rattle.circuit_spec.specs.Circuits.{Circuit, with_input, circuit_with}

abbrev pub Inputs : Type 0
Inputs = List (Option (List Literal))

-- the literals of an input byte, if it has occurred
abbrev pub input_at : Inputs → ℕ → Option (List Literal)
input_at inputs i = slice_index_or inputs i None

-- the input bytes of one circuit are those of a later one
pub record AreKept (before after : Inputs) : Type 0 where
  pub each : (i : ℕ) (row : List Literal) → input_at before i ≡ Some row → input_at after i ≡ Some row

-- each input byte that has occurred has eight literals
pub record AreBytes (inputs : Inputs) : Type 0 where
  pub each : (i : ℕ) (row : List Literal) → input_at inputs i ≡ Some row → length row ≡ 8

pub length_fresh : (w : ℕ) (f : Formula) → length (fresh_row w f).0 ≡ w
unfolding fresh_row
length_fresh zero f = refl
length_fresh (suc w) f = ap suc (length_fresh w (with_variable f))

unequal : (row : List Literal) → None ≡ Some row → ⊥
unequal row e = cc

same_row : (a b : List Literal) → Some a ≡ Some b → a ≡ b
same_row a b e = cc

-- what an input is after another has been given its row
pub set_cases : (inputs : Inputs) (i j : ℕ) (a row : List Literal) → input_at (set inputs i (Some a)) j ≡ Some row → ((j ≡ i) × (a ≡ row)) ⊎ (input_at inputs j ≡ Some row)
set_cases inputs i j a row is = elim (cases_eq j i) [
  | inl e ↦
      elim (cases_lt i (length inputs)) [
        | inl l ↦ inl (e, same_row a row (sym (ap (input_at (set inputs i (Some a))) e ∙ get_or-set_same inputs i (Some a) None l) ∙ is))
        | inr l ↦ absurd (unequal row (sym (get_or_past (set inputs i (Some a)) j None (omega (arith, l, e, length-set inputs i (Some a)))) ∙ is))
      ]
  | inr n ↦ inr (sym (get_or-set_other inputs i j (Some a) None n) ∙ is)
]

new_kept : (inputs : Inputs) (i : ℕ) (row : List Literal) → input_at inputs i ≡ None → AreKept inputs (set inputs i (Some row))
new_kept inputs i row none = record {
  each = λ k old is. elim (cases_eq k i) [
    | inl same ↦ absurd (unequal old (sym (ap (input_at inputs) same ∙ none) ∙ is))
    | inr other ↦ get_or-set_other inputs i k (Some row) None other ∙ is
  ];
}

new_bytes : (inputs : Inputs) (i : ℕ) (row : List Literal) → AreBytes inputs → length row ≡ 8 → AreBytes (set inputs i (Some row))
new_bytes inputs i row bytes eight = record {
  each = λ k old is. elim (set_cases inputs i k row old is) [
    | inl new ↦ ap length (sym new.1) ∙ eight
    | inr other ↦ bytes.each k old other
  ];
}

-- What holds of the inputs holds after a term too, if it still holds where one more has occurred.
input_case : (P : Inputs → Type 0) (c : Circuit) (i : ℕ) (o : Option (List Literal)) → input_at c.inputs i ≡ o → P c.inputs → (input_at c.inputs i ≡ None → P (set c.inputs i (Some (fresh_row 8 c.formula).0))) → P (with_input o c i).inputs
input_case P c i None is old new = new is
input_case P c i (Some row) is old new = old

node_case : (P : Inputs → Type 0) (c : Circuit) (n : Node) → P c.inputs → ((i : ℕ) → input_at c.inputs i ≡ None → P (set c.inputs i (Some (fresh_row 8 c.formula).0))) → P (circuit_with c n).inputs
unfolding circuit_with
node_case P c (Num w m) old new = old
node_case P c (Input i) old new = input_case P c i (input_at c.inputs i) refl old (new i)
node_case P c (Not a) old new = old
node_case P c (Neg a) old new = old
node_case P c (Binary op a b) old new = old
node_case P c (Compare op a b) old new = old
node_case P c (Ite t a b) old new = old
node_case P c (Extract high low a) old new = old
node_case P c (Extend by signed a) old new = old
node_case P c (Concat high low) old new = old

-- a term keeps the input bytes that have occurred, their number, and that each has eight literals
node_kept : (c : Circuit) (n : Node) → AreKept c.inputs (circuit_with c n).inputs
node_kept c n = node_case (AreKept c.inputs) c n (record { each = λ i row is. is }) (λ i none. new_kept c.inputs i (fresh_row 8 c.formula).0 none)

pub node_count : (c : Circuit) (n : Node) → length (circuit_with c n).inputs ≡ length c.inputs
node_count c n = node_case (λ inputs. length inputs ≡ length c.inputs) c n refl (λ i none. length-set c.inputs i (Some (fresh_row 8 c.formula).0))

pub node_bytes : (c : Circuit) (n : Node) → AreBytes c.inputs → AreBytes (circuit_with c n).inputs
node_bytes c n bytes = node_case AreBytes c n bytes (λ i none. new_bytes c.inputs i (fresh_row 8 c.formula).0 bytes (length_fresh 8 c.formula))

pub nodes_kept : (nodes : List Node) (c : Circuit) → AreKept c.inputs (fold circuit_with c nodes).inputs
nodes_kept [] c = record { each = λ i row is. is }
nodes_kept (n ∷ nodes) c = record { each = λ i row is. (nodes_kept nodes (circuit_with c n)).each i row ((node_kept c n).each i row is) }

pub nodes_count : (nodes : List Node) (c : Circuit) → length (fold circuit_with c nodes).inputs ≡ length c.inputs
nodes_count [] c = refl
nodes_count (n ∷ nodes) c = nodes_count nodes (circuit_with c n) ∙ node_count c n

pub nodes_bytes : (nodes : List Node) (c : Circuit) → AreBytes c.inputs → AreBytes (fold circuit_with c nodes).inputs
nodes_bytes [] c bytes = bytes
nodes_bytes (n ∷ nodes) c bytes = nodes_bytes nodes (circuit_with c n) (node_bytes c n bytes)

-- none has occurred at first
none_yet : (n i : ℕ) → input_at (replicate n None) i ≡ None
none_yet zero i = refl
none_yet (suc n) zero = refl
none_yet (suc n) (suc i) = none_yet n i

pub none_occurs : (n i : ℕ) (row : List Literal) → input_at (replicate n None) i ≡ Some row → ⊥
none_occurs n i row is = unequal row (sym (none_yet n i) ∙ is)

pub no_bytes : (n : ℕ) → AreBytes (replicate n None)
no_bytes n = record { each = λ i row is. absurd (none_occurs n i row is) }

-- the bytes that inputs mean
abbrev pub bytes_in : (ℕ → Bool) → Inputs → List ℕ
bytes_in v inputs = map (input_byte v) inputs

byte_at : (v : ℕ → Bool) (inputs : Inputs) (i : ℕ) → slice_index (bytes_in v inputs) i ≡ input_byte v (input_at inputs i)
byte_at v [] i = refl
byte_at v (o ∷ inputs) zero = refl
byte_at v (o ∷ inputs) (suc i) = byte_at v inputs i

pub byte_is : (v : ℕ → Bool) (inputs : Inputs) (i : ℕ) (row : List Literal) → length row ≡ 8 → input_at inputs i ≡ Some row → slice_index (bytes_in v inputs) i ≡ number_of_row v row
byte_is v inputs i row eight is = byte_at v inputs i ∙ ap (input_byte v) is ∙ ap (number_of_row v) (take_all 8 row (omega arith))
