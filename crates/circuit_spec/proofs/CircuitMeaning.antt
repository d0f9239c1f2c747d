-- The rows of a circuit are worth what its terms are, on the bytes that its inputs are worth.
use Rattle.std.proofs.Common.{◌≡◌, ℕ, suc, ◌<◌, Bool, true, List, [], ◌∷◌, ◌++◌, length, map, take, fold, Option, Some, None, refl, ap, sym, subst, ◌∙◌}
use Rattle.std.specs.Prelude.{slice_index, slice_get}
use Rattle.std.proofs.lemmas.List.{map-append, get_or-set_same}
use Rattle.cnf_form.specs.Literals.{Literal}
use Rattle.bv_dag.specs.BitVectors.{BitVector}
use Rattle.bv_dag.specs.Nodes.{node_value, node_width, Fits, vector_at, width}
use Rattle.bv_dag.specs.declared.nodes.Node.{Node}
use Rattle.bv_dag.specs.declared.nodes.Node.TheVariants.{Num, Input, Not, Neg, Binary, Compare, Ite, Extract, Extend, Concat}
use Rattle.bv_dag.proofs.Values.{width-node_value}
use Rattle.circuit_spec.specs.Formulas.{Formula}
use Rattle.circuit_spec.specs.Bytes.{number_of_row}
use Rattle.circuit_spec.specs.Rows.{fresh_row}
use Rattle.circuit_spec.specs.Circuits.{Circuit, with_input, circuit_with}
use Rattle.circuit_spec.specs.Meaning.{row_value}
use Rattle.circuit_spec.proofs.EarlierClauses.{Holds, nodes_before}
use Rattle.circuit_spec.proofs.Words.{word, words_of}
use Rattle.circuit_spec.proofs.InputBytes.{Inputs, input_at, AreKept, AreBytes, length_fresh, nodes_kept, node_count, node_bytes, bytes_in, byte_is}
use Rattle.circuit_spec.proofs.NodeMeaning.{num_means, not_term, neg_term, binary_term, compare_term, ite_term, extract_term, extend_term, concat_term}

byte_row : (v : ℕ → Bool) (all : Inputs) (i : ℕ) (row : List Literal) → length row ≡ 8 → input_at all i ≡ Some row → row_value v row ≡ record { width = 8; number = slice_index (bytes_in v all) i }
byte_row v all i row eight is =
    word (length row) 8 (number_of_row v row) (slice_index (bytes_in v all) i) eight (sym (byte_is v all i row eight is))

-- one more term
pushed : (v : ℕ → Bool) (c : Circuit) (row : List Literal) (w : BitVector) → row_value v row ≡ w → words_of v (c.rows ++ row ∷ []) ≡ words_of v c.rows ++ w ∷ []
pushed v c row w is = map-append (row_value v) c.rows (row ∷ []) ∙ ap (λ (k : BitVector). words_of v c.rows ++ k ∷ []) is

input_pushed : (v : ℕ → Bool) (all : Inputs) (c : Circuit) (i : ℕ) (o : Option (List Literal)) → input_at c.inputs i ≡ o → AreBytes c.inputs → i < length c.inputs → AreKept (with_input o c i).inputs all
    → words_of v (with_input o c i).rows ≡ words_of v c.rows ++ record { width = 8; number = slice_index (bytes_in v all) i } ∷ []
input_pushed v all c i None is bytes within kept =
    let made : List Literal × Formula = fresh_row 8 c.formula in
    pushed v c made.0 _ (byte_row v all i made.0 (length_fresh 8 c.formula) (kept.each i made.0 (get_or-set_same c.inputs i (Some made.0) None within)))
input_pushed v all c i (Some row) is bytes within kept =
    pushed v c row _ (byte_row v all i row (bytes.each i row is) (kept.each i row is))

pub node_pushed : (v : ℕ → Bool) (all : Inputs) (c : Circuit) (n : Node) → v 1 ≡ true → AreBytes c.inputs → AreKept (circuit_with c n).inputs all → Fits (length c.inputs) (map width (words_of v c.rows)) n → Holds v (circuit_with c n).formula
    → words_of v (circuit_with c n).rows ≡ words_of v c.rows ++ node_value (bytes_in v all) (vector_at (words_of v c.rows)) n ∷ []
unfolding circuit_with
node_pushed v all c (Num w m) truth bytes kept fits h = pushed v c _ _ (num_means v w m truth fits)
node_pushed v all c (Input i) truth bytes kept fits h = input_pushed v all c i (input_at c.inputs i) refl bytes fits kept
node_pushed v all c (Not a) truth bytes kept fits h = pushed v c _ _ (not_term v c.rows a)
node_pushed v all c (Neg a) truth bytes kept fits h = pushed v c _ _ (neg_term v c.rows a c.formula truth h)
node_pushed v all c (Binary op a b) truth bytes kept fits h = pushed v c _ _ (binary_term v c.rows (length c.inputs) op a b c.formula truth fits h)
node_pushed v all c (Compare op a b) truth bytes kept fits h = pushed v c _ _ (compare_term v c.rows (length c.inputs) op a b c.formula truth fits h)
node_pushed v all c (Ite t a b) truth bytes kept fits h = pushed v c _ _ (ite_term v c.rows (length c.inputs) t a b c.formula fits h)
node_pushed v all c (Extract high low a) truth bytes kept fits h = pushed v c _ _ (extract_term v c.rows (length c.inputs) high low a fits)
node_pushed v all c (Extend by signed a) truth bytes kept fits h = pushed v c _ _ (extend_term v c.rows (length c.inputs) by signed a truth fits)
node_pushed v all c (Concat high low) truth bytes kept fits h = pushed v c _ _ (concat_term v c.rows high low)

-- each node fits after those before it, from some widths on
abbrev pub FitFrom : ℕ → List ℕ → List Node → Type 0
FitFrom inputs before nodes = (id : ℕ) (n : Node) → slice_get nodes id ≡ Some n → Fits inputs (fold (λ b k. b ++ node_width b k ∷ []) before (take id nodes)) n

-- the values of nodes, from some values on
abbrev pub values_from : List ℕ → List BitVector → List Node → List BitVector
values_from input before nodes = fold (λ b n. b ++ node_value input (vector_at b) n ∷ []) before nodes

wider : (input : List ℕ) (words more : List BitVector) (n : Node) → more ≡ words ++ node_value input (vector_at words) n ∷ [] → map width words ++ node_width (map width words) n ∷ [] ≡ map width more
wider input words more n is =
    sym (ap (map width) is ∙ map-append width words (node_value input (vector_at words) n ∷ []) ∙ ap (λ k. map width words ++ k ∷ []) (width-node_value input words n))

pub fits_later : (c : Circuit) (n : Node) (nodes : List Node) (before : List ℕ) → FitFrom (length c.inputs) before (n ∷ nodes) → FitFrom (length (circuit_with c n).inputs) (before ++ node_width before n ∷ []) nodes
fits_later c n nodes before fits = subst (λ (m : ℕ). FitFrom m (before ++ node_width before n ∷ []) nodes) (sym (node_count c n)) (λ id k is. fits (suc id) k is)

pub rows_mean : (v : ℕ → Bool) (all : Inputs) (nodes : List Node) (c : Circuit) → v 1 ≡ true → AreBytes c.inputs → FitFrom (length c.inputs) (map width (words_of v c.rows)) nodes
    → (fold circuit_with c nodes).inputs ≡ all → Holds v (fold circuit_with c nodes).formula → words_of v (fold circuit_with c nodes).rows ≡ values_from (bytes_in v all) (words_of v c.rows) nodes
rows_mean v all [] c truth bytes fits ends h = refl
rows_mean v all (n ∷ nodes) c truth bytes fits ends h =
    let here : Fits (length c.inputs) (map width (words_of v c.rows)) n = fits 0 n refl in
    let kept : AreKept (circuit_with c n).inputs all = subst (λ (k : Inputs). AreKept (circuit_with c n).inputs k) ends (nodes_kept nodes (circuit_with c n)) in
    let one : words_of v (circuit_with c n).rows ≡ words_of v c.rows ++ node_value (bytes_in v all) (vector_at (words_of v c.rows)) n ∷ []
    = node_pushed v all c n truth bytes kept here (nodes_before v nodes (circuit_with c n) h) in
    let next : FitFrom (length (circuit_with c n).inputs) (map width (words_of v (circuit_with c n).rows)) nodes
    = subst (λ (ws : List ℕ). FitFrom (length (circuit_with c n).inputs) ws nodes) (wider (bytes_in v all) (words_of v c.rows) (words_of v (circuit_with c n).rows) n one) (fits_later c n nodes (map width (words_of v c.rows)) fits) in
    rows_mean v all nodes (circuit_with c n) truth (node_bytes c n bytes) next ends h
    ∙ ap (λ (ws : List BitVector). values_from (bytes_in v all) ws nodes) one
