-- Input bytes in classes: bytes have one label where asserted terms lead from one to the other. These are no part of what a
-- slice is.
use Rattle.std.specs.Prelude.{◌≡◌, ◌<◌, ℕ, ◌==◌, ◌||◌, Bool, false, List, Contains, Option, None, Some, fold, length, map, if◌then◌else◌, option_and_then, slice_get, slice_index}
use Rattle.bv_dag.specs.Graphs.{Graph, IsDag}
use Rattle.bv_dag.specs.Inputs.{inputs_under}
use Rattle.bv_dag.specs.Queries.{Condition}
use Rattle.query_pick.specs.Cones.{IsCone}
use Rattle.query_slice.specs.declared.classes.Renaming.{Renaming}

-- an input byte under a term, if there is one, from all that are under it
abbrev pub first_of : List ℕ → Option ℕ
first_of under = slice_get under 0

-- that under the term at a place
abbrev pub first_under : Graph → ℕ → Option ℕ
first_under graph id = first_of (inputs_under graph id)

-- the label of an input byte
abbrev pub label_of : List ℕ → Option ℕ → Option ℕ
label_of labels input = option_and_then (slice_get labels) input

-- what a label is after one became another
abbrev pub renamed : Renaming → ℕ → ℕ
renamed renaming label = if label == renaming.gone then renaming.kept else label

-- the labels after some became others, in order
abbrev pub renamed_all : List Renaming → List ℕ → List ℕ
renamed_all renamings labels = fold (λ before renaming. map (renamed renaming) before) labels renamings

-- every label of the one kind is now the other
abbrev pub relabelled : (kept gone : Option ℕ) → List ℕ → List ℕ
relabelled (Some kept) (Some gone) labels =
    map (λ label. if label == gone then kept else label) labels
relabelled (Some kept) None labels = labels
relabelled None _ labels = labels

-- the bytes in the classes of these two are now in one
abbrev pub joined : List ℕ → (first second : Option ℕ) → List ℕ
joined labels first second = relabelled (label_of labels first) (label_of labels second) labels

-- these two labels are there and the same
abbrev pub are_same : Option ℕ → Option ℕ → Bool
are_same (Some one) (Some other) = one == other
are_same (Some one) None = false
are_same None other = false

-- whether a term is the new one, or stands on a byte of the class of one under the new one
abbrev pub is_reached : Graph → (labels : List ℕ) → (new id : ℕ) → Bool
is_reached graph labels new id =
    (id == new) || are_same (label_of labels (first_under graph id))
    (label_of labels (first_under graph new))

-- a byte joined with one under each of these operands
abbrev pub joined_all : Graph → (first : Option ℕ) → List ℕ → (operands : List ℕ) → List ℕ
joined_all graph first labels operands =
    fold (λ before a. joined before first (first_under graph a)) labels operands

-- an input byte that a chain of asserted terms leads to, of which each stands on two bytes in a row
pub data IsLinked (q : Condition) (start : ℕ) : ℕ → Type 0 where
  here : IsLinked q start start
  over : {i k : ℕ} (term : ℕ) → IsLinked q start i → Contains q.asserted term
      → Contains (inputs_under q.graph term) i → Contains (inputs_under q.graph term) k
      → IsLinked q start k

-- every two bytes of one label are linked
abbrev pub AreLinked : Condition → List ℕ → Type 0
AreLinked q labels = (i k : ℕ) → i < q.graph.inputs → k < q.graph.inputs
    → slice_index labels i ≡ slice_index labels k → IsLinked q i k

-- the labels tell which bytes are linked
pub record AreClasses (q : Condition) (labels : List ℕ) : Type 0 where
  pub each : length labels ≡ q.graph.inputs
  pub one : (term i k : ℕ) → Contains q.asserted term → Contains (inputs_under q.graph term) i
      → Contains (inputs_under q.graph term) k → slice_index labels i ≡ slice_index labels k
  pub linked : AreLinked q labels

-- all places under some terms, in order, an input byte under each, and the labels of those under these terms
pub record AreLinks (graph : Graph) (tops places : List ℕ) (firsts : List (Option ℕ))
    (labels : List ℕ) : Type 0 where
  pub cone : IsCone graph tops places
  pub fit : 0 < length places → IsDag graph
  pub each : firsts ≡ map (first_under graph) places
  pub classes : AreClasses (record { graph = graph; asserted = tops }) labels
