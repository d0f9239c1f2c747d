-- An index into a table: an address that is a sum of a number and a term of few bits. It is seen by the
-- top nodes of the address.
use Rattle.std.specs.Prelude.{◌≡◌, ℕ, ◌+◌, ◌-◌, ◌*◌, ◌^◌, ◌<◌, ◌==◌, ◌&&◌, Bool, false, length, nat_le, if◌then◌else◌, Option, Some, None}
use Rattle.bv_dag.specs.Graphs.{Graph, width_of}
use Rattle.bv_dag.specs.declared.nodes.BinaryOp.{BinaryOp}
use Rattle.bv_dag.specs.declared.nodes.BinaryOp.TheVariants.{Add, Sub}
use Rattle.term_trees.specs.Trees.{Tree, Constant, Two, Widened, Joined, tree_of, tree_width}
use Rattle.sym_state.specs.declared.indexing.Index as code
use Rattle.sym_state.specs.declared.indexing.TheConstants.{MOST_BITS}

pub record Index : Type 0 where
  pub term : Tree
  -- how many bits lie below it in the address
  pub scale : ℕ
  -- the address that index 0 leads to
  pub start : ℕ

-- a sum of so many bits with a number is this number and the term, where that is small
abbrev pub base_of : BinaryOp → (bits n : ℕ) → Option ℕ
base_of Add bits n = Some n
base_of Sub bits n = Some (2 ^ bits - n)
base_of op bits n = None

-- an index has few bits, those below it included, and no sum wraps
abbrev pub is_index : (scale bits width base : ℕ) → Bool
is_index scale bits width base =
    nat_le (scale + width) MOST_BITS && (nat_le (scale + bits) 32 && nat_le (base + 2 ^ width) (2 ^ bits))

abbrev pub index_at : (scale bits : ℕ) → Tree → Option ℕ → Option Index
index_at scale bits t None = None
index_at scale bits t (Some base) =
    if is_index scale bits (tree_width t) base
    then Some (record { term = t; scale = scale; start = base * 2 ^ scale }) else None

abbrev pub index_by : (scale : ℕ) → BinaryOp → Tree → Tree → Option Index
index_by scale op (Widened by false t) (Constant bits n) = index_at scale bits t (base_of op bits n)
index_by scale op s t = None

-- in what stands above so many bits
abbrev pub index_in : (scale : ℕ) → Tree → Option Index
index_in scale (Two op s t) = index_by scale op s t
index_in scale t = None

abbrev pub index_over : Tree → Tree → Option Index
index_over s (Constant bits n) = if n == 0 then index_in bits s else None
index_over s t = None

abbrev pub index_under : Tree → Option Index
index_under (Joined s t) = index_over s t
index_under t = index_in 0 t

-- zeros above change nothing
abbrev pub index_of : Tree → Option Index
index_of (Widened by false t) = index_under t
index_of t = index_under t

-- ---- An index as the code finds it.
abbrev pub as_index : Graph → code.Index → Index
as_index terms i = record { term = tree_of terms i.term; scale = i.scale; start = i.start }

pub record IsIndex (terms : Graph) (i : code.Index) : Type 0 where
  pub there : i.term < length terms.nodes
  pub count : i.count ≡ width_of terms i.term
  pub some : 0 < i.count
