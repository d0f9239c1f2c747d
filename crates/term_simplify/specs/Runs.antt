-- And, or and xor of a term with a number, at their own width. The number is cut into runs of equal bits,
-- from the lowest one up, four at most. Under a run the result is bits of the term, their complement, or
-- a number, which takes no gate; what is left above the fourth run is joined as before.
use Rattle.std.specs.Prelude.{ℕ, zero, suc, ◌+◌, ◌-◌, ◌/◌, ◌%◌, ◌^◌, ◌≡◌, ◌==◌, ◌&&◌, Bool, true, false, not, Option, Some, None, nat_lt, if◌then◌else◌}
use Rattle.bv_dag.specs.BitVectors.{BitVector, IsBitVector}
use Rattle.bv_dag.specs.Graphs.{Graph, width_of}
use Rattle.bv_dag.specs.declared.nodes.BinaryOp.{BinaryOp}
use Rattle.bv_dag.specs.declared.nodes.BinaryOp.TheVariants.{And, Or, Xor}
use Rattle.term_trees.specs.Trees.{Tree, Constant, IsTerm, tree_of}
use Rattle.term_simplify.specs.Joints.{joint_of}
use Rattle.term_simplify.specs.Plain.{complement_of, joined_of, masks_nothing, part_of, plain_binary, tree_number}
use Rattle.term_simplify.specs.Zeros.{binary_over_zeros}
use Rattle.term_simplify.specs.declared.runs.TheConstants.{RUNS}
use Rattle.term_simplify.specs.declared.runs.Mask.{Mask}

abbrev pub is_bitwise : BinaryOp → Bool
is_bitwise And = true
is_bitwise Or = true
is_bitwise Xor = true
is_bitwise op = false

-- how many bits of a number, from the lowest of so many up, are equal
unfoldable pub run : (width number : ℕ) → ℕ
run zero n = 0
run (suc w) n = if nat_lt 0 w && n / 2 % 2 == n % 2 then run w (n / 2) + 1 else 1

-- so many equal bits
abbrev pub run_word : (zeros : Bool) → (width : ℕ) → BitVector
run_word true w = record { width = w; number = 0 }
run_word false w = record { width = w; number = 2 ^ w - 1 }

-- a term of so many bits, joined with as many zeros or ones
abbrev pub under_run : BinaryOp → (zeros : Bool) → (width : ℕ) → Tree → Tree
under_run And true w t = Constant w 0
under_run Or false w t = Constant w (2 ^ w - 1)
under_run Xor false w t = complement_of t
under_run op zeros w t = t

-- a term of so many bits, joined with a number of as many
unfoldable pub cut : (runs : ℕ) → BinaryOp → (width number : ℕ) → Tree → Tree
cut zero op w n t = plain_binary op t (Constant w n)
cut (suc k) op w n t =
    if run w n == w then under_run op (n % 2 == 0) w t
    else joined_of (cut k op (w - run w n) (n / 2 ^ run w n) (part_of (w - 1) (run w n) t))
    (under_run op (n % 2 == 0) (run w n) (part_of (run w n - 1) 0 t))

-- ---- Where one operand alone is a number, and changes something of the other.
abbrev pub is_cut : BinaryOp → BitVector → Tree → Bool
is_cut op y t = is_bitwise op && not (masks_nothing op (Some y) t)

abbrev pub pieced_by : BinaryOp → Option BitVector → Option BitVector → (s t otherwise : Tree) → Tree
pieced_by op None (Some y) s t otherwise =
    if is_cut op y s then cut RUNS op y.width y.number s else otherwise
pieced_by op (Some x) None s t otherwise =
    if is_cut op x t then cut RUNS op x.width x.number t else otherwise
pieced_by op x y s t otherwise = otherwise

-- an operation of two terms at their own width
abbrev pub pieced : BinaryOp → Tree → Tree → Tree
pieced op s t =
    pieced_by op (tree_number s) (tree_number t) s t (joint_of op s t (binary_over_zeros op s t))

-- ---- Such a term and number as the code finds them.
pub record IsMask (graph : Graph) (m : Mask) : Type 0 where
  pub wide : width_of graph m.operand ≡ m.width
  pub number : IsBitVector m.width m.number
  pub term : IsTerm graph.inputs (tree_of graph m.operand)
