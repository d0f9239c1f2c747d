-- Operations that the ends of their operands tell: one is a number on all input bytes, and a remainder
-- is the dividend, where no divisor is as small.
use Rattle.std.specs.Prelude.{Bool, false, nat_lt, Option, Some, None, option_map, if◌then◌else◌}
use Rattle.bv_dag.specs.BitVectors.{BitVector}
use Rattle.bv_dag.specs.declared.nodes.BinaryOp.{BinaryOp}
use Rattle.bv_dag.specs.declared.nodes.BinaryOp.TheVariants.{Urem}
use Rattle.term_trees.specs.Trees.{Tree}
use Rattle.term_simplify.specs.Ends.{ends_of, two_ends, value_told}
use Rattle.term_simplify.specs.Plain.{number_tree}
use Rattle.term_simplify.specs.declared.ends.Ends.{Ends}

-- a remainder whose least divisor is above the greatest dividend
abbrev pub is_dividend : BinaryOp → (greatest least : BitVector) → Bool
is_dividend Urem greatest least = nat_lt greatest.number least.number
is_dividend op greatest least = false

abbrev pub told_by_ends : BinaryOp → Ends → Ends → (first : Tree) → Option Tree
told_by_ends op a b s =
    if is_dividend op a.greatest b.least then Some s else option_map number_tree (value_told (two_ends op a b))

unfoldable pub two_told : BinaryOp → Tree → Tree → Option Tree
two_told op s t = told_by_ends op (ends_of s) (ends_of t) s

abbrev pub tree_or : Option Tree → (otherwise : Tree) → Tree
tree_or (Some t) otherwise = t
tree_or None otherwise = otherwise
