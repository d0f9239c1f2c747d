-- What a term is simplified to: a tree, from the trees of its operands. What the ends of these tell
-- (`Values`) is a number, or the dividend of a remainder. A shift by a number moves bits; the numbers
-- of sums are one (`Offsets`), stand last (`Pairs`), and are on one side of an equality
-- (`Balances`); an operation of which few low bits tell the result is made of as many bits of its
-- operands, and widened. At its own width a product by a number is as `Times` has it, two terms
-- without a bit in common are the one above the other (`Joints`), zeros at the low end are left out
-- (`Zeros`), and any other term is as `Plain` has it. Each rule is decided by the numbers that
-- operands are, and by their top nodes and ends.
use Rattle.std.specs.Prelude.{ℕ, ◌-◌, ◌^◌, ◌==◌, ◌&&◌, Bool, true, false, nat_lt, Option, Some, None, if◌then◌else◌}
use Rattle.bv_dag.specs.BitVectors.{BitVector}
use Rattle.bv_dag.specs.declared.nodes.BinaryOp.{BinaryOp}
use Rattle.bv_dag.specs.declared.nodes.BinaryOp.TheVariants.{Shl, Lshr, Ashr}
use Rattle.bv_dag.specs.declared.nodes.Comparison.{Comparison}
use Rattle.bv_dag.specs.declared.nodes.Comparison.TheVariants.{Ult, Slt, Eq}
use Rattle.bv_dag.specs.declared.nodes.Node.{Node}
use Rattle.bv_dag.specs.declared.nodes.Node.TheVariants.{Num, Input, Not, Neg, Binary, Compare, Ite, Extract, Extend, Concat}
use Rattle.term_trees.specs.Trees.{Tree, Constant, Byte, tree_width}
use Rattle.term_simplify.specs.Above.{above_by}
use Rattle.term_simplify.specs.Balances.{Balance, balance_of}
use Rattle.term_simplify.specs.Ends.{comparison_told, may_divide_by_zero, told_or}
use Rattle.term_simplify.specs.Equalities.{Peeled, peeled}
use Rattle.term_simplify.specs.Intervals.{Interval, interval_of, joining}
use Rattle.term_simplify.specs.Narrowing.{negative_narrowing, binary_narrowing, pair_narrowing, choice_narrowing}
use Rattle.term_simplify.specs.Offsets.{Sum, sum_at, sum_of}
use Rattle.term_simplify.specs.Pairs.{Pair, pair_of}
use Rattle.term_simplify.specs.Plain.{tree_number, number_tree, complement_of, plain_binary, plain_negative, plain_choice, extension_by, part_of, joined_of}
use Rattle.term_simplify.specs.Times.{own_binary}
use Rattle.term_simplify.specs.Values.{tree_or, two_told}
use Rattle.term_simplify.specs.Zeros.{comparison_over_zeros}
use Rattle.term_simplify.specs.declared.narrowing.Narrow.{Narrow}

-- ---- A shift of a term by a number below its width moves its bits, which takes no circuit: the lower
-- ones up, above zeros, or the upper ones down, below zeros or copies of the sign.
abbrev pub moved_up : (width by : ℕ) → Tree → Tree
moved_up width by t = joined_of (part_of (width - 1 - by) 0 t) (Constant by 0)

abbrev pub moved_down : (width by : ℕ) → (signed : Bool) → Tree → Tree
moved_down width by signed t = extension_by by signed (part_of (width - 1) by t)

-- some bits are moved, but not all of them out
abbrev pub moves : BitVector → Bool
moves y = nat_lt 0 y.number && nat_lt y.number y.width

abbrev pub moved : BinaryOp → Option BitVector → Option BitVector → (s otherwise : Tree) → Tree
moved Shl None (Some y) s otherwise =
    if moves y then moved_up y.width y.number s else otherwise
moved Lshr None (Some y) s otherwise =
    if moves y then moved_down y.width y.number false s else otherwise
moved Ashr None (Some y) s otherwise =
    if moves y then moved_down y.width y.number true s else otherwise
moved op x y s otherwise = otherwise

-- ---- An operation made of its operands' low bits, and widened to their width.
abbrev pub low_of : Narrow → Tree → Tree
low_of n t = part_of (n.bits - 1) 0 t

abbrev pub widened_to : (width : ℕ) → Narrow → Tree → Tree
widened_to width n t = extension_by (width - n.bits) n.signed t

abbrev pub negative_at : Option Narrow → Tree → Tree
negative_at (Some n) t = widened_to (tree_width t) n (plain_negative (low_of n t))
negative_at None t = plain_negative t

unfoldable pub negative_of : Tree → Tree
negative_of t = negative_at (negative_narrowing t) t

-- Terms of which zeros are left out are not negative, so a comparison with sign is one without.
abbrev pub comparison_by_low : (signed : Bool) → Comparison → Comparison
comparison_by_low false Slt = Ult
comparison_by_low signed op = op

abbrev pub comparison_at : Option Narrow → Comparison → Tree → Tree → Tree
comparison_at (Some n) op s t =
    comparison_over_zeros (comparison_by_low n.signed op) (low_of n s) (low_of n t)
comparison_at None op s t = comparison_over_zeros op s t

abbrev pub undecided : Comparison → Tree → Tree → Tree
undecided op s t = comparison_at (pair_narrowing s t) op s t

abbrev pub choice_at : Option Narrow → (condition yes no : Tree) → Tree
choice_at (Some n) c s t = widened_to (tree_width s) n (plain_choice c (low_of n s) (low_of n t))
choice_at None c s t = plain_choice c s t

unfoldable pub choice_of : (condition yes no : Tree) → Tree
choice_of c s t = choice_at (choice_narrowing c s t) c s t

-- A quotient by 0 is all ones, which few bits don't tell: where a divisor may be 0, it is tested.
abbrev pub or_ones_at : (width : ℕ) → Narrow → (divisor quotient : Tree) → Tree
or_ones_at width n t quotient =
    choice_of (undecided Eq t (Constant n.bits 0)) (Constant width (2 ^ width - 1)) quotient

abbrev pub result_at : BinaryOp → (width : ℕ) → Narrow → (second result : Tree) → Tree
result_at op width n t result =
    if may_divide_by_zero op t then or_ones_at width n t (widened_to width n result)
    else widened_to width n result

abbrev pub binary_at : Option Narrow → BinaryOp → Tree → Tree → Tree
binary_at (Some n) op s t =
    result_at op (tree_width s) n (low_of n t) (own_binary op (low_of n s) (low_of n t))
binary_at None op s t = own_binary op s t

abbrev pub narrowed : BinaryOp → Tree → Tree → Tree
narrowed op s t = binary_at (binary_narrowing op s t) op s t

abbrev pub summed : Sum → Tree
summed p = narrowed p.op p.first p.second

-- two terms first, and then the number of both
abbrev pub paired : Pair → Tree
paired p = summed (sum_at p.taken (narrowed p.op p.first p.second) p.number)

abbrev pub paired_if : Option Pair → (otherwise : Tree) → Tree
paired_if (Some p) otherwise = paired p
paired_if None otherwise = otherwise

abbrev pub made_of : BinaryOp → Tree → Tree → Tree
made_of op s t = paired_if (pair_of op s t) (summed (sum_of op s t))

abbrev pub operated : BinaryOp → Tree → Tree → Tree
operated op s t = moved op (tree_number s) (tree_number t) s (made_of op s t)

-- Where the ends of two terms tell it, an operation is a number, or the first of them.
unfoldable pub binary_of : BinaryOp → Tree → Tree → Tree
binary_of op s t = tree_or (two_told op s t) (operated op s t)

-- Where the ends of two terms tell it, a comparison is a bit.
abbrev pub compared : Comparison → Tree → Tree → Tree
compared op s t = told_or (comparison_told op s t) (undecided op s t)

-- A term below the number 0, with sign, is its sign. A term is equal to a number exactly where what
-- it is made of is equal to another.
abbrev pub equal_to : Peeled → Tree
equal_to p = compared Eq p.term (number_tree p.number)

abbrev pub below_number : Tree → BitVector → Tree
below_number t n = compared Ult t (number_tree n)

-- A term in an interval is not below its one end, and below the other; or one of the two, where the
-- interval goes round; or not below its one end, where it ends at 0.
abbrev pub in_interval : Interval → Tree
in_interval i =
    if i.high.number == 0 then complement_of (below_number i.term i.low)
    else plain_binary (joining i.low i.high) (complement_of (below_number i.term i.low))
    (below_number i.term i.high)

abbrev pub in_interval_if : Option Interval → (otherwise : Tree) → Tree
in_interval_if (Some i) otherwise = in_interval i
in_interval_if None otherwise = otherwise

-- Two sums with numbers are equal where a term is another with a number.
abbrev pub balanced : Balance → Tree
balanced b = compared Eq b.first (summed (sum_at false b.second b.number))

abbrev pub balanced_if : Option Balance → (otherwise : Tree) → Tree
balanced_if (Some b) otherwise = balanced b
balanced_if None otherwise = otherwise

abbrev pub told_by : Comparison → Option BitVector → Option BitVector → (s t : Tree) → Tree
told_by Ult None (Some y) s t = in_interval_if (interval_of s y) (compared Ult s t)
told_by Slt None (Some y) s t =
    if y.number == 0 then part_of (y.width - 1) (y.width - 1) s else compared Slt s t
told_by Eq None (Some y) s t = equal_to (peeled s y)
told_by Eq (Some x) None s t = equal_to (peeled t x)
told_by Eq None None s t = balanced_if (balance_of s t) (compared Eq s t)
told_by op x y s t = compared op s t

-- A number is below a sum where the term of that is outside of an interval, if that takes one test.
abbrev pub outside : Interval → Tree
outside i = complement_of (in_interval i)

abbrev pub outside_if : Option Interval → (otherwise : Tree) → Tree
outside_if (Some i) otherwise = outside i
outside_if None otherwise = otherwise

abbrev pub asked : Comparison → Tree → Tree → Tree
asked op s t = told_by op (tree_number s) (tree_number t) s t

unfoldable pub comparison_of : Comparison → Tree → Tree → Tree
comparison_of op s t =
    outside_if (above_by op (tree_number s) (tree_number t) t) (asked op s t)

-- the simplified tree of a node, from those of its operands
abbrev pub simplified : (operand : ℕ → Tree) → Node → Tree
simplified operand (Num w v) = Constant w v
simplified operand (Input i) = Byte i
simplified operand (Not a) = complement_of (operand a)
simplified operand (Neg a) = negative_of (operand a)
simplified operand (Binary op a b) = binary_of op (operand a) (operand b)
simplified operand (Compare op a b) = comparison_of op (operand a) (operand b)
simplified operand (Ite c a b) = choice_of (operand c) (operand a) (operand b)
simplified operand (Extract high low a) = part_of high low (operand a)
simplified operand (Extend by signed a) = extension_by by signed (operand a)
simplified operand (Concat a b) = joined_of (operand a) (operand b)
