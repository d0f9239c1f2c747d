-- Where a number is below the sum of a term and a number: not where the sum is below the number
-- after it, so where the term is outside of an interval. It is so made where one test of that is left:
-- an interval takes two, which cost more than the sum.
use Rattle.std.specs.Prelude.{◌==◌, ◌||◌, Bool, is_some, option_and_then, Option, Some, None, if◌then◌else◌}
use Rattle.bv_dag.specs.BitVectors.{BitVector, bvadd, bvnot}
use Rattle.bv_dag.specs.declared.nodes.Comparison.{Comparison}
use Rattle.bv_dag.specs.declared.nodes.Comparison.TheVariants.{Ult}
use Rattle.term_trees.specs.Trees.{Tree}
use Rattle.term_simplify.specs.Ends.{ends_of, only, order_told}
use Rattle.term_simplify.specs.Intervals.{Interval, interval_of}

-- whether the ends of a term tell that it is below a number, or that it isn't
abbrev pub is_told : Tree → BitVector → Bool
is_told t n = is_some (order_told Ult (ends_of t) (only n))

-- an interval that ends at 0, or of which one test is told
abbrev pub has_one_test : Interval → Bool
has_one_test i = i.high.number == 0 || is_told i.term i.low || is_told i.term i.high

abbrev pub of_one_test : Interval → Option Interval
of_one_test i = if has_one_test i then Some i else None

-- No number is above all ones.
abbrev pub interval_above : BitVector → Tree → Option Interval
interval_above x t =
    if (bvnot x).number == 0 then None
    else option_and_then of_one_test
    (interval_of t (bvadd x (record { width = x.width; number = 1 })))

abbrev pub above_by : Comparison → Option BitVector → Option BitVector → Tree → Option Interval
above_by Ult (Some x) None t = interval_above x t
above_by op x y t = None
