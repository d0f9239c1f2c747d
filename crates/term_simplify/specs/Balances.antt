-- Where two sums with numbers are equal: where the one term is the other and the difference of the
-- numbers, which takes one adder.
use Rattle.std.specs.Prelude.{ℕ, Bool, true, false, Option, Some, None, if◌then◌else◌}
use Rattle.bv_dag.specs.BitVectors.{BitVector, bvneg, bvsub, is_negative}
use Rattle.bv_dag.specs.Graphs.{Graph}
use Rattle.term_trees.specs.Trees.{Tree, IsOfWidth}
use Rattle.term_simplify.specs.Offsets.{Offset}
use Rattle.term_simplify.specs.Pairs.{numbered_of}
use Rattle.term_simplify.specs.WideSums.{IsWideSummand, wide_term}
use Rattle.term_simplify.specs.declared.balances.WideBalance.{WideBalance}

-- the first term is the second and the number
pub record Balance : Type 0 where
  pub first : Tree
  pub second : Tree
  pub number : BitVector

-- The number is added where it is not negative.
abbrev pub balance_by : BitVector → (s t : Tree) → Balance
balance_by n s t =
    if is_negative n then record { first = t; second = s; number = bvneg n }
    else record { first = s; second = t; number = n }

-- two terms with numbers, or both taken from them
abbrev pub balance_with : (first_taken second_taken : Bool) → Offset → Offset → Option Balance
balance_with false false o p = Some (balance_by (bvsub p.number o.number) o.term p.term)
balance_with true true o p = Some (balance_by (bvsub o.number p.number) o.term p.term)
balance_with first_taken second_taken o p = None

abbrev pub balance_from : Option Offset → Option Offset → Option Balance
balance_from (Some o) (Some p) = balance_with o.taken p.taken o p
balance_from (Some o) None = None
balance_from None p = None

unfoldable pub balance_of : Tree → Tree → Option Balance
balance_of s t = balance_from (numbered_of s) (numbered_of t)

-- ---- Balances as the code finds them: the numbers of the two terms are in its own.
abbrev pub balance_at : Graph → WideBalance → Balance
balance_at graph b = record {
  first = wide_term graph b.first;
  second = wide_term graph b.second;
  number = b.number;
}

pub record IsWideBalance (graph : Graph) (width : ℕ) (b : WideBalance) : Type 0 where
  pub first : IsWideSummand graph width b.first
  pub second : IsWideSummand graph width b.second
  pub number : IsOfWidth width b.number
