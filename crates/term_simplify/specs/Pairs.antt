-- Sums and differences of two terms of which one, or each, has a number. The number is put last,
-- where it meets further ones.
use Rattle.std.specs.Prelude.{ℕ, ◌&&◌, ◌||◌, Bool, true, false, is_some, nat_le, nat_lt, not, option_and_then, Option, Some, None, if◌then◌else◌}
use Rattle.bv_dag.specs.BitVectors.{BitVector, bvadd, bvsub}
use Rattle.bv_dag.specs.Graphs.{Graph}
use Rattle.bv_dag.specs.declared.nodes.BinaryOp.{BinaryOp}
use Rattle.bv_dag.specs.declared.nodes.BinaryOp.TheVariants.{Add, Sub}
use Rattle.term_trees.specs.Trees.{Tree, Complement, Negated, IsOfWidth, tree_width}
use Rattle.term_simplify.specs.Narrowing.{reach_of}
use Rattle.term_simplify.specs.Offsets.{Offset, wide_offset_of}
use Rattle.term_simplify.specs.Plain.{tree_number}
use Rattle.term_simplify.specs.WideSums.{IsWideSummand, wide_term}
use Rattle.term_simplify.specs.declared.narrowing.Reach.{Reach}
use Rattle.term_simplify.specs.declared.pairs.WidePair.{WidePair}

-- an operation of two terms, and a number that it is added to, or taken from
pub record Pair : Type 0 where
  pub taken : Bool
  pub op : BinaryOp
  pub first : Tree
  pub second : Tree
  pub number : BitVector

-- two terms that are each added or taken off
abbrev pub by_signs : (first_taken second_taken : Bool) → (s t : Tree) → BitVector → Pair
by_signs false false s t n =
    record { taken = false; op = Add; first = s; second = t; number = n }
by_signs false true s t n =
    record { taken = false; op = Sub; first = s; second = t; number = n }
by_signs true false s t n =
    record { taken = false; op = Sub; first = t; second = s; number = n }
by_signs true true s t n =
    record { taken = true; op = Add; first = s; second = t; number = n }

abbrev pub pair_by : BinaryOp → Offset → Offset → Option Pair
pair_by Add o p = Some (by_signs o.taken p.taken o.term p.term (bvadd o.number p.number))
pair_by Sub o p = Some (by_signs o.taken (not p.taken) o.term p.term (bvsub o.number p.number))
pair_by op o p = None

-- A complement, or a negative, has no number to be put last: it takes no adder.
abbrev pub numbered_of : Tree → Option Offset
numbered_of (Complement t) = None
numbered_of (Negated t) = None
numbered_of t = wide_offset_of t

-- A term without a number is one with 0. It is told by fewer bits than the sum that it meets, or
-- that has all bits of its width: then no adder gets longer.
abbrev pub is_shorter : (short long : Reach) → (width : ℕ) → Bool
is_shorter a b width =
    nat_lt a.unsigned b.unsigned && nat_lt a.signed b.signed
    || nat_le width b.unsigned && nat_le width b.signed

abbrev pub has_number : Tree → Bool
has_number t = is_some (tree_number t) || is_some (wide_offset_of t)

abbrev pub beside : (sum t : Tree) → Option Offset
beside sum t =
    if has_number t then None
    else (
    if is_shorter (reach_of t) (reach_of sum) (tree_width t) then
    Some (record {
      taken = false;
      term = t;
      number = record { width = tree_width t; number = 0 };
    })
    else None
    )

abbrev pub pair_from : BinaryOp → Option Offset → Option Offset → (s t : Tree) → Option Pair
pair_from op (Some o) (Some p) s t = pair_by op o p
pair_from op (Some o) None s t = option_and_then (pair_by op o) (beside s t)
pair_from op None (Some p) s t = option_and_then (λ o. pair_by op o p) (beside t s)
pair_from op None None s t = None

unfoldable pub pair_of : BinaryOp → Tree → Tree → Option Pair
pair_of op s t = pair_from op (numbered_of s) (numbered_of t) s t

-- ---- Pairs as the code finds them: the numbers of the two terms are in its own.
abbrev pub pair_at : Graph → WidePair → Pair
pair_at graph p = record {
  taken = p.taken;
  op = p.op;
  first = wide_term graph p.first;
  second = wide_term graph p.second;
  number = p.number;
}

pub record IsWidePair (graph : Graph) (width : ℕ) (p : WidePair) : Type 0 where
  pub first : IsWideSummand graph width p.first
  pub second : IsWideSummand graph width p.second
  pub number : IsOfWidth width p.number
