-- Where a term is a number: exactly where what it is made of is another, as operations with a number are undone.
use Rattle.std.specs.Prelude.{ℕ, ◌-◌, ◌==◌, Bool, Option, Some, None, if◌then◌else◌}
use Rattle.bv_dag.specs.BitVectors.{BitVector, bvadd, bvneg, bvnot, bvsub, bvxor, extract}
use Rattle.bv_dag.specs.Nodes.{extend}
use Rattle.bv_dag.specs.declared.nodes.BinaryOp.{BinaryOp}
use Rattle.bv_dag.specs.declared.nodes.BinaryOp.TheVariants.{Add, Sub, Xor}
use Rattle.term_trees.specs.Trees.{Tree, Complement, Joined, Negated, Two, Widened, tree_width}
use Rattle.term_simplify.specs.Plain.{tree_number}

-- a term and the number that it is compared with
pub record Peeled : Type 0 where
  pub term : Tree
  pub number : BitVector

-- what the first operand is where an operation of it and this number is n
abbrev pub undone_second : BinaryOp → (n y : BitVector) → Option BitVector
undone_second Add n y = Some (bvsub n y)
undone_second Sub n y = Some (bvadd n y)
undone_second Xor n y = Some (bvxor n y)
undone_second op n y = None

-- what the second operand is where an operation of this number and it is n
abbrev pub undone_first : BinaryOp → (n x : BitVector) → Option BitVector
undone_first Add n x = Some (bvsub n x)
undone_first Sub n x = Some (bvsub x n)
undone_first Xor n x = Some (bvxor n x)
undone_first op n x = None

abbrev pub on_some : {X : Type 0} → Option BitVector → (BitVector → X) → (otherwise : X) → X
on_some (Some n) f otherwise = f n
on_some None f otherwise = otherwise

-- the same by the numbers that the operands are
abbrev pub undone_by : {X : Type 0} → BinaryOp → Option BitVector → Option BitVector → (n : BitVector) →
    (first second : BitVector → X) → (otherwise : X) → X
undone_by op None (Some y) n first second otherwise = on_some (undone_second op n y) first otherwise
undone_by op (Some x) None n first second otherwise = on_some (undone_first op n x) second otherwise
undone_by op x y n first second otherwise = otherwise

-- the low bits of a number, as those of a term that is widened or joined, and whether they are widened to the number
abbrev pub low_bits : Tree → BitVector → BitVector
low_bits t n = extract (tree_width t - 1) 0 n

abbrev pub is_widened : (by : ℕ) → (signed : Bool) → Tree → BitVector → Bool
is_widened by signed t n = (extend signed by (low_bits t n)).number == n.number

-- Of two joined terms of which one is a number: where that is as n has those bits, the other is as n
-- has its own. Where it is not, it tells by itself that they are not n.
abbrev pub split_by : {X : Type 0} → Option BitVector → Option BitVector → (upper lower : BitVector) →
    (first second : BitVector → X) → (otherwise : X) → X
split_by None (Some y) upper lower first second otherwise =
    if y.number == lower.number then first upper else second lower
split_by (Some x) None upper lower first second otherwise =
    if x.number == upper.number then second lower else first upper
split_by x y upper lower first second otherwise = otherwise

-- the bits of a number above those of a term
abbrev pub bits_above : Tree → BitVector → BitVector
bits_above t n = extract (n.width - 1) (tree_width t) n

-- the term that is a number exactly where this one is n, by the top operation
abbrev pub undone : Tree → BitVector → Option Peeled
undone (Complement t) n = Some (record { term = t; number = bvnot n })
undone (Negated t) n = Some (record { term = t; number = bvneg n })
undone (Two op s t) n =
    undone_by op (tree_number s) (tree_number t) n (λ m. Some (record { term = s; number = m }))
    (λ m. Some (record { term = t; number = m })) None
undone (Widened by signed t) n =
    if is_widened by signed t n then Some (record { term = t; number = low_bits t n }) else None
undone (Joined s t) n =
    split_by (tree_number s) (tree_number t) (bits_above t n) (low_bits t n)
    (λ m. Some (record { term = s; number = m })) (λ m. Some (record { term = t; number = m })) None
undone t n = None

-- and as far as it goes
unfoldable pub peeled : Tree → BitVector → Peeled
peeled (Complement t) n = peeled t (bvnot n)
peeled (Negated t) n = peeled t (bvneg n)
peeled (Two op s t) n =
    undone_by op (tree_number s) (tree_number t) n (λ m. peeled s m) (λ m. peeled t m)
    (record { term = Two op s t; number = n })
peeled (Widened by signed t) n =
    if is_widened by signed t n then peeled t (low_bits t n)
    else record { term = Widened by signed t; number = n }
peeled (Joined s t) n =
    split_by (tree_number s) (tree_number t) (bits_above t n) (low_bits t n) (λ m. peeled s m)
    (λ m. peeled t m) (record { term = Joined s t; number = n })
peeled t n = record { term = t; number = n }
