-- What stands is a test of an interval.
use Rattle.std.proofs.Common.{◌≡◌, ℕ}
use Rattle.bv_dag.specs.BitVectors.{bvnot, bvult}
use Rattle.bv_dag.specs.Graphs.{Graph, val}
use Rattle.bv_dag.specs.Nodes.{binary}
use Rattle.term_trees.specs.Trees.{tree_of}
use Rattle.term_simplify.specs.Intervals.{between_at, interval_word, joining}
use Rattle.term_simplify.specs.Plain.{complement_of, plain_binary}
use Rattle.term_simplify.specs.Simplified.{below_number, in_interval}
use Rattle.term_simplify.specs.Steps.{Stands}
use Rattle.term_simplify.specs.declared.intervals.Between.{Between}
use Rattle.term_simplify.proofs.Words.{tests_equal, tests_unequal}

-- one that ends at 0
pub interval_open : {h : Graph} {id : ℕ} (g : Graph) (b : Between) → b.high.number ≡ 0 →
    Stands h id (complement_of (below_number (tree_of g b.term) b.low)) 1 (λ input. bvnot (bvult (val g b.term input) b.low)) →
    Stands h id (in_interval (between_at g b)) 1 (λ input. interval_word (val g b.term input) b.low b.high)
interval_open g b zero n = rw (tests_equal b.high.number 0 zero) n

pub interval_joined : {h : Graph} {id : ℕ} (g : Graph) (b : Between) → (b.high.number ≡ 0 → ⊥) →
    Stands h id (plain_binary (joining b.low b.high) (complement_of (below_number (tree_of g b.term) b.low)) (below_number (tree_of g b.term) b.high)) 1
    (λ input. binary (joining b.low b.high) (bvnot (bvult (val g b.term input) b.low)) (bvult (val g b.term input) b.high)) →
    Stands h id (in_interval (between_at g b)) 1 (λ input. interval_word (val g b.term input) b.low b.high)
interval_joined g b other n = rw (tests_unequal b.high.number 0 other) n
