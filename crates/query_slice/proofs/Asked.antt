-- Asserted terms are there.
use Rattle.std.proofs.Common.{◌≡◌, ◌<◌, ℕ, Bool, List, filter, length, sym, subst, arith}
use Rattle.std.specs.Prelude.{All}
use Rattle.std.proofs.lemmas.List.Elements.{All-filter, All-weaker}
use Rattle.bv_dag.specs.Graphs.{Graph, width_of}
use Rattle.bv_dag.specs.Queries.{AreBits}
use Rattle.bv_dag.proofs.TermLaws.{there}

-- what is of one bit is there
pub bits_there : (table : Graph) (given : List ℕ) → AreBits table given → All (λ id. id < length table.nodes) given
bits_there table given bits = All-weaker (λ id. width_of table id ≡ 1) (λ id. id < length table.nodes) (λ id wide. there table id 1 wide (omega arith)) given bits

-- asserted terms are of one bit in the graph that is read
pub asserted_bits : (graph table : Graph) (asserted given : List ℕ) → table ≡ graph → given ≡ asserted → AreBits graph asserted → AreBits table given
asserted_bits graph table asserted given same here bits = subst (λ (g : Graph). AreBits g given) (sym same) (subst (AreBits graph) (sym here) bits)

-- so are those of them that pass a test
pub kept_bits : (graph : Graph) (asserted kept : List ℕ) (test : ℕ → Bool) → kept ≡ filter test asserted → AreBits graph asserted → AreBits graph kept
kept_bits graph asserted kept test are bits = subst (AreBits graph) (sym are) (All-filter test (λ id. width_of graph id ≡ 1) asserted bits)
