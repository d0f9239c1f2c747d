-- What shows a leaf: an assignment that it covers, or for one that is cut the budget that was spent.
use Rattle.std.specs.Prelude.{◌≡◌, ℕ, ◌-◌, ◌<◌, ◌≤◌, Bool, not, ◌&&◌, ◌==◌, List, [], ◌∷◌, ◌++◌, All, IsTrue, length, map, take, true}
use Rattle.std.specs.List.{list_any}
use Rattle.circuit_spec.specs.Budgets.{IsSpent}
use Rattle.bv_dag.specs.Graphs.{IsDag, width_of}
use Rattle.bv_dag.specs.Queries.{AreBits, Condition, holds}
use Rattle.cnf_form.specs.Refutations.{Step}
use Rattle.elf_load.specs.declared.region.Region.{Region}
use Rattle.rv_spec.specs.Memory.{IsAssignment, count_of}
use Rattle.term_trees.specs.TreeSlices.{IsPartFor}
use Rattle.tree_core.specs.declared.choice.Choice.{Choice}
use Rattle.tree_core.specs.declared.choice.Choice.TheVariants.{Value, Rest}
use Rattle.fork_spec.specs.Leaves.{IsCount, IsSmall, Leaf, covers, worth}

-- a value, and an assignment on which the term has it
pub record Found : Type 0 where
  pub value : ℕ
  pub input : List ℕ

-- a term of a leaf, and the values that it takes
pub record Spent : Type 0 where
  pub term : ℕ
  pub found : List Found

abbrev pub values_of : List Found → List ℕ
values_of found = map (λ (f : Found). f.value) found

-- a question that was asked, and the clauses that were learnt for it
pub record Learnt : Type 0 where
  pub question : Condition
  pub log : List Step

-- each below those behind it
abbrev pub AreIncreasing : List ℕ → Type 0
AreIncreasing [] = Unit {0}
AreIncreasing (v ∷ vs) = All (λ w. v < w) vs × AreIncreasing vs

-- the number is one of these
abbrev pub is_among : List ℕ → ℕ → Bool
is_among vs n = list_any (λ v. n == v) vs

-- the leaf's condition without its last so many assertions
abbrev pub all_but_last : ℕ → Leaf → Condition
all_but_last count leaf =
    record {
      graph = leaf.condition.graph;
      asserted = take (length leaf.condition.asserted - count) leaf.condition.asserted;
    }

-- on its assignment the other assertions hold, and the term has the value
pub record IsWitness (regions : List Region) (leaf : Leaf) (count term : ℕ)
    (f : Found) : Type 0 where
  pub assignment : IsAssignment regions f.input
  pub holds_others : holds (all_but_last count leaf) f.input ≡ true
  pub has_value : worth leaf f.input term ≡ f.value

-- The budget of targets is spent: the term takes so many values, the leaf is what is left, and something is. The other sides of its fork are just these values.
pub record SpendsTargets (regions : List Region) (targets : ℕ) (sides : List Choice) (leaf : Leaf)
    (spent : Spent) : Type 0 where
  pub wide : width_of leaf.condition.graph spent.term ≡ 32
  pub each : length spent.found ≡ targets
  pub asserted : targets ≤ length leaf.condition.asserted
  pub increasing : AreIncreasing (values_of spent.found)
  pub reached : All (IsWitness regions leaf targets spent.term) spent.found
  pub rest : (input : List ℕ) → IsAssignment regions input →
      covers leaf input ≡ (holds (all_but_last targets leaf) input
      && not (is_among (values_of spent.found) (worth leaf input spent.term)))
  pub some : (input : List ℕ) × IsAssignment regions input × IsTrue (covers leaf input)
  pub others : sides ≡ map Value (values_of spent.found) ++ Rest ∷ []

-- A question in full: its terms fit, its assertions are bits, it has fewer than 2 ^ 32 inputs and fewer than 2 ^ 64 terms.
pub record IsQuestion (q : Condition) : Type 0 where
  pub is_dag : IsDag q.graph
  pub bits : AreBits q.graph q.asserted
  pub few_inputs : IsSmall q.graph.inputs
  pub few_nodes : IsCount (length q.graph.nodes)

-- The budget of conflicts is spent on the last of the leaf's assertions: the question, which is over the bytes of the regions, is
-- the part of the leaf's condition that matters for it, and just so many clauses were learnt for it.
pub record SpendsConflicts (regions : List Region) (conflicts : ℕ) (leaf : Leaf)
    (learnt : Learnt) : Type 0 where
  pub front : List ℕ
  pub last : ℕ
  pub asserted : leaf.condition.asserted ≡ front ++ last ∷ []
  pub full : IsQuestion learnt.question
  pub inputs : learnt.question.graph.inputs ≡ count_of regions
  pub part : IsPartFor leaf.condition last learnt.question
  pub spent : IsSpent learnt.question conflicts learnt.log

-- the assignment is one that the leaf covers
abbrev pub IsSample : List Region → Leaf → List ℕ → Type 0
IsSample regions leaf input = IsAssignment regions input × IsTrue (covers leaf input)
