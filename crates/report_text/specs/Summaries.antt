-- How many leaves of which sort there are, and the line that says it.
use Rattle.std.specs.Prelude.{Bool, true, false, not, ℕ, ◌*◌, ◌-◌, ◌^◌, ◌<◌, ◌≤◌, List, ◌++◌, codes, decimal, filter, length, sum_by}
use Rattle.tree_core.specs.declared.cause.Cause.TheVariants.{Steps, Targets, Conflicts, Nodes}
use Rattle.fork_spec.specs.Leaves.{Leaf}
use Rattle.fork_spec.specs.declared.end.LeafEnd.{LeafEnd}
use Rattle.fork_spec.specs.declared.end.LeafEnd.TheVariants.{Exits, Traps, Cut}
use Rattle.report_text.specs.declared.summary.Summary.{Summary}

-- the runs have ended
abbrev pub is_finished : LeafEnd → Bool
is_finished (Exits status) = true
is_finished (Traps trap) = true
is_finished (Cut cause) = false

-- a leaf has a test where its runs have ended or made all steps
abbrev pub is_tested : LeafEnd → Bool
is_tested (Exits status) = true
is_tested (Traps trap) = true
is_tested (Cut Steps) = true
is_tested (Cut Targets) = false
is_tested (Cut Conflicts) = false
is_tested (Cut Nodes) = false

abbrev pub has_ended : Leaf → Bool
has_ended leaf = is_finished leaf.end

-- the steps are those of the leaves whose runs have ended
unfoldable pub count : List Leaf → Summary
count leaves = record {
  leaves = length leaves;
  finished = length (filter has_ended leaves);
  cut = length (filter (λ leaf. not (has_ended leaf)) leaves);
  tests = length (filter (λ (leaf : Leaf). is_tested leaf.end) leaves);
  steps = sum_by (λ (leaf : Leaf). leaf.steps) (filter has_ended leaves);
}

-- So few leaves that one more can be counted: fewer than 2 ^ 32, and none of more steps than 32
-- bits hold.
pub record HasRoom (summary : Summary) : Type 0 where
  pub few : summary.leaves < 2 ^ 32
  pub finished : summary.finished ≤ summary.leaves
  pub cut : summary.cut ≤ summary.leaves
  pub tests : summary.tests ≤ summary.leaves
  pub steps : summary.steps ≤ summary.leaves * (2 ^ 32 - 1)

-- the line that is said
unfoldable pub summary_text : Summary → List ℕ
summary_text summary =
    codes "leaves " ++ decimal summary.leaves
    ++ codes " finished " ++ decimal summary.finished
    ++ codes " cut " ++ decimal summary.cut
    ++ codes " tests " ++ decimal summary.tests
    ++ codes " steps " ++ decimal summary.steps
    ++ codes "\n"
