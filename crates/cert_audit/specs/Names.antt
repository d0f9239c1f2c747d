-- The leaves that the lines of a certificate's walk name, in their order.
use Rattle.std.specs.Prelude.{ℕ, suc, List, [], ◌∷◌, ◌++◌, length, map, sum_by, Option, None, Some}
use Rattle.cert_form.specs.declared.line.CertLine.{CertLine}
use Rattle.cert_form.specs.declared.line.CertLine.TheVariants.{Split, Inputs, Witness, End, CutSteps, CutNodes}
use Rattle.fork_spec.specs.Walks.{Side}
use Rattle.tree_core.specs.declared.cause.Cause.{Cause}
use Rattle.tree_core.specs.declared.cause.Cause.TheVariants.{Conflicts, Nodes, Steps, Targets}
use Rattle.tree_core.specs.declared.choice.Choice.{Choice}

-- a leaf as lines name it: the sides that lead to it, why it was cut, if it was, and an assignment that it covers, if they have one
pub record Named : Type 0 where
  pub choices : List Choice
  pub cut : Option Cause
  pub sample : Option (List ℕ)

-- what the walk comes to: a node of the tree, or a side of a fork that is cut; and the sides that lead there
pub record Ahead : Type 0 where
  pub choices : List Choice
  pub cut : Option Cause

-- the root of the tree
abbrev pub root_ahead : Ahead
root_ahead = record { choices = []; cut = None }

-- a side of a node that is parted
abbrev pub side_ahead : List Choice → Side → Ahead
side_ahead choices side = record { choices = choices ++ side.choice ∷ []; cut = side.cut }

-- a leaf there
abbrev pub leaf_there : Ahead → Option Cause → Option (List ℕ) → List Named
leaf_there a cut sample = record { choices = a.choices; cut = cut; sample = sample } ∷ []

-- the leaf of a side that is cut by conflicts begins with its question
abbrev pub asked_there : Ahead → Option Cause → List Named
asked_there a (Some Conflicts) = leaf_there a (Some Conflicts) None
asked_there a _ = []

-- the leaf that a line names at what comes next, if it names one
abbrev pub named_by : Ahead → CertLine → List Named
named_by a (End input) = leaf_there a None (Some input)
named_by a (CutSteps input) = leaf_there a (Some Steps) (Some input)
named_by a CutNodes = leaf_there a (Some Nodes) None
named_by a (Witness input) = leaf_there a (Some Targets) (Some input)
named_by a (Inputs count) = asked_there a a.cut
named_by a _ = []

-- it, where no leaf was named there
abbrev pub still_ahead : Ahead → List Named → List Ahead
still_ahead a [] = a ∷ []
still_ahead a (leaf ∷ leaves) = []

-- what has come in the place of what came next, behind a line
abbrev pub ahead_behind : Ahead → CertLine → List Ahead
ahead_behind a (Split sides) = map (side_ahead a.choices) sides
ahead_behind a line = still_ahead a (named_by a line)

-- the leaves that lines name, with so much ahead
unfoldable pub named_from : List Ahead → List CertLine → List Named
named_from ahead [] = []
named_from [] (line ∷ lines) = []
named_from (a ∷ ahead) (line ∷ lines) =
    named_by a line ++ named_from (ahead_behind a line ++ ahead) lines

-- the sides that a line parts a node into
abbrev pub sides_in : CertLine → List Side
sides_in (Split sides) = sides
sides_in _ = []

-- how many nodes the tree has of which lines are the walk
unfoldable pub nodes_in : List CertLine → ℕ
nodes_in lines = suc (sum_by (λ line. length (sides_in line)) lines)
