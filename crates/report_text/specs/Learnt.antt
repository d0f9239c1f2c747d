-- What was spent on a leaf that is cut by conflicts: the question that was left undecided, and the
-- clauses that were learnt for it.
use Rattle.std.specs.Prelude.{ℕ, List, ◌++◌, codes, decimal, length}
use Rattle.std.specs.List.{flat_map}
use Rattle.smt_text.specs.LeafLines.{query_text}
use Rattle.fork_spec.specs.Evidence.{Learnt}
use Rattle.spent_text.specs.LearntLine.{learnt_line}

-- how many clauses were learnt, and how many inputs and terms the question has
abbrev pub learnt_heading : Learnt → List ℕ
learnt_heading learnt =
    codes "; spent conflicts " ++ decimal (length learnt.log) ++ codes "\n"
    ++ codes "; inputs " ++ decimal learnt.question.graph.inputs ++ codes "\n"
    ++ codes "; nodes " ++ decimal (length learnt.question.graph.nodes) ++ codes "\n"

-- these numbers, the question, and a line for each clause
unfoldable pub conflicts_text : Learnt → List ℕ
conflicts_text learnt =
    learnt_heading learnt ++ query_text learnt.question ++ flat_map learnt_line learnt.log
