-- The names of the files of a report, which stand in a folder.
use Rattle.std.specs.Prelude.{ℕ, ◌-◌, List, ◌++◌, codes, decimal, length, replicate}

-- a number in six digits, or in more where it has more; 48 is a zero
abbrev pub six_digits : ℕ → List ℕ
six_digits n = replicate (6 - length (decimal n)) 48 ++ decimal n

abbrev pub events_name : (out : List ℕ) → List ℕ
events_name out = out ++ codes "/events.txt"

-- the leaf of this rank
abbrev pub leaf_name : (out : List ℕ) → (rank : ℕ) → List ℕ
leaf_name out rank = out ++ codes "/leaf-" ++ six_digits rank ++ codes ".smt2"

-- its test
abbrev pub test_name : (out : List ℕ) → (rank : ℕ) → List ℕ
test_name out rank = out ++ codes "/test-" ++ six_digits rank ++ codes ".json"

-- or what was spent on it
abbrev pub spent_name : (out : List ℕ) → (rank : ℕ) → List ℕ
spent_name out rank = out ++ codes "/spent-" ++ six_digits rank ++ codes ".txt"

abbrev pub report_name : (out : List ℕ) → List ℕ
report_name out = out ++ codes "/report.json"
