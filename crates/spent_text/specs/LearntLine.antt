-- The line of a clause that was learnt.
use Rattle.std.specs.Prelude.{ℕ, List, ◌++◌, codes, decimal, if◌then◌else◌}
use Rattle.std.specs.List.{flat_map}
use Rattle.cnf_form.specs.Literals.{Literal}
use Rattle.cnf_form.specs.Refutations.{Step}

-- a literal, behind a blank: the number of its variable, with a minus sign where it is negated
abbrev pub literal_text : Literal → List ℕ
literal_text l = (if l.positive then codes " " else codes " -") ++ decimal l.variable

-- the number of a clause, behind a blank
abbrev pub hint_text : ℕ → List ℕ
hint_text number = codes " " ++ decimal number

-- a clause that was learnt: its literals, 0, the clauses by which it follows, and 0
abbrev pub learnt_line : Step → List ℕ
learnt_line s =
    codes "c" ++ flat_map literal_text s.clause ++ codes " 0"
    ++ flat_map hint_text s.hints ++ codes " 0\n"
