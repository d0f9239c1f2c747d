-- Sides, literals and hints, as a text begins with them.
use Rattle.std.specs.Prelude.{ℕ, ◌^◌, Bool, true, false, ◌&&◌, nat_lt, if◌then◌else◌, List, [], ◌∷◌, Option, None, Some, codes, option_map, option_and_then}
use Rattle.std.specs.Option.{option_or}
use Rattle.cnf_form.specs.Literals.{Literal}
use Rattle.tree_core.specs.declared.cause.Cause.{Cause}
use Rattle.tree_core.specs.declared.cause.Cause.TheVariants.{Steps, Targets, Conflicts, Nodes}
use Rattle.fork_spec.specs.Walks.{Side}
use Rattle.text_parts.specs.Items.{choice}
use Rattle.text_parts.specs.Pieces.{Reader, behind, made, named, number}

-- ---- sides

abbrev pub causes : List (List ℕ × Cause)
causes =
    (codes "steps", Steps)
    ∷ (codes "targets", Targets)
    ∷ (codes "conflicts", Conflicts)
    ∷ (codes "nodes", Nodes)
    ∷ []

-- the budget behind an exclamation mark
abbrev pub marked : Reader Cause
marked text = option_and_then (named causes) (behind (codes "!") text)

-- and none where there is no such mark
abbrev pub mark : Reader (Option Cause)
mark text = option_or (made Some (marked text)) (Some (None, text))

unfoldable pub side : Reader Side
side text =
    option_and_then (λ (c, rest). made (λ cut. record { choice = c; cut = cut }) (mark rest))
    (option_and_then choice (behind (codes " ") text))

-- ---- literals

-- the literal of a variable that texts may have: a number of 32 bits, from 1 on
abbrev pub literal_of : (positive : Bool) → ℕ → Option Literal
literal_of positive n =
    if nat_lt 0 n && nat_lt n (2 ^ 32)
    then Some (record { variable = n; positive = positive }) else None

-- the literal of the number that was read
abbrev pub literal_read : (positive : Bool) → Option (ℕ × List ℕ) → Option (Literal × List ℕ)
literal_read positive found =
    option_and_then (λ (n, rest). option_map (λ l. (l, rest)) (literal_of positive n)) found

abbrev pub plain_literal : Reader Literal
plain_literal text = literal_read true (number text)

abbrev pub negated_literal : Reader Literal
negated_literal text = literal_read false (option_and_then number (behind (codes "-") text))

unfoldable pub literal : Reader Literal
literal text =
    option_and_then (λ rest. option_or (plain_literal rest) (negated_literal rest))
    (behind (codes " ") text)

-- ---- hints

-- a number before a blank
unfoldable pub hint : Reader ℕ
hint text =
    option_and_then (λ (n, rest). option_map (λ more. (n, rest)) (behind (codes " ") rest))
    (option_and_then number (behind (codes " ") text))
