-- What is said of the input bytes under terms, as far as it matters how many they are.
use Rattle.std.specs.Prelude.{◌≡◌, ℕ, List, [], All}
use Rattle.std.specs.List.{Contains, AllZip}
use Rattle.bv_dag.specs.Inputs.{HasTwo}
use Rattle.query_pick.specs.declared.occurrence.Occurrence.{Occurrence}
use Rattle.query_pick.specs.declared.occurrence.Occurrence.TheVariants.{NoInput, OneInput, MoreInputs}

-- each of these is this byte
abbrev pub IsAlone : List ℕ → ℕ → Type 0
IsAlone inputs place = All (λ i. i ≡ place) inputs

-- what is said of input bytes is so
abbrev pub IsOccurrence : List ℕ → Occurrence → Type 0
IsOccurrence inputs NoInput = inputs ≡ []
IsOccurrence inputs (OneInput place) = Contains inputs place × IsAlone inputs place
IsOccurrence inputs MoreInputs = HasTwo inputs

-- of each term of a table is said what is so of the input bytes under it
abbrev pub AreOccurrences : List (List ℕ) → List Occurrence → Type 0
AreOccurrences under found = AllZip IsOccurrence under found
