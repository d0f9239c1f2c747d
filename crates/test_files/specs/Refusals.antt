-- Why a text is no test: numbers and names.
use Rattle.std.specs.Prelude.{◌≡◌, ℕ, List, codes, Option, None, Result, Ok, Err}
use Rattle.serde_json.specs.Data.{Data}
use Rattle.test_files.specs.declared.refused.TestRefused.{TestRefused}
use Rattle.test_files.specs.declared.refused.TestRefused.TheVariants.{NotJson, Missing, Kind, Hex, Length, TooBig}
use Rattle.test_files.specs.declared.test_error.TestError.{TestError}
use Rattle.test_files.specs.declared.test_error.TestError.TheVariants.{Refused, NoMemory}

-- the number of a reason
abbrev pub test_refused_number : TestRefused → ℕ
test_refused_number NotJson = 1
test_refused_number Missing = 2
test_refused_number Kind = 3
test_refused_number Hex = 4
test_refused_number Length = 5
test_refused_number TooBig = 6

-- what a reason is called
abbrev pub test_refused_name : TestRefused → List ℕ
test_refused_name NotJson = codes "NotJson"
test_refused_name Missing = codes "Missing"
test_refused_name Kind = codes "Kind"
test_refused_name Hex = codes "Hex"
test_refused_name Length = codes "Length"
test_refused_name TooBig = codes "TooBig"

-- an error that says why there is no value, or that memory ran out
abbrev pub IsWhy : {A : Type 0} → Result A TestRefused → TestError → Type 0
IsWhy wanted (Refused why) = wanted ≡ Err why
IsWhy wanted NoMemory = Unit {0}

-- it is refused for this reason, or memory ran out
abbrev pub IsRefusedAs : {A : Type 0} → TestRefused → Result A TestError → Type 0
IsRefusedAs wanted (Ok value) = ⊥
IsRefusedAs wanted (Err NoMemory) = Unit {0}
IsRefusedAs wanted (Err (Refused why)) = why ≡ wanted

-- ---- for private clauses

-- there is no JSON value, or memory ran out
abbrev pub IsNoJson : Option Data → TestError → Type 0
IsNoJson wanted (Refused why) = (wanted ≡ None) × (why ≡ NotJson)
IsNoJson wanted NoMemory = Unit {0}

-- a value is not of its form, or memory ran out
abbrev pub IsOfNoForm : {A : Type 0} → Option A → TestError → Type 0
IsOfNoForm wanted (Refused why) = (wanted ≡ None) × (why ≡ Kind)
IsOfNoForm wanted NoMemory = Unit {0}
