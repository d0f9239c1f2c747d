-- The calls that an object is made to fail at, and which of its calls fail.
use Rattle.std.specs.Prelude.{ℕ, ◌+◌, ◌-◌, ◌^◌, ◌==◌, Bool, IsFalse, IsTrue, List, Err, Ok, Result, min}
use Rattle.std.specs.List.{list_any}
use Rattle.tool_io.specs.declared.files.Fault.{Fault}
use Rattle.tool_io.specs.declared.files.Fault.TheVariants.{Failed, NoMemory}

-- how many calls were made, and the numbers of those that fail, counted from 1
pub record Calls : Type 0 where
  pub made : ℕ
  pub to_fail : List ℕ

-- the number of the next call; numbers end at the largest of 64 bits
abbrev pub next_number : Calls → ℕ
next_number calls = min (calls.made + 1) (2 ^ 64 - 1)

-- the next call is one that fails
abbrev pub next_fails : Calls → Bool
next_fails calls = list_any (λ number. number == next_number calls) calls.to_fail

-- one call more was made
abbrev pub with_call : Calls → Calls
with_call calls = record calls { made = next_number calls }

-- a call that is refused no memory fails just where this says so
abbrev pub FailsJustWhere : {T : Type 0} → Bool → Result T Fault → Type 0
FailsJustWhere fails (Ok value) = IsFalse fails
FailsJustWhere fails (Err Failed) = IsTrue fails
FailsJustWhere fails (Err NoMemory) = Unit {0}

-- the calls after one with this answer: one that is refused memory doesn't count
abbrev pub calls_after : {T : Type 0} → Calls → Result T Fault → Calls
calls_after before (Ok value) = with_call before
calls_after before (Err Failed) = with_call before
calls_after before (Err NoMemory) = before
