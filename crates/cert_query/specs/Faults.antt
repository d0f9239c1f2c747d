-- The first line that may not stand where it does, why, and the numbers by which reasons are told.
use Rattle.std.specs.Prelude.{◌≡◌, ℕ, List, ◌++◌, length}
use Rattle.cert_form.specs.declared.line.CertLine.{CertLine}
use Rattle.cert_query.specs.declared.fault.Fault.{Fault}
use Rattle.cert_query.specs.declared.fault.Reason.{Reason}
use Rattle.cert_query.specs.declared.fault.Reason.TheVariants.{Text, Place, Query, Log, Sample, Budget, Tried}

abbrev pub number_of : Reason → ℕ
number_of Text = 1
number_of Place = 2
number_of Query = 3
number_of Log = 4
number_of Sample = 5
number_of Budget = 6
number_of Tried = 7

-- the first of these lines may not stand, or there is none where one must
abbrev pub fault_at : List CertLine → Reason → Fault
fault_at lines reason = record { left = length lines; reason = reason }

-- behind these lines, which may stand, the rest is at fault
pub record IsFaultBehind (before lines : List CertLine)
    (IsFault : List CertLine → Fault → Type 0) (fault : Fault) : Type 0 where
  pub rest : List CertLine
  pub split : lines ≡ before ++ rest
  pub here : IsFault rest fault
