-- Why a certificate is refused, and at which line.
use Rattle.std.specs.Prelude.{◌≡◌, ◌≢◌, ℕ, ◌+◌, ◌-◌, ◌<◌, List, [], length, None, Some}
use Rattle.cert_form.specs.Certificates.{Certificate}
use Rattle.cert_form.specs.declared.line.CertLine.{CertLine}
use Rattle.cert_query.specs.declared.fault.Fault.{Fault}
use Rattle.cert_query.specs.declared.fault.Reason.{Reason}
use Rattle.cert_query.specs.declared.fault.Reason.TheVariants.{Budget}
use Rattle.elf_load.specs.Fits.{unfit}
use Rattle.elf_load.specs.Images.{Image}
use Rattle.sym_state.specs.Programs.{Program}
use Rattle.cert_audit.specs.Limits.{AreWithin, budgets_of}
use Rattle.cert_audit.specs.Names.{nodes_in}
use Rattle.cert_audit.specs.WalkFaults.{IsWalkFault}
use Rattle.cert_audit.specs.Walks.{IsWalked}
use Rattle.cert_audit.specs.declared.auditing.Verdict.{Verdict}
use Rattle.cert_audit.specs.declared.auditing.Verdict.TheVariants.{No, Yes}
use Rattle.cert_audit.specs.declared.walking.Tally.{Tally}

-- the program that a certificate is of
abbrev pub program_of : Image → Certificate → Program
program_of image cert = record { image = image; regions = cert.regions }

-- the number of the line of a walk at which so many are left; three lines stand before the first
abbrev pub line_at : List CertLine → (left : ℕ) → ℕ
line_at lines left = length lines - left + 4

-- its regions fit the program, and its budgets are within their bounds
pub record IsAuditable (image : Image) (cert : Certificate) : Type 0 where
  pub fits : unfit image cert.regions ≡ None
  pub within : AreWithin cert.budgets

-- a whole walk came to a leaf that was cut for want of nodes, the first of them where so many lines were left; and the tree has too few
pub record HasTooFewNodes (image : Image) (cert : Certificate) (left : ℕ) : Type 0 where
  pub tally : Tally
  pub walked : IsWalked (program_of image cert) (budgets_of cert.budgets) cert.lines [] [] tally
  pub first : tally.first_by_nodes ≡ Some left
  pub few : nodes_in cert.lines < cert.budgets.nodes

pub data IsCause (image : Image) (cert : Certificate) (line : ℕ) (reason : Reason) : Type 0 where
  regions_do_not_fit : unfit image cert.regions ≢ None → line ≡ 2 → reason ≡ Budget
      → IsCause image cert line reason
  budgets_are_not_within : unfit image cert.regions ≡ None → (AreWithin cert.budgets → ⊥)
      → line ≡ 3 → reason ≡ Budget → IsCause image cert line reason
  is_not_walked : IsAuditable image cert → (fault : Fault)
      → IsWalkFault (program_of image cert) (budgets_of cert.budgets) cert.lines fault
      → line ≡ line_at cert.lines fault.left → reason ≡ fault.reason
      → IsCause image cert line reason
  has_too_few_nodes : IsAuditable image cert → (left : ℕ) → HasTooFewNodes image cert left
      → line ≡ line_at cert.lines left → reason ≡ Budget → IsCause image cert line reason

-- a no has its cause
abbrev pub HasCause : Image → Certificate → Verdict → Type 0
HasCause image cert (Yes leaves) = Unit {0}
HasCause image cert (No line reason) = IsCause image cert line reason
