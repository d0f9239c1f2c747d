-- What an audit shows of a certificate: its leaves share out all assignments, and each of them is right.
use Rattle.std.specs.Prelude.{◌≡◌, ◌⊎◌, ℕ, ◌<◌, ◌≤◌, List, [], ◌∷◌, All, count_by, map, Option, None, Some}
use Rattle.cert_form.specs.Certificates.{Certificate}
use Rattle.cert_query.specs.declared.fault.Reason.TheVariants.{Budget}
use Rattle.cert_form.specs.declared.line.CertLine.{CertLine}
use Rattle.elf_load.specs.Images.{Image}
use Rattle.fork_spec.specs.Leaves.{covers}
use Rattle.fork_spec.specs.Parts.{IsRight, Part}
use Rattle.rv_spec.specs.Memory.{IsAssignment}
use Rattle.tree_core.specs.declared.choice.Choice.{Choice}
use Rattle.cert_audit.specs.Causes.{line_at}
use Rattle.cert_audit.specs.Limits.{budgets_of}
use Rattle.cert_audit.specs.Names.{named_from, nodes_in, root_ahead}
use Rattle.cert_audit.specs.Steps.{named_as}
use Rattle.cert_audit.specs.Walks.{AreCounted}
use Rattle.cert_audit.specs.declared.auditing.Verdict.{Verdict}
use Rattle.cert_audit.specs.declared.auditing.Verdict.TheVariants.{Yes, No}
use Rattle.cert_audit.specs.declared.walking.Tally.{Tally}

-- a leaf is right for a program, as some side of a fork; where it was cut for want of nodes, its tree has as many as it shows
pub record IsRightIn (image : Image) (cert : Certificate) (part : Part) : Type 0 where
  pub sides : List Choice
  pub nodes : Option ℕ
  pub counted : (n : ℕ) → nodes ≡ Some n → n ≤ nodes_in cert.lines
  pub right : IsRight image cert.regions (budgets_of cert.budgets) sides nodes part

-- These are the leaves that the certificate names: each assignment is covered by just one of them, and the runs of each are as it
-- says.
pub record AreLeavesOf (image : Image) (cert : Certificate) (parts : List Part) : Type 0 where
  pub named : map named_as parts ≡ named_from (root_ahead ∷ []) cert.lines
  pub right : All (IsRightIn image cert) parts
  pub once : (input : List ℕ) → IsAssignment cert.regions input
      → count_by (λ part. covers part.leaf input) parts ≡ 1

-- What is said: yes only of a certificate that shows what it says, with the numbers of its leaves.
abbrev pub IsAudited : Image → Certificate → Verdict → Type 0
IsAudited image cert (Yes leaves) = (parts : List Part) × AreLeavesOf image cert parts
    × AreCounted parts leaves
IsAudited image cert (No line reason) = Unit {0}

-- what is said of a walk that came to its end: no just where a leaf was cut for want of nodes, and there are fewer than there may be
abbrev pub IsSettled : Tally → List CertLine → (nodes : ℕ) → Verdict → Type 0
IsSettled tally lines nodes (Yes leaves) = (leaves ≡ tally.leaves)
    × ((tally.first_by_nodes ≡ None) ⊎ (nodes ≤ nodes_in lines))
IsSettled tally lines nodes (No line reason) = (left : ℕ) × (tally.first_by_nodes ≡ Some left)
    × (nodes_in lines < nodes) × (line ≡ line_at lines left) × (reason ≡ Budget)
