-- Lines that were passed.
use Rattle.std.specs.Prelude.{◌≡◌, ◌≢◌, ℕ, List, ◌∷◌, ◌++◌, All, length, Option, None, Some}
use Rattle.cert_form.specs.declared.line.CertLine.{CertLine}
use Rattle.cert_form.specs.declared.line.CertLine.TheVariants.{CutNodes}
use Rattle.tree_core.specs.declared.cause.Cause.{Cause}
use Rattle.tree_core.specs.declared.cause.Cause.TheVariants.{Conflicts, Nodes, Steps, Targets}

-- the last of some lines are these
abbrev pub EndsWith : (lines rest : List CertLine) → Type 0
EndsWith lines rest = (passed : List CertLine) × (lines ≡ passed ++ rest)

-- it doesn't say that a run may not part for want of nodes
abbrev pub IsUncut : CertLine → Type 0
IsUncut line = line ≢ CutNodes

-- the last of some lines are these, and none before them says that a run may not part
pub record PassesUncut (lines rest : List CertLine) : Type 0 where
  pub passed : List CertLine
  pub split : lines ≡ passed ++ rest
  pub uncut : All IsUncut passed

-- the last of some lines are these, and those before them make a leaf that was cut so
abbrev pub PassesLeaf : Option Cause → (lines rest : List CertLine) → Type 0
PassesLeaf None lines rest = PassesUncut lines rest
PassesLeaf (Some Steps) lines rest = PassesUncut lines rest
PassesLeaf (Some Targets) lines rest = PassesUncut lines rest
PassesLeaf (Some Conflicts) lines rest = PassesUncut lines rest
PassesLeaf (Some Nodes) lines rest = lines ≡ CutNodes ∷ rest

-- the last of some lines are these, and the first of those before them that says that a run may not part is where so many are left
abbrev pub PassesFirst : Option ℕ → (lines rest : List CertLine) → Type 0
PassesFirst None lines rest = PassesUncut lines rest
PassesFirst (Some left) lines rest = (more : List CertLine) × PassesUncut lines (CutNodes ∷ more)
    × (left ≡ length (CutNodes ∷ more)) × EndsWith more rest
