-- Certificates that their texts tell from all others: those of which each number, choice and byte has a text of its own.
use Rattle.std.specs.Prelude.{ℕ, zero, suc, ◌<◌, All, List}
use Rattle.cert_form.specs.Certificates.{Certificate}
use Rattle.cert_form.specs.declared.cert.Limits.{Limits}
use Rattle.cert_form.specs.declared.line.CertLine.{CertLine}
use Rattle.cert_form.specs.declared.line.CertLine.TheVariants.{One, Split, Inputs, Nodes, Input, Node, Assert, Clause, Value, Witness, End, CutSteps}
use Rattle.cnf_form.specs.Clauses.{IsClause}
use Rattle.elf_load.specs.declared.region.Region.{Region}
use Rattle.fork_spec.specs.Leaves.{IsCount, IsSmall}
use Rattle.tree_core.specs.Choices.{IsSmallChoice}
use Rattle.fork_spec.specs.Walks.{Side}
use Rattle.smt_text.specs.NodeText.{IsSmallNode}
use Rattle.spent_text.specs.Legible.{HasSmallNumbers, IsLegibleFound}
use Rattle.cert_text.specs.Texts.{TextLine, FormatLine, RegionsLine, BudgetsLine, WalkLine}

-- bytes
abbrev pub AreInput : List ℕ → Type 0
AreInput input = All (λ b. b < 256) input

-- values of choices and counts of inputs have 32 bits, other numbers of a question 64; a clause is one as texts have it
abbrev pub IsLegibleLine : CertLine → Type 0
IsLegibleLine (One choice) = IsSmallChoice choice
IsLegibleLine (Split sides) = All (λ (side : Side). IsSmallChoice side.choice) sides
IsLegibleLine (Inputs inputs) = IsSmall inputs
IsLegibleLine (Nodes nodes) = IsCount nodes
IsLegibleLine (Input i) = IsCount i
IsLegibleLine (Node defined) =
    IsCount defined.id × IsCount defined.width × IsSmallNode defined.node
IsLegibleLine (Assert id) = IsCount id
IsLegibleLine (Clause step) = IsClause step.clause × HasSmallNumbers step
IsLegibleLine (Value found) = IsLegibleFound found
IsLegibleLine (Witness input) = AreInput input
IsLegibleLine (End input) = AreInput input
IsLegibleLine (CutSteps input) = AreInput input
IsLegibleLine _ = Unit {0}

-- an address and a count of 32 bits
abbrev pub IsSmallRegion : Region → Type 0
IsSmallRegion region = IsSmall region.start × IsSmall region.count

-- four numbers of 32 bits
pub record AreSmallLimits (budgets : Limits) : Type 0 where
  pub steps : IsSmall budgets.steps
  pub targets : IsSmall budgets.targets
  pub conflicts : IsSmall budgets.conflicts
  pub nodes : IsSmall budgets.nodes

pub record IsLegible (c : Certificate) : Type 0 where
  pub regions : All IsSmallRegion c.regions
  pub budgets : AreSmallLimits c.budgets
  pub lines : All IsLegibleLine c.lines

-- the line may stand behind so many others: the heading first, and then the walk
abbrev pub MayStand : (before : ℕ) → TextLine → Type 0
MayStand zero FormatLine = Unit {0}
MayStand (suc zero) (RegionsLine regions) = All IsSmallRegion regions
MayStand (suc (suc zero)) (BudgetsLine budgets) = AreSmallLimits budgets
MayStand (suc (suc (suc before))) (WalkLine line) = IsLegibleLine line
MayStand before line = ⊥
