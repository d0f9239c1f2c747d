-- When an event may be done to a node.
use Rattle.std.proofs.Common.{◌≡◌, ℕ, IsTrue, refl, ap, ◌∙◌, eq-eqb}
use Rattle.std.specs.Global.{Vec}
use Rattle.tree_core.specs.declared.event.Deed.{Deed}
use Rattle.tree_core.specs.declared.event.Deed.TheVariants.{Claim}
use Rattle.tree_core.specs.declared.event.Kid.{Kid}
use Rattle.tree_core.specs.declared.node.Status.{Status}
use Rattle.tree_core.specs.declared.node.Status.TheVariants.{Free, Held}
use Rattle.tree_core.specs.Stories.{Story, status}
use Rattle.tree_core.specs.Replays.{allows, is_allowed, is_held_by}
use Rattle.fork_tree.proofs.Standings.{Coming}

module _ {R : Type 0} where
  pub allowed-claim : (s : Story R) (e : Coming R) → e.deed ≡ Claim → status s e.node ≡ Free →
      IsTrue (is_allowed s e)
  allowed-claim s e claims free =
      ap (λ (p : Status × Deed R (Vec (Kid R))). allows p.0 e.by p.1) (λ i. (free i, claims i))

  pub held-allows : (s : Story R) (e : Coming R) → status s e.node ≡ Held e.by →
      ((st : Status) (by : ℕ) → allows st by e.deed ≡ is_held_by by st) → IsTrue (is_allowed s e)
  held-allows s e is ends =
      ends (status s e.node) e.by ∙ (ap (is_held_by e.by) is ∙ eq-eqb e.by e.by refl)
