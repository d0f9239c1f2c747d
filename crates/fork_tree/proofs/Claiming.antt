-- What an order of claims names, and that it names none where no node is free.
use Rattle.std.proofs.Common.{◌≡◌, ℕ, ◌<◌, true, false, IsTrue, List, Option, Some, None, length, refl, sym, ap, subst, ◌∙◌}
use Rattle.std.specs.Prelude.{slice_get}
use Rattle.std.proofs.lemmas.List.{length-map}
use Rattle.std.proofs.lemmas.Option.{slice_get_within}
use Rattle.tree_core.specs.Orders.{Candidate, free_count, is_named}
use Rattle.tree_core.specs.Replays.{is_free}
use Rattle.tree_core.specs.Stories.{Story, status}
use Rattle.tree_core.specs.declared.cause.Cause.{Cause}
use Rattle.tree_core.specs.declared.choice.Choice.{Choice}
use Rattle.tree_core.specs.declared.node.Status.{Status}
use Rattle.tree_core.specs.declared.node.Status.TheVariants.{Free, Held, Parted, Leaf}
use Rattle.tree_core.specs.declared.order.Order.{Order}
use Rattle.fork_spec.specs.Walks.{candidate}
use Rattle.fork_tree.specs.Calls.{NoneFree}
use Rattle.fork_tree.specs.Candidates.{AreCandidates}
use Rattle.fork_tree.proofs.Candidates.{content-there, seen-at}
use Rattle.fork_tree.proofs.Changing.{get_some}
use Rattle.free_nodes.proofs.Counts.{free_where_named, none_free_where_none, there_where_named}

is_free-true : (st : Status) → is_free st ≡ true → st ≡ Free
is_free-true Free is = refl
is_free-true (Held w) is = cc
is_free-true Parted is = cc
is_free-true Leaf is = cc

module _ {R : Type 0} (choices : R → List Choice) (cut : R → Option Cause) (s : Story R) (all : List Candidate)
    (are : AreCandidates choices cut s all) where
  pub as-many-candidates : length all ≡ length s.nodes
  as-many-candidates = ap length are.seen ∙ length-map are.nodes candidate ∙ are.same.as_many

  same_held : (x y : Candidate) → Some x ≡ Some y → x ≡ y
  same_held x y is = ap held is
    where
      held : Option Candidate → Candidate
      held None = x
      held (Some z) = z

  -- a candidate that is free is a free node
  free-node : (m : ℕ) (c : Candidate) → slice_get all m ≡ Some c → c.is_free ≡ true → (m < length s.nodes) × (status s m ≡ Free)
  free-node m c at is =
      let lt : m < length s.nodes = subst (λ n. m < n) as-many-candidates (slice_get_within all m c at) in
      let held = content-there s m lt in
      let same = same_held c (record { depth = length (choices held.0); is_free = is_free (status s m) })
      (sym at ∙ seen-at choices cut s all m held.0 are held.1) in
      (lt, is_free-true (status s m) (sym (ap (λ (x : Candidate). x.is_free) same) ∙ is))

  -- what an order names is a free node
  pub named-node : (order : Order) (events m : ℕ) → IsTrue (is_named order events all m)
      → (c : Candidate) × (slice_get all m ≡ Some c) × (m < length s.nodes) × (status s m ≡ Free)
  named-node order events m named =
      let listed = get_some all m (there_where_named order events all m named) in
      let node = free-node m listed.0 listed.1 (free_where_named order events all m listed.0 named listed.1) in
      (listed.0, listed.1, node.0, node.1)

  pub none-free : free_count all ≡ 0 → NoneFree s
  none-free none m lt is =
      let held = content-there s m lt in
      let off = none_free_where_none all m (record { depth = length (choices held.0); is_free = is_free (status s m) }) none
      (seen-at choices cut s all m held.0 are held.1) in
      let never : false ≡ true = sym off ∙ ap is_free is in absurd cc
