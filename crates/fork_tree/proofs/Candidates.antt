-- The nodes of a story as an order of claims sees them.
use Rattle.std.proofs.Common.{◌≡◌, ℕ, suc, ◌<◌, true, IsTrue, List, [], ◌∷◌, Option, Some, None, length, map, option_map, refl, sym, ap, subst, ◌∙◌, arith}
use Rattle.std.specs.Prelude.{slice_get}
use Rattle.std.specs.Global.{Vec}
use Rattle.std.proofs.lemmas.Option.{slice_get-map}
use Rattle.tree_core.specs.Nodes.{Node}
use Rattle.tree_core.specs.Orders.{Candidate, is_named}
use Rattle.tree_core.specs.Replays.{is_free}
use Rattle.tree_core.specs.Stories.{Story, content, content_after, content_by, last_on, status}
use Rattle.tree_core.specs.declared.cause.Cause.{Cause}
use Rattle.tree_core.specs.declared.choice.Choice.{Choice}
use Rattle.tree_core.specs.declared.event.Event.{Event}
use Rattle.tree_core.specs.declared.event.Deed.{Deed}
use Rattle.tree_core.specs.declared.event.Deed.TheVariants.{Claim, Split, Finish, Cut, Release}
use Rattle.tree_core.specs.declared.event.Kid.{Kid}
use Rattle.tree_core.specs.declared.order.Order.{Order}
use Rattle.fork_spec.specs.Walks.{Standing, candidate, is_in_turn}
use Rattle.fork_tree.specs.Candidates.{AreCandidates, IsInTurn}
use Rattle.fork_tree.specs.Written.{AreNodesOf, written_now}
use Rattle.fork_tree.proofs.Changing.{get_some}

-- lists of one length with the same items are the same
pub same-items : {X : Type 0} (xs ys : List X) → length xs ≡ length ys
    → ((m : ℕ) → m < length xs → slice_get xs m ≡ slice_get ys m) → xs ≡ ys
same-items [] [] long each = refl
same-items [] (y ∷ ys) long each = absurd (omega (arith, long))
same-items (x ∷ xs) [] long each = absurd (omega (arith, long))
same-items {X} (x ∷ xs) (y ∷ ys) long each =
    let rest : xs ≡ ys = same-items xs ys (omega (arith, long)) (λ m lt. each (suc m) (omega (arith, lt))) in
    λ i. first (each 0 (omega arith)) i ∷ rest i
  where
    held : Option X → X
    held None = x
    held (Some z) = z

    first : Some x ≡ Some y → x ≡ y
    first is = ap held is

module _ {R : Type 0} where
  by_deed : (r : R) (d : Deed R ℕ) → (q : R) × (content_by (Some r) d ≡ Some q)
  by_deed r Claim = (r, refl)
  by_deed r (Split count) = (r, refl)
  by_deed r (Finish leaf) = (leaf, refl)
  by_deed r (Cut leaf) = (leaf, refl)
  by_deed r Release = (r, refl)

  by_last : (r : R) (o : Option (Event R ℕ)) → (q : R) × (content_after (Some r) o ≡ Some q)
  by_last r None = (r, refl)
  by_last r (Some e) = by_deed r e.deed

  -- each node holds something
  pub content-there : (s : Story R) (m : ℕ) → m < length s.nodes → (q : R) × (content s m ≡ Some q)
  content-there s m lt =
      let born = get_some s.nodes m lt in
      let now = by_last born.0.content (last_on m s.events) in
      (now.0, ap (λ o. content_after (option_map (λ (n : Node R). n.content) o) (last_on m s.events)) born.1 ∙ now.1)

module _ {R : Type 0} (choices : R → List Choice) (cut : R → Option Cause) (s : Story R) where
  -- a walk leads to one list of nodes
  pub nodes-same : (a b : List Standing) → AreNodesOf choices cut s a → AreNodesOf choices cut s b → a ≡ b
  nodes-same a b of_a of_b =
      same-items a b (of_a.as_many ∙ sym of_b.as_many) (λ m lt.
      let held = content-there s m (subst (λ n. m < n) of_a.as_many lt) in
      let one = of_a.each m held.0 held.1 in
      let other = of_b.each m held.0 held.1 in
      one.1 ∙ ap Some (one.2 ∙ sym other.2) ∙ sym other.1)

  -- a node among the candidates
  pub seen-at : (all : List Candidate) (m : ℕ) (r : R) → AreCandidates choices cut s all → content s m ≡ Some r
      → slice_get all m ≡ Some (record { depth = length (choices r); is_free = is_free (status s m) })
  seen-at all m r are is =
      let found = are.same.each m r is in
      ap (λ cs. slice_get cs m) are.seen
      ∙ slice_get-map candidate are.nodes m
      ∙ ap (option_map candidate) (found.1 ∙ ap Some found.2)

  -- a claim in turn is written in turn
  pub turn_line : (order : Order) (first node : ℕ) (d : Deed R (Vec (Kid R))) (nodes : List Standing)
      → AreNodesOf choices cut s nodes → IsInTurn choices cut order s node d
      → is_in_turn order (length s.events) (map candidate nodes) node (written_now cut first d) ≡ true
  turn_line order first node Claim nodes of_nodes turn =
      subst (λ (cs : List Candidate). IsTrue (is_named order (length s.events) cs node))
      (turn.are.seen ∙ ap (map candidate) (nodes-same turn.are.nodes nodes turn.are.same of_nodes)) turn.named
  turn_line order first node (Split kids) nodes of_nodes turn = refl
  turn_line order first node (Finish leaf) nodes of_nodes turn = refl
  turn_line order first node (Cut leaf) nodes of_nodes turn = refl
  turn_line order first node Release nodes of_nodes turn = refl
