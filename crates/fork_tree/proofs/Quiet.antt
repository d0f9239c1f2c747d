-- The nodes of a walk that leads to those of a story of which no node is free or held.
use Rattle.std.proofs.Common.{◌≡◌, ℕ, zero, suc, ◌+◌, ◌<◌, ◌&&◌, true, List, [], ◌∷◌, Option, Some, None, length, option_map, refl, sym, ap, subst, ◌∙◌, arith}
use Rattle.std.specs.Prelude.{count_by, slice_get}
use Rattle.std.specs.List.{list_all}
use Rattle.std.proofs.lemmas.Option.{slice_get_within}
use Rattle.tree_core.specs.Covers.{count_below}
use Rattle.tree_core.specs.declared.cause.Cause.{Cause}
use Rattle.tree_core.specs.declared.choice.Choice.{Choice}
use Rattle.tree_core.specs.declared.event.Event.{Event}
use Rattle.tree_core.specs.declared.event.Deed.{Deed}
use Rattle.tree_core.specs.declared.event.Deed.TheVariants.{Claim, Split, Finish, Cut, Release}
use Rattle.tree_core.specs.Nodes.{Node}
use Rattle.tree_core.specs.Stories.{Story, content, content_after, content_by, last_on, status}
use Rattle.tree_core.proofs.Counting.{count_more}
use Rattle.fork_spec.specs.Histories.{is_leaf, is_leaf_status}
use Rattle.fork_spec.specs.Walks.{Standing, is_quiet, is_settled}
use Rattle.fork_tree.specs.Written.{AreNodesOf, StandsAs}
use Rattle.fork_tree.proofs.Walked.{same_held}

there_is : {X : Type 0} (xs : List X) (m : ℕ) → m < length xs → (x : X) × (slice_get xs m ≡ Some x)
there_is [] m lt = absurd (omega (arith, lt))
there_is (x ∷ xs) zero lt = (x, refl)
there_is (x ∷ xs) (suc m) lt = there_is xs m (omega (arith, lt))

module _ {R : Type 0} where
  after_some : (r : R) (o : Option (Event R ℕ)) → (q : R) × (content_after (Some r) o ≡ Some q)
  after_some r None = (r, refl)
  after_some r (Some e) = by_deed e.deed
    where
      by_deed : (d : Deed R ℕ) → (q : R) × (content_by (Some r) d ≡ Some q)
      by_deed Claim = (r, refl)
      by_deed (Split count) = (r, refl)
      by_deed (Finish leaf) = (leaf, refl)
      by_deed (Cut leaf) = (leaf, refl)
      by_deed Release = (r, refl)

  -- each node holds something
  pub has_content : (s : Story R) (m : ℕ) → m < length s.nodes → (q : R) × (content s m ≡ Some q)
  has_content s m lt = let n : (n : Node R) × (slice_get s.nodes m ≡ Some n) = there_is s.nodes m lt in
      let q : (q : R) × (content_after (Some n.0.content) (last_on m s.events) ≡ Some q) = after_some n.0.content (last_on m s.events) in
      (q.0, ap (λ o. content_after (option_map (λ n. n.content) o) (last_on m s.events)) n.1 ∙ q.1)

module _ {R : Type 0} (choices : R → List Choice) (cut : R → Option Cause) (s : Story R) (nodes : List Standing) (same : AreNodesOf choices cut s nodes) where
  -- a node of the walk has the status that it has in the story
  pub status_of_node : (m : ℕ) (node : Standing) → slice_get nodes m ≡ Some node → node.status ≡ status s m
  status_of_node m node at =
      let has : (q : R) × (content s m ≡ Some q) = has_content s m (subst (λ n. m < n) same.as_many (slice_get_within nodes m node at)) in
      let found : (standing : Standing) × (slice_get nodes m ≡ Some standing) × StandsAs choices cut s m has.0 standing = same.each m has.0 has.1 in
      ap (λ (n : Standing). n.status) (same_held node found.0 (sym at ∙ found.1) ∙ found.2)

  all_settled : (rest : List Standing) → ((i : ℕ) (node : Standing) → slice_get rest i ≡ Some node → is_settled node.status ≡ true) → list_all (λ (node : Standing). is_settled node.status) rest ≡ true
  all_settled [] each = refl
  all_settled (node ∷ rest) each = ap (λ b. b && list_all (λ (n : Standing). is_settled n.status) rest) (each 0 node refl) ∙ all_settled rest (λ i n at. each (suc i) n at)

  -- nothing is left to be done
  pub quiet-walked : ((m : ℕ) → m < length s.nodes → is_settled (status s m) ≡ true) → is_quiet nodes ≡ true
  quiet-walked settled = all_settled nodes (λ i node at. ap is_settled (status_of_node i node at) ∙ settled i (subst (λ n. i < n) same.as_many (slice_get_within nodes i node at)))

  -- its leaves are as many as the story's
  pub leaves-walked : count_by is_leaf nodes ≡ count_below (λ m. is_leaf_status (status s m)) (length s.nodes)
  leaves-walked = sym (ap (count_below (λ m. is_leaf_status (status s m))) (sym same.as_many ∙ from_zero (length nodes))
      ∙ count_more (λ m. is_leaf_status (status s m)) is_leaf 0 nodes (λ i node at. ap (λ m. is_leaf_status (status s m)) (zero_and i) ∙ ap is_leaf_status (sym (status_of_node i node at)))
      ∙ zero_and (count_by is_leaf nodes))
    where
      from_zero : (n : ℕ) → n ≡ 0 + n
      from_zero n = omega arith

      zero_and : (n : ℕ) → 0 + n ≡ n
      zero_and n = omega arith
