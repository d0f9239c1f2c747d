-- A drained tree as the history of its leaves.
use Rattle.std.proofs.Common.{◌≡◌, ℕ, ◌<◌, List, Some, length, sym, ap, ◌∙◌}
use Rattle.std.specs.List.{All, slice_get}
use Rattle.std.proofs.lemmas.List.Elements.{All-weaker}
use Rattle.tree_core.specs.declared.event.Event.{Event}
use Rattle.tree_core.specs.declared.node.Status.{Status}
use Rattle.tree_core.specs.Stories.{Story}
use Rattle.fork_spec.specs.Histories.{IsHistory, LeafNode, cause_of, standing_of}
use Rattle.fork_spec.specs.Leaves.{Leaf}
use Rattle.fork_spec.specs.Partings.{Place}
use Rattle.fork_spec.specs.Walks.{Standing}
use Rattle.fork_tree.specs.Written.{AreNodesOf, cut_where, lines_of}
use Rattle.fork_tree.proofs.Quiet.{leaves-walked}
use Rattle.fork_tree.specs.Contents.{cut_in}
use Rattle.fork_tree.specs.Drains.{IsDrained, IsLeafOf, Reads, leaf_nodes}
use Rattle.fork_tree.specs.Trees.{choices_at}
use Rattle.fork_tree.specs.Works.{Rules}
use Rattle.fork_tree.specs.declared.content.Content.{Content}
use Rattle.fork_tree.specs.declared.content.Content.TheVariants.{Shut}
use Rattle.fork_tree.proofs.Drained.{quiet-quiet}

module _ {S L : Type 0} (rules : Rules S L) (state_place : S → Place) (leaf_place : L → Place)
    (leaf_of : L → Leaf) (reads : Reads leaf_place leaf_of) (s : Story (Content S L)) where
  -- the node of a leaf stands in the walk as the leaf says
  stands_there : (nodes : List Standing) →
      AreNodesOf (choices_at state_place leaf_place) (cut_in state_place leaf_place) s nodes →
      (entry : LeafNode) → IsLeafOf leaf_of s entry →
      slice_get nodes entry.node ≡ Some (standing_of entry)
  stands_there nodes same entry is =
      let found = same.each entry.node (Shut is.held) is.is_held in
      let choices = reads.choices is.held ∙ ap (λ (l : Leaf). l.choices) is.same in
      let cut = ap (λ (st : Status). cut_where (cut_in {S = S} {L = L} state_place leaf_place) st (Shut is.held))
      is.is_leaf ∙
      reads.cause is.held ∙ ap (λ (l : Leaf). cause_of l.end) is.same in
      found.1 ∙ ap Some (found.2 ∙
      (λ i. record { choices = choices i; status = is.is_leaf i; cut = cut i }))

  pub recorded : (workers : ℕ) (entries : List LeafNode) →
      IsDrained rules state_place leaf_place s →
      All (λ (e : Event (Content S L) ℕ). e.by < workers) s.events →
      All (IsLeafOf leaf_of s) entries → length entries ≡ leaf_nodes s →
      IsHistory (record { workers = workers; targets = rules.targets; nodes = rules.nodes; order = rules.order }) (lines_of (cut_in state_place leaf_place) s) entries
  recorded workers entries drained among are all =
      let leads = drained.walked.leads workers among in record {
        nodes = leads.nodes;
        walked = leads.walked;
        quiet = quiet-quiet (choices_at state_place leaf_place) (cut_in state_place leaf_place) s leads.nodes
            leads.same drained.quiet;
        each = All-weaker (IsLeafOf leaf_of s)
            (λ (entry : LeafNode). slice_get leads.nodes entry.node ≡ Some (standing_of entry))
            (stands_there leads.nodes leads.same) entries are;
        as_many = leaves-walked (choices_at state_place leaf_place) (cut_in state_place leaf_place) s leads.nodes
            leads.same ∙ sym all;
      }
