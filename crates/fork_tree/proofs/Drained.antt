-- A tree that is quiet.
use Rattle.std.proofs.Common.{◌≡◌, ◌≢◌, ℕ, ◌+◌, ◌^◌, ◌<◌, ◌≤◌, ◌&&◌, Bool, true, false, Option, List, length, sym, refl, ap, ◌∙◌, subst, arith}
use Rattle.tree_core.specs.declared.cause.Cause.{Cause}
use Rattle.tree_core.specs.declared.choice.Choice.{Choice}
use Rattle.tree_core.specs.declared.node.Status.{Status}
use Rattle.tree_core.specs.declared.node.Status.TheVariants.{Free, Held, Parted, Leaf}
use Rattle.tree_core.specs.Stories.{Story, status, content}
use Rattle.tree_core.specs.Covers.{one_if, covered, is_live}
use Rattle.tree_core.specs.Cores.{held_count, is_held}
use Rattle.tree_core.proofs.Counting.{count_same, count_at}
use Rattle.tree_core.proofs.Histories.{shared_out}
use Rattle.fork_spec.specs.Histories.{is_leaf_status}
use Rattle.fork_spec.specs.Partings.{Place}
use Rattle.fork_spec.specs.Walks.{Standing, is_by_nodes, is_quiet, is_settled}
use Rattle.fork_tree.specs.Written.{AreNodesOf}
use Rattle.fork_tree.proofs.Quiet.{quiet-walked}
use Rattle.fork_tree.specs.Calls.{IsQuiet}
use Rattle.fork_tree.specs.Contents.{cut_in, place_in}
use Rattle.fork_tree.specs.Drains.{IsDrained}
use Rattle.fork_tree.specs.Nodes.{HoldsFor, IsLeafRight}
use Rattle.fork_tree.specs.Trees.{IsWholeTree, covers_at}
use Rattle.fork_tree.specs.Works.{Rules}
use Rattle.fork_tree.specs.declared.content.Content.{Content}

live_leaf : (st : Status) → st ≢ Free → is_held st ≡ false → is_live st ≡ is_leaf_status st
live_leaf Free not_free not_held = absurd (not_free refl)
live_leaf (Held w) not_free not_held = cc
live_leaf Parted not_free not_held = refl
live_leaf Leaf not_free not_held = refl

off : (b : Bool) → one_if b ≤ 0 → b ≡ false
off true le = let one : 1 ≤ 0 = le in absurd (omega arith)
off false le = refl

module _ {R : Type 0} where
  pub not-held : (s : Story R) (m : ℕ) → m < length s.nodes → held_count s ≡ 0 →
      is_held (status s m) ≡ false
  not-held s m lt none =
      off (is_held (status s m))
      (subst (λ (k : ℕ). one_if (is_held (status s m)) ≤ k) none
      (count_at (λ k. is_held (status s k)) (length s.nodes) m lt))

settled : (st : Status) → st ≢ Free → is_held st ≡ false → is_settled st ≡ true
settled Free not_free not_held = absurd (not_free refl)
settled (Held w) not_free not_held = cc
settled Parted not_free not_held = refl
settled Leaf not_free not_held = refl

module _ {R : Type 0} (choices : R → List Choice) (cut : R → Option Cause) (s : Story R)
    (nodes : List Standing) (same : AreNodesOf choices cut s nodes) where
  pub quiet-quiet : IsQuiet s → is_quiet nodes ≡ true
  quiet-quiet quiet =
      quiet-walked choices cut s nodes same
      (λ m lt. settled (status s m) (quiet.0 m lt) (not-held s m lt quiet.1))

module _ {S L : Type 0} (rules : Rules S L) (state_place : S → Place) (leaf_place : L → Place) where
  abbrev covers_in : Content S L → List ℕ → Bool
  covers_in c = (place_in state_place leaf_place c).covers

  pub drained : (s : Story (Content S L)) → IsQuiet s →
      IsWholeTree rules state_place leaf_place s → IsDrained rules state_place leaf_place s
  drained s quiet whole = let follows = whole.follows in
      let parts = shared_out (covers_at state_place leaf_place) (λ c. is_by_nodes (cut_in state_place leaf_place c)) rules.nodes s whole.replays in record {
        quiet = quiet;
        one = λ input. sym (count_same
            (λ m. is_live (status s m) && covered covers_in (content s m) input)
            (λ m. is_leaf_status (status s m) && covered covers_in (content s m) input) (length s.nodes)
            (λ m lt. ap (λ b. b && covered covers_in (content s m) input)
            (live_leaf (status s m) (quiet.0 m lt) (not-held s m lt quiet.1)))) ∙ parts input;
        leaves = λ m lt is. subst
            (λ (st : Status). HoldsFor rules.IsWell (IsLeafRight rules state_place leaf_place s m) st (content s m)) is
            (follows.holds m lt);
        walked = follows.walked;
        apart = follows.apart;
        bounded = follows.few;
        few = below (length s.nodes) (rules.nodes + rules.targets) follows.few follows.small;
      }
    where
      below : (n bound : ℕ) → n ≤ bound → bound < 2 ^ 32 → n < 2 ^ 32
      below n bound le small = omega arith
