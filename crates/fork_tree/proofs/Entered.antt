-- What comes of a node for which something was entered: a leaf, or kids.
use Rattle.std.proofs.Common.{◌≡◌, ℕ, ◌+◌, ◌^◌, ◌<◌, inl, inr, length, refl}
use Rattle.std.specs.Global.{Vec}
use Rattle.tree_core.specs.declared.event.Kid.{Kid}
use Rattle.tree_core.specs.declared.node.Status.TheVariants.{Held}
use Rattle.tree_core.specs.Cores.{held_count}
use Rattle.tree_core.specs.Stories.{Story, status}
use Rattle.fork_spec.specs.Histories.{releases_by}
use Rattle.fork_spec.specs.Partings.{Place}
use Rattle.fork_tree.specs.Calls.{IsEntered, IsParted, cut_event, finish_event, split_event}
use Rattle.fork_tree.specs.Contents.{choices_in}
use Rattle.fork_tree.specs.Drains.{GrowsBy, fuel}
use Rattle.fork_tree.specs.Works.{IsSplit, IsWorked, Rules}
use Rattle.fork_tree.specs.declared.content.Content.{Content}
use Rattle.fork_tree.specs.declared.work.Parts.{Parts}
use Rattle.fork_tree.specs.declared.work.Parts.TheVariants.{CutSteps, Finished, Kids}
use Rattle.fork_tree.proofs.Entering.{grows-one, held-less, kids-less, leaf-less}
use Rattle.fork_tree.proofs.Releases.{releases_kept}
use Rattle.fork_tree.proofs.Standings.{AreThere}

module _ {S L : Type 0} where
  parted-held : (s t : Story (Content S L)) (by node : ℕ) (kids : Vec (Kid (Content S L))) →
      AreThere s → node < length s.nodes → status s node ≡ Held by → IsParted s by node kids t →
      held_count t + 1 ≡ held_count s
  parted-held s t by node kids named there held (inl is) =
      held-less s t (split_event by node kids) is named there held (λ st by. refl) refl refl
  parted-held s t by node kids named there held (inr (leaf, is)) =
      held-less s t (cut_event by node leaf) is named there held (λ st by. refl) refl refl

  parted-grows : (s t : Story (Content S L)) (by node : ℕ) (kids : Vec (Kid (Content S L))) →
      IsParted s by node kids t → GrowsBy by s t
  parted-grows s t by node kids (inl is) = grows-one by s t (split_event by node kids) is refl
  parted-grows s t by node kids (inr (leaf, is)) = grows-one by s t (cut_event by node leaf) is refl

  parted-kept : (s t : Story (Content S L)) (by node : ℕ) (kids : Vec (Kid (Content S L))) →
      IsParted s by node kids t → (k : ℕ) → releases_by k t.events ≡ releases_by k s.events
  parted-kept s t by node kids (inl is) = releases_kept s t (split_event by node kids) is refl
  parted-kept s t by node kids (inr (leaf, is)) = releases_kept s t (cut_event by node leaf) is refl

  parted-less : (rules : Rules S L) (state_place : S → Place) (leaf_place : L → Place)
      (s t : Story (Content S L)) (by node : ℕ) (kids : Vec (Kid (Content S L))) (x : S) →
      AreThere s → node < length s.nodes → status s node ≡ Held by →
      IsSplit rules state_place leaf_place x kids.items → IsParted s by node kids t →
      fuel rules t < fuel rules s + (rules.targets + 2) ^ rules.left x
  parted-less rules state_place leaf_place s t by node kids x named there held split (inl is) =
      kids-less rules leaf_place (choices_in kids.items) s t (split_event by node kids) x is named
      there held (λ st by. refl) refl split.parts split.few
  parted-less rules state_place leaf_place s t by node kids x named there held split
      (inr (leaf, is)) =
      leaf-less rules s t (cut_event by node leaf) x is named there held (λ st by. refl) refl refl

  -- the same of whatever is entered
  pub entered-held : (s t : Story (Content S L)) (by node : ℕ) (parts : Parts S L) →
      AreThere s → node < length s.nodes → status s node ≡ Held by → IsEntered s by node parts t →
      held_count t + 1 ≡ held_count s
  entered-held s t by node (Finished leaf) named there held is =
      held-less s t (finish_event by node leaf) is named there held (λ st by. refl) refl refl
  entered-held s t by node (CutSteps leaf) named there held is =
      held-less s t (cut_event by node leaf) is named there held (λ st by. refl) refl refl
  entered-held s t by node (Kids kids run) named there held is =
      parted-held s t by node kids named there held is

  pub entered-grows : (s t : Story (Content S L)) (by node : ℕ) (parts : Parts S L) →
      IsEntered s by node parts t → GrowsBy by s t
  entered-grows s t by node (Finished leaf) is = grows-one by s t (finish_event by node leaf) is refl
  entered-grows s t by node (CutSteps leaf) is = grows-one by s t (cut_event by node leaf) is refl
  entered-grows s t by node (Kids kids run) is = parted-grows s t by node kids is

  pub entered-kept : (s t : Story (Content S L)) (by node : ℕ) (parts : Parts S L) →
      IsEntered s by node parts t → (k : ℕ) → releases_by k t.events ≡ releases_by k s.events
  entered-kept s t by node (Finished leaf) is = releases_kept s t (finish_event by node leaf) is refl
  entered-kept s t by node (CutSteps leaf) is = releases_kept s t (cut_event by node leaf) is refl
  entered-kept s t by node (Kids kids run) is = parted-kept s t by node kids is

  pub entered-less : (rules : Rules S L) (state_place : S → Place) (leaf_place : L → Place)
      (s t : Story (Content S L)) (by node : ℕ) (parts : Parts S L) (x : S) →
      AreThere s → node < length s.nodes → status s node ≡ Held by →
      IsWorked rules state_place leaf_place x parts → IsEntered s by node parts t →
      fuel rules t < fuel rules s + (rules.targets + 2) ^ rules.left x
  entered-less rules state_place leaf_place s t by node (Finished leaf) x named there held worked is =
      leaf-less rules s t (finish_event by node leaf) x is named there held (λ st by. refl) refl refl
  entered-less rules state_place leaf_place s t by node (CutSteps leaf) x named there held worked is =
      leaf-less rules s t (cut_event by node leaf) x is named there held (λ st by. refl) refl refl
  entered-less rules state_place leaf_place s t by node (Kids kids run) x named there held worked is =
      parted-less rules state_place leaf_place s t by node kids x named there held worked.0 is
