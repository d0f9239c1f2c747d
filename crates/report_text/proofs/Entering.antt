-- The entries of leaves that stand by rank are those of their tree.
use Rattle.std.proofs.Common.{◌≡◌, ℕ, zero, suc, ◌+◌, ◌<◌, true, List, [], ◌∷◌, Option, Some, None, map, refl, sym, ap, subst, ◌∙◌, arith}
use Rattle.std.specs.Prelude.{slice_get}
use Rattle.std.specs.List.Sorted.{IsPermutation}
use Rattle.elf_load.specs.Images.{Image}
use Rattle.elf_load.specs.declared.region.Region.{Region}
use Rattle.tree_core.specs.Choices.{precedes}
use Rattle.tree_core.specs.Stories.{Story}
use Rattle.tree_core.specs.declared.budgets.Budgets.{Budgets}
use Rattle.tree_core.specs.declared.cause.Cause.TheVariants.{Steps, Targets, Conflicts, Nodes}
use Rattle.tree_core.specs.declared.choice.Choice.{Choice}
use Rattle.rv_spec.specs.Memory.{count_of}
use Rattle.fork_spec.specs.Leaves.{Leaf}
use Rattle.fork_spec.specs.Parts.{Evidence, IsRight, OnConflicts, OnNodes, OnTargets, Part, Shows}
use Rattle.fork_spec.specs.Ranks.{AreRanked}
use Rattle.fork_spec.specs.declared.end.LeafEnd.{LeafEnd}
use Rattle.fork_spec.specs.declared.end.LeafEnd.TheVariants.{Exits, Traps, Cut}
use Rattle.fork_tree.specs.declared.content.Content.{Content}
use Rattle.report_text.specs.Claims.{Entry, leaves_of}
use Rattle.report_text.specs.Entries.{AreByRank, AreEntries, HasBeside, IsBeside, IsEntry, IsReportable, beside_of, entries_of, entry_of, leaf_numbers}
use Rattle.report_text.specs.declared.leaves.LeafAt.{LeafAt}
use Rattle.report_text.proofs.Claimed.{all_items, mapped_at, none_is_some, same_held}

-- each entry is that of a leaf
entry_at : (regions : List Region) (first : ℕ) (leaves : List LeafAt) (at rank : ℕ) (e : Entry) → rank ≡ first + at → slice_get (entries_of regions first leaves) at ≡ Some e
    → (l : LeafAt) × (slice_get leaves at ≡ Some l) × (entry_of regions rank l ≡ e)
unfolding entries_of
entry_at regions first [] at rank e is got = absurd (none_is_some e got)
entry_at regions first (l ∷ ls) zero rank e is got =
    let same : rank ≡ first = omega (arith, is) in
    (l, refl, ap (λ (n : ℕ). entry_of regions n l) same ∙ same_held (entry_of regions first l) e got)
entry_at regions first (l ∷ ls) (suc at) rank e is got = entry_at regions (first + 1) ls at rank e (omega (arith, is)) got

nodes_of_entries : (regions : List Region) (first : ℕ) (leaves : List LeafAt) → map (λ (e : Entry). e.node) (entries_of regions first leaves) ≡ map (λ (l : LeafAt). l.node) leaves
unfolding entries_of
nodes_of_entries regions first [] = refl
nodes_of_entries regions first (l ∷ ls) = ap (λ ns. l.node ∷ ns) (nodes_of_entries regions (first + 1) ls)

leaves_of_entries : (regions : List Region) (first : ℕ) (leaves : List LeafAt) → leaves_of (entries_of regions first leaves) ≡ map (λ (l : LeafAt). l.part.now.leaf) leaves
unfolding entries_of
leaves_of_entries regions first [] = refl
leaves_of_entries regions first (l ∷ ls) = ap (λ ks. l.part.now.leaf ∷ ks) (leaves_of_entries regions (first + 1) ls)

all_ranked : (leaves : List LeafAt) → ((i j : ℕ) (l k : LeafAt) → i < j → slice_get leaves i ≡ Some l → slice_get leaves j ≡ Some k → precedes l.part.now.leaf.choices k.part.now.leaf.choices ≡ true)
    → AreRanked (map (λ (l : LeafAt). l.part.now.leaf) leaves)
all_ranked [] ranked = tt
all_ranked (l ∷ ls) ranked = (
  all_items (λ (later : Leaf). precedes l.part.now.leaf.choices later.choices ≡ true) (map (λ (k : LeafAt). k.part.now.leaf) ls) (λ j leaf at.
      let k : (x : LeafAt) × (slice_get ls j ≡ Some x) × (x.part.now.leaf ≡ leaf) = mapped_at (λ (x : LeafAt). x.part.now.leaf) ls j leaf at in
      subst (λ (x : Leaf). precedes l.part.now.leaf.choices x.choices ≡ true) k.2 (ranked 0 (suc j) l k.0 (omega arith) refl k.1)),
  all_ranked ls (λ i j a b lt at other. ranked (suc i) (suc j) a b (omega (arith, lt)) at other),
)

-- what stands beside a leaf that has it
beside_is : (regions : List Region) (rank : ℕ) (leaf : Leaf) (places : ℕ) (sample : Option (List ℕ)) (evidence : Option Evidence) → HasBeside places sample evidence
    → IsBeside regions rank leaf sample evidence (beside_of regions rank leaf sample evidence)
beside_is regions rank leaf places sample (Some (OnTargets spent)) has = refl
beside_is regions rank leaf places sample (Some (OnConflicts learnt)) has = refl
beside_is regions rank leaf places sample (Some (OnNodes count)) has = refl
beside_is regions rank leaf places (Some input) None has = refl
beside_is regions rank leaf places None None has = absurd has

-- a leaf that is shown has it
shown_beside : (regions : List Region) (budgets : Budgets) (places : ℕ) (sides : List Choice) (nodes : Option ℕ) (leaf : Leaf) (end : LeafEnd) (sample : Option (List ℕ)) (evidence : Option Evidence)
    → places ≡ count_of regions → Shows regions budgets sides nodes leaf end sample evidence → HasBeside places sample evidence
shown_beside regions budgets places sides nodes leaf end sample (Some evidence) is shows = tt
shown_beside regions budgets places sides nodes leaf (Exits status) (Some input) None is shows = shows.0.0 ∙ sym is
shown_beside regions budgets places sides nodes leaf (Traps trap) (Some input) None is shows = shows.0.0 ∙ sym is
shown_beside regions budgets places sides nodes leaf (Cut Steps) (Some input) None is shows = shows.0.0 ∙ sym is
shown_beside regions budgets places sides nodes leaf (Cut Targets) (Some input) None is shows = absurd shows
shown_beside regions budgets places sides nodes leaf (Cut Conflicts) (Some input) None is shows = absurd shows
shown_beside regions budgets places sides (Some count) leaf (Cut Nodes) (Some input) None is shows = absurd shows
shown_beside regions budgets places sides None leaf (Cut Nodes) (Some input) None is shows = absurd shows
shown_beside regions budgets places sides nodes leaf (Exits status) None None is shows = absurd shows
shown_beside regions budgets places sides nodes leaf (Traps trap) None None is shows = absurd shows
shown_beside regions budgets places sides nodes leaf (Cut Steps) None None is shows = absurd shows
shown_beside regions budgets places sides nodes leaf (Cut Targets) None None is shows = absurd shows
shown_beside regions budgets places sides nodes leaf (Cut Conflicts) None None is shows = absurd shows
shown_beside regions budgets places sides (Some count) leaf (Cut Nodes) None None is shows = absurd shows
shown_beside regions budgets places sides None leaf (Cut Nodes) None None is shows = absurd shows

-- a report can be written of a leaf that is right
pub reportable : (image : Image) (regions : List Region) (budgets : Budgets) (sides : List Choice) (nodes : Option ℕ) (part : Part) → IsRight image regions budgets sides nodes part → IsReportable part
reportable image regions budgets sides nodes part right = shown_beside regions budgets part.leaf.condition.graph.inputs sides nodes part.leaf part.leaf.end part.sample part.evidence right.inputs right.shown

-- leaves by rank are the entries of their tree
pub are_entries : {S L : Type 0} (part_of : L → Part) (regions : List Region) (s : Story (Content S L)) (leaves : List LeafAt) → AreByRank part_of s leaves
    → ((rank : ℕ) (l : LeafAt) → slice_get leaves rank ≡ Some l → IsReportable l.part.now) → AreEntries part_of regions s (entries_of regions 0 leaves)
are_entries part_of regions s leaves by_rank reports = record {
  each = λ rank e at. let found : (l : LeafAt) × (slice_get leaves rank ≡ Some l) × (entry_of regions rank l ≡ e) = entry_at regions 0 leaves rank rank e (omega arith) at in
      subst (IsEntry part_of regions s rank) found.2 (record {
        part = found.0.part.now;
        at = by_rank.each rank found.0 found.1;
        same_leaf = refl;
        beside = beside_is regions rank found.0.part.now.leaf found.0.part.now.leaf.condition.graph.inputs found.0.part.now.sample found.0.part.now.evidence (reports rank found.0 found.1);
      });
  all = subst (IsPermutation (leaf_numbers s)) (sym (nodes_of_entries regions 0 leaves)) by_rank.all;
  ranked = subst AreRanked (sym (leaves_of_entries regions 0 leaves)) (all_ranked leaves by_rank.ranked);
}
