-- The entries of a tree that is done are a report.
use Rattle.std.proofs.Common.{◌≡◌, ◌≢◌, ℕ, zero, suc, ◌+◌, ◌<◌, ◌≤◌, ◌&&◌, ◌||◌, Bool, true, false, cond, inl, inr, ◌⊎◌, IsTrue, List, [], ◌∷◌, ◌++◌, Option, Some, None, if◌then◌else◌, length, map, option_map, refl, sym, ap, subst, ◌∙◌, arith}
use Rattle.std.specs.Prelude.{All, count_by, slice_get}
use Rattle.std.proofs.lemmas.Bool.{cases_lt}
use Rattle.std.proofs.lemmas.Bool.Decides.{nat_tests}
use Rattle.std.proofs.lemmas.List.{length-map}
use Rattle.std.proofs.lemmas.List.Elements.{All-nil, All-cons, All-head, All-tail}
use Rattle.std.proofs.lemmas.List.Sorted.{length_permutation, sum_by-IsPermutation}
use Rattle.std.proofs.lemmas.List.Sums.{sum_by-append, sum_by-cons}
use Rattle.std.proofs.lemmas.Option.{slice_get-map}
use Rattle.elf_load.specs.Images.{Image}
use Rattle.elf_load.specs.declared.region.Region.{Region}
use Rattle.rv_spec.specs.Memory.{IsAssignment, count_of}
use Rattle.fork_spec.specs.Decisions.{decisions}
use Rattle.test_files.specs.Tests.{Test}
use Rattle.tree_core.specs.Choices.{is_before, is_same, precedes}
use Rattle.tree_core.specs.Covers.{count_below, is_live, covered, one_if, root_content}
use Rattle.tree_core.specs.Cores.{is_held}
use Rattle.tree_core.specs.Stories.{Story, content, status}
use Rattle.tree_core.specs.declared.budgets.Budgets.{Budgets}
use Rattle.tree_core.specs.declared.cause.Cause.TheVariants.{Steps, Targets, Conflicts, Nodes}
use Rattle.tree_core.specs.declared.choice.Choice.{Choice}
use Rattle.tree_core.specs.declared.choice.Choice.TheVariants.{No, Yes, Value, Rest}
use Rattle.tree_core.specs.declared.event.Event.{Event}
use Rattle.tree_core.specs.declared.node.Status.{Status}
use Rattle.tree_core.specs.declared.node.Status.TheVariants.{Free, Held, Parted, Leaf as IsLeaf}
use Rattle.tree_core.proofs.Counting.{count_at, count_by-map}
use Rattle.fork_spec.specs.Evidence.{SpendsConflicts, SpendsTargets, values_of}
use Rattle.fork_spec.specs.Histories.{cause_of, IsCutAt, IsHistory, IsOwnCut, IsOwnSplit, IsSideOf, LeafNode, ReleaseOnce, is_leaf_status, standing_of}
use Rattle.fork_spec.specs.Leaves.{IsFull, Leaf, covers}
use Rattle.fork_spec.specs.Partings.{ArePlacesApart, DecidesAlike, PartAt, Place, place_of}
use Rattle.fork_spec.specs.Parts.{Evidence, IsRight, OnConflicts, OnNodes, OnTargets, Part, Shows}
use Rattle.fork_spec.specs.Ranks.{AreRanked}
use Rattle.fork_spec.specs.Runs.{AreWithin, IsFaithful}
use Rattle.fork_spec.specs.Walks.{Bounds, Line, Standing, is_settled}
use Rattle.fork_tree.specs.Written.{LeadsTo, StandsAs, cut_where, lines_of}
use Rattle.fork_spec.specs.declared.end.LeafEnd.{LeafEnd}
use Rattle.fork_spec.specs.declared.end.LeafEnd.TheVariants.{Exits, Traps, Cut}
use Rattle.fork_spec.proofs.ByteLists.{are_bytes-of}
use Rattle.fork_tree.proofs.Quiet.{leaves-walked, quiet-walked}
use Rattle.fork_tree.proofs.Releases.{once_written}
use Rattle.fork_tree.specs.Contents.{cut_in, place_in}
use Rattle.fork_tree.specs.Drains.{IsDrained}
use Rattle.fork_tree.specs.Nodes.{HasLeaf, IsLeafRight, IsRightAt}
use Rattle.fork_tree.specs.Trees.{choices_at}
use Rattle.fork_tree.specs.Works.{Rules}
use Rattle.fork_tree.specs.declared.content.Content.{Content}
use Rattle.fork_tree.specs.declared.content.Content.TheVariants.{Shut}
use Rattle.report_text.specs.Claims.{ArePartedAll, Bare, Beside, Entry, Filling, HasHistory, HasSpent, IsExactCover, IsReport, IsRun, IsTested, Learning, Report, Spending, Tested, bounds_of, leaf_nodes_of, leaves_of}
use Rattle.report_text.specs.Entries.{AreEntries, AskAsClaimed, IsBeside, IsEntry, IsLeafAt, leaf_numbers, numbers_where}
use Rattle.report_text.specs.Files.{test_of}

-- Lists by their items.
pub all_items : {X : Type 0} (P : X → Type 0) (xs : List X) → ((i : ℕ) (x : X) → slice_get xs i ≡ Some x → P x) → All P xs
all_items P [] each = All-nil P
all_items P (x ∷ xs) each = All-cons P x xs (each 0 x refl) (all_items P xs (λ i y at. each (suc i) y at))

count_same : {X : Type 0} (f g : X → Bool) (xs : List X) → ((i : ℕ) (x : X) → slice_get xs i ≡ Some x → f x ≡ g x) → count_by f xs ≡ count_by g xs
count_same f g [] same = refl
count_same f g (x ∷ xs) same =
    sum_by-cons (λ y. cond (f y) 1 0) x xs
    ∙ (λ i. cond (same 0 x refl i) 1 0 + count_same f g xs (λ k y at. same (suc k) y at) i)
    ∙ sym (sum_by-cons (λ y. cond (g y) 1 0) x xs)

-- what a Some holds
pub none_is_some : {X : Type 0} (x : X) → None ≡ Some x → ⊥
none_is_some x e = cc

pub same_held : {X : Type 0} (x y : X) → Some x ≡ Some y → x ≡ y
same_held x y e = cc

pub same_shut : {S L : Type 0} (x y : L) → ◌≡◌ {A = Content S L} (Shut x) (Shut y) → x ≡ y
same_shut x y e = cc

pub mapped_at : {X Y : Type 0} (f : X → Y) (xs : List X) (i : ℕ) (y : Y) → slice_get (map f xs) i ≡ Some y → (x : X) × (slice_get xs i ≡ Some x) × (f x ≡ y)
mapped_at f [] i y at = absurd (none_is_some y at)
mapped_at f (x ∷ xs) zero y at = (x, refl, same_held (f x) y at)
mapped_at f (x ∷ xs) (suc i) y at = mapped_at f xs i y at

-- Choices that stand before themselves.
before_itself : (c : Choice) → is_before c c ≡ false
before_itself No = refl
before_itself Yes = refl
before_itself (Value v) = grind (arith, nat_tests)
before_itself Rest = refl

precedes_itself : (cs : List Choice) → precedes cs cs ≡ false
precedes_itself [] = refl
precedes_itself (c ∷ cs) = by_tests (is_before c c) (is_same c c) (precedes cs cs) (before_itself c) (precedes_itself cs)
  where
    by_tests : (a b d : Bool) → a ≡ false → d ≡ false → (a || b && d) ≡ false
    by_tests true b d na nd = na
    by_tests false true d na nd = nd
    by_tests false false d na nd = refl

ranked_before : (leaves : List Leaf) (i j : ℕ) (leaf other : Leaf) → AreRanked leaves → i < j → slice_get leaves i ≡ Some leaf → slice_get leaves j ≡ Some other → precedes leaf.choices other.choices ≡ true
ranked_before [] i j leaf other ranked lt at other_at = cc
ranked_before (l ∷ leaves) zero zero leaf other ranked lt at other_at = absurd (omega (arith, lt))
ranked_before (l ∷ leaves) zero (suc j) leaf other (later, ranked) lt at other_at =
    subst (λ (x : Leaf). precedes x.choices other.choices ≡ true) (same_held l leaf at) (item leaves j other other_at later)
  where
    item : (xs : List Leaf) (k : ℕ) (x : Leaf) → slice_get xs k ≡ Some x → All (λ (y : Leaf). precedes l.choices y.choices ≡ true) xs → precedes l.choices x.choices ≡ true
    item [] k x e all = cc
    item (y ∷ xs) zero x e all = subst (λ (z : Leaf). precedes l.choices z.choices ≡ true) (same_held y x e) (All-head (λ (z : Leaf). precedes l.choices z.choices ≡ true) y xs all)
    item (y ∷ xs) (suc k) x e all = item xs k x e (All-tail (λ (z : Leaf). precedes l.choices z.choices ≡ true) y xs all)
ranked_before (l ∷ leaves) (suc i) zero leaf other ranked lt at other_at = absurd (omega (arith, lt))
ranked_before (l ∷ leaves) (suc i) (suc j) leaf other (later, ranked) lt at other_at = ranked_before leaves i j leaf other ranked (omega (arith, lt)) at other_at

-- Numbers where something holds.
count_where : (p q : ℕ → Bool) (n : ℕ) → count_by q (numbers_where p n) ≡ count_below (λ m. p m && q m) n
unfolding numbers_where
count_where p q zero = refl
count_where p q (suc n) =
    sum_by-append (λ m. cond (q m) 1 0) (numbers_where p n) (if p n then n ∷ [] else [])
    ∙ (λ i. count_where p q n i + last (p n) i)
  where
    last : (b : Bool) → count_by q (if b then n ∷ [] else []) ≡ one_if (b && q n)
    last true = sum_by-cons (λ m. cond (q m) 1 0) n [] ∙ by_test (q n)
      where
        by_test : (c : Bool) → cond c 1 0 + 0 ≡ one_if c
        by_test true = refl
        by_test false = refl
    last false = refl

count_all : {X : Type 0} (xs : List X) → count_by (λ _. true) xs ≡ length xs
count_all [] = refl
count_all (x ∷ xs) = sum_by-cons (λ _. 1) x xs ∙ ap (λ n. 1 + n) (count_all xs) ∙ turn (length xs)
  where
    turn : (n : ℕ) → 1 + n ≡ suc n
    turn n = omega arith

below_true : (p : ℕ → Bool) (n : ℕ) → count_below (λ m. p m && true) n ≡ count_below p n
below_true p zero = refl
below_true p (suc n) = λ i. below_true p n i + one_if (same (p n) i)
  where
    same : (b : Bool) → (b && true) ≡ b
    same true = refl
    same false = refl

-- What stands beside a leaf that is shown.
run_beside : (image : Image) (regions : List Region) (leaf : Leaf) (rank most : ℕ) (input : List ℕ) (test : Test) → IsAssignment regions input × IsTrue (covers leaf input) → test ≡ test_of regions rank leaf input
    → IsFaithful image regions most leaf → IsRun image regions leaf rank test
run_beside image regions leaf rank most input test sample is faithful = subst (IsRun image regions leaf rank) (sym is) (record {
  same_rank = refl;
  same_regions = refl;
  same_steps = refl;
  same_path = refl;
  assignment = sample.0;
  covered = sample.1;
  runs = faithful.runs input sample.0 sample.1;
})

tested_beside : (image : Image) (regions : List Region) (budgets : Budgets) (sides : List Choice) (nodes : Option ℕ) (leaf : Leaf) (rank : ℕ) (end : LeafEnd) (sample : Option (List ℕ)) (evidence : Option Evidence) (beside : Beside)
    → IsFaithful image regions budgets.steps leaf → Shows regions budgets sides nodes leaf end sample evidence → IsBeside regions rank leaf sample evidence beside → IsTested image regions leaf end rank beside
tested_beside image regions budgets sides nodes leaf rank (Exits status) (Some input) None (Tested test) faithful shows is = run_beside image regions leaf rank budgets.steps input test shows is faithful
tested_beside image regions budgets sides nodes leaf rank (Exits status) (Some input) None Bare faithful shows is = absurd is
tested_beside image regions budgets sides nodes leaf rank (Exits status) (Some input) None (Spending spent) faithful shows is = absurd is
tested_beside image regions budgets sides nodes leaf rank (Exits status) (Some input) None (Learning learnt) faithful shows is = absurd is
tested_beside image regions budgets sides nodes leaf rank (Exits status) (Some input) None (Filling count) faithful shows is = absurd is
tested_beside image regions budgets sides nodes leaf rank (Exits status) (Some input) (Some e) beside faithful shows is = absurd shows
tested_beside image regions budgets sides nodes leaf rank (Exits status) None evidence beside faithful shows is = absurd shows
tested_beside image regions budgets sides nodes leaf rank (Traps trap) (Some input) None (Tested test) faithful shows is = run_beside image regions leaf rank budgets.steps input test shows is faithful
tested_beside image regions budgets sides nodes leaf rank (Traps trap) (Some input) None Bare faithful shows is = absurd is
tested_beside image regions budgets sides nodes leaf rank (Traps trap) (Some input) None (Spending spent) faithful shows is = absurd is
tested_beside image regions budgets sides nodes leaf rank (Traps trap) (Some input) None (Learning learnt) faithful shows is = absurd is
tested_beside image regions budgets sides nodes leaf rank (Traps trap) (Some input) None (Filling count) faithful shows is = absurd is
tested_beside image regions budgets sides nodes leaf rank (Traps trap) (Some input) (Some e) beside faithful shows is = absurd shows
tested_beside image regions budgets sides nodes leaf rank (Traps trap) None evidence beside faithful shows is = absurd shows
tested_beside image regions budgets sides nodes leaf rank (Cut Steps) (Some input) None (Tested test) faithful shows is = run_beside image regions leaf rank budgets.steps input test shows is faithful
tested_beside image regions budgets sides nodes leaf rank (Cut Steps) (Some input) None Bare faithful shows is = absurd is
tested_beside image regions budgets sides nodes leaf rank (Cut Steps) (Some input) None (Spending spent) faithful shows is = absurd is
tested_beside image regions budgets sides nodes leaf rank (Cut Steps) (Some input) None (Learning learnt) faithful shows is = absurd is
tested_beside image regions budgets sides nodes leaf rank (Cut Steps) (Some input) None (Filling count) faithful shows is = absurd is
tested_beside image regions budgets sides nodes leaf rank (Cut Steps) (Some input) (Some e) beside faithful shows is = absurd shows
tested_beside image regions budgets sides nodes leaf rank (Cut Steps) None evidence beside faithful shows is = absurd shows
tested_beside image regions budgets sides nodes leaf rank (Cut Targets) (Some input) (Some (OnTargets spent)) (Spending written) faithful shows is = tt
tested_beside image regions budgets sides nodes leaf rank (Cut Targets) (Some input) (Some (OnTargets spent)) Bare faithful shows is = absurd is
tested_beside image regions budgets sides nodes leaf rank (Cut Targets) (Some input) (Some (OnTargets spent)) (Tested test) faithful shows is = absurd is
tested_beside image regions budgets sides nodes leaf rank (Cut Targets) (Some input) (Some (OnTargets spent)) (Learning learnt) faithful shows is = absurd is
tested_beside image regions budgets sides nodes leaf rank (Cut Targets) (Some input) (Some (OnTargets spent)) (Filling count) faithful shows is = absurd is
tested_beside image regions budgets sides nodes leaf rank (Cut Targets) (Some input) (Some (OnConflicts learnt)) beside faithful shows is = absurd shows
tested_beside image regions budgets sides nodes leaf rank (Cut Targets) (Some input) (Some (OnNodes count)) beside faithful shows is = absurd shows
tested_beside image regions budgets sides nodes leaf rank (Cut Targets) (Some input) None beside faithful shows is = absurd shows
tested_beside image regions budgets sides nodes leaf rank (Cut Targets) None evidence beside faithful shows is = absurd shows
tested_beside image regions budgets sides nodes leaf rank (Cut Conflicts) None (Some (OnConflicts learnt)) (Learning written) faithful shows is = tt
tested_beside image regions budgets sides nodes leaf rank (Cut Conflicts) None (Some (OnConflicts learnt)) (Tested test) faithful shows is = absurd is
tested_beside image regions budgets sides nodes leaf rank (Cut Conflicts) None (Some (OnConflicts learnt)) Bare faithful shows is = absurd is
tested_beside image regions budgets sides nodes leaf rank (Cut Conflicts) None (Some (OnConflicts learnt)) (Spending spent) faithful shows is = absurd is
tested_beside image regions budgets sides nodes leaf rank (Cut Conflicts) None (Some (OnConflicts learnt)) (Filling count) faithful shows is = absurd is
tested_beside image regions budgets sides nodes leaf rank (Cut Conflicts) None (Some (OnTargets spent)) beside faithful shows is = absurd shows
tested_beside image regions budgets sides nodes leaf rank (Cut Conflicts) None (Some (OnNodes count)) beside faithful shows is = absurd shows
tested_beside image regions budgets sides nodes leaf rank (Cut Conflicts) None None beside faithful shows is = absurd shows
tested_beside image regions budgets sides nodes leaf rank (Cut Conflicts) (Some input) evidence beside faithful shows is = absurd shows
tested_beside image regions budgets sides (Some count) leaf rank (Cut Nodes) None (Some (OnNodes shown)) (Filling written) faithful shows is = tt
tested_beside image regions budgets sides (Some count) leaf rank (Cut Nodes) None (Some (OnNodes shown)) (Tested test) faithful shows is = absurd is
tested_beside image regions budgets sides (Some count) leaf rank (Cut Nodes) None (Some (OnNodes shown)) Bare faithful shows is = absurd is
tested_beside image regions budgets sides (Some count) leaf rank (Cut Nodes) None (Some (OnNodes shown)) (Spending spent) faithful shows is = absurd is
tested_beside image regions budgets sides (Some count) leaf rank (Cut Nodes) None (Some (OnNodes shown)) (Learning learnt) faithful shows is = absurd is
tested_beside image regions budgets sides (Some count) leaf rank (Cut Nodes) None (Some (OnTargets spent)) beside faithful shows is = absurd shows
tested_beside image regions budgets sides (Some count) leaf rank (Cut Nodes) None (Some (OnConflicts learnt)) beside faithful shows is = absurd shows
tested_beside image regions budgets sides (Some count) leaf rank (Cut Nodes) None None beside faithful shows is = absurd shows
tested_beside image regions budgets sides (Some count) leaf rank (Cut Nodes) (Some input) evidence beside faithful shows is = absurd shows
tested_beside image regions budgets sides None leaf rank (Cut Nodes) sample evidence beside faithful shows is = absurd shows

own_split : (lines : List Line) (node : ℕ) (sides : List Choice) (vs : List ℕ) → sides ≡ map Value vs ++ Rest ∷ [] → IsOwnSplit lines node sides → IsSideOf lines node sides
own_split lines node [] [] others own = cc
own_split lines node [] (v ∷ vs) others own = cc
own_split lines node (c ∷ cs) vs others own = own

spent_beside : (image : Image) (regions : List Region) (budgets : Budgets) (lines : List Line) (node : ℕ) (sides : List Choice) (nodes : Option ℕ) (leaf : Leaf) (rank : ℕ) (end : LeafEnd) (sample : Option (List ℕ)) (evidence : Option Evidence) (beside : Beside)
    → leaf.end ≡ end → IsFaithful image regions budgets.steps leaf → IsOwnSplit lines node sides → IsOwnCut lines node nodes → Shows regions budgets sides nodes leaf end sample evidence → IsBeside regions rank leaf sample evidence beside
    → HasSpent regions budgets lines node leaf end beside
spent_beside image regions budgets lines node sides nodes leaf rank (Exits status) sample evidence beside is faithful own own_cut shows beside_is = tt
spent_beside image regions budgets lines node sides nodes leaf rank (Traps trap) sample evidence beside is faithful own own_cut shows beside_is = tt
spent_beside image regions budgets lines node sides nodes leaf rank (Cut Steps) sample evidence beside is faithful own own_cut shows beside_is =
    subst (AreWithin budgets.steps leaf.steps) is faithful.within
spent_beside image regions budgets lines node sides nodes leaf rank (Cut Targets) (Some input) (Some (OnTargets spent)) (Spending written) is faithful own own_cut (sampled, spends) beside_is =
    (sides, own_split lines node sides (values_of spent.found) spends.others own, subst (SpendsTargets regions budgets.targets sides leaf) (sym beside_is) spends)
spent_beside image regions budgets lines node sides nodes leaf rank (Cut Targets) (Some input) (Some (OnTargets spent)) Bare is faithful own own_cut shows beside_is = absurd beside_is
spent_beside image regions budgets lines node sides nodes leaf rank (Cut Targets) (Some input) (Some (OnTargets spent)) (Tested test) is faithful own own_cut shows beside_is = absurd beside_is
spent_beside image regions budgets lines node sides nodes leaf rank (Cut Targets) (Some input) (Some (OnTargets spent)) (Learning learnt) is faithful own own_cut shows beside_is = absurd beside_is
spent_beside image regions budgets lines node sides nodes leaf rank (Cut Targets) (Some input) (Some (OnTargets spent)) (Filling count) is faithful own own_cut shows beside_is = absurd beside_is
spent_beside image regions budgets lines node sides nodes leaf rank (Cut Targets) (Some input) (Some (OnConflicts learnt)) beside is faithful own own_cut shows beside_is = absurd shows
spent_beside image regions budgets lines node sides nodes leaf rank (Cut Targets) (Some input) (Some (OnNodes count)) beside is faithful own own_cut shows beside_is = absurd shows
spent_beside image regions budgets lines node sides nodes leaf rank (Cut Targets) (Some input) None beside is faithful own own_cut shows beside_is = absurd shows
spent_beside image regions budgets lines node sides nodes leaf rank (Cut Targets) None evidence beside is faithful own own_cut shows beside_is = absurd shows
spent_beside image regions budgets lines node sides nodes leaf rank (Cut Conflicts) None (Some (OnConflicts learnt)) (Learning written) is faithful own own_cut shows beside_is =
    subst (SpendsConflicts regions budgets.conflicts leaf) (sym beside_is) shows
spent_beside image regions budgets lines node sides nodes leaf rank (Cut Conflicts) None (Some (OnConflicts learnt)) Bare is faithful own own_cut shows beside_is = absurd beside_is
spent_beside image regions budgets lines node sides nodes leaf rank (Cut Conflicts) None (Some (OnConflicts learnt)) (Tested test) is faithful own own_cut shows beside_is = absurd beside_is
spent_beside image regions budgets lines node sides nodes leaf rank (Cut Conflicts) None (Some (OnConflicts learnt)) (Spending spent) is faithful own own_cut shows beside_is = absurd beside_is
spent_beside image regions budgets lines node sides nodes leaf rank (Cut Conflicts) None (Some (OnConflicts learnt)) (Filling count) is faithful own own_cut shows beside_is = absurd beside_is
spent_beside image regions budgets lines node sides nodes leaf rank (Cut Conflicts) None (Some (OnTargets spent)) beside is faithful own own_cut shows beside_is = absurd shows
spent_beside image regions budgets lines node sides nodes leaf rank (Cut Conflicts) None (Some (OnNodes count)) beside is faithful own own_cut shows beside_is = absurd shows
spent_beside image regions budgets lines node sides nodes leaf rank (Cut Conflicts) None None beside is faithful own own_cut shows beside_is = absurd shows
spent_beside image regions budgets lines node sides nodes leaf rank (Cut Conflicts) (Some input) evidence beside is faithful own own_cut shows beside_is = absurd shows
spent_beside image regions budgets lines node sides (Some count) leaf rank (Cut Nodes) None (Some (OnNodes shown)) (Filling written) is faithful own own_cut (same, enough) beside_is =
    subst (λ n. (budgets.nodes ≤ n) × IsCutAt lines node n) (sym (beside_is ∙ same)) (enough, own_cut)
spent_beside image regions budgets lines node sides (Some count) leaf rank (Cut Nodes) None (Some (OnNodes shown)) Bare is faithful own own_cut shows beside_is = absurd beside_is
spent_beside image regions budgets lines node sides (Some count) leaf rank (Cut Nodes) None (Some (OnNodes shown)) (Tested test) is faithful own own_cut shows beside_is = absurd beside_is
spent_beside image regions budgets lines node sides (Some count) leaf rank (Cut Nodes) None (Some (OnNodes shown)) (Spending spent) is faithful own own_cut shows beside_is = absurd beside_is
spent_beside image regions budgets lines node sides (Some count) leaf rank (Cut Nodes) None (Some (OnNodes shown)) (Learning learnt) is faithful own own_cut shows beside_is = absurd beside_is
spent_beside image regions budgets lines node sides (Some count) leaf rank (Cut Nodes) None (Some (OnTargets spent)) beside is faithful own own_cut shows beside_is = absurd shows
spent_beside image regions budgets lines node sides (Some count) leaf rank (Cut Nodes) None (Some (OnConflicts learnt)) beside is faithful own own_cut shows beside_is = absurd shows
spent_beside image regions budgets lines node sides (Some count) leaf rank (Cut Nodes) None None beside is faithful own own_cut shows beside_is = absurd shows
spent_beside image regions budgets lines node sides (Some count) leaf rank (Cut Nodes) (Some input) evidence beside is faithful own own_cut shows beside_is = absurd shows
spent_beside image regions budgets lines node sides None leaf rank (Cut Nodes) sample evidence beside is faithful own own_cut shows beside_is = absurd shows

-- A quiet tree's nodes are settled.
settled_if : (st : Status) → st ≢ Free → is_held st ≡ false → is_settled st ≡ true
settled_if Free free held = absurd (free refl)
settled_if (Held by) free held = cc
settled_if Parted free held = refl
settled_if IsLeaf free held = refl

not_held : (p : ℕ → Bool) (n m : ℕ) → m < n → count_below p n ≡ 0 → p m ≡ false
not_held p n m lt none = by_test (p m) (count_at p n m lt)
  where
    by_test : (b : Bool) → one_if b ≤ count_below p n → b ≡ false
    by_test true le = absurd (omega (arith, le, none))
    by_test false le = refl

module _ {S L : Type 0} (part_of : L → Part) (rules : Rules S L) (state_place : S → Place) (leaf_place : L → Place)
    (image : Image) (regions : List Region) (budgets : Budgets) (asks : AskAsClaimed part_of rules leaf_place image regions budgets)
    (s : Story (Content S L)) (drained : IsDrained rules state_place leaf_place s) (entries : List Entry) (are : AreEntries part_of regions s entries) where
  abbrev lines : List Line
  lines = lines_of (cut_in state_place leaf_place) s

  -- the report of the tree, by so many workers
  abbrev report : ℕ → Report
  report workers = record { image = image; regions = regions; budgets = budgets; workers = workers; lines = lines; entries = entries }

  abbrev shut : L → Content S L
  shut l = Shut l

  abbrev covers_at : Content S L → List ℕ → Bool
  covers_at c = (place_in state_place leaf_place c).covers

  -- the leaf of an entry is right, with the choices of its own split, and where it was cut
  record IsRightEntry (rank : ℕ) (e : Entry) : Type 0 where
    part : Part
    at : IsLeafAt part_of s e.node part
    same_leaf : e.leaf ≡ part.leaf
    beside : IsBeside regions rank e.leaf part.sample part.evidence e.beside
    sides : List Choice
    own : IsOwnSplit lines e.node sides
    nodes : Option ℕ
    own_cut : IsOwnCut lines e.node nodes
    right : IsRight image regions budgets sides nodes (record part { leaf = e.leaf })

  right_entry : (rank : ℕ) (e : Entry) → slice_get entries rank ≡ Some e → IsRightEntry rank e
  right_entry rank e found = record {
    part = entry.part;
    at = entry.at;
    same_leaf = entry.same_leaf;
    beside = subst (λ leaf. IsBeside regions rank leaf entry.part.sample entry.part.evidence e.beside) (sym entry.same_leaf) entry.beside;
    sides = here.sides;
    own = here.own;
    nodes = here.nodes;
    own_cut = here.own_cut;
    right = subst (λ leaf. IsRight image regions budgets here.sides here.nodes (record entry.part { leaf = leaf })) (sym entry.same_leaf)
        (subst (IsRight image regions budgets here.sides here.nodes) entry.at.same (asks.right here.sides here.nodes entry.at.leaf here.right));
  }
    where
      entry : IsEntry part_of regions s rank e
      entry = are.each rank e found

      here : IsRightAt rules lines e.node entry.at.leaf
      here = subst (HasLeaf (IsLeafRight rules state_place leaf_place s e.node)) entry.at.held (drained.leaves e.node entry.at.within entry.at.is_leaf)

  -- what its place is
  place_of_entry : (rank : ℕ) (e : Entry) (entry : IsEntry part_of regions s rank e) → leaf_place entry.at.leaf ≡ place_of e.leaf
  place_of_entry rank e entry = asks.place entry.at.leaf ∙ ap (λ (p : Part). place_of p.leaf) entry.at.same ∙ ap place_of (sym entry.same_leaf)

  all_leaves : (P : Leaf → Type 0) → ((rank : ℕ) (e : Entry) → slice_get entries rank ≡ Some e → P e.leaf) → All P (leaves_of entries)
  all_leaves P each = all_items P (leaves_of entries) (λ i leaf at. let found : (e : Entry) × (slice_get entries i ≡ Some e) × (e.leaf ≡ leaf) = mapped_at (λ (e : Entry). e.leaf) entries i leaf at in
      subst P found.2 (each i found.0 found.1))

  exact_cover : ((input : List ℕ) → IsAssignment regions input → covered covers_at (root_content s) input ≡ true) → (workers : ℕ) → IsExactCover (report workers)
  exact_cover rooted workers input assignment =
      count_by-map (λ leaf. covers leaf input) (λ (e : Entry). e.leaf) entries
      ∙ count_same (λ (e : Entry). covers e.leaf input) (λ (e : Entry). covered covers_at (content s e.node) input) entries same
      ∙ sym (count_by-map (λ m. covered covers_at (content s m) input) (λ (e : Entry). e.node) entries)
      ∙ sum_by-IsPermutation (λ m. cond (covered covers_at (content s m) input) 1 0) (leaf_numbers s) (map (λ (e : Entry). e.node) entries) are.all
      ∙ count_where (λ m. is_leaf_status (status s m)) (λ m. covered covers_at (content s m) input) (length s.nodes)
      ∙ drained.one input
      ∙ ap one_if (rooted input assignment)
    where
      same : (rank : ℕ) (e : Entry) → slice_get entries rank ≡ Some e → covers e.leaf input ≡ covered covers_at (content s e.node) input
      same rank e found = let entry : IsEntry part_of regions s rank e = are.each rank e found in
          ap (λ b. b && covers e.leaf input) (sym (are_bytes-of input assignment.1))
          ∙ sym (ap (λ (p : Place). p.covers input) (place_of_entry rank e entry))
          ∙ ap (λ c. covered covers_at c input) (sym entry.at.held)

  -- no two entries are of one node
  ranks_differ : (i j : ℕ) (a b : Entry) → i < j → slice_get entries i ≡ Some a → slice_get entries j ≡ Some b → a.leaf.choices ≢ b.leaf.choices
  ranks_differ i j a b lt at other_at same = no_way (sym (precedes_itself b.leaf.choices) ∙ ap (λ cs. precedes cs b.leaf.choices) (sym same)
      ∙ ranked_before (leaves_of entries) i j a.leaf b.leaf are.ranked lt (leaf_at i a at) (leaf_at j b other_at))
    where
      no_way : false ≡ true → ⊥
      no_way e = cc

      leaf_at : (k : ℕ) (e : Entry) → slice_get entries k ≡ Some e → slice_get (leaves_of entries) k ≡ Some e.leaf
      leaf_at k e found = slice_get-map (λ (x : Entry). x.leaf) entries k ∙ ap (option_map (λ (x : Entry). x.leaf)) found

  one_leaf : (i j : ℕ) (a b : Entry) → slice_get entries i ≡ Some a → slice_get entries j ≡ Some b → a.node ≡ b.node → a.leaf.choices ≡ b.leaf.choices
  one_leaf i j a b at other_at same =
      ap (λ (p : Place). p.choices) (sym (place_of_entry i a one) ∙ ap leaf_place leaves_same ∙ place_of_entry j b other)
    where
      one : IsEntry part_of regions s i a
      one = are.each i a at

      other : IsEntry part_of regions s j b
      other = are.each j b other_at

      leaves_same : one.at.leaf ≡ other.at.leaf
      leaves_same = same_shut {S = S} one.at.leaf other.at.leaf (same_held (shut one.at.leaf) (shut other.at.leaf) (sym one.at.held ∙ ap (content s) same ∙ other.at.held))

  nodes_differ : (i j : ℕ) (a b : Entry) → i ≢ j → slice_get entries i ≡ Some a → slice_get entries j ≡ Some b → a.node ≢ b.node
  nodes_differ i j a b ne at other_at same = by_order (cases_lt i j)
    where
      by_order : (i < j) ⊎ (j ≤ i) → ⊥
      by_order (inl lt) = ranks_differ i j a b lt at other_at (one_leaf i j a b at other_at same)
      by_order (inr le) = ranks_differ j i b a (omega (arith, le, ne)) other_at at (sym (one_leaf i j a b at other_at same))

  parted : (workers : ℕ) → ArePartedAll (report workers)
  parted workers i j leaf other ne at other_at = record {
    c = apart.c;
    d = apart.d;
    first = apart.first;
    part = λ x y is_x covers_x is_y covers_y.
        subst (λ ds. PartAt apart.c apart.d ds (decisions image regions y budgets.steps)) (asks.decides x)
        (subst (PartAt apart.c apart.d (rules.decides x)) (asks.decides y)
        (apart.part x y (covered_place leaf x is_x covers_x) (covered_place other y is_y covers_y)));
  }
    where
      a : (e : Entry) × (slice_get entries i ≡ Some e) × (e.leaf ≡ leaf)
      a = mapped_at (λ (e : Entry). e.leaf) entries i leaf at

      b : (e : Entry) × (slice_get entries j ≡ Some e) × (e.leaf ≡ other)
      b = mapped_at (λ (e : Entry). e.leaf) entries j other other_at

      one : IsEntry part_of regions s i a.0
      one = are.each i a.0 a.1

      two : IsEntry part_of regions s j b.0
      two = are.each j b.0 b.1

      apart : ArePlacesApart rules.decides (place_of leaf) (place_of other)
      apart = subst (λ p. ArePlacesApart rules.decides p (place_of other)) (place_of_entry i a.0 one ∙ ap place_of a.2)
          (subst (ArePlacesApart rules.decides (leaf_place one.at.leaf)) (place_of_entry j b.0 two ∙ ap place_of b.2)
          (drained.apart a.0.node b.0.node (shut one.at.leaf) (shut two.at.leaf) (nodes_differ i j a.0 b.0 ne a.1 b.1) one.at.within two.at.within
          (ap is_live one.at.is_leaf) (ap is_live two.at.is_leaf) one.at.held two.at.held))

      covered_place : (l : Leaf) (input : List ℕ) → IsAssignment regions input → IsTrue (covers l input) → IsTrue ((place_of l).covers input)
      covered_place l input assignment is = ap (λ x. x && covers l input) (are_bytes-of input assignment.1) ∙ is

  history : (workers : ℕ) → All (λ (x : Event (Content S L) ℕ). x.by < workers) s.events → HasHistory (report workers)
  history workers all = subst (λ b. IsHistory b lines (leaf_nodes_of entries)) same_bounds (record {
    nodes = led.nodes;
    walked = led.walked;
    quiet = quiet-walked (choices_at state_place leaf_place) (cut_in state_place leaf_place) s led.nodes led.same settled;
    each = all_items (λ (l : LeafNode). slice_get led.nodes l.node ≡ Some (standing_of l)) (leaf_nodes_of entries) each;
    as_many = leaves-walked (choices_at state_place leaf_place) (cut_in state_place leaf_place) s led.nodes led.same
        ∙ sym (below_true (λ m. is_leaf_status (status s m)) (length s.nodes))
        ∙ sym (count_where (λ m. is_leaf_status (status s m)) (λ _. true) (length s.nodes))
        ∙ count_all (leaf_numbers s)
        ∙ sym (length_permutation (leaf_numbers s) (map (λ (e : Entry). e.node) entries) are.all)
        ∙ length-map entries (λ (e : Entry). e.node)
        ∙ sym (length-map entries (λ (e : Entry). record { leaf = e.leaf; node = e.node }));
  })
    where
      bounds : Bounds
      bounds = record { workers = workers; targets = rules.targets; nodes = rules.nodes; order = rules.order }

      same_bounds : bounds ≡ bounds_of (report workers)
      same_bounds k = record { workers = workers; targets = asks.targets k; nodes = asks.nodes k; order = asks.order k }

      led : LeadsTo (choices_at state_place leaf_place) (cut_in state_place leaf_place) bounds s
      led = drained.walked.leads workers all

      settled : (m : ℕ) → m < length s.nodes → is_settled (status s m) ≡ true
      settled m lt = settled_if (status s m) (drained.quiet.0 m lt) (not_held (λ k. is_held (status s k)) (length s.nodes) m lt drained.quiet.1)

      each : (i : ℕ) (l : LeafNode) → slice_get (leaf_nodes_of entries) i ≡ Some l → slice_get led.nodes l.node ≡ Some (standing_of l)
      each i l at = found.1 ∙ ap Some (found.2 ∙ stands)
        where
          e : (x : Entry) × (slice_get entries i ≡ Some x) × (record { leaf = x.leaf; node = x.node } ≡ l)
          e = mapped_at (λ (x : Entry). record { leaf = x.leaf; node = x.node }) entries i l at

          entry : IsEntry part_of regions s i e.0
          entry = are.each i e.0 e.1

          node_is : e.0.node ≡ l.node
          node_is = ap (λ (x : LeafNode). x.node) e.2

          held : content s l.node ≡ Some (shut entry.at.leaf)
          held = ap (content s) (sym node_is) ∙ entry.at.held

          found : (standing : Standing) × (slice_get led.nodes l.node ≡ Some standing) × StandsAs (choices_at state_place leaf_place) (cut_in state_place leaf_place) s l.node (shut entry.at.leaf) standing
          found = led.same.each l.node (shut entry.at.leaf) held

          status_is : status s l.node ≡ IsLeaf
          status_is = ap (status s) (sym node_is) ∙ entry.at.is_leaf

          leaf_is : e.0.leaf ≡ l.leaf
          leaf_is = ap (λ (x : LeafNode). x.leaf) e.2

          choices_is : (leaf_place entry.at.leaf).choices ≡ l.leaf.choices
          choices_is = ap (λ (p : Place). p.choices) (place_of_entry i e.0 entry) ∙ ap (λ (x : Leaf). x.choices) leaf_is

          cause_is : (leaf_place entry.at.leaf).cut ≡ cause_of l.leaf.end
          cause_is = ap (λ (p : Place). p.cut) (place_of_entry i e.0 entry) ∙ ap (λ (x : Leaf). cause_of x.end) leaf_is

          stands : record { choices = (leaf_place entry.at.leaf).choices; status = status s l.node; cut = cut_where (cut_in state_place leaf_place) (status s l.node) (shut entry.at.leaf) } ≡ standing_of l
          stands = ap (λ st. record { choices = (leaf_place entry.at.leaf).choices; status = st; cut = cut_where (cut_in state_place leaf_place) st (shut entry.at.leaf) }) status_is
              ∙ (λ k. record { choices = choices_is k; status = IsLeaf; cut = cause_is k })

  pub are_a_report : ((input : List ℕ) → IsAssignment regions input → covered covers_at (root_content s) input ≡ true)
      → (workers : ℕ) → All (λ (x : Event (Content S L) ℕ). x.by < workers) s.events → ReleaseOnce s.events
      → IsReport (report workers)
  are_a_report rooted workers all once = record {
    full = all_leaves IsFull (λ rank e at. (right_entry rank e at).right.full);
    inputs = all_leaves (λ leaf. leaf.condition.graph.inputs ≡ count_of regions) (λ rank e at. (right_entry rank e at).right.inputs);
    exact_cover = exact_cover rooted workers;
    faithful = all_leaves (IsFaithful image regions budgets.steps) (λ rank e at. (right_entry rank e at).right.faithful);
    alike = all_leaves (DecidesAlike image regions) (λ rank e at. (right_entry rank e at).right.alike);
    parted = parted workers;
    runs = λ rank e at. let r : IsRightEntry rank e = right_entry rank e at in
        tested_beside image regions budgets r.sides r.nodes e.leaf rank e.leaf.end r.part.sample r.part.evidence e.beside r.right.faithful r.right.shown r.beside;
    cuts = all_items (λ (e : Entry). HasSpent regions budgets lines e.node e.leaf e.leaf.end e.beside) entries (λ rank e at. let r : IsRightEntry rank e = right_entry rank e at in
        spent_beside image regions budgets lines e.node r.sides r.nodes e.leaf rank e.leaf.end r.part.sample r.part.evidence e.beside refl r.right.faithful r.own r.own_cut r.right.shown r.beside);
    history = history workers all;
    releases = once_written (cut_in state_place leaf_place) s once;
    ranked = are.ranked;
  }
