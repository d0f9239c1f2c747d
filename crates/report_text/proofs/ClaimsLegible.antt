-- The events and what stands beside leaves, where the claims hold of them: their texts tell them from all others.
use Rattle.std.proofs.Common.{◌≡◌, ◌∙◌, ℕ, ◌+◌, ◌<◌, ◌^◌, List, [], ◌∷◌, Some, ap, arith, get_or, length, map, option_map, refl, subst, sym}
use Rattle.std.specs.Prelude.{All, slice_get}
use Rattle.std.proofs.lemmas.List.{length-map}
use Rattle.std.proofs.lemmas.List.Elements.{All-map, All-weaker}
use Rattle.std.proofs.lemmas.List.Sums.{count_by-le-length, sum_by-cons}
use Rattle.std.proofs.lemmas.Option.{get_or_from_slice_get, slice_get-map, slice_get_within}
use Rattle.hex.specs.Hex.{IsBytes}
use Rattle.elf_load.specs.Images.{Image}
use Rattle.elf_load.specs.declared.region.Region.{Region}
use Rattle.bv_dag.specs.Graphs.{width_of}
use Rattle.bv_dag.proofs.TermLaws.{there}
use Rattle.term_trees.proofs.Terms.{is_term}
use Rattle.rv_decode.specs.declared.ends.PathStep.{PathStep}
use Rattle.rv_decode.specs.declared.ends.PathStep.TheVariants.{Taken, NotTaken, Target}
use Rattle.rv_spec.specs.Memory.{count_of}
use Rattle.rv_spec.specs.Runs.{Run, run}
use Rattle.tree_core.specs.declared.cause.Cause.TheVariants.{Conflicts, Nodes, Steps, Targets}
use Rattle.tree_core.specs.declared.choice.Choice.{Choice}
use Rattle.fork_spec.specs.Evidence.{Found, Learnt, Spent, SpendsConflicts, SpendsTargets}
use Rattle.fork_spec.specs.Histories.{is_leaf}
use Rattle.fork_spec.specs.Leaves.{IsByteStatus, IsFull, IsSmall, IsSmallStep, Leaf, worth}
use Rattle.fork_spec.specs.Runs.{IsFaithful, end_on}
use Rattle.fork_spec.specs.Walks.{root}
use Rattle.fork_spec.specs.declared.end.LeafEnd.{LeafEnd}
use Rattle.fork_spec.specs.declared.end.LeafEnd.TheVariants.{Exits, Traps, Cut}
use Rattle.term_trees.proofs.Numbers.{number_fits}
use Rattle.test_files.specs.Inputs.{bytes_in}
use Rattle.test_files.specs.Tests.{Test}
use Rattle.test_files.specs.Writable.{HasStatus, HasTarget, IsLegible}
use Rattle.spent_text.proofs.FoundBack.{bytes_of}
use Rattle.report_text.specs.Claims.{Bare, Beside, Entry, Filling, HasSpent, IsReport, IsRun, IsTested, Learning, Report, Spending, Tested, bounds_of, leaf_nodes_of, leaves_of}
use Rattle.report_text.specs.Legible.{AreLegible, HasSmallCounts, HasSmallLogBeside, IsLegibleBeside, IsLegibleLearnt, IsLegibleSpent}
use Rattle.report_text.proofs.WalkedLines.{legible_from}

-- what holds of all items holds of the one at a place
holds_at : {X : Type 0} (P : X → Type 0) (xs : List X) (i : ℕ) (x : X) → All P xs → slice_get xs i ≡ Some x → P x
holds_at P xs i x all at = subst P (get_or_from_slice_get xs i x x at) (all i x (slice_get_within xs i x at))

-- ---- the numbers of a leaf

module _ (leaf : Leaf) (full : IsFull leaf) (input : List ℕ) (bytes : All (λ b. b < 256) input) where
  -- what a term of so many bits is worth
  worth_fits : (id width : ℕ) → 0 < width → width_of leaf.condition.graph id ≡ width → worth leaf input id < 2 ^ width
  worth_fits id width some is =
      number_fits leaf.condition.graph id width input (is_term leaf.condition.graph id full.is_dag (there leaf.condition.graph id width is some)) is bytes

  status_fits : (end : LeafEnd) → IsByteStatus leaf.condition.graph end → HasStatus (end_on leaf input end)
  status_fits (Exits status) byte = worth_fits status 8 (omega arith) byte
  status_fits (Traps trap) byte = tt
  status_fits (Cut cause) byte = tt

  output_fits : All (λ b. b < 256) (map (worth leaf input) leaf.outputs)
  output_fits = All-map (λ b. b < 256) (worth leaf input) leaf.outputs (λ k d within. worth_fits (get_or leaf.outputs k d) 8 (omega arith) (full.bytes k d within))

small_target : (s : PathStep) → IsSmallStep s → HasTarget s
small_target Taken small = tt
small_target NotTaken small = tt
small_target (Target address) small = small

-- ---- what stands beside a leaf

-- the bytes of regions are counted in two ways
pub sum_count : (regions : List Region) → bytes_in regions ≡ count_of regions
sum_count [] = refl
sum_count (r ∷ regions) = sum_by-cons (λ (r : Region). r.count) r regions ∙ ap (λ n. r.count + n) (sum_count regions)

-- a run of a leaf, whose input bytes stand in these regions
test_legible : (image : Image) (regions : List Region) (most : ℕ) (leaf : Leaf) (rank : ℕ) (test : Test) → IsFull leaf → IsFaithful image regions most leaf →
    All (λ (region : Region). region.start < 2 ^ 32) regions → IsSmall rank →
    IsRun image regions leaf rank test → IsLegible test
test_legible image regions most leaf rank test full faithful starts small is =
    let made = faithful.runs test.input is.assignment is.covered in
    let same : run image regions test.input test.steps ≡ run image regions test.input leaf.steps = ap (run image regions test.input) is.same_steps in
    let end : test.end ≡ end_on leaf test.input leaf.end = sym is.runs.same_end ∙ ap (λ (r : Run). r.end) same ∙ made.same_end in
    let output : test.output ≡ map (worth leaf test.input) leaf.outputs = sym is.runs.same_output ∙ ap (λ (r : Run). r.state.output) same ∙ made.same_output in
    record {
      leaf_fits = omega (arith, is.same_rank, small);
      steps_fit = omega (arith, is.same_steps, full.few_steps);
      status = subst HasStatus (sym end) (status_fits leaf full test.input is.assignment.1 leaf.end full.status);
      targets = subst (All HasTarget) (sym is.same_path) (All-weaker IsSmallStep HasTarget small_target leaf.path full.small_path);
      starts = subst (All (λ (region : Region). region.start < 2 ^ 32)) (sym is.same_regions) starts;
      input_long = is.assignment.0 ∙ sym (ap bytes_in is.same_regions ∙ sum_count regions);
      input_bytes = bytes_of test.input is.assignment.1;
      output_bytes = subst IsBytes (sym output) (bytes_of (map (worth leaf test.input) leaf.outputs) (output_fits leaf full test.input is.assignment.1));
    }

spent_legible : (regions : List Region) (targets : ℕ) (sides : List Choice) (leaf : Leaf) (spent : Spent) → IsFull leaf → IsSmall targets →
    SpendsTargets regions targets sides leaf spent → IsLegibleSpent spent
spent_legible regions targets sides leaf spent full few is =
    let term : spent.term < length leaf.condition.graph.nodes = there leaf.condition.graph spent.term 32 is.wide (omega arith) in (
      omega (arith, is.each, few),
      omega (arith, term, full.few_nodes),
      λ k d within.
          let found : Found = get_or spent.found k d in
          let here = is.reached k d within in
          let fits : worth leaf found.input spent.term < 2 ^ 32 = worth_fits leaf full found.input here.assignment.1 spent.term 32 (omega arith) is.wide in
          (subst (λ (n : ℕ). n < 2 ^ 32) here.has_value fits, here.assignment.1),
    )

learnt_legible : (regions : List Region) (conflicts : ℕ) (leaf : Leaf) (learnt : Learnt) → IsSmall conflicts → HasSmallLogBeside (Learning learnt) →
    SpendsConflicts regions conflicts leaf learnt → IsLegibleLearnt learnt
learnt_legible regions conflicts leaf learnt few small is = record {
  question = is.full;
  few_clauses = omega (arith, is.spent.whole, few);
  clauses = is.spent.formed;
  numbers = small;
}

-- ---- the report

module _ (r : Report) (claims : IsReport r) (counts : HasSmallCounts r) where
  few_nodes : IsSmall (length claims.history.nodes)
  few_nodes = counts.few_nodes claims.history.nodes claims.history.walked

  pub lines_legible : AreLegible r.lines
  lines_legible = (legible_from (bounds_of r) 0 (root ∷ []) claims.history.nodes r.lines counts.few_workers claims.history.walked few_nodes).0

  few_entries : IsSmall (length r.entries)
  few_entries =
      let same : length (leaf_nodes_of r.entries) ≡ length r.entries = length-map r.entries (λ (e : Entry). record { leaf = e.leaf; node = e.node }) in
      omega (arith, few_nodes, claims.history.as_many, count_by-le-length is_leaf claims.history.nodes, same)

  -- what holds of all leaves holds of that of an entry
  pub at_leaf : (P : Leaf → Type 0) (rank : ℕ) (e : Entry) → All P (leaves_of r.entries) → slice_get r.entries rank ≡ Some e → P e.leaf
  at_leaf P rank e all at =
      holds_at P (leaves_of r.entries) rank e.leaf all (slice_get-map (λ (x : Entry). x.leaf) r.entries rank ∙ ap (option_map (λ (x : Entry). x.leaf)) at)

  module _ (starts : All (λ (region : Region). region.start < 2 ^ 32) r.regions) where
    beside_legible : (leaf : Leaf) (node rank : ℕ) (end : LeafEnd) (b : Beside) → IsFull leaf → IsFaithful r.image r.regions r.budgets.steps leaf → IsSmall rank →
        IsTested r.image r.regions leaf end rank b → HasSpent r.regions r.budgets r.lines node leaf end b → HasSmallLogBeside b → IsLegibleBeside b
    beside_legible leaf node rank (Exits status) Bare full faithful low is spent small = absurd is
    beside_legible leaf node rank (Exits status) (Tested test) full faithful low is spent small = test_legible r.image r.regions r.budgets.steps leaf rank test full faithful starts low is
    beside_legible leaf node rank (Exits status) (Spending found) full faithful low is spent small = absurd is
    beside_legible leaf node rank (Exits status) (Learning learnt) full faithful low is spent small = absurd is
    beside_legible leaf node rank (Exits status) (Filling count) full faithful low is spent small = absurd is
    beside_legible leaf node rank (Traps trap) Bare full faithful low is spent small = absurd is
    beside_legible leaf node rank (Traps trap) (Tested test) full faithful low is spent small = test_legible r.image r.regions r.budgets.steps leaf rank test full faithful starts low is
    beside_legible leaf node rank (Traps trap) (Spending found) full faithful low is spent small = absurd is
    beside_legible leaf node rank (Traps trap) (Learning learnt) full faithful low is spent small = absurd is
    beside_legible leaf node rank (Traps trap) (Filling count) full faithful low is spent small = absurd is
    beside_legible leaf node rank (Cut Steps) Bare full faithful low is spent small = absurd is
    beside_legible leaf node rank (Cut Steps) (Tested test) full faithful low is spent small = test_legible r.image r.regions r.budgets.steps leaf rank test full faithful starts low is
    beside_legible leaf node rank (Cut Steps) (Spending found) full faithful low is spent small = absurd is
    beside_legible leaf node rank (Cut Steps) (Learning learnt) full faithful low is spent small = absurd is
    beside_legible leaf node rank (Cut Steps) (Filling count) full faithful low is spent small = absurd is
    beside_legible leaf node rank (Cut Targets) Bare full faithful low is spent small = absurd is
    beside_legible leaf node rank (Cut Targets) (Tested test) full faithful low is spent small = absurd is
    beside_legible leaf node rank (Cut Targets) (Spending found) full faithful low is spent small = spent_legible r.regions r.budgets.targets spent.0 leaf found full counts.few_targets spent.2
    beside_legible leaf node rank (Cut Targets) (Learning learnt) full faithful low is spent small = absurd is
    beside_legible leaf node rank (Cut Targets) (Filling count) full faithful low is spent small = absurd is
    beside_legible leaf node rank (Cut Conflicts) Bare full faithful low is spent small = absurd is
    beside_legible leaf node rank (Cut Conflicts) (Tested test) full faithful low is spent small = absurd is
    beside_legible leaf node rank (Cut Conflicts) (Spending found) full faithful low is spent small = absurd is
    beside_legible leaf node rank (Cut Conflicts) (Learning learnt) full faithful low is spent small = learnt_legible r.regions r.budgets.conflicts leaf learnt counts.few_conflicts small spent
    beside_legible leaf node rank (Cut Conflicts) (Filling count) full faithful low is spent small = absurd is
    beside_legible leaf node rank (Cut Nodes) Bare full faithful low is spent small = absurd is
    beside_legible leaf node rank (Cut Nodes) (Tested test) full faithful low is spent small = absurd is
    beside_legible leaf node rank (Cut Nodes) (Spending found) full faithful low is spent small = absurd is
    beside_legible leaf node rank (Cut Nodes) (Learning learnt) full faithful low is spent small = absurd is
    beside_legible leaf node rank (Cut Nodes) (Filling count) full faithful low is spent small = small

    pub entry_legible : (rank : ℕ) (e : Entry) → slice_get r.entries rank ≡ Some e → IsLegibleBeside e.beside
    entry_legible rank e at =
        let low : IsSmall rank = omega (arith, few_entries, slice_get_within r.entries rank e at) in
        beside_legible e.leaf e.node rank e.leaf.end e.beside (at_leaf IsFull rank e claims.full at) (at_leaf (IsFaithful r.image r.regions r.budgets.steps) rank e claims.faithful at) low
        (claims.runs rank e at)
        (holds_at (λ (x : Entry). HasSpent r.regions r.budgets r.lines x.node x.leaf x.leaf.end x.beside) r.entries rank e claims.cuts at)
        (holds_at (λ (x : Entry). HasSmallLogBeside x.beside) r.entries rank e counts.small_logs at)
