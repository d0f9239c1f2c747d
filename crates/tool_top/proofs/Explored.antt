-- A tree that was worked until nothing was left gives the report of its program.
use Rattle.std.proofs.Common.{◌≡◌, ℕ, ◌<◌, ◌&&◌, ◌++◌, IsTrue, true, refl, sym, ap, subst, ◌∙◌, arith}
use Rattle.std.specs.Prelude.{List, All, Bool, Option, Some, ◌==◌, length}
use Rattle.std.proofs.lemmas.Bool.Decides.{nat_tests}
use Rattle.std.proofs.lemmas.Option.{same_Some}
use Rattle.elf_load.specs.declared.region.Region.{Region}
use Rattle.rv_spec.specs.Memory.{IsAssignment}
use Rattle.tree_core.specs.Covers.{covered, root_content}
use Rattle.tree_core.specs.Stories.{Story}
use Rattle.tree_core.specs.declared.budgets.Budgets.{Budgets}
use Rattle.tree_core.specs.declared.event.Event.{Event}
use Rattle.fork_spec.specs.Histories.{ReleaseOnce}
use Rattle.fork_spec.specs.Leaves.{IsSmall, are_bytes}
use Rattle.fork_spec.specs.Parts.{Part}
use Rattle.fork_tree.specs.Written.{lines_of}
use Rattle.fork_spec.proofs.ByteLists.{are_bytes-of}
use Rattle.fork_tree.specs.Calls.{IsOpening}
use Rattle.fork_tree.specs.Contents.{cut_in, place_in}
use Rattle.fork_tree.specs.Drains.{IsDrained}
use Rattle.fork_tree.specs.Nodes.{HasLeaf, IsLeafRight}
use Rattle.fork_tree.specs.declared.content.Content.{Content}
use Rattle.fork_tree.specs.declared.content.Content.TheVariants.{Open, Shut}
use Rattle.node_split.specs.Rules.{leaf_place, rules_of}
use Rattle.report_text.proofs.Claimed.{are_a_report}
use Rattle.report_text.proofs.Entering.{are_entries, reportable}
use Rattle.report_text.proofs.FileList.{logs_beside}
use Rattle.report_text.specs.Entries.{AreEntries, AskAsClaimed, IsLeafAt, IsReportOfTree, IsReportable, entries_of}
use Rattle.sym_state.specs.Places.{run_place}
use Rattle.sym_state.specs.Programs.{Program}
use Rattle.sym_state.specs.Runs.{IsFirst}
use Rattle.sym_state.specs.Symbolic.{Symbolic, stands_for}
use Rattle.tool_io.specs.Told.{Put}
use Rattle.tool_words.specs.Limits.{IsBudgets}
use Rattle.turn_lock.specs.Growth.{StartsWith}
use Rattle.tool_top.specs.Reports.{IsReportOf}

abbrev covers_at : Content Symbolic Part → List ℕ → Bool
covers_at c = (place_in run_place leaf_place c).covers

-- a run before its first step stands for every assignment
stands_for_all : (p : Program) (s : Symbolic) → IsFirst p s → (input : List ℕ) → IsAssignment p.regions input → stands_for s input ≡ true
stands_for_all p s first input (long, small) =
    let bytes : are_bytes input ≡ true = are_bytes-of input small in
    let each : length input ≡ s.terms.inputs = long ∙ sym first.inputs in
    let count : (length input == s.terms.inputs) ≡ true = grind (arith, nat_tests, each) in
    rw first.condition (ap (λ t. t && ((length input == s.terms.inputs) && true)) bytes ∙ ap (λ t. t && true) count)

-- a root that stands for every assignment still does when the tree has grown
rooted : (regions : List Region) (root : Symbolic) (old new : Story (Content Symbolic Part)) → IsOpening root old
    → ((input : List ℕ) → IsAssignment regions input → IsTrue ((run_place root).covers input))
    → StartsWith new.nodes old.nodes → (input : List ℕ) → IsAssignment regions input → covered covers_at (root_content new) input ≡ true
rooted regions root old new (Open a, is, same) whole grows input assigned =
    ap (λ nodes. covered covers_at (root_content (record { nodes = nodes; events = new.events })) input) (grows.1 ∙ ap (λ (s : Story (Content Symbolic Part)). s.nodes ++ grows.0) is)
    ∙ ap (λ (r : Symbolic). (run_place r).covers input) same ∙ whole input assigned
rooted regions root old new (Shut l, is, same) whole grows input assigned = absurd same

module _ (p : Program) (budgets : Budgets) where
  -- what the worker asks of leaves is what is claimed of them
  asks : AskAsClaimed (λ (part : Part). part) (rules_of p budgets) leaf_place p.image p.regions budgets
  asks = record {
    right = λ sides nodes leaf right. right;
    place = λ leaf. refl;
    decides = λ input. refl;
    targets = refl;
    nodes = refl;
    order = refl;
  }

  -- the report of a tree that grew from the program's first run, by the events of so many workers, is one of the program
  pub is_report_of : (root : Symbolic) (old new : Story (Content Symbolic Part)) → IsOpening root old
      → IsFirst p root → StartsWith new.nodes old.nodes
      → IsDrained (rules_of p budgets) run_place leaf_place new → (workers : ℕ) → All (λ (e : Event (Content Symbolic Part) ℕ). e.by < workers) new.events
      → ReleaseOnce new.events → IsSmall workers → IsBudgets budgets → (out : List ℕ) (puts : List Put) (text : List ℕ)
      → IsReportOfTree (λ (part : Part). part) run_place leaf_place out p.regions budgets workers new puts text
      → IsReportOf out p.image p.regions budgets workers puts text
  is_report_of root old new opens first grows drained workers few once few_workers within out puts text made = record {
    lines = lines_of (cut_in run_place leaf_place) new;
    entries = entries_of p.regions 0 made.leaves;
    claims =
        are_a_report (λ (part : Part). part) (rules_of p budgets) run_place leaf_place p.image p.regions budgets asks new drained
        (entries_of p.regions 0 made.leaves) are (rooted p.regions root old new opens (stands_for_all p root first) grows) workers few once;
    counts = record {
      few_workers = few_workers;
      few_targets = omega (arith, within.targets_within.1);
      few_conflicts = omega (arith, within.conflicts_within.1);
      few_nodes = λ nodes walked.
          let led = drained.walked.leads workers few in
          let same : led.nodes ≡ nodes = same_Some led.nodes nodes (sym led.walked ∙ walked) in
          omega (arith, ap length same, led.same.as_many, drained.few);
      small_logs = logs_beside p.regions 0 made.leaves made.small_logs;
    };
    files = made.files;
    summary = made.summary;
  }
    where
      HasIt : Option (Content Symbolic Part) → ℕ → Type 0
      HasIt held node = HasLeaf {S = Symbolic} {L = Part} (IsLeafRight (rules_of p budgets) run_place leaf_place new node) held

      right_at : (node : ℕ) (part : Part) → IsLeafAt (λ (x : Part). x) new node part → IsReportable part
      right_at node part at =
          let here : HasIt (Some (Shut at.leaf)) node = subst (λ held. HasIt held node) at.held (drained.leaves node at.within at.is_leaf) in
          subst IsReportable at.same (reportable p.image p.regions budgets here.sides here.nodes at.leaf here.right)

      are : AreEntries (λ (part : Part). part) p.regions new (entries_of p.regions 0 made.leaves)
      are = are_entries (λ (part : Part). part) p.regions new made.leaves made.by_rank (λ rank l at. right_at l.node l.part.now (made.by_rank.each rank l at))
