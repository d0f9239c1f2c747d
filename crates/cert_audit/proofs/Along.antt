-- A walk along lines: what has been come to and what is ahead share out all assignments, line by line.
use Rattle.std.proofs.Common.{◌≡◌, ℕ, ◌+◌, ◌<◌, Bool, true, cond, List, [], ◌∷◌, ◌++◌, All, length, map, reverse, refl, ap, sym, subst, ◌∙◌, append_assoc, arith}
use Rattle.std.proofs.lemmas.Bool.Decides.{nat_tests}
use Rattle.std.proofs.lemmas.List.{length-append, map-append, reverse-append, reverse-reverse}
use Rattle.std.proofs.lemmas.List.Elements.{All-append, All-cons, All-head, All-nil, All-tail}
use Rattle.std.proofs.lemmas.List.Sorted.{All-permutation, IsPermutation-reverse, sum_by-IsPermutation}
use Rattle.std.proofs.lemmas.List.Sums.{count_by-le-length, sum_by-append}
use Rattle.std.specs.Prelude.{◌≢◌, ◌&&◌, ◌==◌, count_by, is_none, is_some, Option, None, Some}
use Rattle.cert_form.specs.declared.line.CertLine.{CertLine}
use Rattle.fork_spec.specs.Leaves.{are_bytes, covers}
use Rattle.fork_spec.specs.Parts.{Part}
use Rattle.fork_spec.proofs.ByteLists.{are_bytes-of}
use Rattle.rv_spec.specs.Memory.{IsAssignment}
use Rattle.sym_state.specs.Programs.{Program}
use Rattle.sym_state.specs.Runs.{IsFirst, IsOpen}
use Rattle.sym_state.specs.Symbolic.{Symbolic, stands_for}
use Rattle.tree_core.specs.Covers.{one_if}
use Rattle.tree_core.specs.declared.budgets.Budgets.{Budgets}
use Rattle.tree_core.specs.declared.cause.Cause.{Cause}
use Rattle.tree_core.specs.declared.cause.Cause.TheVariants.{Conflicts, Nodes, Steps, Targets}
use Rattle.tree_core.specs.declared.choice.Choice.{Choice}
use Rattle.cert_audit.specs.Names.{Ahead, named_from}
use Rattle.cert_audit.specs.Passing.{IsUncut, PassesFirst, PassesLeaf, PassesUncut}
use Rattle.cert_audit.specs.Steps.{IsParted, IsRightAt, IsTaken, IsVisited, ahead_at, named_as}
use Rattle.cert_audit.specs.Todos.{IsTodo, todo_ahead, todo_place}
use Rattle.cert_audit.specs.Walks.{AreCounted, IsWalked, counted, cut_of, first_of, rest_behind, stack_behind, tally_behind}
use Rattle.cert_audit.specs.declared.taken.Visited.{Visited}
use Rattle.cert_audit.specs.declared.taken.Visited.TheVariants.{Fork, Leaf}
use Rattle.cert_audit.specs.declared.todo.Todo.{Todo}
use Rattle.cert_audit.specs.declared.todo.Todo.TheVariants.{Node}
use Rattle.cert_audit.specs.declared.walking.Tally.{Tally}
use Rattle.cert_audit.proofs.Passed.{ends_behind, first_found, first_kept, leaf_ends}

-- ---- Counts along lists.
module _ {X : Type 0} (p : X → Bool) where
  count_both : (xs ys : List X) → count_by p (xs ++ ys) ≡ count_by p xs + count_by p ys
  count_both xs ys = sum_by-append (λ x. cond (p x) 1 0) xs ys

  count_one : (x : X) → count_by p (x ∷ []) ≡ one_if (p x)
  count_one x = omega arith

  count_reversed : (xs : List X) → count_by p (reverse xs) ≡ count_by p xs
  count_reversed xs = sum_by-IsPermutation (λ x. cond (p x) 1 0) xs (reverse xs) (IsPermutation-reverse xs)

-- ---- A run before its first step stands for every assignment.
pub stands_for_all : (p : Program) (s : Symbolic) → IsFirst p s → (input : List ℕ) → IsAssignment p.regions input → stands_for s input ≡ true
stands_for_all p s first input (long, small) =
    let bytes : are_bytes input ≡ true = are_bytes-of input small in
    let each : length input ≡ s.terms.inputs = long ∙ sym first.inputs in
    let count : (length input == s.terms.inputs) ≡ true = grind (arith, nat_tests, each) in
    rw first.condition (ap (λ t. t && ((length input == s.terms.inputs) && true)) bytes ∙ ap (λ t. t && true) count)

module _ (p : Program) (budgets : Budgets) (lines : List CertLine) where
  -- before the first line
  pub walk_begins : (s : Symbolic) (tally : Tally) → IsFirst p s → IsOpen p s → tally.leaves.finished ≡ 0 → tally.leaves.cut ≡ 0
      → tally.first_by_nodes ≡ None
      → IsWalked p budgets lines (Node s ∷ []) lines tally
  walk_begins s tally first is_open no_finished no_cut no_nodes = record {
    parts = [];
    right = All-nil (IsRightAt p budgets);
    each = All-cons (IsTodo p budgets) (Node s) [] (is_open, omega (arith, first.steps)) (All-nil (IsTodo p budgets));
    named = ap (λ (cs : List Choice). named_from (record { choices = cs; cut = None } ∷ []) lines) first.choices;
    once = λ input is. let one : one_if (stands_for s input) ≡ one_if true = ap one_if (stands_for_all p s first input is) in omega (arith, one);
    few = omega arith;
    ends = ([], refl);
    first = subst (λ (first : Option ℕ). PassesFirst first lines lines) (sym no_nodes)
        (let none : PassesUncut lines lines = record { passed = []; split = refl; uncut = All-nil IsUncut } in none);
    counted = record { finished = no_finished; cut = no_cut };
    by_nodes = λ none. All-nil (λ part. cut_of part ≢ Some Nodes);
  }

  module _ (front : List Todo) (todo : Todo) (rest : List CertLine) (tally : Tally)
      (was : IsWalked p budgets lines (front ++ todo ∷ []) rest tally) where
    -- what is next is of the tree
    pub next_is : IsTodo p budgets todo
    next_is = All-head (IsTodo p budgets) todo [] (All-last front (todo ∷ []) was.each)
      where
        All-last : (xs ys : List Todo) → All (IsTodo p budgets) (xs ++ ys) → All (IsTodo p budgets) ys
        All-last [] ys all = all
        All-last (x ∷ xs) ys all = All-last xs ys (All-tail (IsTodo p budgets) x (xs ++ ys) all)

    front_each : All (IsTodo p budgets) front
    front_each = All-first front (todo ∷ []) was.each
      where
        All-first : (xs ys : List Todo) → All (IsTodo p budgets) (xs ++ ys) → All (IsTodo p budgets) xs
        All-first [] ys all = All-nil (IsTodo p budgets)
        All-first (x ∷ xs) ys all =
            All-cons (IsTodo p budgets) x xs (All-head (IsTodo p budgets) x (xs ++ ys) all) (All-first xs ys (All-tail (IsTodo p budgets) x (xs ++ ys) all))

    abbrev below : List Ahead
    below = map todo_ahead (reverse front)

    -- what is ahead, the next first
    next_first : map todo_ahead (reverse (front ++ todo ∷ [])) ≡ todo_ahead todo ∷ below
    next_first = ap (map todo_ahead) (reverse-append front (todo ∷ []))

    -- how many an assignment is one of
    next_counted : (input : List ℕ) → ahead_at (front ++ todo ∷ []) input ≡ ahead_at front input + one_if ((todo_place todo).covers input)
    next_counted input =
        count_both (λ todo. (todo_place todo).covers input) front (todo ∷ [])
        ∙ ap (λ n. ahead_at front input + n) (count_one (λ todo. (todo_place todo).covers input) todo)

    -- the next was parted
    pub walk_parts : (kids : List Todo) (behind : List CertLine) → IsParted budgets todo rest kids behind
        → IsWalked p budgets lines (front ++ reverse kids) behind tally
    walk_parts kids behind is = record {
      parts = was.parts;
      right = was.right;
      each = All-append (IsTodo p budgets) front (reverse kids) front_each
          (All-permutation (IsTodo p budgets) kids (reverse kids) (IsPermutation-reverse kids) (is.each p next_is));
      named = ap (λ ahead. map named_as was.parts ++ named_from ahead behind) turned
          ∙ ap (λ leaves. map named_as was.parts ++ leaves) (sym (is.named below))
          ∙ ap (λ ahead. map named_as was.parts ++ named_from ahead rest) (sym next_first) ∙ was.named;
      once = λ input within.
          let both = count_both (λ todo. (todo_place todo).covers input) front (reverse kids) in
          let turns = count_reversed (λ todo. (todo_place todo).covers input) kids in
          omega (arith, both, turns, is.shared input, next_counted input, was.once input within);
      few = omega (arith, is.shorter, was.few);
      ends = ends_behind lines rest behind was.ends (is.ends.passed, is.ends.split);
      first = first_kept tally.first_by_nodes lines rest behind was.first is.ends;
      counted = was.counted;
      by_nodes = was.by_nodes;
    }
      where
        turned : map todo_ahead (reverse (front ++ reverse kids)) ≡ map todo_ahead kids ++ below
        turned =
            ap (map todo_ahead) (reverse-append front (reverse kids) ∙ ap (λ xs. xs ++ reverse front) (reverse-reverse kids))
            ∙ map-append todo_ahead kids (reverse front)

    -- the next is a leaf
    module _ (leaf : Part) (behind : List CertLine) (left : ℕ) (at_left : left ≡ length rest) (is : IsTaken budgets todo rest leaf behind) where
      -- it covers what was to come there
      covers_same : (input : List ℕ) → IsAssignment p.regions input → covers leaf.leaf input ≡ (todo_place todo).covers input
      covers_same input within =
          sym (ap (λ b. b && covers leaf.leaf input) (are_bytes-of input within.1)) ∙ (is.is_leaf p next_is).covers_all input

      counted_more : AreCounted (was.parts ++ leaf ∷ []) (counted tally (cut_of leaf) left).leaves
      counted_more = counts_by (cut_of leaf) refl
        where
          finished_more : count_by (λ part. is_none (cut_of part)) (was.parts ++ leaf ∷ [])
              ≡ count_by (λ part. is_none (cut_of part)) was.parts + one_if (is_none (cut_of leaf))
          finished_more =
              count_both (λ part. is_none (cut_of part)) was.parts (leaf ∷ [])
              ∙ ap (λ n. count_by (λ part. is_none (cut_of part)) was.parts + n) (count_one (λ part. is_none (cut_of part)) leaf)

          cut_more : count_by (λ part. is_some (cut_of part)) (was.parts ++ leaf ∷ [])
              ≡ count_by (λ part. is_some (cut_of part)) was.parts + one_if (is_some (cut_of leaf))
          cut_more =
              count_both (λ part. is_some (cut_of part)) was.parts (leaf ∷ [])
              ∙ ap (λ n. count_by (λ part. is_some (cut_of part)) was.parts + n) (count_one (λ part. is_some (cut_of part)) leaf)

          none_more : (cut : Option Cause) → cut_of leaf ≡ cut → one_if (is_none (cut_of leaf)) ≡ one_if (is_none cut)
          none_more cut at = ap (λ c. one_if (is_none c)) at

          some_more : (cut : Option Cause) → cut_of leaf ≡ cut → one_if (is_some (cut_of leaf)) ≡ one_if (is_some cut)
          some_more cut at = ap (λ c. one_if (is_some c)) at

          counts_by : (cut : Option Cause) → cut_of leaf ≡ cut → AreCounted (was.parts ++ leaf ∷ []) (counted tally cut left).leaves
          counts_by None at = record {
            finished = omega (arith, was.counted.finished, finished_more, none_more None at);
            cut = omega (arith, was.counted.cut, cut_more, some_more None at);
          }
          counts_by (Some Steps) at = record {
            finished = omega (arith, was.counted.finished, finished_more, none_more (Some Steps) at);
            cut = omega (arith, was.counted.cut, cut_more, some_more (Some Steps) at);
          }
          counts_by (Some Targets) at = record {
            finished = omega (arith, was.counted.finished, finished_more, none_more (Some Targets) at);
            cut = omega (arith, was.counted.cut, cut_more, some_more (Some Targets) at);
          }
          counts_by (Some Conflicts) at = record {
            finished = omega (arith, was.counted.finished, finished_more, none_more (Some Conflicts) at);
            cut = omega (arith, was.counted.cut, cut_more, some_more (Some Conflicts) at);
          }
          counts_by (Some Nodes) at = record {
            finished = omega (arith, was.counted.finished, finished_more, none_more (Some Nodes) at);
            cut = omega (arith, was.counted.cut, cut_more, some_more (Some Nodes) at);
          }

      not_by_nodes : (counted tally (cut_of leaf) left).first_by_nodes ≡ None
          → All (λ part. cut_of part ≢ Some Nodes) (was.parts ++ leaf ∷ [])
      not_by_nodes none = none_by (cut_of leaf) refl none
        where
          with_leaf : tally.first_by_nodes ≡ None → cut_of leaf ≢ Some Nodes → All (λ part. cut_of part ≢ Some Nodes) (was.parts ++ leaf ∷ [])
          with_leaf none other =
              All-append (λ part. cut_of part ≢ Some Nodes) was.parts (leaf ∷ []) (was.by_nodes none)
              (All-cons (λ part. cut_of part ≢ Some Nodes) leaf [] other (All-nil (λ part. cut_of part ≢ Some Nodes)))

          none_first : (first : Option ℕ) → first_of first left ≡ None → {A : Type 0} → A
          none_first None is = absurd (cc is)
          none_first (Some n) is = absurd (cc is)

          none_by : (cut : Option Cause) → cut_of leaf ≡ cut → (counted tally cut left).first_by_nodes ≡ None
              → All (λ part. cut_of part ≢ Some Nodes) (was.parts ++ leaf ∷ [])
          none_by None at none = with_leaf none (λ by. cc (at, by))
          none_by (Some Steps) at none = with_leaf none (λ by. cc (at, by))
          none_by (Some Targets) at none = with_leaf none (λ by. cc (at, by))
          none_by (Some Conflicts) at none = with_leaf none (λ by. cc (at, by))
          none_by (Some Nodes) at none = none_first tally.first_by_nodes none

      first_taken : (cut : Option Cause) → PassesLeaf cut rest behind → PassesFirst (counted tally cut left).first_by_nodes lines behind
      first_taken None ends = first_kept tally.first_by_nodes lines rest behind was.first ends
      first_taken (Some Steps) ends = first_kept tally.first_by_nodes lines rest behind was.first ends
      first_taken (Some Targets) ends = first_kept tally.first_by_nodes lines rest behind was.first ends
      first_taken (Some Conflicts) ends = first_kept tally.first_by_nodes lines rest behind was.first ends
      first_taken (Some Nodes) ends =
          subst (λ (n : ℕ). PassesFirst (first_of tally.first_by_nodes n) lines behind) (sym at_left) (first_found tally.first_by_nodes lines rest behind was.first ends)

      pub walk_takes : IsWalked p budgets lines front behind (counted tally (cut_of leaf) left)
      walk_takes = record {
        parts = was.parts ++ leaf ∷ [];
        right = All-append (IsRightAt p budgets) was.parts (leaf ∷ []) was.right
            (All-cons (IsRightAt p budgets) leaf [] (is.is_leaf p next_is).is_right (All-nil (IsRightAt p budgets)));
        each = front_each;
        named = ap (λ leaves. leaves ++ named_from below behind) (map-append named_as was.parts (leaf ∷ []))
            ∙ append_assoc (map named_as was.parts) (named_as leaf ∷ []) (named_from below behind)
            ∙ ap (λ leaves. map named_as was.parts ++ leaves) (sym (is.named p next_is below))
            ∙ ap (λ ahead. map named_as was.parts ++ named_from ahead rest) (sym next_first) ∙ was.named;
        once = λ input within.
            let both = count_both (λ part. covers part.leaf input) was.parts (leaf ∷ []) in
            let one : one_if (covers leaf.leaf input) ≡ one_if ((todo_place todo).covers input) = ap one_if (covers_same input within) in
            let last = count_one (λ part. covers part.leaf input) leaf in
            omega (arith, both, last, one, next_counted input, was.once input within);
        few = omega (arith, is.shorter, was.few, length-append was.parts (leaf ∷ []));
        ends = ends_behind lines rest behind was.ends (leaf_ends (cut_of leaf) rest behind (is.ends p next_is));
        first = first_taken (cut_of leaf) (is.ends p next_is);
        counted = counted_more;
        by_nodes = not_by_nodes;
      }

    -- whatever it is
    pub walk_goes : (visited : Visited) (left : ℕ) → left ≡ length rest → IsVisited budgets todo rest visited
        → IsWalked p budgets lines (stack_behind front visited) (rest_behind visited) (tally_behind tally visited left)
    walk_goes (Leaf taken) left at is = walk_takes taken.leaf taken.rest.now left at is
    walk_goes (Fork went) left at is = walk_parts went.kids.items went.rest.now is

    -- there are fewer leaves than lines
    pub few_finished : (0 < length rest) → tally.leaves.finished < length lines
    few_finished some =
        omega (arith, some, was.few, was.counted.finished, count_by-le-length (λ part. is_none (cut_of part)) was.parts)

    pub few_cut : (0 < length rest) → tally.leaves.cut < length lines
    few_cut some = omega (arith, some, was.few, was.counted.cut, count_by-le-length (λ part. is_some (cut_of part)) was.parts)

-- what is behind is less
pub visited_shorter : (budgets : Budgets) (todo : Todo) (lines : List CertLine) (visited : Visited) → IsVisited budgets todo lines visited
    → length (rest_behind visited) < length lines
visited_shorter budgets todo lines (Leaf taken) is = is.shorter
visited_shorter budgets todo lines (Fork went) is = is.shorter

pub none_left : (lines : List CertLine) → length lines ≡ 0 → lines ≡ []
none_left [] is = refl
none_left (line ∷ lines) is = absurd (omega (arith, is))
