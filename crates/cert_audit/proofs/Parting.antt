-- What stands in the place of a run at a fork shares out what it stands for.
use Rattle.std.proofs.Common.{◌≡◌, ℕ, ◌+◌, Bool, true, false, ◌&&◌, ◌||◌, cond, List, [], ◌∷◌, ◌++◌, map, refl, sym, ap, subst, ◌∙◌, arith}
use Rattle.std.specs.Prelude.{All, None, Option, Some, ◌==◌, not, count_by}
use Rattle.std.proofs.lemmas.List.{map-append}
use Rattle.std.proofs.lemmas.List.Elements.{All-nil, All-cons, All-push}
use Rattle.std.proofs.lemmas.List.Sums.{sum_by-append, sum_by-cons}
use Rattle.bv_dag.specs.Graphs.{number_of}
use Rattle.fork_spec.specs.Evidence.{AreIncreasing, is_among}
use Rattle.tree_core.specs.Choices.{IsSmallChoice}
use Rattle.fork_spec.specs.Walks.{rest_side, value_side}
use Rattle.run_leaves.specs.Values.{IsWithout}
use Rattle.run_leaves.proofs.Cutting.{without_narrowed}
use Rattle.run_leaves.proofs.Increasing.{counted-once}
use Rattle.run_sides.specs.Narrowing.{IsForced, IsNarrower}
use Rattle.run_sides.specs.Sides.{is_side}
use Rattle.run_sides.proofs.Branching.{one_of_two}
use Rattle.run_sides.proofs.Sides.{GoesOn, goes_settled}
use Rattle.sym_machine.specs.Advancing.{IsUnderway}
use Rattle.sym_state.specs.Moves.{informed}
use Rattle.sym_state.specs.Narrowed.{IsNarrowed}
use Rattle.sym_state.specs.Programs.{Program}
use Rattle.sym_state.specs.Symbolic.{Symbolic, IsFormed, stands_for}
use Rattle.sym_state.specs.Values.{IsUnknown}
use Rattle.sym_state.specs.declared.decided.Decided.{Decided}
use Rattle.sym_state.proofs.Tests.{equals, not_false}
use Rattle.tree_core.specs.Covers.{one_if}
use Rattle.tree_core.specs.declared.budgets.Budgets.{Budgets}
use Rattle.tree_core.specs.declared.cause.Cause.{Cause}
use Rattle.tree_core.specs.declared.cause.Cause.TheVariants.{Conflicts as ByConflicts, Targets as ByTargets}
use Rattle.tree_core.specs.declared.choice.Choice.{Choice}
use Rattle.tree_core.specs.declared.choice.Choice.TheVariants.{No, Yes, Rest}
use Rattle.cert_audit.specs.Kids.{AreKids, AreValueKids, IsKid, has_none, has_value, own_ahead}
use Rattle.cert_audit.specs.Names.{side_ahead}
use Rattle.cert_audit.specs.Steps.{ahead_at}
use Rattle.cert_audit.specs.Todos.{IsTodo, todo_ahead, todo_place}
use Rattle.cert_audit.specs.declared.todo.Asked.{Asked}
use Rattle.cert_audit.specs.declared.todo.Others.{Others}
use Rattle.cert_audit.specs.declared.todo.Todo.{Todo}
use Rattle.cert_audit.specs.declared.todo.Todo.TheVariants.{Node, Conflicts, Targets}

-- ---- One side of a fork.
-- a run that is narrowed to it
pub run_kid : (s u : Symbolic) (choice : Choice) (test : List ℕ → Bool) → IsNarrower s u choice test
    → IsKid s (record { choice = choice; cut = None }) test (Node u)
run_kid s u choice test is = record {
  each = λ p budgets under. (is.is_open p under.is_open, omega (arith, is.steps, under.room));
  covers = is.covers;
  ahead = ap (λ (cs : List Choice). record { choices = cs; cut = None }) is.choices;
}

narrowed_choices : (s u : Symbolic) (test : List ℕ → Bool) → IsNarrowed s u test → u.choices ≡ s.choices
narrowed_choices s u test is = ap (λ (r : Symbolic). r.choices) is.same

-- a side that is cut by conflicts
pub asked_kid : (s : Symbolic) (asked : Asked) (test : List ℕ → Bool) → IsFormed s → IsSmallChoice asked.choice → IsNarrowed s asked.run test
    → IsKid s (record { choice = asked.choice; cut = Some ByConflicts }) test (Conflicts asked)
asked_kid s asked test formed small is = record {
  each = λ p budgets under. record { fork = s; test = test; underway = under; formed = formed; narrowed = is; small = small };
  covers = is.covers;
  ahead = ap (λ (cs : List Choice). record { choices = cs ++ asked.choice ∷ []; cut = Some ByConflicts }) (narrowed_choices s asked.run test is);
}

-- the side of all values but these, cut by targets
pub others_kid : (s : Symbolic) (others : Others) → IsFormed s → others.fork ≡ s → IsUnknown s.terms 32 others.term → AreIncreasing others.values.items
    → IsWithout s others.term others.values.items others.rest
    → IsKid s (rest_side (Some ByTargets)) (has_none s others.term others.values.items) (Targets others)
others_kid s others formed same unknown increasing without = record {
  each = λ p budgets under. record {
    underway = subst (IsUnderway p budgets.steps) (sym same) under;
    unknown = subst (λ (r : Symbolic). IsUnknown r.terms 32 others.term) (sym same) unknown;
    without = subst (λ (r : Symbolic). IsWithout r others.term others.values.items others.rest) (sym same) without;
    increasing = increasing;
  };
  covers = (without_narrowed s others.term others.values.items others.rest formed without).covers;
  ahead = ap (λ (r : Symbolic). record { choices = r.choices ++ Rest ∷ []; cut = Some ByTargets }) same;
}

-- ---- How many there are.
as_one : (b : Bool) → cond b 1 0 ≡ one_if b
as_one true = refl
as_one false = refl

count-cons : (input : List ℕ) (k : Todo) (ks : List Todo) → ahead_at (k ∷ ks) input ≡ one_if ((todo_place k).covers input) + ahead_at ks input
count-cons input k ks =
    sum_by-cons (λ (todo : Todo). cond ((todo_place todo).covers input) 1 0) k ks ∙ ap (λ n. n + ahead_at ks input) (as_one ((todo_place k).covers input))

count-one : (input : List ℕ) (k : Todo) → ahead_at (k ∷ []) input ≡ one_if ((todo_place k).covers input) + 0
count-one input k = count-cons input k []

-- ---- A run that goes on.
goes_kid : (s u : Symbolic) → GoesOn s u → AreKids s (own_ahead s) (Node u ∷ [])
goes_kid s u goes = record {
  each = λ p budgets under.
      All-cons (IsTodo p budgets) (Node u) [] (goes.is_open p under.is_open, omega (arith, goes.steps, under.room)) (All-nil (IsTodo p budgets));
  shared = λ input. count-one input (Node u) ∙ ap (λ b. one_if b + 0) (goes.covers input) ∙ plus_none (one_if (stands_for s input));
  ahead = ap (λ (cs : List Choice). record { choices = cs; cut = None } ∷ []) goes.choices;
}
  where
    plus_none : (n : ℕ) → n + 0 ≡ n
    plus_none n = omega arith

pub decided_kid : (s u : Symbolic) (place : ℕ) (d : Decided) → u ≡ informed s place d → IsFormed u → IsForced s place d
    → AreKids s (own_ahead s) (Node u ∷ [])
decided_kid s u place d is formed forced =
    goes_kid s u (subst (λ (r : Symbolic). GoesOn s r) (sym is) (goes_settled s place d (subst IsFormed is formed) forced))

-- ---- The two sides of a branch.
pub branch_kids : (s : Symbolic) (term : ℕ) (no_cut yes_cut : Option Cause) (left right : Todo)
    → IsKid s (record { choice = No; cut = no_cut }) (λ input. is_side false (number_of s.terms term input)) left
    → IsKid s (record { choice = Yes; cut = yes_cut }) (λ input. is_side true (number_of s.terms term input)) right
    → AreKids s (map (side_ahead s.choices) (record { choice = No; cut = no_cut } ∷ record { choice = Yes; cut = yes_cut } ∷ [])) (left ∷ right ∷ [])
branch_kids s term no_cut yes_cut left right is_no is_yes = record {
  each = λ p budgets under.
      All-cons (IsTodo p budgets) left (right ∷ []) (is_no.each p budgets under)
      (All-cons (IsTodo p budgets) right [] (is_yes.each p budgets under) (All-nil (IsTodo p budgets)));
  shared = λ input.
      count-cons input left (right ∷ [])
      ∙ ap (λ n. one_if ((todo_place left).covers input) + n) (count-one input right)
      ∙ ap (λ b. one_if b + (one_if ((todo_place right).covers input) + 0)) (is_no.covers input)
      ∙ ap (λ b. one_if (stands_for s input && not (number_of s.terms term input == 1)) + (one_if b + 0)) (is_yes.covers input)
      ∙ one_of_two (stands_for s input) (number_of s.terms term input == 1);
  ahead = cc (is_no.ahead, is_yes.ahead);
}

-- ---- The sides of values.
pub value_kids-push : (s : Symbolic) (term : ℕ) (vs : List ℕ) (ks : List Todo) (v : ℕ) (k : Todo) → AreValueKids s term vs ks
    → IsKid s (value_side v) (has_value s term v) k → AreValueKids s term (vs ++ v ∷ []) (ks ++ k ∷ [])
value_kids-push s term [] [] v k are one = (one, tt)
value_kids-push s term [] (l ∷ ls) v k are one = absurd are
value_kids-push s term (w ∷ ws) [] v k are one = absurd are
value_kids-push s term (w ∷ ws) (l ∷ ls) v k (first, rest) one = (first, value_kids-push s term ws ls v k rest one)

values-each : (p : Program) (budgets : Budgets) (s : Symbolic) (term : ℕ) (vs : List ℕ) (ks : List Todo) → IsUnderway p budgets.steps s
    → AreValueKids s term vs ks → All (IsTodo p budgets) ks
values-each p budgets s term [] [] under are = All-nil (IsTodo p budgets)
values-each p budgets s term [] (l ∷ ls) under are = absurd are
values-each p budgets s term (w ∷ ws) [] under are = absurd are
values-each p budgets s term (w ∷ ws) (l ∷ ls) under (first, rest) =
    All-cons (IsTodo p budgets) l ls (first.each p budgets under) (values-each p budgets s term ws ls under rest)

values-ahead : (s : Symbolic) (term : ℕ) (vs : List ℕ) (ks : List Todo) → AreValueKids s term vs ks
    → map todo_ahead ks ≡ map (side_ahead s.choices) (map value_side vs)
values-ahead s term [] [] are = refl
values-ahead s term [] (l ∷ ls) are = absurd are
values-ahead s term (w ∷ ws) [] are = absurd are
values-ahead s term (w ∷ ws) (l ∷ ls) (first, rest) = cc (first.ahead, values-ahead s term ws ls rest)

values-count : (s : Symbolic) (term : ℕ) (vs : List ℕ) (ks : List Todo) (input : List ℕ) → AreValueKids s term vs ks
    → ahead_at ks input ≡ count_by (λ v. stands_for s input && (number_of s.terms term input == v)) vs
values-count s term [] [] input are = refl
values-count s term [] (l ∷ ls) input are = absurd are
values-count s term (w ∷ ws) [] input are = absurd are
values-count s term (w ∷ ws) (l ∷ ls) input (first, rest) =
    let met = stands_for s input in
    let n = number_of s.terms term input in
    count-cons input l ls
    ∙ ap (λ b. one_if b + ahead_at ls input) (first.covers input)
    ∙ ap (λ k. one_if (met && (n == w)) + k) (values-count s term ws ls input rest)
    ∙ ap (λ k. k + count_by (λ v. met && (n == v)) ws) (sym (as_one (met && (n == w))))
    ∙ sym (sum_by-cons (λ v. cond (met && (n == v)) 1 0) w ws)

count_none : (vs : List ℕ) → count_by (λ v. false) vs ≡ 0
count_none [] = refl
count_none (v ∷ vs) = sum_by-cons (λ w. cond false 1 0) v vs ∙ ap (λ n. 0 + n) (count_none vs)

-- each assignment has one of them at most
met_once : (met : Bool) (n : ℕ) (vs : List ℕ) → AreIncreasing vs → count_by (λ v. met && (n == v)) vs ≡ one_if (met && is_among vs n)
met_once true n vs is = counted-once vs n is
met_once false n vs is = count_none vs

one_where_all : (met among : Bool) → (met && not among) ≡ false → one_if (met && among) ≡ one_if met
one_where_all true true none = refl
one_where_all true false none = absurd (cc none)
one_where_all false among none = refl

-- all values: the run has no assignment without them
pub all_kids : (s : Symbolic) (term : ℕ) (vs : List ℕ) (ks : List Todo) (rest : Symbolic) → IsFormed s → AreIncreasing vs → AreValueKids s term vs ks
    → IsWithout s term vs rest → ((input : List ℕ) → stands_for rest input ≡ false)
    → AreKids s (map (side_ahead s.choices) (map value_side vs)) ks
all_kids s term vs ks rest formed increasing are without none = record {
  each = λ p budgets under. values-each p budgets s term vs ks under are;
  shared = λ input.
      values-count s term vs ks input are
      ∙ met_once (stands_for s input) (number_of s.terms term input) vs increasing
      ∙ one_where_all (stands_for s input) (is_among vs (number_of s.terms term input))
      (sym ((without_narrowed s term vs rest formed without).covers input) ∙ none input);
  ahead = values-ahead s term vs ks are;
}

one_or_rest : (met among : Bool) → one_if (met && among) + (one_if (met && not among) + 0) ≡ one_if met
one_or_rest true true = refl
one_or_rest true false = refl
one_or_rest false among = refl

-- some values, and what is left
pub rest_kids : (s : Symbolic) (term : ℕ) (vs : List ℕ) (ks : List Todo) (cut : Option Cause) (k : Todo) → AreIncreasing vs → AreValueKids s term vs ks
    → IsKid s (rest_side cut) (has_none s term vs) k
    → AreKids s (map (side_ahead s.choices) (map value_side vs ++ rest_side cut ∷ [])) (ks ++ k ∷ [])
rest_kids s term vs ks cut k increasing are left = record {
  each = λ p budgets under. All-push (IsTodo p budgets) ks k (values-each p budgets s term vs ks under are) (left.each p budgets under);
  shared = λ input.
      let met = stands_for s input in
      let n = number_of s.terms term input in
      sum_by-append (λ (todo : Todo). cond ((todo_place todo).covers input) 1 0) ks (k ∷ [])
      ∙ ap (λ m. m + ahead_at (k ∷ []) input) (values-count s term vs ks input are ∙ met_once met n vs increasing)
      ∙ ap (λ m. one_if (met && is_among vs n) + m) (count-one input k ∙ ap (λ b. one_if b + 0) (left.covers input))
      ∙ one_or_rest met (is_among vs n);
  ahead =
      map-append todo_ahead ks (k ∷ [])
      ∙ cc (values-ahead s term vs ks are, left.ahead)
      ∙ sym (map-append (side_ahead s.choices) (map value_side vs) (rest_side cut ∷ []));
}

second : (a b : Bool) → (a && b) ≡ false → a ≡ true → b ≡ false
second true b is met = is
second false b is met = absurd (cc met)

-- where a narrowed run has no assignment, none of the run's passes the test
pub none_passes : (s u : Symbolic) (test : List ℕ → Bool) → IsNarrowed s u test → ((input : List ℕ) → stands_for u input ≡ false)
    → (input : List ℕ) → stands_for s input ≡ true → test input ≡ false
none_passes s u test is none input stands = second (stands_for s input) (test input) (sym (is.covers input) ∙ none input) stands

-- where a run has no assignment without a value, its term has that value
pub one_only : (s : Symbolic) (term value : ℕ) (rest : Symbolic) → IsFormed s → IsWithout s term (value ∷ []) rest
    → ((input : List ℕ) → stands_for rest input ≡ false) → (input : List ℕ) → stands_for s input ≡ true → number_of s.terms term input ≡ value
one_only s term value rest formed without none input stands =
    equals (number_of s.terms term input) value
    (first_or (number_of s.terms term input == value) (not_false _
    (none_passes s rest (has_none s term (value ∷ [])) (without_narrowed s term (value ∷ []) rest formed without) none input stands)))
  where
    first_or : (b : Bool) → (b || false) ≡ true → b ≡ true
    first_or true is = refl
    first_or false is = is
