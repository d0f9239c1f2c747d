-- The sides of values, and what is left.
use Rattle.std.proofs.Common.{◌≡◌, ◌≢◌, ℕ, suc, ◌+◌, ◌^◌, ◌<◌, ◌≤◌, Bool, true, false, ◌&&◌, ◌||◌, cond, List, [], ◌∷◌, ◌++◌, get_or, length, map, refl, sym, ap, subst, ◌∙◌, arith, rules}
use Rattle.std.specs.Prelude.{All, IsTrue, Some, ◌==◌, nat_lt, not, count_by}
use Rattle.std.proofs.lemmas.Bool.Decides.{nat_tests}
use Rattle.std.proofs.lemmas.List.{length-map, map-append, length-append}
use Rattle.std.proofs.lemmas.List.Elements.{All-nil, All-cons, All-head, All-push, All-tail}
use Rattle.std.proofs.lemmas.List.Sums.{sum_by-append, sum_by-cons}
use Rattle.bv_dag.specs.Graphs.{number_of}
use Rattle.fork_spec.specs.Decisions.{Decision, Number as Needs}
use Rattle.tree_core.specs.Covers.{one_if}
use Rattle.tree_core.specs.declared.budgets.Budgets.{Budgets}
use Rattle.tree_core.specs.declared.cause.Cause.{Cause}
use Rattle.tree_core.specs.declared.cause.Cause.TheVariants.{Targets}
use Rattle.tree_core.specs.declared.choice.Choice.{Choice}
use Rattle.tree_core.specs.declared.choice.Choice.TheVariants.{Rest, Value}
use Rattle.fork_spec.specs.Evidence.{AreIncreasing, Found, is_among, values_of}
use Rattle.fork_spec.specs.Partings.{IsOnSide}
use Rattle.fork_spec.specs.Walks.{Side, are_sides, are_small, is_increasing, is_rest_cut, rest_side, value_side}
use Rattle.fork_tree.specs.Written.{side_of_kid}
use Rattle.fork_spec.proofs.Walking.{part_into_values, part_into_values_and_rest}
use Rattle.fork_tree.specs.Contents.{choices_in, cut_in}
use Rattle.fork_tree.specs.Works.{IsPart}
use Rattle.sym_state.specs.declared.decided.Decided.TheVariants.{Number}
use Rattle.sym_state.specs.Places.{run_place}
use Rattle.sym_state.specs.Programs.{Program}
use Rattle.sym_state.specs.Runs.{IsOpen, left_to_do}
use Rattle.sym_state.specs.Symbolic.{Symbolic, stands_for}
use Rattle.sym_state.specs.Undecided.{IsPin, StandsAt}
use Rattle.sym_state.proofs.Tests.{all_true, equals, not_true, same}
use Rattle.run_leaves.specs.Values.{AreValues, HasValue}
use Rattle.run_leaves.proofs.Cutting.{has_none}
use Rattle.run_leaves.proofs.Increasing.{counted-once, or-true}
use Rattle.run_sides.specs.Narrowing.{IsForced}
use Rattle.run_sides.proofs.Pinning.{pin_settled}
use Rattle.node_split.specs.Rules.{Piece, content_place, leaf_place, rules_of}
use Rattle.node_split.specs.Splits.{AreSidesOf, IsForkOf, IsSideIn, IsValueSide}
use Rattle.node_split.proofs.Apart.{AreOtherSides, AreTwoSides, IsOnFork, kids_apart}
use Rattle.node_split.proofs.Sharing.{count-cons, on_fork_in, passed_in, placed_in, side-choices, side-covers, side_form, side_on_fork, side_part, side_passes, two_runs}

-- the first is one of them
first_among : (v : ℕ) (vs : List ℕ) → is_among (v ∷ vs) v ≡ true
first_among v vs = ap (λ b. b || is_among vs v) (same v v refl)

-- one side more
pub sides-push : (s : Symbolic) (term : ℕ) (fs : List Found) (ks : List Piece)
    (f : Found) (k : Piece) → AreSidesOf s term fs ks → IsValueSide s term f k
    → AreSidesOf s term (fs ++ f ∷ []) (ks ++ k ∷ [])
sides-push s term [] [] f k is one = (one, tt)
sides-push s term [] (l ∷ ls) f k is one = absurd is
sides-push s term (g ∷ gs) [] f k is one = absurd is
sides-push s term (g ∷ gs) (l ∷ ls) f k (first, rest) one =
    (first, sides-push s term gs ls f k rest one)

-- what the sides cover
abbrev when : Bool → ℕ → ℕ
when true n = n
when false n = 0

when-step : (met one : Bool) (n : ℕ)
    → one_if (met && one) + when met n ≡ when met (cond one 1 0 + n)
when-step true true n = refl
when-step true false n = omega arith
when-step false one n = refl

none : (met : Bool) → 0 ≡ when met 0
none true = refl
none false = refl

-- the test of a side
abbrev has_value : Symbolic → ℕ → ℕ → List ℕ → Bool
has_value s term v input = number_of s.terms term input == v

pub sides-count : (s : Symbolic) (term : ℕ) (fs : List Found) (ks : List Piece)
    (input : List ℕ) → AreSidesOf s term fs ks
    → count_by (λ (k : Piece). (content_place k.content).covers input) ks ≡ when (stands_for s input) (count_by (λ v. number_of s.terms term input == v) (values_of fs))
sides-count s term [] [] input is = none (stands_for s input)
sides-count s term [] (l ∷ ls) input is = absurd is
sides-count s term (g ∷ gs) [] input is = absurd is
sides-count s term (g ∷ gs) (l ∷ ls) input (first, rest) =
    count-cons input l ls
    ∙ ap (λ b. one_if b + count_by (λ (k : Piece). (content_place k.content).covers input) ls) (side-covers s (Value g.value) (has_value s term g.value) l first input)
    ∙ ap (λ n. one_if (stands_for s input && (number_of s.terms term input == g.value)) + n) (sides-count s term gs ls input rest)
    ∙ when-step (stands_for s input) (number_of s.terms term input == g.value) (count_by (λ v. number_of s.terms term input == v) (values_of gs))
    ∙ ap (when (stands_for s input)) (sym (sum_by-cons (λ v. cond (number_of s.terms term input == v) 1 0) g.value (values_of gs)))

-- what holds of each side of a value holds of all
sides-all : (s : Symbolic) (term : ℕ) (P : Piece → Type 0)
    → ((f : Found) (k : Piece) → IsValueSide s term f k → P k) → (fs : List Found)
    (ks : List Piece) → AreSidesOf s term fs ks → All P ks
sides-all s term P each [] [] is = All-nil P
sides-all s term P each [] (l ∷ ls) is = absurd is
sides-all s term P each (g ∷ gs) [] is = absurd is
sides-all s term P each (g ∷ gs) (l ∷ ls) (first, rest) =
    All-cons P l ls (each g l first) (sides-all s term P each gs ls rest)

pub sides-placed : (s : Symbolic) (term : ℕ) (fs : List Found) (ks : List Piece)
    → AreSidesOf s term fs ks
    → All (λ (k : Piece). (content_place k.content).choices ≡ s.choices ++ k.choice ∷ []) ks
sides-placed s term fs ks is = sides-all s term _ (λ f k side. side-choices s (Value f.value) (has_value s term f.value) k side) fs ks is

pub sides-parts : (p : Program) (budgets : Budgets) (sides : List Choice) (s : Symbolic) (term : ℕ)
    (fs : List Found) (ks : List Piece) → IsOpen p s → s.steps < budgets.steps → AreSidesOf s term fs ks
    → All (λ (k : Piece). IsPart (rules_of p budgets) leaf_place (left_to_do s) sides k k.content) ks
sides-parts p budgets sides s term fs ks was few is =
    sides-all s term (λ (k : Piece). IsPart (rules_of p budgets) leaf_place (left_to_do s) sides k k.content)
    (λ f k side. side_part p budgets sides s (Value f.value) (has_value s term f.value) k was few side) fs ks is

-- the forms of sides
abbrev forms_of : List Piece → List Side
forms_of kids = map (side_of_kid (cut_in run_place leaf_place)) kids

pub sides-forms : (s : Symbolic) (term : ℕ) (fs : List Found) (ks : List Piece)
    → AreSidesOf s term fs ks
    → forms_of ks ≡ map value_side (values_of fs)
sides-forms s term [] [] is = refl
sides-forms s term [] (l ∷ ls) is = absurd is
sides-forms s term (g ∷ gs) [] is = absurd is
sides-forms s term (g ∷ gs) (l ∷ ls) (first, rest) =
    cc (side_form s (Value g.value) (has_value s term g.value) l first, sides-forms s term gs ls rest)

pub sides-choices : (s : Symbolic) (term : ℕ) (fs : List Found) (ks : List Piece)
    → AreSidesOf s term fs ks → choices_in ks ≡ map Value (values_of fs)
sides-choices s term [] [] is = refl
sides-choices s term [] (l ∷ ls) is = absurd is
sides-choices s term (g ∷ gs) [] is = absurd is
sides-choices s term (g ∷ gs) (l ∷ ls) (first, rest) =
    cc (first.on.choice, sides-choices s term gs ls rest)

pub sides-length : (s : Symbolic) (term : ℕ) (fs : List Found) (ks : List Piece)
    → AreSidesOf s term fs ks → length ks ≡ length fs
sides-length s term [] [] is = refl
sides-length s term [] (l ∷ ls) is = absurd is
sides-length s term (g ∷ gs) [] is = absurd is
sides-length s term (g ∷ gs) (l ∷ ls) (first, rest) = ap suc (sides-length s term gs ls rest)

-- What a run decides where a term has to be a number.
abbrev number_there : Symbolic → ℕ → List ℕ → Decision
number_there s term input = Needs (number_of s.terms term input)

on_value : (n v : ℕ) → (n == v) ≡ true → IsOnSide (Value v) (Needs n)
on_value n v is = let same : n ≡ v = equals n v is in ap Value same

sides-on : (s : Symbolic) (term : ℕ) (fs : List Found) (ks : List Piece)
    → AreSidesOf s term fs ks → All (IsOnFork s (number_there s term)) ks
sides-on s term fs ks is =
    sides-all s term (IsOnFork s (number_there s term))
    (λ f k side. side_on_fork s (Value f.value) (has_value s term f.value) (number_there s term) k side (λ input one. on_value _ _ one)) fs ks is

other_values : (v w : ℕ) → v < w → Value v ≢ Value w
other_values v w less is = let same : v ≡ w = cc is in omega (arith, less, same)

other_numbers : (v w n m : ℕ) → v < w → (n == v) ≡ true → (m == w) ≡ true → Needs n ≢ Needs m
other_numbers v w n m less at_v at_w is =
    let is_v : n ≡ v = equals n v at_v in
    let is_w : m ≡ w = equals m w at_w in
    let same : n ≡ m = cc is in
    omega (arith, less, is_v, is_w, same)

two_values : (s : Symbolic) (term : ℕ) (f g : Found) (k l : Piece)
    → IsValueSide s term f k → IsValueSide s term g l → f.value < g.value
    → AreTwoSides (number_there s term) k l
two_values s term f g k l is_k is_l less =
    two_runs s (number_there s term) (Value f.value) (Value g.value) (has_value s term f.value) (has_value s term g.value) k l is_k is_l
    (other_values f.value g.value less) (λ a b. other_numbers f.value g.value _ _ less)

-- a side is another than those of greater values
behind : (s : Symbolic) (term : ℕ) (f : Found) (k : Piece) (fs : List Found)
    (ks : List Piece) → IsValueSide s term f k → All (λ w. f.value < w) (values_of fs)
    → AreSidesOf s term fs ks → All (AreTwoSides (number_there s term) k) ks
behind s term f k [] [] is less sides = All-nil (AreTwoSides (number_there s term) k)
behind s term f k [] (l ∷ ls) is less sides = absurd sides
behind s term f k (g ∷ gs) [] is less sides = absurd sides
behind s term f k (g ∷ gs) (l ∷ ls) is less (first, rest) =
    All-cons (AreTwoSides (number_there s term) k) l ls
    (two_values s term f g k l is first (All-head (λ w. f.value < w) g.value (values_of gs) less))
    (behind s term f k gs ls is (All-tail (λ w. f.value < w) g.value (values_of gs) less) rest)

sides-others : (s : Symbolic) (term : ℕ) (fs : List Found) (ks : List Piece)
    → AreIncreasing (values_of fs) → AreSidesOf s term fs ks
    → AreOtherSides (number_there s term) ks
sides-others s term [] [] increasing is = tt
sides-others s term [] (l ∷ ls) increasing is = absurd is
sides-others s term (g ∷ gs) [] increasing is = absurd is
sides-others s term (g ∷ gs) (l ∷ ls) (less, increasing) (first, rest) =
    (behind s term g l gs ls first less rest, sides-others s term gs ls increasing rest)

-- the values are increasing, as the walk of events reads it
next_below : (v w : ℕ) → v < w → nat_lt v w ≡ true
next_below v w less = grind (arith, nat_tests)

increases : (vs : List ℕ) → AreIncreasing vs → IsTrue (is_increasing vs)
increases [] is = refl
increases (v ∷ []) is = refl
increases (v ∷ w ∷ vs) (less, rest) = all_true _ _ (next_below v w (All-head (λ x. v < x) w vs less)) (increases (w ∷ vs) rest)

-- The values alone part a run, where there are no more.
ones-true : (met among : Bool) → (met ≡ true → among ≡ true) → when met (one_if among) ≡ one_if met
ones-true true among is = ap one_if (is refl)
ones-true false among is = refl

-- each is a number of 32 bits
small : (v : ℕ) → v < 2 ^ 32 → nat_lt v (2 ^ 32) ≡ true
small v less = grind (arith, nat_tests)

all_small : (s : Symbolic) (term : ℕ) (found : List Found) → All (HasValue s term) found
    → IsTrue (are_small (values_of found))
all_small s term [] each = refl
all_small s term (f ∷ fs) each =
    all_true _ _ (small f.value (All-head (HasValue s term) f fs each).2)
    (all_small s term fs (All-tail (HasValue s term) f fs each))

pub all_values : (p : Program) (budgets : Budgets) (s : Symbolic) (term : ℕ) (found : List Found)
    (kids : List Piece) (place : ℕ) → IsOpen p s → s.steps < budgets.steps → StandsAt s place (number_there s term)
    → AreValues s term budgets.targets found
    → ((input : List ℕ) → stands_for s input ≡ true → is_among (values_of found) (number_of s.terms term input) ≡ true) → 2 ≤ length found
    → AreSidesOf s term found kids → IsForkOf p budgets s kids
all_values p budgets s term found kids place was few next values all several is = record {
  shared = λ input.
      sides-count s term found kids input is
      ∙ ap (when (stands_for s input)) (counted-once (values_of found) (number_of s.terms term input) values.increasing)
      ∙ ones-true (stands_for s input) (is_among (values_of found) (number_of s.terms term input)) (λ covered. all input covered);
  choices = sides-placed s term found kids is;
  parts = sides-parts p budgets (choices_in kids) s term found kids was few is;
  sides = subst (λ (sides : List Side). IsTrue (are_sides budgets.targets sides)) (sym (sides-forms s term found kids is))
      (part_into_values budgets.targets (values_of found) (increases (values_of found) values.increasing) (all_small s term found values.each)
      (omega (arith, several, length-map found (λ (f : Found). f.value))) (omega (arith, values.few, length-map found (λ (f : Found). f.value))));
  few = omega (arith, sides-length s term found kids is, values.few);
  apart = kids_apart p s budgets.steps place (number_there s term) kids was few next (sides-on s term found kids is) (sides-others s term found kids values.increasing is);
}

-- The values and what is left part a run.
ones-both : (met among : Bool)
    → when met (one_if among) + (one_if (met && not among) + 0) ≡ one_if met
ones-both true true = refl
ones-both true false = refl
ones-both false among = refl

-- the choices of such a fork
abbrev pub rest_sides : List ℕ → List Choice
rest_sides values = map Value values ++ Rest ∷ []

module _ (p : Program) (budgets : Budgets) (s : Symbolic) (term : ℕ) (found : List Found) (cause : Cause) (kid : Piece) (was : IsOpen p s)
    (rest : IsSideIn p budgets (rest_sides (values_of found)) s Rest (Some cause) (has_none s term (values_of found)) kid) where
  rest-both : (input : List ℕ) → IsTrue ((content_place kid.content).covers input)
      → (stands_for s input ≡ true) × (has_none s term (values_of found) input ≡ true)
  rest-both input covered =
      passed_in p budgets (rest_sides (values_of found)) s Rest (Some cause) (has_none s term (values_of found)) kid rest input covered

  rest-on : IsOnFork s (number_there s term) kid
  rest-on = on_fork_in p budgets (rest_sides (values_of found)) s Rest (Some cause) (has_none s term (values_of found)) kid rest (number_there s term) (λ input none. tt)

  -- a value that was found is another than those that are left
  other_left : (v n m : ℕ) → is_among (values_of found) v ≡ true → (n == v) ≡ true
      → not (is_among (values_of found) m) ≡ true → Needs n ≢ Needs m
  other_left v n m there at_v left is =
      let is_v : n ≡ v = equals n v at_v in
      let same : n ≡ m = cc is in
      let gone : is_among (values_of found) m ≡ false = not_true _ left in
      let here : is_among (values_of found) m ≡ true = ap (is_among (values_of found)) (sym same ∙ is_v) ∙ there in
      cc (gone, here)

  value_and_rest : (f : Found) (k : Piece) → is_among (values_of found) f.value ≡ true
      → IsValueSide s term f k → AreTwoSides (number_there s term) k kid
  value_and_rest f k there side = record {
    choices = λ is. let value : Value f.value ≡ Rest = sym side.on.choice ∙ is ∙ rest.same in cc value;
    decisions = λ a b on_a on_b.
        other_left f.value _ _ there (side_passes s (Value f.value) (has_value s term f.value) k side a on_a) (rest-both b on_b).1;
  }

  -- with what is left behind them the sides of values are others still
  others-rest : (fs : List Found) (ks : List Piece)
      → ((n : ℕ) → is_among (values_of fs) n ≡ true → is_among (values_of found) n ≡ true)
      → AreIncreasing (values_of fs) → AreSidesOf s term fs ks
      → AreOtherSides (number_there s term) (ks ++ kid ∷ [])
  others-rest [] [] within increasing is = (All-nil (AreTwoSides (number_there s term) kid), tt)
  others-rest [] (l ∷ ls) within increasing is = absurd is
  others-rest (g ∷ gs) [] within increasing is = absurd is
  others-rest (g ∷ gs) (l ∷ ls) within (less, increasing) (first, behind_it) = (
    All-push (AreTwoSides (number_there s term) l) ls kid (behind s term g l gs ls first less behind_it) (value_and_rest g l (within g.value (first_among g.value (values_of gs))) first),
    others-rest gs ls (λ n there. within n (ap (λ b. (n == g.value) || b) there ∙ or-true (n == g.value))) increasing behind_it,
  )

rest-count : (kid : Piece) (input : List ℕ)
    → count_by (λ (k : Piece). (content_place k.content).covers input) (kid ∷ []) ≡ one_if ((content_place kid.content).covers input) + 0
rest-count kid input = count-cons input kid []

targets_spent : (targets found : ℕ) → found ≡ targets
    → IsTrue (is_rest_cut targets found (Some Targets))
targets_spent targets found is = search (rules, is)

pub cut_by_targets : (budgets : Budgets) (found : List Found) → length found ≡ budgets.targets
    → IsTrue (is_rest_cut budgets.targets (length (values_of found)) (Some Targets))
cut_by_targets budgets found is = targets_spent budgets.targets (length (values_of found)) (length-map found (λ (f : Found). f.value) ∙ is)

pub values_and_rest : (p : Program) (budgets : Budgets) (s : Symbolic) (term : ℕ)
    (found : List Found) (cause : Cause) (kids : List Piece) (kid : Piece) (place : ℕ) → IsOpen p s
    → s.steps < budgets.steps → StandsAt s place (number_there s term)
    → AreValues s term budgets.targets found → 1 ≤ length found → IsTrue (is_rest_cut budgets.targets (length (values_of found)) (Some cause))
    → AreSidesOf s term found kids → IsSideIn p budgets (rest_sides (values_of found)) s Rest (Some cause) (has_none s term (values_of found)) kid
    → IsForkOf p budgets s (kids ++ kid ∷ [])
values_and_rest p budgets s term found cause kids kid place was few next values some may is rest =
    let all = kids ++ kid ∷ [] in
    let choices : choices_in all ≡ rest_sides (values_of found)
    = map-append (λ (k : Piece). k.choice) kids (kid ∷ []) ∙ cc (sides-choices s term found kids is, rest.same) in
    let forms : forms_of all ≡ map value_side (values_of found) ++ rest_side (Some cause) ∷ []
    = map-append (side_of_kid (cut_in run_place leaf_place)) kids (kid ∷ [])
    ∙ cc (sides-forms s term found kids is, rest.form) in
    let counted : length (values_of found) ≡ length found = length-map found (λ (f : Found). f.value) in
    let Part = λ (k : Piece). IsPart (rules_of p budgets) leaf_place (left_to_do s) (choices_in all) k k.content in record {
      shared = λ input.
          sum_by-append (λ (k : Piece). cond ((content_place k.content).covers input) 1 0) kids (kid ∷ [])
          ∙ ap (λ n. n + count_by (λ (k : Piece). (content_place k.content).covers input) (kid ∷ [])) (sides-count s term found kids input is ∙ ap (when (stands_for s input)) (counted-once (values_of found) (number_of s.terms term input) values.increasing))
          ∙ ap (λ n. when (stands_for s input) (one_if (is_among (values_of found) (number_of s.terms term input))) + n) (rest-count kid input ∙ ap (λ b. one_if b + 0) (rest.covers input))
          ∙ ones-both (stands_for s input) (is_among (values_of found) (number_of s.terms term input));
      choices = All-push (λ (k : Piece). (content_place k.content).choices ≡ s.choices ++ k.choice ∷ []) kids kid (sides-placed s term found kids is)
          (placed_in p budgets (rest_sides (values_of found)) s Rest (Some cause) (has_none s term (values_of found)) kid rest);
      parts = All-push Part kids kid (sides-parts p budgets (choices_in all) s term found kids was few is)
          (subst (λ cs. IsPart (rules_of p budgets) leaf_place (left_to_do s) cs kid kid.content) (sym choices) rest.part);
      sides = subst (λ (sides : List Side). IsTrue (are_sides budgets.targets sides)) (sym forms)
          (part_into_values_and_rest budgets.targets (values_of found) (Some cause) (increases (values_of found) values.increasing) (all_small s term found values.each) (omega (arith, some, counted)) (omega (arith, values.few, counted)) may);
      few = omega (arith, length-append kids (kid ∷ []), sides-length s term found kids is, values.few);
      apart = kids_apart p s budgets.steps place (number_there s term) all was few next
          (All-push (IsOnFork s (number_there s term)) kids kid (sides-on s term found kids is) (rest-on p budgets s term found cause kid was rest))
          (others-rest p budgets s term found cause kid was rest found kids (λ n there. there) values.increasing is);
    }

-- the one value that there is
first_or : (b : Bool) → (b || false) ≡ true → b ≡ true
first_or true is = refl
first_or false is = is

one_value : (s : Symbolic) (term : ℕ) (found : List Found) (d : Found) → length found ≡ 1
    → ((input : List ℕ) → stands_for s input ≡ true → is_among (values_of found) (number_of s.terms term input) ≡ true)
    → (input : List ℕ) → stands_for s input ≡ true → number_of s.terms term input ≡ (get_or found 0 d).value
one_value s term [] d few all input stands = absurd (omega (arith, few))
one_value s term (f ∷ []) d few all input stands = equals _ _ (first_or _ (all input stands))
one_value s term (f ∷ g ∷ fs) d few all input stands = absurd (omega (arith, few))

-- the one value is known of the step
pub value_settled : (s : Symbolic) (place term : ℕ) (found : List Found) (d : Found) → IsPin s place term → length found ≡ 1
    → ((input : List ℕ) → stands_for s input ≡ true → is_among (values_of found) (number_of s.terms term input) ≡ true)
    → IsForced s place (Number (get_or found 0 d).value)
value_settled s place term found d at few all =
    pin_settled s place term (get_or found 0 d).value at (one_value s term found d few all)
