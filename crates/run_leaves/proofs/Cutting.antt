-- Leaves that are cut at a fork: what they stand for, that their runs are as they say, and what shows the budget that was spent.
use Rattle.std.proofs.Common.{◌≡◌, ℕ, ◌+◌, ◌-◌, ◌<◌, ◌≤◌, Bool, true, ◌&&◌, List, [], ◌∷◌, ◌++◌, get_or, length, map, take, refl, sym, ap, subst, ◌∙◌, arith}
use Rattle.std.specs.Prelude.{All, Option, None, Some, not, ◌==◌}
use Rattle.std.specs.List.{list_all}
use Rattle.std.proofs.lemmas.List.{length-append, length-map}
use Rattle.std.proofs.lemmas.List.Elements.{All-nil, All-cons}
use Rattle.std.proofs.lemmas.List.Folds.{list_all-append}
use Rattle.std.proofs.lemmas.Bool.{and_parts}
use Rattle.bv_dag.specs.Graphs.{Graph, number_of, width_of}
use Rattle.bv_dag.specs.Queries.{holds}
use Rattle.bv_dag.proofs.TermLaws.{there}
use Rattle.elf_load.specs.declared.region.Region.{Region}
use Rattle.rv_spec.specs.Memory.{IsAssignment, count_of}
use Rattle.rv_spec.specs.Runs.{IsRunOf, run}
use Rattle.tree_core.specs.declared.budgets.Budgets.{Budgets}
use Rattle.tree_core.specs.declared.cause.Cause.{Cause}
use Rattle.tree_core.specs.declared.cause.Cause.TheVariants.{Conflicts, Targets}
use Rattle.tree_core.specs.declared.choice.Choice.{Choice}
use Rattle.tree_core.specs.declared.choice.Choice.TheVariants.{Rest, Value}
use Rattle.fork_spec.specs.Evidence.{Found, IsWitness, IsSample, Learnt, SpendsConflicts, SpendsTargets, all_but_last, is_among, values_of}
use Rattle.fork_spec.specs.Leaves.{IsCount, IsFull, IsSmall, are_bytes}
use Rattle.fork_spec.specs.Parts.{Evidence, IsRight, OnConflicts, OnTargets, Part, Shows}
use Rattle.fork_spec.specs.Runs.{AreWithin}
use Rattle.fork_spec.specs.declared.end.LeafEnd.TheVariants.{Cut}
use Rattle.fork_spec.proofs.ByteLists.{are_bytes-each}
use Rattle.sym_state.specs.Moves.{IsGrown}
use Rattle.sym_state.specs.Programs.{Program}
use Rattle.sym_state.specs.Narrowed.{IsNarrowed}
use Rattle.sym_state.specs.Runs.{DecidedAlike, IsOpen}
use Rattle.sym_state.specs.Symbolic.{Symbolic, IsFormed, condition_of, stands_for}
use Rattle.sym_state.specs.Values.{IsUnknown, byte_worth}
use Rattle.sym_state.proofs.Growing.{number-grown}
use Rattle.sym_state.proofs.Grown.{bytes-grown, holds-grown}
use Rattle.sym_state.proofs.Tests.{and-assoc, by_bytes, equals}
use Rattle.term_trees.specs.Growth.{Continues}
use Rattle.term_trees.specs.TreeSlices.{IsSliceOfTrees, asserted_trees}
use Rattle.term_trees.specs.Trees.{Tree, tree_of}
use Rattle.run_leaves.specs.Copies.{AreCopies}
use Rattle.run_leaves.specs.Learning.{IsLearntFor}
use Rattle.run_leaves.specs.Leaving.{HasTerms, HasTextRoom, left_as}
use Rattle.run_leaves.specs.Places.{IsLeafAt, side_place}
use Rattle.run_leaves.specs.Values.{AreValues, HasValue, IsWithout}
use Rattle.run_leaves.specs.declared.leaf.LeafTerms.{LeafTerms}
use Rattle.run_leaves.proofs.Copying.{copies-front, holds-copied}
use Rattle.run_leaves.proofs.Leaving.{alike-left, full-left, full_as, holds-left, runs-left, sample-left, still_runs}

-- the run on its side of the fork
abbrev pub chosen : Symbolic → Choice → Symbolic
chosen u choice = record u { choices = u.choices ++ choice ∷ [] }

-- a run with these terms, this condition and this sample
abbrev pub narrowed_to : Symbolic → Graph → List ℕ → List ℕ → Symbolic
narrowed_to s g condition sample = record s { terms = g; condition = condition; sample = sample }

-- the leaf of such a run, with what shows it
abbrev pub cut_part : Symbolic → LeafTerms → Cause → Option (List ℕ) → Option Evidence → Part
cut_part s t cause sample evidence = record { leaf = left_as s t (Cut cause); sample = sample; evidence = evidence }

-- ---- A leaf that is shown is right as a side of the fork.
module _ (p : Program) (budgets : Budgets) (sides : List Choice) (s : Symbolic) (g : Graph) (condition sample : List ℕ) (choice : Choice) (cause : Cause)
    (test : List ℕ → Bool) (t : LeafTerms) (shown_by : Option (List ℕ)) (evidence : Option Evidence) (was : IsOpen p s) (formed : IsFormed s)
    (grown : Continues s.terms g) (covers : (input : List ℕ) → stands_for (narrowed_to s g condition sample) input ≡ (stands_for s input && test input))
    (has : HasTerms (chosen (narrowed_to s g condition sample) choice) t) where
  abbrev q : Symbolic
  q = chosen (narrowed_to s g condition sample) choice

  stood_before : (input : List ℕ) → stands_for q input ≡ true → stands_for s input ≡ true
  stood_before input stood = (and_parts (stands_for s input) (test input) (sym (covers input) ∙ stood)).0

  still : (input : List ℕ) → All (λ b. b < 256) input → stands_for q input ≡ true
      → IsRunOf (run p.image p.regions input s.steps) s.steps s.path None (map (byte_worth g input) s.output)
  still input bytes stood =
      subst (λ ns. IsRunOf (run p.image p.regions input s.steps) s.steps s.path None ns) (sym (bytes-grown s.terms g input s.output grown formed.bytes))
      (still_runs p s input was (stood_before input stood))

  alike : DecidedAlike p q
  alike = record { made = was.alike.made; alike = λ input stood. was.alike.alike input (stood_before input stood) }

  cut_right : IsFull (left_as q t (Cut cause)) → AreWithin budgets.steps s.steps (Cut cause)
      → Shows p.regions budgets sides None (left_as q t (Cut cause)) (Cut cause) shown_by evidence
      → IsRight p.image p.regions budgets sides None (cut_part q t cause shown_by evidence)
  cut_right full within shown = record {
    full = full;
    inputs = has.condition.inputs ∙ grown.inputs ∙ was.inputs;
    faithful = record { within = within; runs = runs-left q t has p (Cut cause) (λ input bytes stood. still input bytes stood) };
    alike = alike-left q t has p (Cut cause) alike;
    shown = shown;
  }

  pub cut_side : IsFull (left_as q t (Cut cause)) → AreWithin budgets.steps s.steps (Cut cause)
      → Shows p.regions budgets sides None (left_as q t (Cut cause)) (Cut cause) shown_by evidence
      → IsLeafAt p budgets sides None (side_place s choice test cause) (cut_part q t cause shown_by evidence)
  cut_side full within shown = record {
    right = cut_right full within shown;
    choices = refl;
    covers = λ input. ap (λ b. are_bytes input && b) (holds-left q t has input) ∙ covers input;
    cut = refl;
  }

-- ---- The leaf of a run on which the budget of conflicts was spent.
-- the last of a row of copies
record LastCopied {A : Type 0} (f : ℕ → A) (a : A) (zs : List ℕ) : Type 0 where
  pub front : List ℕ
  pub last : ℕ
  pub is : zs ≡ front ++ last ∷ []
  pub same : f last ≡ a

last-kept : {A : Type 0} {f : ℕ → A} {a : A} {zs : List ℕ} (z : ℕ) → LastCopied f a zs → LastCopied f a (z ∷ zs)
last-kept z rest = record { front = z ∷ rest.front; last = rest.last; is = ap (λ ws. z ∷ ws) rest.is; same = rest.same }

last-copied : {A : Type 0} (f g : ℕ → A) (xs zs : List ℕ) (x : ℕ) → map f zs ≡ map g (xs ++ x ∷ []) → LastCopied f (g x) zs
last-copied f g [] [] x is = absurd (let long = ap length is in omega (arith, long))
last-copied f g (y ∷ ys) [] x is = absurd (let long = ap length is in omega (arith, long, length-map (ys ++ x ∷ []) g))
last-copied {A} f g [] (z ∷ []) x is = let same : f z ≡ g x = cc is in record { front = []; last = z; is = refl; same = same }
last-copied f g [] (z ∷ w ∷ zs) x is = absurd (let long = ap length is in omega (arith, long))
last-copied {A} f g (y ∷ ys) (z ∷ zs) x is =
    let more : map f zs ≡ map g (ys ++ x ∷ []) = cc is in
    last-kept z (last-copied f g ys zs x more)

pub conflicts_shown : (regions : List Region) (conflicts : ℕ) (s : Symbolic) (t : LeafTerms) (learnt : Learnt) → HasTerms s t
    → s.terms.inputs ≡ count_of regions → IsSmall s.terms.inputs → IsCount (length learnt.question.graph.nodes)
    → IsLearntFor conflicts (condition_of s) learnt → SpendsConflicts regions conflicts (left_as s t (Cut Conflicts)) learnt
conflicts_shown regions conflicts s t learnt has inputs few_inputs few_nodes is =
    let trees : map (tree_of t.condition.graph) t.condition.asserted ≡ map (tree_of s.terms) (is.front ++ is.last ∷ [])
    = has.condition.trees ∙ ap (map (tree_of s.terms)) is.asserted in
    let last = last-copied (tree_of t.condition.graph) (tree_of s.terms) is.front t.condition.asserted is.last trees in record {
      front = last.front;
      last = last.last;
      asserted = last.is;
      full = record { is_dag = is.is_dag; bits = is.bits; few_inputs = subst IsSmall (sym is.part.inputs) few_inputs; few_nodes = few_nodes };
      inputs = is.part.inputs ∙ inputs;
      part = record {
        inputs = is.part.inputs ∙ sym has.condition.inputs;
        slice = subst (λ (ts : List Tree). IsSliceOfTrees ts (tree_of t.condition.graph last.last) (asserted_trees learnt.question)) (sym has.condition.trees)
            (subst (λ (top : Tree). IsSliceOfTrees (asserted_trees (condition_of s)) top (asserted_trees learnt.question)) (sym last.same) is.part.slice);
      };
      spent = is.spent;
    }

-- what a leaf's texts have room for stays when only terms are added
pub writable_chosen : (u : Symbolic) (choice : Choice) → HasTextRoom u → HasTextRoom (chosen u choice)
writable_chosen u choice is = record { few_inputs = is.few_inputs; few_outputs = is.few_outputs }

pub full_cut : (q new : Symbolic) (t : LeafTerms) (cause : Cause) → IsGrown q new → HasTerms q t → HasTextRoom q → IsFull (left_as new t (Cut cause))
full_cut q new t cause grown has writable = full_as q new t (Cut cause) grown (full-left q t has (Cut cause) grown.before writable tt)

cut-same : (q new : Symbolic) (t : LeafTerms) (cause : Cause) (sample : Option (List ℕ)) (evidence : Option Evidence) → IsGrown q new
    → cut_part new t cause sample evidence ≡ cut_part q t cause sample evidence
cut-same q new t cause sample evidence grown = ap (λ (r : Symbolic). cut_part r t cause sample evidence) grown.same

-- the run in its form, and back
to_form : (P : Symbolic → Type 0) (s u : Symbolic) → u ≡ narrowed_to s u.terms u.condition u.sample → P (narrowed_to s u.terms u.condition u.sample) → P u
to_form P s u is holding = subst P (sym is) holding

pub conflicts_side : (p : Program) (budgets : Budgets) (sides : List Choice) (s u new : Symbolic) (choice : Choice) (test : List ℕ → Bool) (t : LeafTerms)
    (learnt : Learnt) → IsOpen p s → s.steps < budgets.steps → IsFormed s → IsNarrowed s u test → IsLearntFor budgets.conflicts (condition_of u) learnt
    → IsCount (length learnt.question.graph.nodes) → HasTextRoom u → IsGrown (chosen u choice) new → HasTerms (chosen u choice) t
    → IsLeafAt p budgets sides None (side_place s choice test Conflicts) (cut_part new t Conflicts None (Some (OnConflicts learnt)))
conflicts_side p budgets sides s u new choice test t learnt was few formed is learning few_nodes writable grown has =
    let form = narrowed_to s u.terms u.condition u.sample in
    let has_form : HasTerms (chosen form choice) t = subst (λ (r : Symbolic). HasTerms (chosen r choice) t) is.same has in
    let full : IsFull (left_as (chosen form choice) t (Cut Conflicts))
    = subst (λ (r : Symbolic). IsFull (left_as (chosen r choice) t (Cut Conflicts))) is.same
    (full-left (chosen u choice) t has (Cut Conflicts) grown.before (writable_chosen u choice writable) tt) in
    let side = cut_side p budgets sides s u.terms u.condition u.sample choice Conflicts test t None (Some (OnConflicts learnt)) was formed is.continues is.covers
    has_form full few (conflicts_shown p.regions budgets.conflicts (chosen form choice) t learnt has_form (is.continues.inputs ∙ was.inputs) writable.few_inputs few_nodes learning) in
    subst (IsLeafAt p budgets sides None (side_place s choice test Conflicts))
    (sym (cut-same (chosen u choice) new t Conflicts None (Some (OnConflicts learnt)) grown
    ∙ ap (λ (r : Symbolic). cut_part (chosen r choice) t Conflicts None (Some (OnConflicts learnt))) is.same)) side

-- ---- A run without some values of a term is narrowed.
holds-append : (g : Graph) (xs ys input : List ℕ)
    → holds (record { graph = g; asserted = xs ++ ys }) input ≡ (holds (record { graph = g; asserted = xs }) input && list_all (λ id. number_of g id input == 1) ys)
holds-append g xs ys input =
    ap (λ b. (length input == g.inputs) && b) (list_all-append (λ id. number_of g id input == 1) xs ys)
    ∙ and-assoc (length input == g.inputs) _ _

-- it has none of these values
abbrev pub has_none : Symbolic → (term : ℕ) → List ℕ → List ℕ → Bool
has_none s term values input = not (is_among values (number_of s.terms term input))

without-stands : (s : Symbolic) (term : ℕ) (values : List ℕ) (new : Symbolic) → IsFormed s → (is : IsWithout s term values new) → (input : List ℕ)
    → stands_for new input ≡ (stands_for s input && has_none s term values input)
without-stands s term values new formed is input =
    ap (λ (r : Symbolic). stands_for r input) is.same
    ∙ ap (λ b. are_bytes input && b) (holds-append new.terms s.condition is.ids input)
    ∙ by_bytes (are_bytes input) (holds (record { graph = new.terms; asserted = s.condition }) input) (list_all (λ id. number_of new.terms id input == 1) is.ids)
    (has_none s term values input) (λ bytes. is.tells input (are_bytes-each input bytes))
    ∙ ap (λ b. (are_bytes input && b) && has_none s term values input) (holds-grown s.terms new.terms s.condition input is.continues formed.bits)

pub without_narrowed : (s : Symbolic) (term : ℕ) (values : List ℕ) (new : Symbolic) → IsFormed s → IsWithout s term values new
    → IsNarrowed s new (has_none s term values)
without_narrowed s term values new formed is = record {
  same = is.same ∙ ap (λ ids. record s { terms = new.terms; condition = ids; sample = new.sample }) (sym (ap (λ (r : Symbolic). r.condition) is.same));
  continues = is.continues;
  covers = without-stands s term values new formed is;
}

-- ---- The leaf of all values but those that were found.
module _ (p : Program) (budgets : Budgets) (s u new : Symbolic) (term copy : ℕ) (found : List Found) (t : LeafTerms) (was : IsOpen p s) (formed : IsFormed s)
    (unknown : IsUnknown s.terms 32 term) (is : IsWithout s term (values_of found) u) (sampled : stands_for u u.sample ≡ true)
    (values : AreValues s term budgets.targets found) (spent : length found ≡ budgets.targets) (has : HasTerms (chosen u Rest) t)
    (width : width_of t.condition.graph copy ≡ 32) (number : (input : List ℕ) → number_of t.condition.graph copy input ≡ number_of u.terms term input) where
  abbrev leaf : Symbolic
  leaf = chosen u Rest

  condition_is : u.condition ≡ s.condition ++ is.ids
  condition_is = ap (λ (r : Symbolic). r.condition) is.same

  copies : AreCopies u.terms (s.condition ++ is.ids) t.condition.graph t.condition.asserted
  copies = subst (λ ids. AreCopies u.terms ids t.condition.graph t.condition.asserted) condition_is has.condition

  leaf_tells : (input : List ℕ) → All (λ b. b < 256) input → holds t.condition input ≡ (holds (condition_of s) input && has_none s term (values_of found) input)
  leaf_tells input bytes =
      holds-copied u.terms t.condition.graph (s.condition ++ is.ids) t.condition.asserted input copies ∙ holds-append u.terms s.condition is.ids input
      ∙ ap (λ b. b && list_all (λ id. number_of u.terms id input == 1) is.ids) (holds-grown s.terms u.terms s.condition input is.continues formed.bits)
      ∙ ap (λ b. holds (condition_of s) input && b) (is.tells input bytes)

  term-left : (input : List ℕ) → number_of t.condition.graph copy input ≡ number_of s.terms term input
  term-left input = number input ∙ number-grown s.terms u.terms term 32 input is.continues unknown.width (omega arith)

  count : length t.condition.asserted ≡ length s.condition + budgets.targets
  count =
      let widths = ap length copies.widths in
      omega (
        arith,
        widths,
        spent,
        is.each,
        length-map found (λ (f : Found). f.value),
        length-append s.condition is.ids,
        length-map t.condition.asserted (width_of t.condition.graph),
        length-map (s.condition ++ is.ids) (width_of u.terms),
      )

  enough : budgets.targets ≤ length t.condition.asserted
  enough = omega (arith, count)

  many : length t.condition.asserted - budgets.targets ≡ length s.condition
  many = omega (arith, count)

  others-left : (input : List ℕ) → holds (all_but_last budgets.targets (left_as leaf t (Cut Targets))) input ≡ holds (condition_of s) input
  others-left input =
      ap (λ k. holds (record { graph = t.condition.graph; asserted = take k t.condition.asserted }) input) many
      ∙ holds-copied u.terms t.condition.graph s.condition (take (length s.condition) t.condition.asserted) input
      (copies-front u.terms t.condition.graph s.condition is.ids t.condition.asserted copies)
      ∙ holds-grown s.terms u.terms s.condition input is.continues formed.bits

  assigned : (input : List ℕ) → stands_for s input ≡ true → IsAssignment p.regions input
  assigned input stands =
      let parts = and_parts (are_bytes input) (holds (condition_of s) input) stands in
      (equals (length input) s.terms.inputs (and_parts (length input == s.terms.inputs) _ parts.1).0 ∙ was.inputs, are_bytes-each input parts.0)

  reached-left : (f : Found) → HasValue s term f → IsWitness p.regions (left_as leaf t (Cut Targets)) budgets.targets copy f
  reached-left f (stands, at, below) = record {
    assignment = assigned f.input stands;
    holds_others = others-left f.input ∙ (and_parts (are_bytes f.input) (holds (condition_of s) f.input) stands).1;
    has_value = term-left f.input ∙ at;
  }

  rest-sample : IsFormed leaf → IsSample p.regions (left_as leaf t (Cut Targets)) u.sample
  rest-sample whole = sample-left leaf t has p.regions (Cut Targets) whole
      (assigned u.sample (and_parts (stands_for s u.sample) _ (sym (without-stands s term (values_of found) u formed is u.sample) ∙ sampled)).0) sampled

  spends-left : IsFormed leaf → SpendsTargets p.regions budgets.targets (map Value (values_of found) ++ Rest ∷ []) (left_as leaf t (Cut Targets)) (record { term = copy; found = found })
  spends-left whole = record {
    wide = width;
    each = spent;
    asserted = enough;
    increasing = values.increasing;
    reached = λ k d below. reached-left (get_or found k d) (values.each k d below);
    rest = λ input assigned. leaf_tells input assigned.1
        ∙ ap (λ b. b && has_none s term (values_of found) input) (sym (others-left input))
        ∙ ap (λ n. holds (all_but_last budgets.targets (left_as leaf t (Cut Targets))) input && not (is_among (values_of found) n)) (sym (term-left input));
    some = (u.sample, (rest-sample whole).0, (rest-sample whole).1);
    others = refl;
  }

  pub targets_side : s.steps < budgets.steps → HasTextRoom u → IsGrown (chosen u Rest) new
      → IsLeafAt p budgets (map Value (values_of found) ++ Rest ∷ []) None (side_place s Rest (has_none s term (values_of found)) Targets)
      (cut_part new t Targets (Some new.sample) (Some (OnTargets (record { term = copy; found = found }))))
  targets_side few writable grown =
      let narrowed = without_narrowed s term (values_of found) u formed is in
      let form = narrowed_to s u.terms u.condition u.sample in
      let evidence = Some (OnTargets (record { term = copy; found = found })) in
      let sides = map Value (values_of found) ++ Rest ∷ [] in
      let back = λ (P : Symbolic → Type 0). subst P narrowed.same in
      let side = cut_side p budgets sides s u.terms u.condition u.sample Rest Targets (has_none s term (values_of found)) t (Some u.sample) evidence was formed is.continues
      (λ input. ap (λ (r : Symbolic). stands_for r input) (sym narrowed.same) ∙ narrowed.covers input)
      (back (λ (r : Symbolic). HasTerms (chosen r Rest) t) has)
      (back (λ (r : Symbolic). IsFull (left_as (chosen r Rest) t (Cut Targets))) (full-left leaf t has (Cut Targets) grown.before (writable_chosen u Rest writable) tt))
      few (
        back (λ (r : Symbolic). IsSample p.regions (left_as (chosen r Rest) t (Cut Targets)) u.sample) (rest-sample grown.before),
        back (λ (r : Symbolic). SpendsTargets p.regions budgets.targets sides (left_as (chosen r Rest) t (Cut Targets)) (record { term = copy; found = found })) (spends-left grown.before),
      ) in
      subst (IsLeafAt p budgets sides None (side_place s Rest (has_none s term (values_of found)) Targets))
      (sym (ap (λ (r : Symbolic). cut_part r t Targets (Some r.sample) evidence) grown.same
      ∙ ap (λ (r : Symbolic). cut_part (chosen r Rest) t Targets (Some u.sample) evidence) narrowed.same)) side

-- the term is there
pub term_there : (u : Symbolic) (term : ℕ) → width_of u.terms term ≡ 32 → All (λ id. id < length u.terms.nodes) (term ∷ [])
term_there u term wide =
    All-cons (λ id. id < length u.terms.nodes) term [] (there u.terms term 32 wide (omega arith)) (All-nil (λ id. id < length u.terms.nodes))
