-- A run of whose next step one decision more is known: as it is, or on one side of a fork.
use Rattle.std.proofs.Common.{◌≡◌, ℕ, ◌<◌, inl, inr, Bool, true, ◌&&◌, cond, List, [], ◌∷◌, ◌++◌, get_or, set, length, refl, sym, ap, subst, ◌∙◌, arith}
use Rattle.std.specs.Prelude.{All, Option, None, Some, ◌==◌, is_none, slice_get, slice_set}
use Rattle.std.specs.List.{list_all}
use Rattle.std.proofs.lemmas.Bool.{and_parts, cases_eq}
use Rattle.std.proofs.lemmas.List.{get_or-set_same, get_or-set_other, length-set}
use Rattle.std.proofs.lemmas.List.Folds.{list_all-append}
use Rattle.std.proofs.lemmas.List.Sums.{sum_by-set}
use Rattle.bv_dag.specs.Graphs.{Graph, number_of}
use Rattle.bv_dag.specs.Queries.{holds}
use Rattle.fork_spec.specs.Leaves.{are_bytes}
use Rattle.fork_spec.proofs.ByteLists.{are_bytes-each}
use Rattle.fork_spec.specs.Decisions.{Decision, decisions, step_decisions}
use Rattle.rv_spec.specs.Machine.{State}
use Rattle.rv_spec.specs.Runs.{Run, run}
use Rattle.sym_state.specs.Moves.{informed, narrowed, with_terms}
use Rattle.sym_state.specs.Programs.{Program}
use Rattle.sym_state.specs.Runs.{IsOpen, left_to_do}
use Rattle.sym_state.specs.Symbolic.{Symbolic, IsFormed, IsTrulyKnown, KnowsTruth, concrete, decision_of, known_at, most_decisions, stands_for}
use Rattle.sym_state.specs.Undecided.{IsOpenAt}
use Rattle.sym_state.specs.Unfolded.{unfolded}
use Rattle.sym_state.specs.Unfolding.{unfolded_run}
use Rattle.sym_state.specs.declared.decided.Decided.{Decided}
use Rattle.term_trees.specs.Growth.{Continues}
use Rattle.tree_core.specs.declared.choice.Choice.{Choice}
use Rattle.sym_state.proofs.Grown.{concrete-with_terms, stands-with_terms, unfolded-with_terms}
use Rattle.sym_state.proofs.Tests.{and_last, by_bytes}
use Rattle.sym_state.proofs.Undecided.{decision_there}
use Rattle.run_sides.specs.Narrowing.{IsForced, IsNarrower}

-- it stands for some of the assignments, and is where it was
record IsWithin (s u : Symbolic) : Type 0 where
  pub some : (input : List ℕ) → stands_for u input ≡ true → stands_for s input ≡ true
  pub same : (input : List ℕ) → stands_for u input ≡ true → concrete u input ≡ concrete s input
  pub terms : unfolded u ≡ unfolded s

truly_kept : (s u : Symbolic) (q : ℕ) (known : Option Decided) → IsWithin s u → IsTrulyKnown s q known
    → IsTrulyKnown u q known
truly_kept s u q None within is = tt
truly_kept s u q (Some d) within is =
    λ input stands. ap (λ (c : State). slice_get (step_decisions c) q) (within.same input stands) ∙ is input (within.some input stands)

knows_more : (s u : Symbolic) (place : ℕ) (d : Decided) → length s.known ≡ most_decisions → place < most_decisions
    → u.known ≡ slice_set s.known place (Some d) → IsWithin s u → IsTrulyKnown u place (Some d) → KnowsTruth s
    → KnowsTruth u
knows_more s u place d places in_range is within new was q = elim (cases_eq q place) [
  | inl same ↦
      let here : known_at u q ≡ Some d
      = ap (λ ks. get_or ks q None) is ∙ ap (λ k. get_or (set s.known place (Some d)) k None) same
      ∙ get_or-set_same s.known place (Some d) None (omega (arith, in_range, places)) in
      subst (IsTrulyKnown u q) (sym here) (subst (λ k. IsTrulyKnown u k (Some d)) (sym same) new)
  | inr other ↦
      let here : known_at u q ≡ known_at s q = ap (λ ks. get_or ks q None) is ∙ get_or-set_other s.known place q (Some d) None other in
      subst (IsTrulyKnown u q) (sym here) (truly_kept s u q (known_at s q) within (was q))
]

-- it is a run of each program that it was one of
open_within : (p : Program) (s u : Symbolic) → IsOpen p s → IsWithin s u → u.terms.inputs ≡ s.terms.inputs
    → u.output ≡ s.output → u.steps ≡ s.steps → KnowsTruth u → IsOpen p u
open_within p s u was within inputs output steps knows = record {
  inputs = inputs ∙ was.inputs;
  knows = knows;
  few_outputs = let long = ap length output in omega (arith, was.few_outputs, long, steps);
  sound = λ input stands.
      ap (run p.image p.regions input) steps ∙ was.sound input (within.some input stands)
      ∙ ap {B = Run} (λ (c : State). record { state = c; end = None; steps = s.steps }) (sym (within.same input stands))
      ∙ ap {B = Run} (λ k. record { state = concrete u input; end = None; steps = k }) (sym steps);
  alike = record {
    made = was.alike.made;
    alike = λ input stands. ap (λ k. decisions p.image p.regions input k) steps ∙ was.alike.alike input (within.some input stands);
  };
  terms = λ input stands. within.terms ∙ was.terms input (within.some input stands) ∙ ap (unfolded_run p.image p.regions input) (sym steps);
}

-- with one decision more known there is less to do
less_known : (s : Symbolic) (place : ℕ) (d : Decided) → length s.known ≡ most_decisions → place < most_decisions
    → known_at s place ≡ None → left_to_do (informed s place d) < left_to_do s
less_known s place d places in_range unknown =
    let there : ◌≡◌ {A = ℕ} (cond (is_none (known_at s place)) 1 0) 1 = ap (λ (k : Option Decided). cond (is_none k) 1 0) unknown in
    let counted = sum_by-set (λ (k : Option Decided). cond (is_none k) 1 0) s.known place (Some d) None (omega (arith, in_range, places)) in
    omega (arith, there, counted)

-- A run that goes on: it stands for the same assignments, and has less to do.
pub record GoesOn (old new : Symbolic) : Type 0 where
  pub is_open : (p : Program) → IsOpen p old → IsOpen p new
  pub choices : new.choices ≡ old.choices
  pub steps : new.steps ≡ old.steps
  pub less : left_to_do new < left_to_do old
  pub covers : (input : List ℕ) → stands_for new input ≡ stands_for old input

-- a run goes on where a decision of its next step is one on all assignments, and is known from there on
pub goes_settled : (s : Symbolic) (place : ℕ) (d : Decided) → IsFormed (informed s place d) → IsForced s place d
    → GoesOn s (informed s place d)
goes_settled s place d formed settled =
    let places : length s.known ≡ most_decisions = sym (length-set s.known place (Some d)) ∙ formed.places in
    let within : IsWithin s (informed s place d) = record { some = λ input stands. stands; same = λ input stands. refl; terms = refl } in record {
      is_open = λ p was. open_within p s (informed s place d) was within refl refl refl
          (knows_more s (informed s place d) place d places settled.in_range refl within settled.settled was.knows);
      choices = refl;
      steps = refl;
      less = less_known s place d places settled.in_range settled.unknown;
      covers = λ input. refl;
    }

-- a run on one side of a fork
abbrev pub side_run : Symbolic → Graph → ℕ → Decided → Choice → ℕ → Symbolic
side_run s g place d choice term = informed (narrowed (with_terms s g) choice term s.sample) place d

pub holds-last : (g : Graph) (ids : List ℕ) (term : ℕ) (input : List ℕ)
    → holds (record { graph = g; asserted = ids ++ term ∷ [] }) input ≡ (holds (record { graph = g; asserted = ids }) input && (number_of g term input == 1))
holds-last g ids term input =
    ap (λ b. (length input == g.inputs) && b) (list_all-append (λ id. number_of g id input == 1) ids (term ∷ []))
    ∙ and_last (length input == g.inputs) (list_all (λ id. number_of g id input == 1) ids) (number_of g term input == 1)

pub stands-narrowed : (s : Symbolic) (g : Graph) (place : ℕ) (d : Decided) (choice : Choice) (term : ℕ)
    (test : List ℕ → Bool) → IsFormed s → Continues s.terms g
    → ((input : List ℕ) → All (λ b. b < 256) input → (number_of g term input == 1) ≡ test input)
    → (input : List ℕ) → stands_for (side_run s g place d choice term) input ≡ (stands_for s input && test input)
stands-narrowed s g place d choice term test formed grown tells input =
    ap (λ b. are_bytes input && b) (holds-last g s.condition term input)
    ∙ by_bytes (are_bytes input) (holds (record { graph = g; asserted = s.condition }) input) (number_of g term input == 1) (test input) (λ bytes. tells input (are_bytes-each input bytes))
    ∙ ap (λ b. b && test input) (stands-with_terms s g input formed grown)

pub narrower : (s : Symbolic) (g : Graph) (place bits x : ℕ) (d : Decided) (choice : Choice) (term : ℕ)
    (test : List ℕ → Bool) (decision : List ℕ → Decision) → IsFormed s → Continues s.terms g
    → IsOpenAt s place bits x decision
    → ((input : List ℕ) → All (λ b. b < 256) input → (number_of g term input == 1) ≡ test input)
    → ((input : List ℕ) → test input ≡ true → decision input ≡ decision_of d)
    → IsNarrower s (side_run s g place d choice term) choice test
narrower s g place bits x d choice term test decision formed grown at tells decides =
    let u = side_run s g place d choice term in
    let covers : (input : List ℕ) → stands_for u input ≡ (stands_for s input && test input)
    = stands-narrowed s g place d choice term test formed grown tells in
    let parts : (input : List ℕ) → stands_for u input ≡ true → (stands_for s input ≡ true) × (test input ≡ true)
    = λ input on. and_parts (stands_for s input) (test input) (sym (covers input) ∙ on) in
    let within : IsWithin s u = record { some = λ input on. (parts input on).0; same = λ input on. concrete-with_terms s g input formed grown; terms = unfolded-with_terms s g formed grown } in
    let new : IsTrulyKnown u place (Some d) = λ input on.
    ap (λ (c : State). slice_get (step_decisions c) place) (within.same input on)
    ∙ decision_there s place decision at.stands input (parts input on).0 ∙ ap Some (decides input (parts input on).1) in record {
      is_open = λ p was. open_within p s u was within grown.inputs refl refl
          (knows_more s u place d formed.places at.in_range refl within new was.knows);
      inputs = grown.inputs;
      choices = refl;
      steps = refl;
      less = less_known s place d formed.places at.in_range at.unknown;
      covers = covers;
    }

-- ---- Whatever its sample is.
abbrev pub with_sample : Symbolic → List ℕ → Symbolic
with_sample s sample = record s { sample = sample }

open_by : (p : Program) (s : Symbolic) (sample : List ℕ) → IsOpen p s → IsOpen p (with_sample s sample)
open_by p s sample was = record {
  inputs = was.inputs;
  knows = knows_by;
  few_outputs = was.few_outputs;
  sound = was.sound;
  alike = record { made = was.alike.made; alike = was.alike.alike };
  terms = was.terms;
}
  where
    truly_by : (place : ℕ) (known : Option Decided) → IsTrulyKnown s place known → IsTrulyKnown (with_sample s sample) place known
    truly_by place None is = tt
    truly_by place (Some d) is = is

    knows_by : KnowsTruth (with_sample s sample)
    knows_by place = truly_by place (known_at s place) (was.knows place)

pub narrower_by : (s u : Symbolic) (choice : Choice) (test : List ℕ → Bool) (sample : List ℕ) → IsNarrower s u choice test
    → IsNarrower s (with_sample u sample) choice test
narrower_by s u choice test sample is = record {
  is_open = λ p was. open_by p u sample (is.is_open p was);
  inputs = is.inputs;
  choices = is.choices;
  steps = is.steps;
  less = is.less;
  covers = is.covers;
}
