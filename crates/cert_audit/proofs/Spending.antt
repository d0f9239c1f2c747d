-- Sides that are cut by targets.
use Rattle.std.proofs.Common.{◌≡◌, ℕ, ◌<◌, List, [], ◌∷◌, ◌++◌, length, map, refl, sym, ap, subst, ◌∙◌, append_assoc, arith}
use Rattle.std.specs.Prelude.{Option, None, Some}
use Rattle.std.proofs.lemmas.List.Elements.{All-append}
use Rattle.cert_form.specs.declared.line.CertLine.{CertLine}
use Rattle.cert_form.specs.declared.line.CertLine.TheVariants.{Value as OfFound, Witness}
use Rattle.fork_spec.specs.Evidence.{AreIncreasing, Found, values_of}
use Rattle.fork_spec.specs.Parts.{Part}
use Rattle.run_leaves.proofs.Cutting.{has_none, without_narrowed}
use Rattle.run_leaves.specs.Places.{IsLeafAt, side_place}
use Rattle.run_leaves.specs.Values.{AreValues, IsWithout}
use Rattle.sym_state.specs.Programs.{Program}
use Rattle.sym_state.specs.Runs.{IsOpen, IsSampled}
use Rattle.sym_state.specs.Symbolic.{Symbolic, IsFormed}
use Rattle.sym_state.specs.Values.{IsUnknown}
use Rattle.tree_core.specs.declared.budgets.Budgets.{Budgets}
use Rattle.tree_core.specs.declared.cause.Cause.{Cause}
use Rattle.tree_core.specs.declared.cause.Cause.TheVariants.{Targets as ByTargets}
use Rattle.tree_core.specs.declared.choice.Choice.TheVariants.{Rest, Value as OfValue}
use Rattle.cert_audit.specs.Names.{named_from}
use Rattle.cert_audit.specs.Steps.{IsTaken}
use Rattle.cert_audit.specs.Todos.{IsOthersOf}
use Rattle.cert_audit.specs.Valued.{AreSamples}
use Rattle.cert_audit.specs.declared.todo.Others.{Others}
use Rattle.cert_audit.specs.declared.todo.Todo.TheVariants.{Targets}
use Rattle.cert_audit.specs.Passing.{IsUncut, PassesLeaf, PassesUncut}
use Rattle.cert_audit.proofs.Passed.{all_uncut, one_uncut}
use Rattle.cert_audit.proofs.Quiet.{mapped_quiet}
use Rattle.cert_audit.proofs.Naming.{named_is, named_valued, shorter_valued}

-- the run with another sample
abbrev pub resampled : Symbolic → List ℕ → Symbolic
resampled s sample = record s { sample = sample }

without-resampled : (s : Symbolic) (term : ℕ) (values : List ℕ) (u : Symbolic) (sample : List ℕ) → IsWithout s term values u
    → IsWithout s term values (resampled u sample)
without-resampled s term values u sample is = record {
  ids = is.ids;
  same = ap (λ (r : Symbolic). resampled r sample) is.same;
  continues = is.continues;
  bits = is.bits;
  each = is.each;
  tells = is.tells;
}

-- what is known of the leaf of the side that is cut by targets
abbrev pub IsRestOf : Symbolic → (term : ℕ) → List Found → Part → Type 0
IsRestOf run term found part = (p : Program) (budgets : Budgets) (s : Symbolic) → IsOpen p s → s.steps < budgets.steps → IsFormed s
    → IsUnknown s.terms 32 term → IsWithout s term (values_of found) run → IsSampled run → AreValues s term budgets.targets found
    → length found ≡ budgets.targets
    → IsLeafAt p budgets (map OfValue (values_of found) ++ Rest ∷ []) None (side_place s Rest (has_none s term (values_of found)) ByTargets) part

module _ (budgets : Budgets) (targets : ℕ) (others : Others) (lines rest : List CertLine) (found : List Found) (witness : List ℕ) (part : Part)
    (enough : budgets.targets ≡ targets) (is : AreSamples others targets lines found witness rest) (sample : part.sample ≡ Some witness)
    (cut : IsRestOf (resampled others.rest witness) others.term found part) where
  without-values : (p : Program) → IsOthersOf p budgets others → IsWithout others.fork others.term (values_of found) (resampled others.rest witness)
  without-values p todo =
      without-resampled others.fork others.term (values_of found) others.rest witness
      (subst (λ values. IsWithout others.fork others.term values others.rest) (sym is.values_are) todo.without)

  values-found : (p : Program) → IsOthersOf p budgets others → AreValues others.fork others.term budgets.targets found
  values-found p todo = record {
    increasing = subst AreIncreasing (sym is.values_are) todo.increasing;
    each = is.each;
    few = omega (arith, is.count, enough);
  }

  at_rest : (p : Program) → IsOthersOf p budgets others
      → IsLeafAt p budgets (map OfValue (values_of found) ++ Rest ∷ []) None
      (side_place others.fork Rest (has_none others.fork others.term (values_of found)) ByTargets) part
  at_rest p todo =
      cut p budgets others.fork todo.underway.is_open todo.underway.room is.formed todo.unknown (without-values p todo) is.on_rest (values-found p todo)
      (is.count ∙ sym enough)

  pub taken_targets : IsTaken budgets (Targets others) lines part rest
  taken_targets = record {
    is_leaf = λ p todo.
        let at = at_rest p todo in
        let narrowed = without_narrowed others.fork others.term (values_of found) (resampled others.rest witness) is.formed (without-values p todo) in record {
          is_right = record {
            sides = map OfValue (values_of found) ++ Rest ∷ [];
            nodes = None;
            counted = λ n some. absurd (cc some);
            right = at.right;
          };
          covers_all = λ input. at.covers input ∙ sym (narrowed.covers input);
        };
    named = λ p todo ahead.
        let at = at_rest p todo in
        let choices = others.fork.choices ++ Rest ∷ [] in
        ap (λ all. named_from (record { choices = choices; cut = Some ByTargets } ∷ ahead) all) is.split
        ∙ named_valued choices found witness rest ahead
        ∙ ap (λ name. name ∷ named_from ahead rest) (sym (named_is part choices (Some ByTargets) (Some witness) at.choices at.cut sample));
    shorter = shorter_valued found witness rest lines is.split;
    ends = λ p todo. subst (λ (cut : Option Cause). PassesLeaf cut lines rest) (sym (at_rest p todo).cut)
        (let uncut : PassesUncut lines rest = record {
          passed = map OfFound found ++ Witness witness ∷ [];
          split = is.split ∙ sym (append_assoc (map OfFound found) (Witness witness ∷ []) rest);
          uncut = All-append IsUncut (map OfFound found) (Witness witness ∷ [])
              (all_uncut (map OfFound found) (mapped_quiet OfFound found (λ f. record { names = λ a. refl; keeps = λ a. refl })))
              (one_uncut (Witness witness) (λ same. cc));
        } in uncut);
  }
