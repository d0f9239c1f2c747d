-- The leaves of nodes, as lines name them.
use Rattle.std.proofs.Common.{◌≡◌, ℕ, ◌≤◌, ◌<◌, Bool, List, [], ◌∷◌, ◌++◌, length, refl, ap, subst, sym, ◌∙◌, arith}
use Rattle.std.specs.Prelude.{Option, None, Some}
use Rattle.cert_form.specs.declared.line.CertLine.{CertLine}
use Rattle.cert_form.specs.declared.line.CertLine.TheVariants.{CutNodes, CutSteps, End}
use Rattle.fork_spec.specs.Partings.{Place}
use Rattle.fork_spec.specs.Parts.{Part}
use Rattle.run_leaves.specs.Places.{IsLeafAt, end_place}
use Rattle.sym_machine.specs.Advancing.{IsUnderway, StoppedBy}
use Rattle.sym_machine.specs.declared.stepping.Stop.TheVariants.{Ended as EndedBy, Steps as StepsSpent}
use Rattle.sym_state.specs.Programs.{Program}
use Rattle.sym_state.specs.Runs.{IsEnded, IsOpen, IsSampled}
use Rattle.sym_state.specs.Symbolic.{Symbolic, stands_for}
use Rattle.sym_state.specs.declared.ended.RunEnd.{RunEnd}
use Rattle.tree_core.specs.declared.budgets.Budgets.{Budgets}
use Rattle.tree_core.specs.declared.cause.Cause.{Cause}
use Rattle.tree_core.specs.declared.cause.Cause.TheVariants.{Nodes, Steps}
use Rattle.tree_core.specs.declared.choice.Choice.{Choice}
use Rattle.cert_audit.specs.Names.{Ahead, Named, ahead_behind, named_by, named_from}
use Rattle.cert_audit.specs.Passing.{PassesLeaf, PassesUncut}
use Rattle.cert_audit.specs.Steps.{IsLeafOn, IsNodeLeaf, IsSampledBy, IsUnparted, named_as, node_ahead}
use Rattle.cert_audit.specs.Walks.{cut_of}
use Rattle.cert_audit.proofs.Passed.{one_uncut}

-- a leaf at a place is right there
pub leaf_on : (p : Program) (budgets : Budgets) (sides : List Choice) (nodes : Option ℕ) (place : Place) (covers : List ℕ → Bool) (part : Part)
    → IsLeafAt p budgets sides nodes place part → ((input : List ℕ) → place.covers input ≡ covers input)
    → ((n : ℕ) → nodes ≡ Some n → (n ≡ budgets.nodes) × (place.cut ≡ Some Nodes)) → IsLeafOn p budgets covers part
leaf_on p budgets sides nodes place covers part leaf same counted = record {
  is_right = record {
    sides = sides;
    nodes = nodes;
    counted = λ n is. let parts = counted n is in (parts.0, leaf.cut ∙ parts.1);
    right = leaf.right;
  };
  covers_all = λ input. leaf.covers input ∙ same input;
}

-- the name of a leaf
abbrev leaf_of : List Choice → Option Cause → Option (List ℕ) → Named
leaf_of choices cut sample = record { choices = choices; cut = cut; sample = sample }

pub leaf_name : (choices : List Choice) (cut : Option Cause) (sample : Option (List ℕ)) (part : Part) → part.leaf.choices ≡ choices
    → cut_of part ≡ cut → part.sample ≡ sample → leaf_of choices cut sample ∷ [] ≡ named_as part ∷ []
leaf_name choices cut sample part is_choices is_cut is_sample =
    ap (λ cs. leaf_of cs cut sample ∷ []) (sym is_choices)
    ∙ ap (λ c. leaf_of part.leaf.choices c sample ∷ []) (sym is_cut)
    ∙ ap (λ s. leaf_of part.leaf.choices (cut_of part) s ∷ []) (sym is_sample)

-- a line that names a leaf at what comes next
pub line_names : (next : Ahead) (line : CertLine) (lines rest : List CertLine) (leaf : Named) → lines ≡ line ∷ rest
    → named_by next line ≡ leaf ∷ [] → ahead_behind next line ≡ [] → (ahead : List Ahead)
    → named_from (next ∷ ahead) lines ≡ leaf ∷ named_from ahead rest
unfolding named_from
line_names next line lines rest leaf is names gone ahead =
    ap (named_from (next ∷ ahead)) is
    ∙ ap (λ leaves. leaves ++ named_from (ahead_behind next line ++ ahead) rest) names
    ∙ ap (λ more. leaf ∷ named_from (more ++ ahead) rest) gone

pub one_less : (line : CertLine) (lines rest : List CertLine) → lines ≡ line ∷ rest → length rest < length lines
one_less line lines rest is = subst (λ ls. length rest < length ls) (sym is) (omega arith)

-- none shows how many nodes there were
pub no_nodes : (P : ℕ → Type 0) (n : ℕ) → None ≡ Some n → P n
no_nodes P n is = absurd (cc is)

module _ (budgets : Budgets) (run sampled : Symbolic) (input : List ℕ) (lines rest : List CertLine) (part : Part)
    (by : IsSampledBy run input sampled) (is_sample : part.sample ≡ Some sampled.sample) where
  sample_named : part.sample ≡ Some input
  sample_named = is_sample ∙ ap (λ (s : Symbolic). Some s.sample) by.same

  same_choices : sampled.choices ≡ run.choices
  same_choices = ap (λ (s : Symbolic). s.choices) by.same

  same_cover : (bytes : List ℕ) → stands_for sampled bytes ≡ stands_for run bytes
  same_cover bytes = ap (λ (s : Symbolic). stands_for s bytes) by.same

  same_steps : sampled.steps ≡ run.steps
  same_steps = ap (λ (s : Symbolic). s.steps) by.same

  ended_still : (p : Program) (end : RunEnd) → IsEnded p run end → IsEnded p sampled end
  ended_still p end was = subst (λ (s : Symbolic). IsEnded p s end) (sym by.same) (record {
    inputs = was.inputs;
    few_outputs = was.few_outputs;
    ends = was.ends;
    alike = record { made = was.alike.made; alike = was.alike.alike };
    terms = was.terms;
  })

  open_still : (p : Program) → IsOpen p run → IsOpen p sampled
  open_still p was = subst (IsOpen p) (sym by.same) (record {
    inputs = was.inputs;
    knows = was.knows;
    few_outputs = was.few_outputs;
    sound = was.sound;
    alike = record { made = was.alike.made; alike = was.alike.alike };
    terms = was.terms;
  })

  -- the leaf of a run that has ended
  pub end_leaf : (end : RunEnd) → lines ≡ End input ∷ rest
      → ((p : Program) (within : Budgets) → IsEnded p sampled end → IsSampled sampled → sampled.steps ≤ within.steps
      → IsLeafAt p within [] None (end_place sampled None) part)
      → IsNodeLeaf budgets run (EndedBy end) lines part rest
  end_leaf end is leaf =
      let at : (p : Program) → StoppedBy p budgets.steps run (EndedBy end) → IsLeafAt p budgets [] None (end_place sampled None) part =
      λ p stopped. leaf p budgets (ended_still p end stopped.0) by.sampled (omega (arith, same_steps, stopped.1)) in
      record {
        is_leaf = λ p stopped. leaf_on p budgets [] None (end_place sampled None) (stands_for run) part (at p stopped) same_cover (no_nodes _);
        named = λ p stopped ahead. line_names (node_ahead run) (End input) lines rest (named_as part) is
            (leaf_name run.choices None (Some input) part ((at p stopped).choices ∙ same_choices) (at p stopped).cut sample_named)
            refl ahead;
        shorter = one_less (End input) lines rest is;
        ends = λ p stopped. subst (λ (cut : Option Cause). PassesLeaf cut lines rest) (sym (at p stopped).cut)
            (let uncut : PassesUncut lines rest = record { passed = End input ∷ []; split = is; uncut = one_uncut (End input) (λ same. cc) } in uncut);
      }

  -- the leaf of a run that has spent its steps
  pub steps_leaf : lines ≡ CutSteps input ∷ rest
      → ((p : Program) (within : Budgets) → within.steps ≡ sampled.steps → IsOpen p sampled → IsSampled sampled
      → IsLeafAt p within [] None (end_place sampled (Some Steps)) part)
      → IsNodeLeaf budgets run StepsSpent lines part rest
  steps_leaf is leaf =
      let at : (p : Program) → StoppedBy p budgets.steps run StepsSpent → IsLeafAt p budgets [] None (end_place sampled (Some Steps)) part =
      λ p stopped. leaf p budgets (sym stopped.1 ∙ sym same_steps) (open_still p stopped.0) by.sampled in
      record {
        is_leaf = λ p stopped. leaf_on p budgets [] None (end_place sampled (Some Steps)) (stands_for run) part (at p stopped) same_cover (no_nodes _);
        named = λ p stopped ahead. line_names (node_ahead run) (CutSteps input) lines rest (named_as part) is
            (leaf_name run.choices (Some Steps) (Some input) part ((at p stopped).choices ∙ same_choices) (at p stopped).cut sample_named)
            refl ahead;
        shorter = one_less (CutSteps input) lines rest is;
        ends = λ p stopped. subst (λ (cut : Option Cause). PassesLeaf cut lines rest) (sym (at p stopped).cut)
            (let uncut : PassesUncut lines rest = record { passed = CutSteps input ∷ []; split = is; uncut = one_uncut (CutSteps input) (λ same. cc) } in uncut);
      }

-- the leaf of a run that may not part
pub nodes_leaf : (budgets : Budgets) (run : Symbolic) (nodes : ℕ) (rest : List CertLine) (part : Part) → part.sample ≡ None
    → ((p : Program) (within : Budgets) → run.steps < within.steps → within.nodes ≤ nodes → IsOpen p run
    → IsLeafAt p within [] (Some nodes) (end_place run (Some Nodes)) part)
    → budgets.nodes ≡ nodes → IsUnparted budgets run (CutNodes ∷ rest) part rest
nodes_leaf budgets run nodes rest part no_sample leaf same =
    let at : (p : Program) → IsUnderway p budgets.steps run → IsLeafAt p budgets [] (Some nodes) (end_place run (Some Nodes)) part =
    λ p way. leaf p budgets way.room (omega (arith, same)) way.is_open in
    record {
      is_leaf = λ p way. leaf_on p budgets [] (Some nodes) (end_place run (Some Nodes)) (stands_for run) part (at p way) (λ input. refl)
          (λ n is. let shown : nodes ≡ n = cc is in (sym shown ∙ sym same, refl));
      named = λ p way ahead. line_names (node_ahead run) CutNodes (CutNodes ∷ rest) rest (named_as part) refl
          (leaf_name run.choices (Some Nodes) None part (at p way).choices (at p way).cut no_sample)
          refl ahead;
      shorter = omega arith;
      ends = λ p way. subst (λ (cut : Option Cause). PassesLeaf cut (CutNodes ∷ rest) rest) (sym (at p way).cut) refl;
    }
