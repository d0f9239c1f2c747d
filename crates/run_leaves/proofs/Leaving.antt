-- Leaves: what a symbolic run is where it is left, over only the terms that it stands on.
use Rattle.std.proofs.Common.{◌≡◌, ℕ, ◌*◌, ◌/◌, ◌^◌, ◌%◌, ◌<◌, ◌≤◌, true, ◌&&◌, List, [], ◌∷◌, ◌++◌, drop, get_or, length, map, take, refl, sym, ap, subst, ◌∙◌, arith}
use Rattle.std.specs.Prelude.{All, IfOk, IsTrue, Option, None, Some, Result, Ok, Err}
use Rattle.std.proofs.lemmas.List.{length-map, map-append}
use Rattle.std.proofs.lemmas.List.Elements.{All-append, All-nil, All-cons, All-head, All-push, All-tail}
use Rattle.std.proofs.lemmas.Bool.{and_parts}
use Rattle.bv_dag.specs.BitVectors.{BitVector}
use Rattle.bv_dag.specs.Graphs.{Graph, number_of, width_of}
use Rattle.bv_dag.specs.Queries.{holds}
use Rattle.bv_dag.proofs.TermLaws.{there}
use Rattle.cow_pages.specs.declared.byte.Byte.{Byte}
use Rattle.elf_load.specs.declared.region.Region.{Region}
use Rattle.rv_decode.specs.declared.ends.End.{End}
use Rattle.rv_decode.specs.declared.ends.End.TheVariants.{Exit}
use Rattle.rv_decode.specs.declared.ends.Trap.{Trap}
use Rattle.rv_spec.specs.Memory.{IsAssignment}
use Rattle.rv_spec.specs.Runs.{Run, IsRunOf, run}
use Rattle.term_trees.specs.Growth.{Continues}
use Rattle.term_trees.specs.Trees.{tree_of}
use Rattle.term_trees.proofs.TreeLaws.{tree-grown, value-grown, width-grown}
use Rattle.tree_core.specs.declared.budgets.Budgets.{Budgets}
use Rattle.tree_core.specs.declared.cause.Cause.{Cause}
use Rattle.tree_core.specs.declared.cause.Cause.TheVariants.{Nodes, Steps}
use Rattle.fork_spec.specs.Evidence.{IsSample}
use Rattle.fork_spec.specs.Leaves.{AreBytes, IsByteStatus, IsFull, are_bytes, covers, worth}
use Rattle.fork_spec.specs.Partings.{DecidesAlike}
use Rattle.fork_spec.specs.Parts.{OnNodes, Part}
use Rattle.fork_spec.specs.Runs.{end_on}
use Rattle.fork_spec.specs.declared.end.LeafEnd.{LeafEnd}
use Rattle.fork_spec.specs.declared.end.LeafEnd.TheVariants.{Exits as LeafExits, Traps as LeafTraps, Cut}
use Rattle.fork_spec.proofs.ByteLists.{are_bytes-of}
use Rattle.sym_state.specs.Moves.{IsGrown, MakesByte, MakesTerm, with_terms}
use Rattle.sym_state.specs.Programs.{Program}
use Rattle.sym_state.specs.Runs.{DecidedAlike, IsEnded, IsOpen, IsSampled}
use Rattle.sym_state.specs.Symbolic.{Symbolic, IsFormed, condition_of, stands_for, value_at}
use Rattle.sym_state.specs.Values.{GivesTerm, IsByte, byte_worth, worth_of}
use Rattle.sym_state.proofs.Growing.{Continues-trans, byte_worth-grown, number-grown, width-kept}
use Rattle.sym_state.specs.declared.ended.RunEnd.TheVariants.{Exits, Traps}
use Rattle.sym_state.specs.declared.value.Value.{Value}
use Rattle.sym_state.proofs.Grown.{Continues-refl, IsGrown-trans, bytes-grown}
use Rattle.sym_state.proofs.Tests.{all_true}
use Rattle.run_leaves.specs.Copies.{AreCopies}
use Rattle.run_leaves.specs.Leaving.{AreTermsOfBytes, HasTerms, IsPicked, HasTextRoom, left_as}
use Rattle.run_leaves.specs.Places.{IsLeafAt, end_place}
use Rattle.run_leaves.specs.declared.leaf.LeafTerms.{LeafTerms}
use Rattle.run_leaves.proofs.Copying.{all-copied, copies-back, copies-front, holds-copied}

-- ---- Copies of terms that were there before others were added.
same-each : {A : Type 0} (P : ℕ → Type 0) (f g : ℕ → A) (ids : List ℕ) → All P ids → ((id : ℕ) → P id → f id ≡ g id)
    → map f ids ≡ map g ids
same-each P f g [] all same = refl
same-each P f g (id ∷ ids) all same =
    cc (same id (All-head P id ids all), same-each P f g ids (All-tail P id ids all) same)

pub copies-before : (f g h : Graph) (ids copies : List ℕ) → Continues f g → All (λ id. id < length f.nodes) ids
    → AreCopies g ids h copies → AreCopies f ids h copies
copies-before f g h ids copies grown within is = record {
  inputs = is.inputs ∙ grown.inputs;
  trees = is.trees ∙ same-each (λ id. id < length f.nodes) (tree_of g) (tree_of f) ids within (λ id below. tree-grown f g id grown below);
  widths = is.widths ∙ same-each (λ id. id < length f.nodes) (width_of g) (width_of f) ids within (λ id below. width-grown f g id grown below);
  numbers = λ input. is.numbers input
      ∙ same-each (λ id. id < length f.nodes) (λ id. number_of g id input) (λ id. number_of f id input) ids within
      (λ id below. ap (λ (x : BitVector). x.number) (value-grown f g id input grown below));
}

conditions_there : (s : Symbolic) → IsFormed s → All (λ id. id < length s.terms.nodes) s.condition
conditions_there s formed = λ k d below. there s.terms _ 1 (formed.bits k d below) (omega arith)

terms-before : (s : Symbolic) (g : Graph) (t : LeafTerms) → IsFormed s → Continues s.terms g → HasTerms (with_terms s g) t
    → HasTerms s t
terms-before s g t formed grown has = record {
  is_dag = has.is_dag;
  few_nodes = has.few_nodes;
  condition = copies-before s.terms g t.condition.graph s.condition t.condition.asserted grown (conditions_there s formed) has.condition;
  outputs = record {
    eight_bits = has.outputs.eight_bits;
    worth = λ input bytes. has.outputs.worth input bytes ∙ bytes-grown s.terms g input s.output grown formed.bytes;
  };
}

-- a leaf has the terms of the run before more of them were made
pub terms_before : (s new : Symbolic) (t : LeafTerms) → IsGrown s new → HasTerms new t → HasTerms s t
terms_before s new t grown has =
    terms-before s new.terms t grown.before grown.continues (subst (λ (r : Symbolic). HasTerms r t) grown.same has)

copied-outputs : (s : Symbolic) (g : Graph) (ids : List ℕ) (t : LeafTerms) → AreTermsOfBytes s.terms s.output g ids
    → AreCopies g ids t.condition.graph t.outputs.items → AreTermsOfBytes s.terms s.output t.condition.graph t.outputs.items
copied-outputs s g ids t are copies = record {
  eight_bits = all-copied g t.condition.graph 8 ids t.outputs.items copies.widths are.eight_bits;
  worth = λ input bytes. copies.numbers input ∙ are.worth input bytes;
}

-- what was picked once the terms of its output were made
pub picked_terms : (s new : Symbolic) (ids besides : List ℕ) (t : LeafTerms) → IsGrown s new → AreTermsOfBytes s.terms s.output new.terms ids
    → IsPicked new ids besides t → HasTerms s t
picked_terms s new ids besides t grown are picked = record {
  is_dag = picked.is_dag;
  few_nodes = picked.few_nodes;
  condition = copies-before s.terms new.terms t.condition.graph s.condition t.condition.asserted grown.continues
      (conditions_there s grown.before)
      (subst (λ (r : Symbolic). AreCopies new.terms r.condition t.condition.graph t.condition.asserted) grown.same picked.condition);
  outputs = copied-outputs s new.terms ids t are picked.outputs;
}

-- ---- What such a leaf is.
same-lengths : {A B : Type 0} (f : A → ℕ) (g : B → ℕ) (xs : List A) (ys : List B) → map f xs ≡ map g ys → length xs ≡ length ys
same-lengths f g xs ys is = sym (length-map xs f) ∙ ap length is ∙ length-map ys g

module _ (s : Symbolic) (t : LeafTerms) (has : HasTerms s t) where
  pub holds-left : (input : List ℕ) → holds t.condition input ≡ holds (condition_of s) input
  holds-left input = holds-copied s.terms t.condition.graph s.condition t.condition.asserted input has.condition

  stands : (regions : List Region) (input : List ℕ) → IsAssignment regions input → holds t.condition input ≡ true
      → stands_for s input ≡ true
  stands regions input assigned covered = all_true _ _ (are_bytes-of input assigned.1) (sym (holds-left input) ∙ covered)

  as_many : length t.outputs.items ≡ length s.output
  as_many =
      same-lengths (λ id. number_of t.condition.graph id []) (byte_worth s.terms []) t.outputs.items s.output
      (has.outputs.worth [] (All-nil (λ b. b < 256)))

  pub full-left : (end : LeafEnd) → IsFormed s → HasTextRoom s → IsByteStatus t.condition.graph end → IsFull (left_as s t end)
  full-left end formed writable status = record {
    is_dag = has.is_dag;
    bits = all-copied s.terms t.condition.graph 1 s.condition t.condition.asserted has.condition.widths formed.bits;
    status = status;
    bytes = has.outputs.eight_bits;
    small_choices = formed.choices;
    small_path = formed.path;
    few_steps = omega (arith, formed.few_steps);
    few_inputs = omega (arith, has.condition.inputs, writable.few_inputs);
    few_nodes = has.few_nodes;
    few_outputs = omega (arith, as_many, writable.few_outputs);
  }

  -- the run of each assignment is as the leaf says
  pub runs-left : (p : Program) (end : LeafEnd)
      → ((input : List ℕ) → All (λ b. b < 256) input → stands_for s input ≡ true
      → IsRunOf (run p.image p.regions input s.steps) s.steps s.path (end_on (left_as s t end) input end) (map (byte_worth s.terms input) s.output))
      → (input : List ℕ) → IsAssignment p.regions input → IsTrue (covers (left_as s t end) input)
      → IsRunOf (run p.image p.regions input s.steps) s.steps s.path (end_on (left_as s t end) input end) (map (worth (left_as s t end) input) t.outputs.items)
  runs-left p end runs input assigned covered =
      subst (λ ns. IsRunOf (run p.image p.regions input s.steps) s.steps s.path (end_on (left_as s t end) input end) ns)
      (sym (has.outputs.worth input assigned.1)) (runs input assigned.1 (stands p.regions input assigned covered))

  pub alike-left : (p : Program) (end : LeafEnd) → DecidedAlike p s → DecidesAlike p.image p.regions (left_as s t end)
  alike-left p end was = λ a b assigned_a on_a assigned_b on_b.
      was.alike a (stands p.regions a assigned_a on_a) ∙ sym (was.alike b (stands p.regions b assigned_b on_b))

  pub sample-left : (regions : List Region) (end : LeafEnd) → IsFormed s → IsAssignment regions s.sample → stands_for s s.sample ≡ true
      → IsSample regions (left_as s t end) s.sample
  sample-left regions end formed assigned sampled =
      (assigned, holds-left s.sample ∙ (and_parts (are_bytes s.sample) _ sampled).1)

  assigned : (p : Program) (count : ℕ) → IsFormed s → s.terms.inputs ≡ count → length s.sample ≡ count
  assigned p count formed inputs = formed.each_input ∙ inputs

-- the leaf with its sample, as it is made
abbrev pub left_part : Symbolic → LeafTerms → LeafEnd → Part
left_part s t end = record { leaf = left_as s t end; sample = Some s.sample; evidence = None }

-- terms are all that was added
left-same : (s new : Symbolic) (t : LeafTerms) (end : LeafEnd) → IsGrown s new → left_part new t end ≡ left_part s t end
left-same s new t end grown = ap (λ (r : Symbolic). left_part r t end) grown.same

pub full_as : (s new : Symbolic) (t : LeafTerms) (end : LeafEnd) → IsGrown s new → IsFull (left_as s t end)
    → IsFull (left_as new t end)
full_as s new t end grown full = subst (λ (part : Part). IsFull part.leaf) (sym (left-same s new t end grown)) full

pub ends_as : (p : Program) (budgets : Budgets) (cut : Option Cause) (s new : Symbolic) (t : LeafTerms) (end : LeafEnd) → IsGrown s new
    → IsLeafAt p budgets [] None (end_place s cut) (left_part s t end)
    → IsLeafAt p budgets [] None (end_place s cut) (left_part new t end)
ends_as p budgets cut s new t end grown is =
    subst (IsLeafAt p budgets [] None (end_place s cut)) (sym (left-same s new t end grown)) is

-- ---- A run that has spent its steps.
pub still_runs : (p : Program) (s : Symbolic) (input : List ℕ) → IsOpen p s → stands_for s input ≡ true
    → IsRunOf (run p.image p.regions input s.steps) s.steps s.path None (map (byte_worth s.terms input) s.output)
still_runs p s input was stood =
    subst (λ (r : Run). IsRunOf r s.steps s.path None (map (byte_worth s.terms input) s.output)) (sym (was.sound input stood))
    (record { all_steps = refl; same_path = refl; same_end = refl; same_output = refl })

pub still_left : (p : Program) (s : Symbolic) (t : LeafTerms) (end : LeafEnd) → HasTerms s t → IsOpen p s
    → ((input : List ℕ) → end_on (left_as s t end) input end ≡ None)
    → (input : List ℕ) → IsAssignment p.regions input → IsTrue (covers (left_as s t end) input)
    → IsRunOf (run p.image p.regions input s.steps) s.steps s.path (end_on (left_as s t end) input end) (map (worth (left_as s t end) input) t.outputs.items)
still_left p s t end has was none =
    runs-left s t has p end (λ input bytes stood.
    subst (λ e. IsRunOf (run p.image p.regions input s.steps) s.steps s.path e (map (byte_worth s.terms input) s.output)) (sym (none input))
    (still_runs p s input was stood))

pub cut_whole : (p : Program) (budgets : Budgets) (s : Symbolic) (t : LeafTerms) → HasTerms s t → IsFormed s → HasTextRoom s → budgets.steps ≡ s.steps
    → IsOpen p s → IsSampled s → IsLeafAt p budgets [] None (end_place s (Some Steps)) (left_part s t (Cut Steps))
cut_whole p budgets s t has formed writable spent was sampled = record {
  choices = refl;
  covers = λ input. ap (λ b. are_bytes input && b) (holds-left s t has input);
  right = record {
    full = full-left s t has (Cut Steps) formed writable tt;
    inputs = has.condition.inputs ∙ was.inputs;
    faithful = record { within = sym spent; runs = still_left p s t (Cut Steps) has was (λ input. refl) };
    alike = alike-left s t has p (Cut Steps) was.alike;
    shown = sample-left s t has p.regions (Cut Steps) formed (formed.each_input ∙ was.inputs, formed.sample_bytes) sampled;
  };
  cut = refl;
}

-- ---- A run that may not part, since there are so many nodes.
-- its leaf: what shows it is how many there are
abbrev pub nodes_part : Symbolic → LeafTerms → ℕ → Part
nodes_part s t nodes = record { leaf = left_as s t (Cut Nodes); sample = None; evidence = Some (OnNodes nodes) }

nodes-whole : (p : Program) (budgets : Budgets) (nodes : ℕ) (s : Symbolic) (t : LeafTerms) → HasTerms s t → IsFormed s → HasTextRoom s
    → s.steps < budgets.steps → budgets.nodes ≤ nodes → IsOpen p s
    → IsLeafAt p budgets [] (Some nodes) (end_place s (Some Nodes)) (nodes_part s t nodes)
nodes-whole p budgets nodes s t has formed writable few full was = record {
  choices = refl;
  covers = λ input. ap (λ b. are_bytes input && b) (holds-left s t has input);
  right = record {
    full = full-left s t has (Cut Nodes) formed writable tt;
    inputs = has.condition.inputs ∙ was.inputs;
    faithful = record { within = few; runs = still_left p s t (Cut Nodes) has was (λ input. refl) };
    alike = alike-left s t has p (Cut Nodes) was.alike;
    shown = (refl, full);
  };
  cut = refl;
}

-- terms are all that was added
pub nodes_whole : (p : Program) (budgets : Budgets) (nodes : ℕ) (s new : Symbolic) (t : LeafTerms) → IsGrown s new → HasTerms s t
    → HasTextRoom s → s.steps < budgets.steps → budgets.nodes ≤ nodes → IsOpen p s
    → IsLeafAt p budgets [] (Some nodes) (end_place s (Some Nodes)) (nodes_part new t nodes)
nodes_whole p budgets nodes s new t grown has writable few full was =
    subst (λ (r : Symbolic). IsLeafAt p budgets [] (Some nodes) (end_place s (Some Nodes)) (nodes_part r t nodes)) (sym grown.same)
    (nodes-whole p budgets nodes s t has grown.before writable few full was)

-- ---- A run whose runs have all ended.
pub trapped_whole : (p : Program) (budgets : Budgets) (s : Symbolic) (t : LeafTerms) (trap : Trap) → HasTerms s t → IsFormed s
    → HasTextRoom s → IsEnded p s (Traps trap) → IsSampled s → s.steps ≤ budgets.steps
    → IsLeafAt p budgets [] None (end_place s None) (left_part s t (LeafTraps trap))
trapped_whole p budgets s t trap has formed writable was sampled within = record {
  choices = refl;
  covers = λ input. ap (λ b. are_bytes input && b) (holds-left s t has input);
  right = record {
    full = full-left s t has (LeafTraps trap) formed writable tt;
    inputs = has.condition.inputs ∙ was.inputs;
    faithful = record {
      within = within;
      runs = runs-left s t has p (LeafTraps trap) (λ input bytes stood. was.ends input stood);
    };
    alike = alike-left s t has p (LeafTraps trap) was.alike;
    shown = sample-left s t has p.regions (LeafTraps trap) formed (formed.each_input ∙ was.inputs, formed.sample_bytes) sampled;
  };
  cut = refl;
}

-- the term is the status on every assignment
pub record IsStatus (s : Symbolic) (g : Graph) (status : ℕ) : Type 0 where
  pub byte : width_of g status ≡ 8
  pub worth : (input : List ℕ) → All (λ b. b < 256) input → number_of g status input ≡ worth_of s.terms input (value_at s.registers 10) % 256

pub exited_whole : (p : Program) (budgets : Budgets) (s : Symbolic) (t : LeafTerms) (status : ℕ) → HasTerms s t → IsFormed s
    → HasTextRoom s → IsEnded p s Exits → IsSampled s → IsStatus s t.condition.graph status → s.steps ≤ budgets.steps
    → IsLeafAt p budgets [] None (end_place s None) (left_part s t (LeafExits status))
exited_whole p budgets s t status has formed writable was sampled is within = record {
  choices = refl;
  covers = λ input. ap (λ b. are_bytes input && b) (holds-left s t has input);
  right = record {
    full = full-left s t has (LeafExits status) formed writable is.byte;
    inputs = has.condition.inputs ∙ was.inputs;
    faithful = record {
      within = within;
      runs = runs-left s t has p (LeafExits status) (λ input bytes stood.
          subst (λ (e : Option End). IsRunOf (run p.image p.regions input s.steps) s.steps s.path e (map (byte_worth s.terms input) s.output))
          (ap (λ n. Some (Exit n)) (sym (is.worth input bytes))) (was.ends input stood));
    };
    alike = alike-left s t has p (LeafExits status) was.alike;
    shown = sample-left s t has p.regions (LeafExits status) formed (formed.each_input ∙ was.inputs, formed.sample_bytes) sampled;
  };
  cut = refl;
}

-- ---- The one term that was picked besides.
pub first_width : (old new : Graph) (term d : ℕ) (copies : List ℕ) → AreCopies old (term ∷ []) new copies
    → width_of new (get_or copies 0 d) ≡ width_of old term
first_width old new term d [] is = absurd (cc is.widths)
first_width old new term d (c ∷ cs) is = let first : width_of new c ≡ width_of old term = cc is.widths in first

pub first_number : (old new : Graph) (term d : ℕ) (copies input : List ℕ) → AreCopies old (term ∷ []) new copies
    → number_of new (get_or copies 0 d) input ≡ number_of old term input
first_number old new term d [] input is = absurd (cc is.widths)
first_number old new term d (c ∷ cs) input is =
    let first : number_of new c input ≡ number_of old term input = cc (is.numbers input) in first

pub first_there : (old new : Graph) (term : ℕ) (copies : List ℕ) → AreCopies old (term ∷ []) new copies → 0 < length copies
first_there old new term [] is = absurd (cc is.widths)
first_there old new term (c ∷ cs) is = omega arith

-- the status that was made, where it was picked
pub status_picked : (s : Symbolic) (made : Symbolic) (g : Graph) (status d : ℕ) (copies : List ℕ)
    → MakesTerm s made 8 status (λ input. worth_of s.terms input (value_at s.registers 10) % 256)
    → AreCopies made.terms (status ∷ []) g copies → IsStatus s g (get_or copies 0 d)
status_picked s made g status d copies makes is = record {
  byte = first_width made.terms g status d copies is ∙ makes.gives.width;
  worth = λ input bytes. first_number made.terms g status d copies input is ∙ makes.gives.worth input bytes;
}

-- ---- What was picked for a leaf, apart.
pub picked_there : (s : Symbolic) (outputs more : List ℕ) → IsFormed s → AreBytes s.terms outputs → All (λ id. id < length s.terms.nodes) more
    → All (λ id. id < length s.terms.nodes) ((s.condition ++ outputs) ++ more)
picked_there s outputs more formed bytes within =
    All-append (λ id. id < length s.terms.nodes) (s.condition ++ outputs) more
    (All-append (λ id. id < length s.terms.nodes) s.condition outputs (conditions_there s formed)
    (λ k d below. there s.terms _ 8 (bytes k d below) (omega arith))) within

-- copies of the condition, of the outputs and of what is behind them
pub record ArePartsOf (s : Symbolic) (outputs more : List ℕ) (g : Graph) (one two three : List ℕ) : Type 0 where
  pub asserted : AreCopies s.terms s.condition g one
  pub written : AreCopies s.terms outputs g two
  pub besides : AreCopies s.terms more g three

pub parts_picked : (s : Symbolic) (outputs more : List ℕ) (g : Graph) (ids : List ℕ) (at end : ℕ)
    → at ≡ length s.condition → end ≡ length (s.condition ++ outputs) → AreCopies s.terms ((s.condition ++ outputs) ++ more) g ids
    → ArePartsOf s outputs more g (take at (take end ids)) (drop at (take end ids)) (drop end ids)
parts_picked s outputs more g ids at end is_at is_end is =
    let front : AreCopies s.terms (s.condition ++ outputs) g (take end ids)
    = subst (λ n. AreCopies s.terms (s.condition ++ outputs) g (take n ids)) (sym is_end) (copies-front s.terms g (s.condition ++ outputs) more ids is) in record {
      asserted = subst (λ n. AreCopies s.terms s.condition g (take n (take end ids))) (sym is_at) (copies-front s.terms g s.condition outputs (take end ids) front);
      written = subst (λ n. AreCopies s.terms outputs g (drop n (take end ids))) (sym is_at) (copies-back s.terms g s.condition outputs (take end ids) front);
      besides = subst (λ n. AreCopies s.terms more g (drop n ids)) (sym is_end) (copies-back s.terms g (s.condition ++ outputs) more ids is);
    }

-- ---- The terms of the bytes written, one after the other.
pub grown_none : (s : Symbolic) → IsFormed s → IsGrown s s
grown_none s formed = record { before = formed; same = refl; continues = Continues-refl s.terms; formed = formed }

pub no_terms : (g : Graph) → AreTermsOfBytes g [] g []
no_terms g = record { eight_bits = All-nil (λ id. width_of g id ≡ 8); worth = λ input bytes. refl }

bytes-kept : (g h : Graph) (ids : List ℕ) → Continues g h → AreBytes g ids → AreBytes h ids
bytes-kept g h ids grown bytes = λ k d below. width-kept g h _ 8 grown (bytes k d below) (omega arith)

numbers-kept : (g h : Graph) (ids input : List ℕ) → Continues g h → AreBytes g ids
    → map (λ id. number_of h id input) ids ≡ map (λ id. number_of g id input) ids
numbers-kept g h ids input grown bytes =
    same-each (λ id. width_of g id ≡ 8) (λ id. number_of h id input) (λ id. number_of g id input) ids bytes
    (λ id wide. number-grown g h id 8 input grown wide (omega arith))

-- one byte more
pub terms-more : (f g h : Graph) (bytes : List Byte) (byte : Byte) (ids : List ℕ) (id : ℕ) → Continues f g → IsByte f byte
    → AreTermsOfBytes f bytes g ids → GivesTerm g h 8 id (λ input. byte_worth g input byte)
    → AreTermsOfBytes f (bytes ++ byte ∷ []) h (ids ++ id ∷ [])
terms-more f g h bytes byte ids id grown is are gives = record {
  eight_bits = All-push (λ i. width_of h i ≡ 8) ids id (bytes-kept g h ids gives.continues are.eight_bits) gives.width;
  worth = λ input small.
      map-append (λ i. number_of h i input) ids (id ∷ [])
      ∙ cc (
        numbers-kept g h ids input gives.continues are.eight_bits ∙ are.worth input small,
        gives.worth input small ∙ byte_worth-grown f g input byte grown is,
      )
      ∙ sym (map-append (byte_worth f input) bytes (byte ∷ []));
}

-- what holds of a leaf holds of what was answered
pub leaf_ok : {E : Type 0} (r : Result Part E) (part : Part) (Q : Part → Type 0) → IfOk r (λ made. made ≡ part) → Q part → IfOk r Q
leaf_ok (Ok made) part Q is holds = subst Q (sym is) holds
leaf_ok (Err e) part Q is holds = tt

pub picked_terms_ok : {E : Type 0} (r : Result LeafTerms E) (s new : Symbolic) (ids besides : List ℕ) → IsGrown s new
    → AreTermsOfBytes s.terms s.output new.terms ids → IfOk r (IsPicked new ids besides) → IfOk r (HasTerms s)
picked_terms_ok (Ok t) s new ids besides grown are is = picked_terms s new ids besides t grown are is
picked_terms_ok (Err e) s new ids besides grown are is = tt

pub picked_more_ok : {E : Type 0} (r : Result LeafTerms E) (s new : Symbolic) (ids besides : List ℕ) → IsGrown s new
    → All (λ id. id < length s.terms.nodes) besides → IfOk r (IsPicked new ids besides)
    → IfOk r (λ t. AreCopies s.terms besides t.condition.graph t.more.items)
picked_more_ok (Ok t) s new ids besides grown within is =
    copies-before s.terms new.terms t.condition.graph besides t.more.items grown.continues within is.more
picked_more_ok (Err e) s new ids besides grown within is = tt

-- ---- The status of an exit.
low : (n : ℕ) → n / 2 ^ (8 * 0) % 2 ^ 8 ≡ n % 256
low n = omega arith

pub status_made : {E : Type 0} (r : Result ℕ E) (s mid new : Symbolic) (v : Value) (byte : Byte) → v ≡ value_at s.registers 10
    → MakesByte s mid byte (λ input. worth_of s.terms input v / 2 ^ (8 * 0) % 2 ^ 8)
    → IfOk r (λ id. MakesTerm mid new 8 id (λ input. byte_worth mid.terms input byte))
    → IfOk r (λ id. MakesTerm s new 8 id (λ input. worth_of s.terms input (value_at s.registers 10) % 256))
status_made (Err e) s mid new v byte is made term = tt
status_made (Ok id) s mid new v byte is made term = record {
  grown = IsGrown-trans s mid new made.grown term.grown;
  gives = record {
    continues = Continues-trans made.gives.continues term.gives.continues;
    width = term.gives.width;
    worth = λ input bytes. term.gives.worth input bytes ∙ made.gives.worth input bytes
        ∙ ap (λ x. worth_of s.terms input x / 2 ^ (8 * 0) % 2 ^ 8) is ∙ low (worth_of s.terms input (value_at s.registers 10));
  };
}

pub status_there : (s made : Symbolic) (status : ℕ)
    → MakesTerm s made 8 status (λ input. worth_of s.terms input (value_at s.registers 10) % 256)
    → All (λ id. id < length made.terms.nodes) (status ∷ [])
status_there s made status is =
    All-cons (λ id. id < length made.terms.nodes) status [] (there made.terms status 8 is.gives.width (omega arith)) (All-nil (λ id. id < length made.terms.nodes))

-- ---- Parts of a list that was split twice.
pub parts_split : (s : Symbolic) (outputs more : List ℕ) (g : Graph) (ids same front again one two three : List ℕ) (at end : ℕ)
    → at ≡ length s.condition → end ≡ length (s.condition ++ outputs) → AreCopies s.terms ((s.condition ++ outputs) ++ more) g ids
    → same ≡ ids → front ≡ take end same → three ≡ drop end same → again ≡ front → one ≡ take at again → two ≡ drop at again
    → ArePartsOf s outputs more g one two three
parts_split s outputs more g ids same front again one two three at end is_at is_end is same_is front_is three_is again_is one_is two_is =
    let first = again_is ∙ front_is ∙ ap (take end) same_is in
    subst (λ xs. ArePartsOf s outputs more g xs two three) (sym (one_is ∙ ap (take at) first))
    (subst (λ xs. ArePartsOf s outputs more g (take at (take end ids)) xs three) (sym (two_is ∙ ap (drop at) first))
    (subst (λ xs. ArePartsOf s outputs more g (take at (take end ids)) (drop at (take end ids)) xs) (sym (three_is ∙ ap (drop end) same_is))
    (parts_picked s outputs more g ids at end is_at is_end is)))
