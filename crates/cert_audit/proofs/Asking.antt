-- Sides that are cut by conflicts.
use Rattle.std.proofs.Common.{◌≡◌, ℕ, ◌+◌, ◌-◌, ◌<◌, Bool, false, List, [], ◌∷◌, ◌++◌, get_or, length, map, take, refl, sym, ap, subst, ◌∙◌, arith}
use Rattle.std.specs.Prelude.{Option, None, Some, Contains, IfOk, Result, Ok, Err}
use Rattle.std.specs.List.{slice_get}
use Rattle.std.proofs.lemmas.Grind.{take_at_read}
use Rattle.std.proofs.lemmas.List.{take_all}
use Rattle.std.proofs.lemmas.List.Elements.{Contains-append_right}
use Rattle.std.proofs.lemmas.Option.{slice_get-get_or}
use Rattle.bv_dag.specs.Graphs.{Graph, IsDag}
use Rattle.bv_dag.specs.Queries.{AreBits, Condition}
use Rattle.cert_form.specs.declared.line.CertLine.{CertLine}
use Rattle.cert_form.specs.declared.line.CertLine.TheVariants.{Clause}
use Rattle.cert_query.specs.QuestionLines.{question_lines}
use Rattle.cert_query.specs.Spending.{IsSpentBy}
use Rattle.circuit_spec.specs.Budgets.{IsSpent}
use Rattle.fork_spec.specs.Evidence.{Learnt}
use Rattle.fork_spec.specs.Parts.{Part}
use Rattle.query_pick.proofs.Lists.{Contains-here}
use Rattle.query_slice.proofs.SliceTrees.{slice_of_trees}
use Rattle.query_slice.specs.Slices.{IsCut}
use Rattle.run_leaves.specs.Learning.{IsLearntFor}
use Rattle.run_leaves.specs.Places.{IsLeafAt, side_place}
use Rattle.sym_state.specs.Narrowed.{IsNarrowed}
use Rattle.sym_state.specs.Programs.{Program}
use Rattle.sym_state.specs.Runs.{IsOpen}
use Rattle.sym_state.specs.Symbolic.{Symbolic, IsFormed, condition_of}
use Rattle.term_trees.specs.TreeSlices.{IsPartFor}
use Rattle.tree_core.specs.declared.budgets.Budgets.{Budgets}
use Rattle.tree_core.specs.declared.cause.Cause.{Cause}
use Rattle.tree_core.specs.declared.cause.Cause.TheVariants.{Conflicts as ByConflicts}
use Rattle.tree_core.specs.declared.choice.Choice.{Choice}
use Rattle.cert_audit.specs.Asking.{AskTheSame, IsLast, IsLastPart, IsLearntIn}
use Rattle.cert_audit.specs.Names.{named_from}
use Rattle.cert_audit.specs.ProofFaults.{IsNotExcluded, IsNotTried}
use Rattle.cert_audit.specs.Steps.{IsTaken}
use Rattle.cert_audit.specs.declared.conflicts.LearntLines.{LearntLines}
use Rattle.cert_audit.specs.declared.todo.Asked.{Asked}
use Rattle.cert_audit.specs.declared.todo.Todo.TheVariants.{Conflicts}
use Rattle.cert_audit.specs.Passing.{PassesLeaf}
use Rattle.cert_audit.proofs.Passed.{asked_uncut}
use Rattle.cert_audit.proofs.Naming.{named_asked, named_is, shorter_asked}

-- the last of some numbers, and those before it
last_apart : (xs : List ℕ) (x : ℕ) → Some x ≡ slice_get xs (length xs - 1) → (front : List ℕ) × (xs ≡ front ++ x ∷ [])
last_apart [] x is = absurd (cc is)
last_apart (y ∷ ys) x is =
    let xs = y ∷ ys in
    let at = length xs - 1 in
    let within : at < length xs = omega arith in
    let whole : at + 1 ≡ length xs = omega arith in
    let read : Some x ≡ Some (get_or xs at x) = is ∙ slice_get-get_or xs at x within in
    let same : x ≡ get_or xs at x = cc read in (
      take at xs,
      sym (take_all (at + 1) xs (omega (arith, whole))) ∙ (take_at_read xs at x within).1 ∙ ap (λ v. take at xs ++ v ∷ []) (sym same),
    )

-- a slice of a condition is one of the run that has it
pub cut_of_run : (s : Symbolic) (g : Graph) (ids : List ℕ) (x : ℕ) (part : Condition) → g ≡ s.terms → ids ≡ s.condition
    → IsCut (record { graph = g; asserted = ids }) x part → IsCut (condition_of s) x part
cut_of_run s g ids x part terms condition cut =
    subst (λ h. IsCut (record { graph = h; asserted = s.condition }) x part) terms
    (subst (λ xs. IsCut (record { graph = g; asserted = xs }) x part) condition cut)

-- a slice of a run's condition for its last assertion
pub last_part_is : (s : Symbolic) (x : ℕ) (part : Condition) → IsLast s.condition x → IsCut (condition_of s) x part → IsLastPart (condition_of s) part
last_part_is s x part apart whole =
    let there : Contains s.condition x = subst (λ xs. Contains xs x) (sym apart.1) (Contains-append_right apart.0 (x ∷ []) x (Contains-here x [] x refl)) in record {
      front = apart.0;
      last = x;
      asserted = apart.1;
      matters = record { inputs = whole.slice.inputs; slice = slice_of_trees (condition_of s) x part there whole.slice };
    }

pub last_is : (s : Symbolic) (g : Graph) (ids same : List ℕ) (x : ℕ) (part : Condition) → g ≡ s.terms → ids ≡ s.condition → same ≡ s.condition
    → Some x ≡ slice_get same (length same - 1) → IsCut (record { graph = g; asserted = ids }) x part → IsLastPart (condition_of s) part
last_is s g ids same x part terms condition again last cut =
    let apart = last_apart s.condition x (subst (λ xs. Some x ≡ slice_get xs (length xs - 1)) again last) in
    last_part_is s x part apart (cut_of_run s g ids x part terms condition cut)

-- values of its one byte that were tried in vain, or two bytes
pub not_tried_ok : {E : Type 0} (r : Result Bool E) (s : Symbolic) (x : ℕ) (part : Condition) → IsCut (condition_of s) x part
    → IfOk r (λ b. b ≡ false → IsNotExcluded part) → IfOk r (λ b. b ≡ false → IsLast s.condition x → IsNotTried (condition_of s))
not_tried_ok (Err e) s x part cut is = tt
not_tried_ok (Ok excluded) s x part cut is = λ open_still last. record { part = part; is_part = last_part_is s x part last cut; not_excluded = is open_still }

-- a question that asks the same is the same part of the condition
pub same_part : (q part other : Condition) (new : ℕ) → AskTheSame part other → IsPartFor q new part → IsPartFor q new other
same_part q part other new same is = record {
  inputs = sym same.one_less.inputs ∙ is.inputs;
  slice = λ t. (
    λ there. (is.slice t).0 (same.other_less.trees t there),
    λ reached. same.one_less.trees t ((is.slice t).1 reached),
  );
}

-- what was learnt for such a question was learnt for the condition's last assertion
pub learnt_in : (q part : Condition) (conflicts : ℕ) (lines behind rest : List CertLine) (learnt : Learnt) → IsLastPart q part
    → AskTheSame part learnt.question → IsDag learnt.question.graph → AreBits learnt.question.graph learnt.question.asserted
    → IsSpent learnt.question conflicts learnt.log → lines ≡ question_lines learnt.question ++ behind
    → behind ≡ map Clause learnt.log ++ rest → IsLearntIn q conflicts lines learnt rest
learnt_in q part conflicts lines behind rest learnt last same dag bits spent first second = record {
  learning = record {
    front = last.front;
    last = last.last;
    asserted = last.asserted;
    is_dag = dag;
    bits = bits;
    part = same_part q part learnt.question last.last same last.matters;
    spent = spent;
  };
  split = first ∙ ap (λ more. question_lines learnt.question ++ more) second;
}

pub learnt_ok : {E F : Type 0} (r : Result (Result LearntLines F) E) (q part query : Condition) (conflicts : ℕ) (lines behind : List CertLine)
    → IsLastPart q part → AskTheSame part query → IsDag query.graph → AreBits query.graph query.asserted → lines ≡ question_lines query ++ behind
    → IfOk r (λ taken. IfOk taken (λ (l : LearntLines). l.learnt.question ≡ query))
    → IfOk r (λ taken. IfOk taken (λ (l : LearntLines). IsSpentBy query conflicts behind l.learnt.log l.rest.now))
    → IfOk r (λ taken. IfOk taken (λ (l : LearntLines). IsLearntIn q conflicts lines l.learnt l.rest.now))
learnt_ok (Err e) q part query conflicts lines behind last same dag bits first is spent = tt
learnt_ok (Ok (Err f)) q part query conflicts lines behind last same dag bits first is spent = tt
learnt_ok (Ok (Ok l)) q part query conflicts lines behind last same dag bits first is spent =
    let back = λ (P : Condition → Type 0). subst P (sym is) in
    learnt_in q part conflicts lines behind l.rest.now l.learnt last
    (back (λ k. AskTheSame part k) same) (back (λ k. IsDag k.graph) dag) (back (λ k. AreBits k.graph k.asserted) bits)
    (back (λ k. IsSpent k conflicts l.learnt.log) spent.spent) (back (λ k. lines ≡ question_lines k ++ behind) first) spent.lines_are.split

-- what is known of the leaf of a side that is cut by conflicts
abbrev pub IsCutOn : Symbolic → Choice → Learnt → Part → Type 0
IsCutOn run choice learnt part = (p : Program) (budgets : Budgets) (sides : List Choice) (s : Symbolic) (test : List ℕ → Bool)
    → IsOpen p s → s.steps < budgets.steps → IsFormed s → IsNarrowed s run test → IsLearntFor budgets.conflicts (condition_of run) learnt
    → IsLeafAt p budgets sides None (side_place s choice test ByConflicts) part

pub taken_conflicts : (budgets : Budgets) (conflicts : ℕ) (asked : Asked) (lines rest : List CertLine) (learnt : Learnt) (part : Part)
    → budgets.conflicts ≡ conflicts → IsLearntIn (condition_of asked.run) conflicts lines learnt rest → part.sample ≡ None
    → IsCutOn asked.run asked.choice learnt part → IsTaken budgets (Conflicts asked) lines part rest
taken_conflicts budgets conflicts asked lines rest learnt part enough is sample cut =
    let learning = subst (λ n. IsLearntFor n (condition_of asked.run) learnt) (sym enough) is.learning in record {
      is_leaf = λ p todo.
          let at = cut p budgets [] todo.fork todo.test todo.underway.is_open todo.underway.room todo.formed todo.narrowed learning in record {
            is_right = record { sides = []; nodes = None; counted = λ n some. absurd (cc some); right = at.right };
            covers_all = λ input. at.covers input ∙ sym (todo.narrowed.covers input);
          };
      named = λ p todo ahead.
          let at = cut p budgets [] todo.fork todo.test todo.underway.is_open todo.underway.room todo.formed todo.narrowed learning in
          let choices = asked.run.choices ++ asked.choice ∷ [] in
          let same : asked.run.choices ≡ todo.fork.choices = ap (λ (s : Symbolic). s.choices) todo.narrowed.same in
          ap (λ all. named_from (record { choices = choices; cut = Some ByConflicts } ∷ ahead) all) is.split
          ∙ named_asked choices learnt.question learnt.log rest ahead
          ∙ ap (λ name. name ∷ named_from ahead rest)
          (sym (named_is part choices (Some ByConflicts) None (at.choices ∙ ap (λ cs. cs ++ asked.choice ∷ []) (sym same)) at.cut sample));
      shorter = shorter_asked learnt.question learnt.log rest lines is.split;
      ends = λ p todo.
          let at = cut p budgets [] todo.fork todo.test todo.underway.is_open todo.underway.room todo.formed todo.narrowed learning in
          subst (λ (c : Option Cause). PassesLeaf c lines rest) (sym at.cut) (asked_uncut learnt.question learnt.log lines rest is.split);
    }
