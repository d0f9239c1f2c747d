-- That a run stands for no assignment.
use Rattle.std.proofs.Common.{◌≡◌, ℕ, Bool, true, false, ◌&&◌, List, [], ◌∷◌, ◌++◌, length, map, refl, sym, ap, subst, ◌∙◌, arith, length-append}
use Rattle.std.specs.Prelude.{Contains, IfErr, IfOk, IsTrue, Result, Ok, Err, ◌↔◌}
use Rattle.bv_dag.specs.Graphs.{Graph}
use Rattle.bv_dag.specs.Queries.{Condition, IsUnsatisfiable, holds}
use Rattle.cert_form.specs.declared.line.CertLine.{CertLine}
use Rattle.cert_form.specs.declared.line.CertLine.TheVariants.{Clause, Tried}
use Rattle.cert_query.specs.QuestionLines.{question_lines}
use Rattle.cert_query.specs.Refuting.{IsRefutedBy}
use Rattle.fork_spec.specs.Leaves.{are_bytes}
use Rattle.fork_spec.proofs.ByteLists.{are_bytes-each}
use Rattle.query_slice.specs.Slices.{IsSlice}
use Rattle.query_slice.proofs.Kept.{none_holds}
use Rattle.sym_state.specs.Symbolic.{Symbolic, condition_of, stands_for}
use Rattle.term_trees.specs.Subsets.{AsksNoMore}
use Rattle.term_trees.specs.TreeSlices.{asserted_trees}
use Rattle.term_trees.specs.Trees.{Tree, tree_of}
use Rattle.term_trees.proofs.SubsetLaws.{unsatisfiable-more}
use Rattle.cert_audit.specs.Names.{named_from}
use Rattle.cert_audit.specs.Shown.{IsShownEmpty}
use Rattle.cert_audit.proofs.Passed.{asked_uncut, one_uncut}
use Rattle.cert_audit.proofs.Quiet.{clauses_passed, question_long, question_passed, quiet_line}

none_both : (a b : Bool) → (a ≡ true → b ≡ false) → (a && b) ≡ false
none_both true b none = none refl
none_both false b none = refl

-- no bytes meet its condition
pub none_stands : (s : Symbolic) → IsUnsatisfiable (condition_of s) → (input : List ℕ) → stands_for s input ≡ false
none_stands s none input = none_both (are_bytes input) (holds (condition_of s) input) (λ bytes. none input (are_bytes-each input bytes))

-- none meet a part of it
pub slice_none : (s : Symbolic) (new : ℕ) (part : Condition) → IsSlice (condition_of s) new part → IsUnsatisfiable part
    → (input : List ℕ) → stands_for s input ≡ false
slice_none s new part cut none = none_stands s (none_holds (condition_of s) new part cut none)

-- none meet a question that asks no more
pub asked_none : (s : Symbolic) (question asked : Condition) → AsksNoMore question asked
    → ((input : List ℕ) → holds asked input ≡ holds (condition_of s) input) → IsUnsatisfiable question
    → (input : List ℕ) → stands_for s input ≡ false
asked_none s question asked less same none =
    none_stands s (λ input bytes. sym (same input) ∙ unsatisfiable-more question asked less none input bytes)

-- it asks no more than the condition, of which the other has the trees
same_trees : (s : Symbolic) (asked : Condition) (terms : Graph) (ids : List ℕ) → map (tree_of asked.graph) asked.asserted ≡ map (tree_of terms) ids → terms ≡ s.terms → ids ≡ s.condition
    → asserted_trees asked ≡ asserted_trees (condition_of s)
same_trees s asked terms ids trees same_terms same_ids =
    trees ∙ ap (λ (g : Graph). map (tree_of g) ids) same_terms ∙ ap (map (tree_of s.terms)) same_ids

less_moved : (question one other : Condition) → one.graph.inputs ≡ other.graph.inputs → asserted_trees one ≡ asserted_trees other → AsksNoMore question one → AsksNoMore question other
less_moved question one other inputs trees less = record {
  inputs = less.inputs ∙ inputs;
  trees = λ t there. subst (λ (ts : List Tree). Contains ts t) trees (less.trees t there);
}

pub less_ok : {E : Type 0} (r : Result Bool E) (s : Symbolic) (question asked : Condition) (terms : Graph) (ids : List ℕ) → asked.graph.inputs ≡ terms.inputs
    → map (tree_of asked.graph) asked.asserted ≡ map (tree_of terms) ids → terms ≡ s.terms → ids ≡ s.condition
    → IfOk r (λ b. IsTrue b ↔ AsksNoMore question asked) → IfOk r (λ b. IsTrue b ↔ AsksNoMore question (condition_of s))
less_ok (Err e) s question asked terms ids inputs trees same_terms same_ids is = tt
less_ok (Ok b) s question asked terms ids inputs trees same_terms same_ids is =
    let same = same_trees s asked terms ids trees same_terms same_ids in
    let over = inputs ∙ ap (λ (g : Graph). g.inputs) same_terms in (
      λ shown. less_moved question asked (condition_of s) over same (is.0 shown),
      λ less. is.1 (less_moved question (condition_of s) asked (sym over) (sym same) less),
    )

-- by trying the values of a byte
pub tried_shown : (s : Symbolic) (rest : List CertLine) → ((input : List ℕ) → stands_for s input ≡ false) → IsShownEmpty s (Tried ∷ rest) rest
tried_shown s rest none = record {
  none = none;
  quiet = λ a ahead is. quiet_line (a ∷ ahead) Tried rest (record { names = λ b. refl; keeps = λ b. refl });
  shorter = omega arith;
  ends = record { passed = Tried ∷ []; split = refl; uncut = one_uncut Tried (λ same. cc) };
}

-- by a question and clauses that refute it
pub refuted_shown : (s : Symbolic) (q : Condition) (lines middle rest : List CertLine) → lines ≡ question_lines q ++ middle → IsRefutedBy q middle rest
    → ((input : List ℕ) → stands_for s input ≡ false) → IsShownEmpty s lines rest
refuted_shown s q lines middle rest asked refuted none =
    let log = refuted.refutation.log in
    let clauses = refuted.refutation.lines_are.split in record {
      none = none;
      quiet = λ a ahead is.
          ap (named_from (a ∷ ahead)) asked ∙ question_passed a ahead q middle is
          ∙ ap (named_from (a ∷ ahead)) clauses ∙ clauses_passed (a ∷ ahead) log rest;
      shorter = omega (arith, ap length asked, question_long q middle, ap length clauses, length-append (map Clause log) rest);
      ends = asked_uncut q log lines rest (asked ∙ ap (λ (ls : List CertLine). question_lines q ++ ls) clauses);
    }

-- what follows from what a test shows is shown by it too
pub shown_ok : {E : Type 0} (r : Result Bool E) (A B : Type 0) → IfOk r (λ b. IsTrue b → A) → (A → B) → IfOk r (λ b. IsTrue b → B)
shown_ok (Ok b) A B is turn = λ shown. turn (is shown)
shown_ok (Err e) A B is turn = tt

pub asked_ok : {E : Type 0} (r : Result Bool E) (A B : Type 0) → IfOk r (λ b. IsTrue b ↔ A) → (A → B) → IfOk r (λ b. IsTrue b → B)
asked_ok (Ok b) A B is turn = λ shown. turn (is.0 shown)
asked_ok (Err e) A B is turn = tt

-- and what follows from what was taken
pub taken_ok : {X F E : Type 0} (r : Result (Result X F) E) (P Q : X → Type 0) → IfOk r (λ t. IfOk t P) → ((x : X) → P x → Q x)
    → IfOk r (λ t. IfOk t Q)
taken_ok (Ok (Ok x)) P Q is turn = turn x is
taken_ok (Ok (Err e)) P Q is turn = tt
taken_ok (Err e) P Q is turn = tt

pub fault_ok : {X F E : Type 0} (r : Result (Result X F) E) (P Q : F → Type 0) → ((x : F) → P x → Q x) → IfOk r (λ t. IfErr t P) → IfOk r (λ t. IfErr t Q)
fault_ok (Ok (Ok x)) P Q turn is = tt
fault_ok (Ok (Err e)) P Q turn is = turn e is
fault_ok (Err e) P Q turn is = tt
