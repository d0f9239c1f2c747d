-- What lines make of runs that have stopped, and of what the walk comes to.
use Rattle.std.proofs.Common.{◌≡◌, ℕ, ◌≤◌, Bool, List, length, refl, ap, subst, sym, ◌∙◌, arith}
use Rattle.std.specs.Prelude.{IfErr, IfOk, None, Result, Ok, Err}
use Rattle.cert_form.specs.declared.line.CertLine.{CertLine}
use Rattle.cow_pages.specs.declared.byte.Byte.{Byte}
use Rattle.fork_spec.specs.Leaves.{IsSmall}
use Rattle.fork_spec.specs.Parts.{Part}
use Rattle.run_leaves.specs.Leaving.{HasTextRoom}
use Rattle.run_leaves.proofs.Room.{ended_writable, open_writable}
use Rattle.rv_spec.specs.Memory.{count_of}
use Rattle.sym_state.specs.declared.ended.RunEnd.{RunEnd}
use Rattle.sym_machine.specs.Advancing.{Advances, IsUnderway, StoppedBy}
use Rattle.sym_machine.specs.declared.stepping.Stop.{Stop}
use Rattle.sym_machine.specs.declared.stepping.Stop.TheVariants.{Branch, Ended, Pin, Steps}
use Rattle.sym_state.specs.Programs.{Program}
use Rattle.sym_state.specs.Symbolic.{Symbolic, most_steps, stands_for}
use Rattle.tree_core.specs.Covers.{one_if}
use Rattle.tree_core.specs.declared.budgets.Budgets.{Budgets}
use Rattle.cert_audit.specs.Names.{Ahead}
use Rattle.cert_query.specs.declared.fault.Fault.{Fault}
use Rattle.cert_audit.specs.Steps.{IsForkFrom, IsLeafFrom, IsNodeLeaf, IsStopMet, IsUnparted, IsVisited, IsWent, as_fork, as_leaf, node_ahead}
use Rattle.cert_audit.specs.Todos.{HasStopped, IsAskedOn, IsOfTree, IsOthersOf, IsTodo}
use Rattle.cert_audit.specs.declared.taken.Taken.{Taken}
use Rattle.cert_audit.specs.declared.taken.Visited.{Visited}
use Rattle.cert_audit.specs.declared.taken.Visited.TheVariants.{Leaf, Fork}
use Rattle.cert_audit.specs.declared.taken.Went.{Went}
use Rattle.cert_audit.specs.declared.todo.Asked.{Asked}
use Rattle.cert_audit.specs.declared.todo.Others.{Others}
use Rattle.cert_audit.specs.declared.todo.Todo.{Todo}
use Rattle.cert_audit.specs.declared.todo.Todo.TheVariants.{Conflicts, Node, Targets}

-- it is a leaf, or a fork, of each program of which less is known too
pub leaf_since : (P Q : Program → Type 0) (budgets : Budgets) (covers new : List ℕ → Bool) (next : Ahead) (lines : List CertLine) (part : Part)
    (rest : List CertLine) → ((p : Program) → Q p → P p) → ((input : List ℕ) → covers input ≡ new input)
    → IsLeafFrom P budgets covers next lines part rest → IsLeafFrom Q budgets new next lines part rest
leaf_since P Q budgets covers new next lines part rest since same is = record {
  is_leaf = λ p q. let leaf = is.is_leaf p (since p q) in
      record { is_right = leaf.is_right; covers_all = λ input. leaf.covers_all input ∙ same input };
  named = λ p q. is.named p (since p q);
  shorter = is.shorter;
  ends = λ p q. is.ends p (since p q);
}

pub fork_since : (P Q : Program → Type 0) (budgets : Budgets) (covers new : List ℕ → Bool) (next : Ahead) (lines : List CertLine)
    (kids : List Todo) (rest : List CertLine) → ((p : Program) → Q p → P p) → ((input : List ℕ) → covers input ≡ new input)
    → IsForkFrom P budgets covers next lines kids rest → IsForkFrom Q budgets new next lines kids rest
fork_since P Q budgets covers new next lines kids rest since same is = record {
  each = λ p q. is.each p (since p q);
  shared = λ input. is.shared input ∙ ap one_if (same input);
  named = is.named;
  shorter = is.shorter;
  ends = is.ends;
}

-- ---- where no line is at fault
pub leaf_ok : (r : Result Taken Fault) (P : Taken → Type 0) (Q : Visited → Type 0) → ((t : Taken) → P t → Q (Leaf t)) → IfOk r P
    → IfOk (as_leaf r) Q
leaf_ok (Ok taken) P Q gives is = gives taken is
leaf_ok (Err fault) P Q gives is = tt

pub fork_ok : (r : Result Went Fault) (P : Went → Type 0) (Q : Visited → Type 0) → ((w : Went) → P w → Q (Fork w)) → IfOk r P
    → IfOk (as_fork r) Q
fork_ok (Ok went) P Q gives is = gives went is
fork_ok (Err fault) P Q gives is = tt

-- ---- where one is
pub leaf_err : (r : Result Taken Fault) (P Q : Fault → Type 0) → ((f : Fault) → P f → Q f) → IfErr r P → IfErr (as_leaf r) Q
leaf_err (Ok taken) P Q gives is = tt
leaf_err (Err fault) P Q gives is = gives fault is

pub fork_err : (r : Result Went Fault) (P Q : Fault → Type 0) → ((f : Fault) → P f → Q f) → IfErr r P → IfErr (as_fork r) Q
fork_err (Ok went) P Q gives is = tt
fork_err (Err fault) P Q gives is = gives fault is

-- ---- a run that has stopped at a fork
module _ (budgets : Budgets) (run : Symbolic) (lines rest : List CertLine) (stop : Stop)
    (underway : (p : Program) → StoppedBy p budgets.steps run stop → IsUnderway p budgets.steps run) where
  pub stopped_unparted : (part : Part) → IsUnparted budgets run lines part rest → IsNodeLeaf budgets run stop lines part rest
  stopped_unparted part is =
      leaf_since (λ p. IsUnderway p budgets.steps run) (λ p. StoppedBy p budgets.steps run stop) budgets (stands_for run) (stands_for run)
      (node_ahead run) lines part rest underway (λ input. refl) is

  pub stopped_parted : (kids : List Todo) → IsWent budgets run lines kids rest
      → IsForkFrom (λ p. StoppedBy p budgets.steps run stop) budgets (stands_for run) (node_ahead run) lines kids rest
  stopped_parted kids is =
      fork_since (λ p. IsUnderway p budgets.steps run) (λ p. StoppedBy p budgets.steps run stop) budgets (stands_for run) (stands_for run)
      (node_ahead run) lines kids rest underway (λ input. refl) is

pub at_branch_underway : (budgets : Budgets) (run : Symbolic) (term : ℕ) (stop : Stop) → stop ≡ Branch term → (p : Program)
    → StoppedBy p budgets.steps run stop → IsUnderway p budgets.steps run
at_branch_underway budgets run term stop is p stopped = (subst (StoppedBy p budgets.steps run) is stopped).0

pub at_pin_underway : (budgets : Budgets) (run : Symbolic) (place term : ℕ) (stop : Stop) → stop ≡ Pin place term → (p : Program)
    → StoppedBy p budgets.steps run stop → IsUnderway p budgets.steps run
at_pin_underway budgets run place term stop is p stopped = (subst (StoppedBy p budgets.steps run) is stopped).0

-- ---- a run that went on until it stopped
pub still_open : (budgets : Budgets) (old new : Symbolic) (stop : Stop) (p : Program) → Advances budgets.steps old new stop
    → IsTodo p budgets (Node old) → StoppedBy p budgets.steps new stop
still_open budgets old new stop p far todo = far.stopped p todo.0

pub met_visited : (budgets : Budgets) (old new : Symbolic) (stop : Stop) (lines : List CertLine) (v : Visited)
    → Advances budgets.steps old new stop → IsStopMet budgets new stop lines v → IsVisited budgets (Node old) lines v
met_visited budgets old new stop lines (Leaf taken) far is =
    subst (λ cs. IsLeafFrom (λ p. IsTodo p budgets (Node old)) budgets (stands_for old) (record { choices = cs; cut = None }) lines taken.leaf taken.rest.now)
    far.same.same_choices
    (leaf_since (λ p. StoppedBy p budgets.steps new stop) (λ p. IsTodo p budgets (Node old)) budgets (stands_for new) (stands_for old)
    (node_ahead new) lines taken.leaf taken.rest.now (λ p. still_open budgets old new stop p far) far.same.same_cover is)
met_visited budgets old new stop lines (Fork went) far is =
    subst (λ cs. IsForkFrom (λ p. IsTodo p budgets (Node old)) budgets (stands_for old) (record { choices = cs; cut = None }) lines went.kids.items went.rest.now)
    far.same.same_choices
    (fork_since (λ p. StoppedBy p budgets.steps new stop) (λ p. IsTodo p budgets (Node old)) budgets (stands_for new) (stands_for old)
    (node_ahead new) lines went.kids.items went.rest.now (λ p. still_open budgets old new stop p far) far.same.same_cover is)

-- ---- There is room for the numbers of a leaf's texts.
pub stopped_room : (budgets : Budgets) (run : Symbolic) (end : RunEnd) → HasStopped budgets run (Ended end) → HasTextRoom run
stopped_room budgets run end is = ended_writable is.program run end budgets.steps is.stopped.0 is.few_inputs is.stopped.1 is.few_steps

pub spent_room : (budgets : Budgets) (run : Symbolic) → HasStopped budgets run Steps → HasTextRoom run
spent_room budgets run is = open_writable is.program run budgets.steps is.stopped.0 is.few_inputs (omega (arith, is.stopped.1)) is.few_steps

pub fork_room : (budgets : Budgets) (run : Symbolic) (program : Program) → IsSmall (count_of program.regions) → budgets.steps ≤ most_steps
    → IsUnderway program budgets.steps run → HasTextRoom run
fork_room budgets run program few most way = open_writable program run budgets.steps way.is_open few (omega (arith, way.room)) most

-- a run that is narrowed has as much
room_narrowed : (old new : Symbolic) → new.terms.inputs ≡ old.terms.inputs → new.output ≡ old.output → HasTextRoom old → HasTextRoom new
room_narrowed old new inputs output room = record {
  few_inputs = subst IsSmall (sym inputs) room.few_inputs;
  few_outputs = subst (λ (bytes : List Byte). IsSmall (length bytes)) (sym output) room.few_outputs;
}

module _ (budgets : Budgets) (todo : Todo) (is : IsOfTree budgets todo) where
  module _ (asked : Asked) (of : todo ≡ Conflicts asked) where
    pub asked_on : IsAskedOn is.program budgets asked
    asked_on = subst (IsTodo is.program budgets) of is.is_todo

    pub asked_room : HasTextRoom asked.run
    asked_room =
        room_narrowed asked_on.fork asked.run asked_on.narrowed.continues.inputs (ap (λ (s : Symbolic). s.output) asked_on.narrowed.same)
        (fork_room budgets asked_on.fork is.program is.few_inputs is.few_steps asked_on.underway)

  module _ (others : Others) (of : todo ≡ Targets others) where
    pub others_of : IsOthersOf is.program budgets others
    others_of = subst (IsTodo is.program budgets) of is.is_todo

    pub others_room : HasTextRoom others.rest
    others_room =
        room_narrowed others.fork others.rest others_of.without.continues.inputs (ap (λ (s : Symbolic). s.output) others_of.without.same)
        (fork_room budgets others.fork is.program is.few_inputs is.few_steps others_of.underway)
