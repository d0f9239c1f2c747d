-- Clauses that are learnt, one after the other.
use Rattle.std.proofs.Common.{◌≡◌, ◌∙◌, ℕ, suc, ◌+◌, ◌≤◌, ◌<◌, Bool, true, false, not, ◌&&◌, List, [], ◌∷◌, ◌++◌, length, map, refl, ap, sym, subst, arith, append_assoc, append-nil, length-append}
use Rattle.std.specs.Prelude.{All, ◌⊎◌}
use Rattle.std.specs.List.{Contains, flat_map, list_all}
use Rattle.std.proofs.Math.Path.{fun_ext}
use Rattle.std.proofs.lemmas.Bool.{and_from, and_parts, false≢true}
use Rattle.std.proofs.lemmas.List.Elements.{All-append, All-cons, All-contains, All-nil}
use Rattle.cnf_form.specs.Clauses.{IsClause}
use Rattle.cnf_form.specs.Literals.{Literal}
use Rattle.cnf_form.specs.Propagation.{follows}
use Rattle.cnf_form.specs.Refutations.{Step, clauses_of, follows_all, has_no_empty, is_empty_clause, is_fresh, is_new}
use Rattle.cnf_form.specs.Variables.{is_over}
use Rattle.bv_dag.specs.Graphs.{Graph}
use Rattle.bv_dag.specs.Inputs.{HasTwo, asserted_inputs, inputs_at, inputs_of}
use Rattle.bv_dag.specs.Queries.{Condition}
use Rattle.bv_dag.specs.declared.nodes.Node.{Node}
use Rattle.query_pick.specs.Occurring.{IsAlone, IsOccurrence}
use Rattle.query_pick.specs.declared.occurrence.Occurrence.{Occurrence}
use Rattle.query_pick.specs.declared.occurrence.Occurrence.TheVariants.{MoreInputs, NoInput, OneInput}
use Rattle.circuit_spec.specs.Budgets.{IsSpent}
use Rattle.circuit_spec.specs.Circuits.{clauses}
use Rattle.cert_form.specs.declared.line.CertLine.{CertLine}
use Rattle.cert_form.specs.declared.line.CertLine.TheVariants.{One, Split, Tried, Inputs, Nodes, Logic, Input, Base, Node as NodeLine, Assert, Check, Exit, Clause, Value, Witness, End, CutSteps, CutNodes}
use Rattle.cert_query.specs.ClauseFaults.{IsLearningFault, IsLearntFault, IsSpendingFault, is_not_learnt}
use Rattle.cert_query.specs.ClauseLines.{begins_with_clause, behind_clauses, clauses_at}
use Rattle.cert_query.specs.Faults.{fault_at}
use Rattle.cert_query.specs.declared.fault.Fault.{Fault}
use Rattle.cert_query.specs.declared.fault.Reason.TheVariants.{Log}
use Rattle.cert_query.specs.Spending.{HasLearntAll, IsLearnt, IsSpentBy, are_learnt, is_learnt}
use Rattle.cert_query.specs.Variables.{AreOccurring, are_noted}
use Rattle.cert_query.proofs.Clauses.{BeginsWithNone, are_clause_lines, clauses_behind, one_more_clause, one_more_noted, others_behind}
use Rattle.cert_query.proofs.Noting.{noted_is_over}

-- the clauses so far were learnt, and the others may be just where they may behind them
pub record LearntSoFar (over : List Literal → Bool) (before now : List (List Literal)) (lines rest : List CertLine) (log : List Step) (count : ℕ) : Type 0 where
  pub passed : lines ≡ map Clause log ++ rest
  pub noted : now ≡ before ++ clauses_of log
  pub learnt : (ss : List Step) → are_learnt over before (log ++ ss) ≡ are_learnt over now ss
  pub formed : All (λ (s : Step). IsClause s.clause) log
  pub whole : length log ≡ count

pub none_so_far : (over : List Literal → Bool) (before : List (List Literal)) (lines : List CertLine) (log : List Step) → log ≡ [] → LearntSoFar over before before lines lines log 0
none_so_far over before lines log none = rw none record {
  passed = refl;
  noted = sym (append-nil before);
  learnt = λ ss. refl;
  formed = All-nil (λ (s : Step). IsClause s.clause);
  whole = refl;
}

first_learnt : (over : List Literal → Bool) (now : List (List Literal)) (s : Step) (ss : List Step) (b : Bool) → is_learnt over now s ≡ b → are_learnt over now (s ∷ ss) ≡ (b && are_learnt over (now ++ s.clause ∷ []) ss)
unfolding are_learnt
first_learnt over now s ss b h = rw h refl

pub one_more_learnt : (over : List Literal → Bool) (before old new : List (List Literal)) (lines rest more : List CertLine) (log longer : List Step) (count : ℕ) (s : Step) →
    LearntSoFar over before old lines rest log count → rest ≡ Clause s ∷ more → IsLearnt over old new log longer s true → LearntSoFar over before new lines more longer (count + 1)
one_more_learnt over before old new lines rest more log longer count s so_far next is =
    rw (is.2) record {
      passed = one_more_clause lines rest more log s so_far.passed next;
      noted = one_more_noted before old new log s so_far.noted is.1;
      learnt = λ ss. ap (are_learnt over before) (append_assoc log (s ∷ []) ss) ∙ so_far.learnt (s ∷ ss)
          ∙ first_learnt over old s ss true is.0 ∙ ap (λ (cs : List (List Literal)). are_learnt over cs ss) (sym is.1);
      formed = All-append (λ (s : Step). IsClause s.clause) log (s ∷ []) so_far.formed (All-cons (λ (s : Step). IsClause s.clause) s [] is.3 (All-nil (λ (s : Step). IsClause s.clause)));
      whole = omega (arith, length-append log (s ∷ []), so_far.whole);
    }

-- all clauses are those that came and those behind them
all_clauses : (over : List Literal → Bool) (before now : List (List Literal)) (lines rest : List CertLine) (log : List Step) (count : ℕ) →
    LearntSoFar over before now lines rest log count → clauses_at lines ≡ log ++ clauses_at rest
all_clauses over before now lines rest log count so_far = ap clauses_at so_far.passed ∙ clauses_behind log rest

pub one_is_not_learnt : (over : List Literal → Bool) (before old new : List (List Literal)) (lines rest more : List CertLine) (log longer : List Step) (count : ℕ) (s : Step) →
    LearntSoFar over before old lines rest log count → rest ≡ Clause s ∷ more → IsLearnt over old new log longer s false → are_learnt over before (clauses_at lines) ≡ false
one_is_not_learnt over before old new lines rest more log longer count s so_far next is =
    let here : clauses_at rest ≡ s ∷ clauses_at more = ap clauses_at next in
    ap (are_learnt over before) (all_clauses over before old lines rest log count so_far) ∙ so_far.learnt (clauses_at rest)
    ∙ ap (are_learnt over old) here ∙ first_learnt over old s (clauses_at more) false is

-- ---- at the end

none_learnt : (over : List Literal → Bool) (now : List (List Literal)) → are_learnt over now [] ≡ true
unfolding are_learnt
none_learnt over now = refl

-- the clauses so far were learnt
were_learnt : (over : List Literal → Bool) (before now : List (List Literal)) (lines rest : List CertLine) (log : List Step) (count : ℕ) →
    LearntSoFar over before now lines rest log count → are_learnt over before log ≡ true
were_learnt over before now lines rest log count so_far = ap (are_learnt over before) (sym (append-nil log)) ∙ so_far.learnt [] ∙ none_learnt over now

-- there are as many clauses as were learnt
counted : (over : List Literal → Bool) (before now : List (List Literal)) (lines rest : List CertLine) (log : List Step) (count : ℕ) →
    LearntSoFar over before now lines rest log count → length (clauses_at lines) ≡ count + length (clauses_at rest)
counted over before now lines rest log count so_far = omega (arith, ap length (all_clauses over before now lines rest log count so_far), length-append log (clauses_at rest), so_far.whole)

pub all_learnt : (over : List Literal → Bool) (before now : List (List Literal)) (lines rest : List CertLine) (log : List Step) (count budget : ℕ) →
    LearntSoFar over before now lines rest log count → BeginsWithNone rest → count ≡ budget → HasLearntAll over before budget lines log rest
all_learnt over before now lines rest log count budget so_far end is =
    let all = all_clauses over before now lines rest log count so_far in
    let log_is : log ≡ clauses_at lines = sym (all ∙ ap (λ (ss : List Step). log ++ ss) end.none ∙ append-nil log) in
    record {
      lines_are = are_clause_lines lines log rest log_is (end.all ∙ sym (ap behind_clauses so_far.passed ∙ others_behind log rest));
      whole = so_far.whole ∙ is;
      formed = so_far.formed;
      learnt = were_learnt over before now lines rest log count so_far;
    }

-- fewer clauses come than the budget
pub too_few : (over : List Literal → Bool) (before now : List (List Literal)) (lines rest : List CertLine) (log : List Step) (count budget : ℕ) →
    LearntSoFar over before now lines rest log count → BeginsWithNone rest → suc count ≤ budget → length (clauses_at lines) ≡ budget → ⊥
too_few over before now lines rest log count budget so_far end few whole =
    absurd (omega (arith, counted over before now lines rest log count so_far, ap length end.none, few, whole))

-- more clauses come than the budget
pub too_many : (over : List Literal → Bool) (before now : List (List Literal)) (lines rest : List CertLine) (log : List Step) (count budget : ℕ) (s : Step) (more : List CertLine) →
    LearntSoFar over before now lines rest log count → rest ≡ Clause s ∷ more → count ≡ budget → length (clauses_at lines) ≡ budget → ⊥
too_many over before now lines rest log count budget s more so_far next all whole =
    let here : clauses_at rest ≡ s ∷ clauses_at more = ap clauses_at next in
    absurd (omega (arith, counted over before now lines rest log count so_far, ap length here, all, whole))

-- ---- at a fault

-- the next clause is one too many, or may not be learnt
pub fault_at_clause : (over : List Literal → Bool) (before now : List (List Literal)) (lines rest more : List CertLine) (log : List Step) (count budget : ℕ) (s : Step) (fault : Fault) →
    LearntSoFar over before now lines rest log count → rest ≡ Clause s ∷ more → count ≤ budget → (length log ≡ budget) ⊎ (is_learnt over now s ≡ false) → fault ≡ fault_at rest Log →
    IsLearntFault over before budget lines fault
fault_at_clause over before now lines rest more log count budget s fault so_far next few why is =
    let first : ((length log ≡ budget) ⊎ (is_learnt over (before ++ clauses_of log) s ≡ false)) × (fault ≡ fault_at (Clause s ∷ more) Log) =
    (subst (λ (cs : List (List Literal)). (length log ≡ budget) ⊎ (is_learnt over cs s ≡ false)) so_far.noted why, is ∙ ap (λ (ls : List CertLine). fault_at ls Log) next) in
    record {
      log = log;
      few = omega (arith, so_far.whole, few);
      learnt = were_learnt over before now lines rest log count so_far;
      refused = record {
        rest = Clause s ∷ more;
        split = so_far.passed ∙ ap (λ (ls : List CertLine). map Clause log ++ ls) next;
        here = first;
      };
    }

no_clause_here : (over : List Literal → Bool) (formula : List (List Literal)) (budget : ℕ) (log : List Step) (rest : List CertLine) (fault : Fault) → begins_with_clause rest ≡ false →
    length log < budget → fault ≡ fault_at rest Log → IsLearningFault over formula budget log rest fault
no_clause_here over formula budget log [] fault end few is = (few, is)
no_clause_here over formula budget log (One _ ∷ lines) fault end few is = (few, is)
no_clause_here over formula budget log (Split _ ∷ lines) fault end few is = (few, is)
no_clause_here over formula budget log (Tried ∷ lines) fault end few is = (few, is)
no_clause_here over formula budget log (Inputs _ ∷ lines) fault end few is = (few, is)
no_clause_here over formula budget log (Nodes _ ∷ lines) fault end few is = (few, is)
no_clause_here over formula budget log (Logic ∷ lines) fault end few is = (few, is)
no_clause_here over formula budget log (Input _ ∷ lines) fault end few is = (few, is)
no_clause_here over formula budget log (Base ∷ lines) fault end few is = (few, is)
no_clause_here over formula budget log (NodeLine _ ∷ lines) fault end few is = (few, is)
no_clause_here over formula budget log (Assert _ ∷ lines) fault end few is = (few, is)
no_clause_here over formula budget log (Check ∷ lines) fault end few is = (few, is)
no_clause_here over formula budget log (Exit ∷ lines) fault end few is = (few, is)
no_clause_here over formula budget log (Clause step ∷ lines) fault end few is = cc
no_clause_here over formula budget log (Value _ ∷ lines) fault end few is = (few, is)
no_clause_here over formula budget log (Witness _ ∷ lines) fault end few is = (few, is)
no_clause_here over formula budget log (End _ ∷ lines) fault end few is = (few, is)
no_clause_here over formula budget log (CutSteps _ ∷ lines) fault end few is = (few, is)
no_clause_here over formula budget log (CutNodes ∷ lines) fault end few is = (few, is)

-- no clause comes next
pub fault_at_end : (over : List Literal → Bool) (before now : List (List Literal)) (lines rest : List CertLine) (log : List Step) (count budget : ℕ) (fault : Fault) →
    LearntSoFar over before now lines rest log count → begins_with_clause rest ≡ false → count < budget → fault ≡ fault_at rest Log → IsLearntFault over before budget lines fault
fault_at_end over before now lines rest log count budget fault so_far end few is = record {
  log = log;
  few = omega (arith, so_far.whole, few);
  learnt = were_learnt over before now lines rest log count so_far;
  refused = record {
    rest = rest;
    split = so_far.passed;
    here = no_clause_here over before budget log rest fault end (omega (arith, so_far.whole, few)) is;
  };
}

-- ---- what is meant by it

-- the same variables
same_learnt : (p r : List Literal → Bool) → ((c : List Literal) → p c ≡ r c) → (before : List (List Literal)) (log : List Step) → are_learnt p before log ≡ are_learnt r before log
unfolding are_learnt
same_learnt p r same before [] = refl
same_learnt p r same before (s ∷ ss) =
    ap (λ (b : Bool). ((follows before s.clause s.hints && is_new before s.clause) && (not (is_empty_clause s.clause) && b)) && are_learnt p (before ++ s.clause ∷ []) ss) (same s.clause)
    ∙ ap (λ (b : Bool). is_learnt r before s && b) (same_learnt p r same (before ++ s.clause ∷ []) ss)

-- over the variables of the formula, where they are noted
same_noted : (formula : List (List Literal)) (before : List (List Literal)) (seen items : List Bool) (log : List Step) → seen ≡ items → AreOccurring formula items → before ≡ formula →
    are_learnt (are_noted seen) before log ≡ are_learnt (is_over formula) formula log
same_noted formula before seen items log same are first =
    ap (λ (ns : List Bool). are_learnt (are_noted ns) before log) same
    ∙ same_learnt (are_noted items) (is_over formula) (noted_is_over formula items are) before log
    ∙ ap (λ (cs : List (List Literal)). are_learnt (is_over formula) cs log) first

pub learnt_by_noting : (formula before : List (List Literal)) (seen items : List Bool) (budget : ℕ) (lines : List CertLine) (log : List Step) (rest : List CertLine) →
    seen ≡ items → AreOccurring formula items → before ≡ formula → HasLearntAll (are_noted seen) before budget lines log rest → HasLearntAll (is_over formula) formula budget lines log rest
learnt_by_noting formula before seen items budget lines log rest same are first has = record {
  lines_are = has.lines_are;
  whole = has.whole;
  formed = has.formed;
  learnt = sym (same_noted formula before seen items log same are first) ∙ has.learnt;
}

pub refused_by_noting : (formula before : List (List Literal)) (seen items : List Bool) (log : List Step) → seen ≡ items → AreOccurring formula items → before ≡ formula →
    are_learnt (are_noted seen) before log ≡ false → are_learnt (is_over formula) formula log ≡ false
refused_by_noting formula before seen items log same are first refused = sym (same_noted formula before seen items log same are first) ∙ refused

pub fault_by_noting : (formula before : List (List Literal)) (seen items : List Bool) (budget : ℕ) (lines : List CertLine) (fault : Fault) → seen ≡ items → AreOccurring formula items → before ≡ formula →
    IsLearntFault (are_noted seen) before budget lines fault → IsLearntFault (is_over formula) formula budget lines fault
fault_by_noting formula before seen items budget lines fault same are first refused =
    let over : are_noted seen ≡ is_over formula = ap are_noted same ∙ fun_ext (noted_is_over formula items are) in
    subst (λ (o : List Literal → Bool). IsLearntFault o formula budget lines fault) over
    (subst (λ (cs : List (List Literal)). IsLearntFault (are_noted seen) cs budget lines fault) first refused)

-- each of the four by itself
record AreFour (over : List Literal → Bool) (before : List (List Literal)) (log : List Step) : Type 0 where
  over_all : list_all over (clauses_of log) ≡ true
  no_empty : has_no_empty log ≡ true
  follow : follows_all before log ≡ true
  fresh : is_fresh before log ≡ true

abbrev AreFive : Bool → Bool → Bool → Bool → Bool → Type 0
AreFive a b c d e = (a ≡ true) × (b ≡ true) × (c ≡ true) × (d ≡ true) × (e ≡ true)

five : (a b c d e : Bool) → (((a && b) && (c && d)) && e) ≡ true → AreFive a b c d e
five a b c d e h =
    let first : (((a && b) && (c && d)) ≡ true) × (e ≡ true) = and_parts _ _ h in
    let halves : ((a && b) ≡ true) × ((c && d) ≡ true) = and_parts _ _ first.0 in
    let one : (a ≡ true) × (b ≡ true) = and_parts _ _ halves.0 in
    let two : (c ≡ true) × (d ≡ true) = and_parts _ _ halves.1 in
    (one.0, one.1, two.0, two.1, first.1)

are_four : (over : List Literal → Bool) (before : List (List Literal)) (log : List Step) → are_learnt over before log ≡ true → AreFour over before log
unfolding are_learnt has_no_empty follows_all is_fresh
are_four over before [] h = record { over_all = refl; no_empty = refl; follow = refl; fresh = refl }
are_four over before (s ∷ ss) h =
    let parts = five (follows before s.clause s.hints) (is_new before s.clause) (not (is_empty_clause s.clause)) (over s.clause) (are_learnt over (before ++ s.clause ∷ []) ss) h in
    let others = are_four over (before ++ s.clause ∷ []) ss parts.4 in
    record {
      over_all = and_from _ _ parts.3 others.over_all;
      no_empty = and_from _ _ parts.2 others.no_empty;
      follow = and_from _ _ parts.0 others.follow;
      fresh = and_from _ _ parts.1 others.fresh;
    }

from_four : (over : List Literal → Bool) (before : List (List Literal)) (log : List Step) → list_all over (clauses_of log) ≡ true → has_no_empty log ≡ true → follows_all before log ≡ true → is_fresh before log ≡ true → are_learnt over before log ≡ true
unfolding are_learnt has_no_empty follows_all is_fresh
from_four over before [] all some follow fresh = refl
from_four over before (s ∷ ss) all some follow fresh =
    let a : (over s.clause ≡ true) × (list_all over (clauses_of ss) ≡ true) = and_parts _ _ all in
    let b : (not (is_empty_clause s.clause) ≡ true) × (list_all (λ (t : Step). not (is_empty_clause t.clause)) ss ≡ true) = and_parts _ _ some in
    let c : (follows before s.clause s.hints ≡ true) × (follows_all (before ++ s.clause ∷ []) ss ≡ true) = and_parts _ _ follow in
    let d : (is_new before s.clause ≡ true) × (is_fresh (before ++ s.clause ∷ []) ss ≡ true) = and_parts _ _ fresh in
    and_from _ _ (and_from _ _ (and_from _ _ c.0 d.0) (and_from _ _ b.0 a.0)) (from_four over (before ++ s.clause ∷ []) ss a.1 b.1 c.1 d.1)

-- what was learnt for a question's clauses is what its budget was spent on
pub is_spent : (q : Condition) (formula : List (List Literal)) (budget : ℕ) (lines : List CertLine) (log : List Step) (rest : List CertLine) → HasTwo (asserted_inputs q) →
    formula ≡ clauses q → HasLearntAll (is_over formula) formula budget lines log rest → IsSpentBy q budget lines log rest
is_spent q formula budget lines log rest two same has =
    let learnt : are_learnt (is_over (clauses q)) (clauses q) log ≡ true = ap (λ (cs : List (List Literal)). are_learnt (is_over cs) cs log) (sym same) ∙ has.learnt in
    let four = are_four (is_over (clauses q)) (clauses q) log learnt in
    record {
      lines_are = has.lines_are;
      spent = record {
        wide = two;
        whole = has.whole;
        formed = has.formed;
        over = four.over_all;
        no_empty = four.no_empty;
        follows = four.follow;
        fresh = four.fresh;
      };
    }

pub is_not_spent : (q : Condition) (formula : List (List Literal)) (budget : ℕ) (log : List Step) → formula ≡ clauses q →
    (length log ≡ budget → are_learnt (is_over formula) formula log ≡ false) → IsSpent q budget log → ⊥
is_not_spent q formula budget log same refused spent =
    let learnt : are_learnt (is_over (clauses q)) (clauses q) log ≡ true = from_four (is_over (clauses q)) (clauses q) log spent.over spent.no_empty spent.follows spent.fresh in
    false≢true (sym (refused spent.whole) ∙ ap (λ (cs : List (List Literal)). are_learnt (is_over cs) cs log) same ∙ learnt)

pub is_spending_fault : (q : Condition) (formula : List (List Literal)) (budget : ℕ) (lines : List CertLine) (fault : Fault) → HasTwo (asserted_inputs q) →
    formula ≡ clauses q → IsLearntFault (is_over formula) formula budget lines fault → IsSpendingFault q budget lines fault
is_spending_fault q formula budget lines fault two same refused =
    is_not_learnt two (subst (λ (cs : List (List Literal)). IsLearntFault (is_over cs) cs budget lines fault) same refused)

-- the input bytes under what a question asserts
asserted_under : (q : Condition) (graph : Graph) (nodes : List Node) (asserted : List ℕ) → graph ≡ q.graph → nodes ≡ graph.nodes → asserted ≡ q.asserted →
    flat_map (inputs_at (inputs_of nodes)) asserted ≡ asserted_inputs q
asserted_under q graph nodes asserted same_graph same_nodes same_asserted =
    ap (λ (ns : List Node). flat_map (inputs_at (inputs_of ns)) asserted) (same_nodes ∙ ap (λ (g : Graph). g.nodes) same_graph)
    ∙ ap (λ (ids : List ℕ). flat_map (inputs_at (inputs_of q.graph.nodes)) ids) same_asserted

-- a question on two bytes at least
pub is_wide : (q : Condition) (graph : Graph) (nodes : List Node) (asserted : List ℕ) (o : Occurrence) → graph ≡ q.graph → nodes ≡ graph.nodes → asserted ≡ q.asserted →
    IsOccurrence (flat_map (inputs_at (inputs_of nodes)) asserted) o → o ≡ MoreInputs → HasTwo (asserted_inputs q)
is_wide q graph nodes asserted o same_graph same_nodes same_asserted occurs is =
    let two : HasTwo (flat_map (inputs_at (inputs_of nodes)) asserted) = subst (IsOccurrence (flat_map (inputs_at (inputs_of nodes)) asserted)) is occurs in
    subst HasTwo (asserted_under q graph nodes asserted same_graph same_nodes same_asserted) two

-- a question on one byte at most
not_two_of_none : (inputs : List ℕ) → inputs ≡ [] → HasTwo inputs → ⊥
not_two_of_none inputs none two =
    All-contains (λ (i : ℕ). ⊥) [] two.first (All-nil (λ (i : ℕ). ⊥)) (subst (λ (xs : List ℕ). Contains xs two.first) none two.first_there)

not_two_of_one : (inputs : List ℕ) (place : ℕ) → IsAlone inputs place → HasTwo inputs → ⊥
not_two_of_one inputs place alone two =
    two.differ (All-contains (λ i. i ≡ place) inputs two.first alone two.first_there ∙ sym (All-contains (λ i. i ≡ place) inputs two.second alone two.second_there))

pub not_wide : (q : Condition) (graph : Graph) (nodes : List Node) (asserted : List ℕ) (o : Occurrence) → graph ≡ q.graph → nodes ≡ graph.nodes → asserted ≡ q.asserted →
    IsOccurrence (flat_map (inputs_at (inputs_of nodes)) asserted) o → (o ≡ MoreInputs → ⊥) → HasTwo (asserted_inputs q) → ⊥
not_wide q graph nodes asserted NoInput same_graph same_nodes same_asserted occurs not two =
    not_two_of_none (asserted_inputs q) (sym (asserted_under q graph nodes asserted same_graph same_nodes same_asserted) ∙ occurs) two
not_wide q graph nodes asserted (OneInput place) same_graph same_nodes same_asserted occurs not two =
    not_two_of_one (asserted_inputs q) place (subst (λ (xs : List ℕ). IsAlone xs place) (asserted_under q graph nodes asserted same_graph same_nodes same_asserted) occurs.1) two
not_wide q graph nodes asserted MoreInputs same_graph same_nodes same_asserted occurs not two = not refl
