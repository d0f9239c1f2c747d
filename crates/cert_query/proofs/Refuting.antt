-- Clauses that follow, one after the other, and refute a formula.
use Rattle.std.proofs.Common.{◌≡◌, ◌∙◌, Bool, true, false, ◌&&◌, ◌==◌, List, [], ◌∷◌, ◌++◌, length, map, refl, ap, sym, subst, arith, append_assoc, append-nil}
use Rattle.std.proofs.lemmas.Bool.{ne_eqb}
use Rattle.cnf_form.specs.Literals.{Literal}
use Rattle.cnf_form.specs.Propagation.{follows}
use Rattle.cnf_form.specs.Refutations.{Step, clauses_of, ends_empty, follows_all, is_empty_clause, refutes}
use Rattle.cnf_form.proofs.Soundness.{no_valuation}
use Rattle.bv_dag.specs.Graphs.{IsDag}
use Rattle.bv_dag.specs.Queries.{AreBits, Condition, holds, IsUnsatisfiable}
use Rattle.circuit_spec.specs.Circuits.{clauses}
use Rattle.circuit_spec.proofs.Completeness.{has_valuation}
use Rattle.cert_form.specs.declared.line.CertLine.{CertLine}
use Rattle.cert_form.specs.declared.line.CertLine.TheVariants.{One, Split, Tried, Inputs, Nodes, Logic, Input, Base, Node, Assert, Check, Exit, Clause, Value, Witness, End, CutSteps, CutNodes}
use Rattle.cert_query.specs.ClauseFaults.{IsFollowingFault, IsRefutingFault}
use Rattle.cert_query.specs.ClauseLines.{begins_with_clause, behind_clauses, clauses_at}
use Rattle.cert_query.specs.Faults.{fault_at}
use Rattle.cert_query.specs.declared.fault.Fault.{Fault}
use Rattle.cert_query.specs.declared.fault.Reason.TheVariants.{Log}
use Rattle.cert_query.specs.Refuting.{IsNoted, IsRefutation, IsRefutedBy}
use Rattle.cert_query.proofs.Clauses.{BeginsWithNone, are_clause_lines, clauses_behind, one_more_clause, one_more_noted, others_behind}

-- whether the last clause is empty, where it is said whether one before the first is
unfoldable pub closes : Bool → List Step → Bool
closes closed [] = closed
closes closed (s ∷ ss) = closes (is_empty_clause s.clause) ss

ends_where_it_closes : (s : Step) (ss : List Step) → ends_empty (s ∷ ss) ≡ closes (is_empty_clause s.clause) ss
unfolding ends_empty closes
ends_where_it_closes s [] = refl
ends_where_it_closes s (t ∷ ts) = ends_where_it_closes t ts

closes_where_it_ends : (log : List Step) → ends_empty log ≡ closes false log
unfolding ends_empty closes
closes_where_it_ends [] = refl
closes_where_it_ends (s ∷ ss) = ends_where_it_closes s ss

-- the clauses so far followed, and the others follow and close just where they do behind them
pub record FollowsSoFar (before now : List (List Literal)) (lines rest : List CertLine) (closed : Bool) : Type 0 where
  pub log : List Step
  pub passed : lines ≡ map Clause log ++ rest
  pub noted : now ≡ before ++ clauses_of log
  pub follow : (ss : List Step) → follows_all before (log ++ ss) ≡ follows_all now ss
  pub ends : (ss : List Step) → ends_empty (log ++ ss) ≡ closes closed ss

pub none_so_far : (before : List (List Literal)) (lines : List CertLine) → FollowsSoFar before before lines lines false
none_so_far before lines = record {
  log = [];
  passed = refl;
  noted = sym (append-nil before);
  follow = λ ss. refl;
  ends = closes_where_it_ends;
}

first_follows : (now : List (List Literal)) (s : Step) (ss : List Step) (b : Bool) → follows now s.clause s.hints ≡ b → follows_all now (s ∷ ss) ≡ (b && follows_all (now ++ s.clause ∷ []) ss)
unfolding follows_all
first_follows now s ss b h = rw h refl

first_closes : (closed : Bool) (s : Step) (ss : List Step) → closes closed (s ∷ ss) ≡ closes (is_empty_clause s.clause) ss
unfolding closes
first_closes closed s ss = refl

pub one_more_follows : (before old new : List (List Literal)) (lines rest more : List CertLine) (closed now_closed : Bool) (s : Step) →
    FollowsSoFar before old lines rest closed → rest ≡ Clause s ∷ more → IsNoted old new s true → now_closed ≡ is_empty_clause s.clause →
    FollowsSoFar before new lines more now_closed
one_more_follows before old new lines rest more closed now_closed s so_far next noted ends = record {
  log = so_far.log ++ s ∷ [];
  passed = one_more_clause lines rest more so_far.log s so_far.passed next;
  noted = one_more_noted before old new so_far.log s so_far.noted noted.1;
  follow = λ ss. ap (follows_all before) (append_assoc so_far.log (s ∷ []) ss) ∙ so_far.follow (s ∷ ss)
      ∙ first_follows old s ss true noted.0 ∙ ap (λ (cs : List (List Literal)). follows_all cs ss) (sym noted.1);
  ends = λ ss. ap ends_empty (append_assoc so_far.log (s ∷ []) ss) ∙ so_far.ends (s ∷ ss)
      ∙ first_closes closed s ss ∙ ap (λ (b : Bool). closes b ss) (sym ends);
}

-- all clauses are those that came and those behind them
all_clauses : (before now : List (List Literal)) (lines rest : List CertLine) (closed : Bool) (so_far : FollowsSoFar before now lines rest closed) →
    clauses_at lines ≡ so_far.log ++ clauses_at rest
all_clauses before now lines rest closed so_far = ap clauses_at so_far.passed ∙ clauses_behind so_far.log rest

pub one_does_not_follow : (before old new : List (List Literal)) (lines rest more : List CertLine) (closed : Bool) (s : Step) →
    FollowsSoFar before old lines rest closed → rest ≡ Clause s ∷ more → IsNoted old new s false → refutes before (clauses_at lines) ≡ false
one_does_not_follow before old new lines rest more closed s so_far next noted =
    let ss = clauses_at more in
    let here : clauses_at rest ≡ s ∷ clauses_at more = ap clauses_at next in
    ap (λ (b : Bool). b && ends_empty (clauses_at lines))
    (ap (follows_all before) (all_clauses before old lines rest closed so_far) ∙ so_far.follow (clauses_at rest)
    ∙ ap (follows_all old) here ∙ first_follows old s (clauses_at more) false noted)

-- a clause is empty where it has no literal
pub empty_by_length : (c : List Literal) → (length c == 0) ≡ is_empty_clause c
empty_by_length [] = refl
empty_by_length (l ∷ ls) = ne_eqb (length (l ∷ ls)) 0 (λ is. absurd (omega (arith, is)))

-- ---- at the end

none_follows : (now : List (List Literal)) → follows_all now [] ≡ true
unfolding follows_all
none_follows now = refl

none_closes : (closed : Bool) → closes closed [] ≡ closed
unfolding closes
none_closes closed = refl

all_refute : (before now : List (List Literal)) (lines rest : List CertLine) (closed : Bool) →
    FollowsSoFar before now lines rest closed → BeginsWithNone rest → refutes before (clauses_at lines) ≡ closed
all_refute before now lines rest closed so_far end =
    let all = all_clauses before now lines rest closed so_far in
    ap (λ (b : Bool). b && ends_empty (clauses_at lines))
    (ap (follows_all before) all ∙ so_far.follow (clauses_at rest) ∙ ap (follows_all now) end.none ∙ none_follows now)
    ∙ ap ends_empty all ∙ so_far.ends (clauses_at rest) ∙ ap (closes closed) end.none ∙ none_closes closed

pub are_refuting : (before now : List (List Literal)) (lines rest : List CertLine) (closed : Bool) →
    FollowsSoFar before now lines rest closed → BeginsWithNone rest → closed ≡ true → IsRefutation before lines rest
are_refuting before now lines rest closed so_far end is = record {
  log = clauses_at lines;
  lines_are = are_clause_lines lines (clauses_at lines) rest refl (end.all ∙ sym (ap behind_clauses so_far.passed ∙ others_behind so_far.log rest));
  refuting = all_refute before now lines rest closed so_far end ∙ is;
}

pub are_not_refuting : (before now : List (List Literal)) (lines rest : List CertLine) (closed : Bool) →
    FollowsSoFar before now lines rest closed → BeginsWithNone rest → closed ≡ false → refutes before (clauses_at lines) ≡ false
are_not_refuting before now lines rest closed so_far end is = all_refute before now lines rest closed so_far end ∙ is

-- ---- at a fault

none_follows_here : (formula : List (List Literal)) (log : List Step) (rest : List CertLine) (fault : Fault) → begins_with_clause rest ≡ false → ends_empty log ≡ false → fault ≡ fault_at rest Log →
    IsFollowingFault formula log rest fault
none_follows_here formula log [] fault end last is = (last, is)
none_follows_here formula log (One _ ∷ lines) fault end last is = (last, is)
none_follows_here formula log (Split _ ∷ lines) fault end last is = (last, is)
none_follows_here formula log (Tried ∷ lines) fault end last is = (last, is)
none_follows_here formula log (Inputs _ ∷ lines) fault end last is = (last, is)
none_follows_here formula log (Nodes _ ∷ lines) fault end last is = (last, is)
none_follows_here formula log (Logic ∷ lines) fault end last is = (last, is)
none_follows_here formula log (Input _ ∷ lines) fault end last is = (last, is)
none_follows_here formula log (Base ∷ lines) fault end last is = (last, is)
none_follows_here formula log (Node _ ∷ lines) fault end last is = (last, is)
none_follows_here formula log (Assert _ ∷ lines) fault end last is = (last, is)
none_follows_here formula log (Check ∷ lines) fault end last is = (last, is)
none_follows_here formula log (Exit ∷ lines) fault end last is = (last, is)
none_follows_here formula log (Clause step ∷ lines) fault end last is = cc
none_follows_here formula log (Value _ ∷ lines) fault end last is = (last, is)
none_follows_here formula log (Witness _ ∷ lines) fault end last is = (last, is)
none_follows_here formula log (End _ ∷ lines) fault end last is = (last, is)
none_follows_here formula log (CutSteps _ ∷ lines) fault end last is = (last, is)
none_follows_here formula log (CutNodes ∷ lines) fault end last is = (last, is)

-- the clauses so far follow
followed : (before now : List (List Literal)) (lines rest : List CertLine) (closed : Bool) (so_far : FollowsSoFar before now lines rest closed) → follows_all before so_far.log ≡ true
followed before now lines rest closed so_far = ap (follows_all before) (sym (append-nil so_far.log)) ∙ so_far.follow [] ∙ none_follows now

pub fault_at_clause : (before old new : List (List Literal)) (lines rest more : List CertLine) (closed : Bool) (s : Step) (fault : Fault) →
    FollowsSoFar before old lines rest closed → rest ≡ Clause s ∷ more → IsNoted old new s false → fault ≡ fault_at rest Log → IsRefutingFault before lines fault
fault_at_clause before old new lines rest more closed s fault so_far next noted is =
    let first : (follows (before ++ clauses_of so_far.log) s.clause s.hints ≡ false) × (fault ≡ fault_at (Clause s ∷ more) Log) =
    (ap (λ (cs : List (List Literal)). follows cs s.clause s.hints) (sym so_far.noted) ∙ noted, is ∙ ap (λ (ls : List CertLine). fault_at ls Log) next) in
    record {
      log = so_far.log;
      follow = followed before old lines rest closed so_far;
      refused = record {
        rest = Clause s ∷ more;
        split = so_far.passed ∙ ap (λ (ls : List CertLine). map Clause so_far.log ++ ls) next;
        here = first;
      };
    }

pub fault_at_end : (before now : List (List Literal)) (lines rest : List CertLine) (closed : Bool) (fault : Fault) →
    FollowsSoFar before now lines rest closed → begins_with_clause rest ≡ false → closed ≡ false → fault ≡ fault_at rest Log → IsRefutingFault before lines fault
fault_at_end before now lines rest closed fault so_far end unclosed is =
    let ends : ends_empty so_far.log ≡ false = ap ends_empty (sym (append-nil so_far.log)) ∙ so_far.ends [] ∙ none_closes closed ∙ unclosed in
    record {
      log = so_far.log;
      follow = followed before now lines rest closed so_far;
      refused = record {
        rest = rest;
        split = so_far.passed;
        here = none_follows_here before so_far.log rest fault end ends is;
      };
    }

-- ---- what a refutation says of a question

not_true : (b : Bool) → (b ≡ true → ⊥) → b ≡ false
not_true true never = absurd (never refl)
not_true false never = refl

-- no input meets a question whose clauses are refuted
refuted_is_unsatisfiable : (q : Condition) (lines rest : List CertLine) → IsDag q.graph → AreBits q.graph q.asserted → IsRefutation (clauses q) lines rest → IsUnsatisfiable q
refuted_is_unsatisfiable q lines rest dag bits refutation input small =
    not_true (holds q input) (λ is.
    let has = has_valuation q input dag bits small is in
    no_valuation has.0 (clauses q) refutation.log refutation.refuting has.1)

pub is_refuted : (q : Condition) (formula : List (List Literal)) (lines rest : List CertLine) → IsDag q.graph → AreBits q.graph q.asserted → formula ≡ clauses q →
    IsRefutation formula lines rest → IsRefutedBy q lines rest
is_refuted q formula lines rest dag bits same refutation =
    let shown : IsRefutation (clauses q) lines rest = subst (λ (f : List (List Literal)). IsRefutation f lines rest) same refutation in
    record { refutation = shown; unsatisfiable = refuted_is_unsatisfiable q lines rest dag bits shown }
