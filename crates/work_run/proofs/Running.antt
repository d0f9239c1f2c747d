-- Passes of workers that have done their work.
use Rattle.std.proofs.Common.{◌≡◌, ℕ, ◌+◌, ◌<◌, ◌≤◌, true, List, [], ◌∷◌, ◌++◌, drop, length, sym, refl, ap, ◌∙◌, subst, arith, length-append, lt_of_not-le}
use mathlib.Core.Logic.{dite}
use native.Mathlib.Decide.{ℕ_discrete, dec_le}
use Rattle.std.specs.List.{All}
use Rattle.std.proofs.lemmas.List.{get_or_append_left, get_or_push}
use Rattle.std.proofs.lemmas.List.Elements.{All-append, All-nil, All-push}
use Rattle.tree_core.specs.declared.event.Event.{Event}
use Rattle.turn_lock.specs.Growth.{StartsWith, by_number}
use Rattle.turn_lock.specs.Passes.{AllEnded, AreOf}
use Rattle.turn_lock.specs.Views.{child, merged_known, parent}
use Rattle.turn_lock.proofs.Growths.{longer_keeps}
use Rattle.work_run.specs.Runs.{EndedFrom, HasRun, HasWorked, MayRun, MayWork}
use Rattle.work_run.specs.Seen.{KnownOf, IsLater}
use Rattle.work_run.specs.Turns.{GoesOnByTurns, are_turns}

module _ {F R : Type 0} where
  -- a pass that the first makes for a worker
  pub may_child : (worker : F) (next : ℕ) (v u : KnownOf F R) → u ≡ child v →
      MayRun worker next v → MayWork worker u
  may_child worker next v u is may =
      subst (MayWork worker) (sym is)
      (record {
        turn = refl;
        opened = may.may.opened;
        fixed = may.may.fixed;
        fresh = refl;
      })

  pub may_parent : (worker : F) (next : ℕ) (v u : KnownOf F R) → u ≡ parent v →
      MayRun worker next v → MayRun worker (next + 1) u
  may_parent worker next v u is may =
      subst (MayRun worker (next + 1)) (sym is)
      (record {
        may = record {
          turn = may.may.turn;
          opened = may.may.opened;
          fixed = may.may.fixed;
          fresh = may.may.fresh;
        };
        number = may.number;
        made = ap (λ n. n + 1) may.made;
        none = may.none;
      })

  -- what a worker did whose pass had given nothing
  pub has_worked : (worker : F) (v w : KnownOf F R) → MayWork worker v → IsLater v w →
      GoesOnByTurns v.own w.own → HasWorked v w
  has_worked worker v w may later goes = record {
    later = later;
    turns = ap are_turns (goes.1 ∙ ap (λ l. l ++ goes.0) may.fresh) ∙ goes.2;
  }

  -- the first worker, alone
  pub run_alone : (worker : F) (next last : ℕ) (v w : KnownOf F R) → last ≡ next →
      MayRun worker next v →
      HasWorked v w → HasRun next last v w
  run_alone worker next last v w is may worked =
      let made : w.made ≡ next = worked.later.same.made ∙ may.made in record {
        fixed = worked.later.same.fixed;
        number = worked.later.same.number ∙ may.number;
        turn = worked.later.turn;
        opened = worked.later.same.opened ∙ may.may.opened;
        made = made ∙ sym is;
        seen = worked.later.seen;
        own = worked.turns;
        each = subst (All (λ (p : ℕ × List (Event R ℕ)). are_turns p.1 ≡ true))
            (sym (worked.later.same.ended ∙ may.none))
            (All-nil (λ (p : ℕ × List (Event R ℕ)). are_turns p.1 ≡ true));
        ended = λ k low below. absurd (never next k w.made low below made);
      }
    where
      never : (a b c : ℕ) → a ≤ b → b < c → c ≡ a → ⊥
      never a b c x y z = omega arith

  ended_more : (v w : KnownOf F R) (next : ℕ) → EndedFrom (next + 1) v → w.number ≡ next →
      EndedFrom next (merged_known v w)
  ended_more v w next ended number k low below =
      let l : List (ℕ × List (Event R ℕ)) = v.ended ++ w.ended in
      let x : ℕ × List (Event R ℕ) = (w.number, w.own) in
      let long : length (l ++ x ∷ []) ≡ length l + 1 = length-append l (x ∷ []) in
      dite (ℕ_discrete w.number k)
      (λ last. (
        w.own,
        (
          length l,
          omega arith,
          get_or_push l x (k, w.own) (length l) refl ∙ ap (λ (z : ℕ). (z, w.own)) last,
        ),
      ))
      (λ other. let e = ended k (omega arith) below in
      let i : ℕ = e.1.0 in
      let d : ℕ × List (Event R ℕ) = (k, e.0) in
      let at : i < length v.ended = e.1.1 in
      let both : length l ≡ length v.ended + length w.ended = length-append v.ended w.ended in
      let here : i < length l = omega arith in
      let there : i < length (l ++ x ∷ []) = omega arith in (
        e.0,
        (
          i,
          there,
          get_or_append_left l (x ∷ []) d i here
              ∙ (get_or_append_left v.ended w.ended d i at ∙ e.1.2),
        ),
      ))

  -- the first pass, which made one for a worker, ran the workers behind it, and took its pass in
  joined : (worker : F) (next last all : ℕ) (v u w : KnownOf F R) → MayRun worker next v →
      HasWorked (child v) w → HasRun (next + 1) last (parent v) u → last ≡ all →
      HasRun next all v (merged_known u w)
  joined worker next last all v u w may worked run is = record {
    fixed = run.fixed;
    number = run.number;
    turn = run.turn;
    opened = run.opened;
    made = run.made ∙ is;
    seen = (
      longer_keeps (λ l. StartsWith l v.nodes) u.nodes w.nodes run.seen.0 worked.later.seen.0,
      longer_keeps (λ l. StartsWith l v.events) u.events w.events run.seen.1 worked.later.seen.1,
    );
    own = run.own;
    each = All-push P (u.ended ++ w.ended) (w.number, w.own)
        (All-append P u.ended w.ended run.each
        (subst (All P) (sym worked.later.same.ended) (All-nil P)))
        worked.turns;
    ended = ended_more u w next run.ended (worked.later.same.number ∙ may.made);
  }
    where
      P : ℕ × List (Event R ℕ) → Type 0
      P p = are_turns p.1 ≡ true

  pub run_joined : (worker : F) (next last all : ℕ) (v left new u w t : KnownOf F R) →
      left ≡ parent v → new ≡ child v → t ≡ merged_known u w → MayRun worker next v →
      HasWorked new w → HasRun (next + 1) last left u → last ≡ all → HasRun next all v t
  run_joined worker next last all v left new u w t a b c may worked run is =
      subst (HasRun next all v) (sym c)
      (joined worker next last all v u w may (subst (λ (k : KnownOf F R). HasWorked k w) b worked)
      (subst (λ (k : KnownOf F R). HasRun (next + 1) last k u) a run) is)

  -- each worker's events are turns of work, once all have ended
  pub all_turns : (v : KnownOf F R) (events : List (Event R ℕ)) → v.number ≡ 0 → v.opened ≡ 0 →
      are_turns v.own ≡ true → All (λ (p : ℕ × List (Event R ℕ)). are_turns p.1 ≡ true) v.ended →
      AllEnded v → AreOf (λ (e : Event R ℕ). e.by) v events → (k : ℕ) →
      are_turns (by_number (λ (e : Event R ℕ). e.by) k events) ≡ true
  all_turns v events first opened own each ended are k =
      subst (λ n. are_turns (by_number (λ (e : Event R ℕ). e.by) k (drop n events)) ≡ true) opened
      (dite (dec_le v.made k)
      (λ le. ap are_turns (are.others k le))
      (λ not. dite (ℕ_discrete k 0)
      (λ z. ap are_turns (ap (λ j. by_number (λ (e : Event R ℕ). e.by) j (drop v.opened events))
      (z ∙ sym first) ∙ are.own) ∙ own)
      (λ nz. let e = ended k nz (lt_of_not-le not) in
      let i : ℕ = e.1.0 in
      let d : ℕ × List (Event R ℕ) = (k, e.0) in
      let list : by_number (λ (e : Event R ℕ). e.by) k (drop v.opened events) ≡ e.0 =
      subst (λ (q : ℕ × List (Event R ℕ)). by_number (λ (e : Event R ℕ). e.by) q.0
      (drop v.opened events) ≡ q.1) e.1.2 (are.ended i d e.1.1) in
      ap are_turns list ∙ subst (λ (q : ℕ × List (Event R ℕ)). are_turns q.1 ≡ true) e.1.2
      (each i d e.1.1))))
