-- The rule of the lock from its first pass to its last: it opens, passes are split off and joined,
-- and
-- it closes.
use Rattle.std.proofs.Common.{◌≡◌, ◌≢◌, ℕ, ◌+◌, ◌<◌, ◌≤◌, eqb, true, false, cond, Option, Some, List, [], ◌∷◌, ◌++◌, length, drop, set, get_or, sym, refl, ap, ◌∙◌, subst, ⊎_elim, arith, le_refl, length-set, eq-eqb, ne_eqb, lt_of_not-le}
use mathlib.Core.Logic.{dite}
use mathlib.Core.Option.{some, none, some-injective, some-ne-none}
use mathlib.Core.Option as maybe
use native.Mathlib.Decide.{ℕ_discrete}
use lib.ListN.{get_elem?}
use Rattle.std.specs.List.{All}
use Rattle.std.proofs.lemmas.List.Elements.{All-nil, All-append, All-push}
use Rattle.atomic_table.specs.Table.{State, Splits, Joins, opening, Final, Seen}
use Rattle.atomic_table.proofs.Lists.{set_else, at_longer}
use Rattle.turn_lock.specs.declared.known.Known.{Known}
use Rattle.turn_lock.specs.Growth.{StartsWith, by_number}
use Rattle.turn_lock.specs.Turns.{Sits, IsTurnKept}
use Rattle.turn_lock.specs.Views.{opening_view, parent, child, merged_known, spent}
use Rattle.turn_lock.specs.Passes.{AllEnded, AreOf}
use Rattle.turn_lock.proofs.Growths.{starts_refl, longer_keeps, drop_whole, at_below, at_more, at_alone, cond_same}
use Rattle.turn_lock.proofs.Seats.{apart, seated, each_set}

module _ {V F N E : Type 0} (fixed_of : V → F) (nodes_of : V → List N) (events_of : V → List E)
    (worker : E → ℕ) (key : V) where
  abbrev Rule : State (Option V) (Known F N E) → Type 0
  Rule = IsTurnKept fixed_of nodes_of events_of worker key

  abbrev St : Type 0
  St = State (Option V) (Known F N E)

  abbrev first_count : ℕ
  first_count = length (events_of key)

  -- the pass of a number stands at one seat
  one_seat : (s : St) (r : Rule s) (i j : ℕ) (u v : Known F N E) → get_elem? s.views i ≡ some u →
      u.live ≡ true → get_elem? s.views j ≡ some v → v.live ≡ true → u.number ≡ v.number → i ≡ j
  one_seat s r i j u v a la b lb e = some-injective i j
      (sym (r.each i u a la).seat ∙ (ap r.seat_of e ∙ (r.each j v b lb).seat))

  born : (s : St) (r : Rule s) (i : ℕ) (u : Known F N E) → get_elem? s.views i ≡ some u →
      u.live ≡ true → u.number < r.next
  born s r i u at live = lt_of_not-le
      (λ le. some-ne-none i (sym (r.each i u at live).seat ∙ (r.unborn u.number le).0))

  -- a seat whose view has no turn is not the holder's
  not_holder : (s : St) (r : Rule s) (nz : r.turn ≢ 0) (i : ℕ) (u : Known F N E) →
      get_elem? s.views i ≡ some u → u.has_turn ≡ false → r.holder ≢ i
  not_holder s r nz i u at idle e = let h = r.held nz in
      let same : h.0 ≡ u = some-injective h.0 u (sym h.1 ∙ (ap (get_elem? s.views) e ∙ at)) in
      let has : h.0.has_turn ≡ true = h.3 in let u_has : u.has_turn ≡ true = subst
      (λ (z : Known F N E). z.has_turn ≡ true) same has in cc

  pub splits : (id : ℕ) (v : Known F N E) → v.live ≡ true → v.number ≡ 0 → v.has_turn ≡ false →
      Splits Rule id v (parent v) (child v)
  splits id v live first idle s r at = let sits = r.each id v at live in
      let below : id < length s.views = at_below s.views id v at in
      let made_is : v.made ≡ r.next = sits.made first in
      let vs : List (Known F N E) = set s.views id (parent v) in
      let fresh : ℕ = length s.views in
      let seat_of' : ℕ → maybe.Option ℕ = λ k. cond (eqb k r.next) (some fresh) (r.seat_of k) in
      let none_next : r.seat_of r.next ≡ none = (r.unborn r.next (le_refl r.next)).0 in
      let old : (k : ℕ) → k ≢ r.next → seat_of' k ≡ r.seat_of k = λ k ne. ap
      (λ b. cond b (some fresh) (r.seat_of k)) (ne_eqb k r.next ne) in
      let lt : v.number < r.next = born s r id v at live in
      let past : (u : Known F N E) → All
      (λ p. (p.0 < r.next) × (r.seat_of p.0 ≡ none)
      × (by_number worker p.0 (drop first_count r.events) ≡ p.1)) u.ended
      → All (λ p. (p.0 < r.next + 1) × (seat_of' p.0 ≡ none)
      × (by_number worker p.0 (drop first_count r.events) ≡ p.1)) u.ended =
      λ u all k d lt. let p = all k d lt in let below_next = p.0 in
      (omega arith, old _ (λ e. omega arith) ∙ p.1, p.2) in
      record {
        nodes = r.nodes;
        events = r.events;
        turn = r.turn;
        holder = r.holder;
        next = r.next + 1;
        seat_of = seat_of';
        words = r.words;
        first_nodes = r.first_nodes;
        first_events = r.first_events;
        free = r.free;
        held = λ nz. let h = r.held nz in (
          h.0,
          at_longer vs (child v ∷ []) r.holder h.0
              (set_else s.views id r.holder (parent v) (not_holder s r nz id v at idle)
              ∙ h.1),
          h.2,
          h.3,
        );
        unborn = λ k le. let b = r.unborn k (omega arith) in (old k (λ e. omega arith) ∙ b.0, b.1);
        each = λ j u there alive. ⊎_elim
            (λ (was_at : get_elem? vs j ≡ some u). each_set
            (Sits worker first_count (fixed_of key) r.nodes r.events r.turn r.holder
            (r.next + 1) seat_of') s.views id (parent v)
            (λ _. record {
              same_fixed = sits.same_fixed;
              opened_is = sits.opened_is;
              nodes_seen = sits.nodes_seen;
              events_seen = sits.events_seen;
              own = sits.own;
              seat = old v.number (λ e. omega arith) ∙ sits.seat;
              made = λ _. ap (λ (z : ℕ). z + 1) made_is;
              turned = sits.turned;
              ended = past v sits.ended;
            })
            (λ i x ne at_x alive_x. let was = r.each i x at_x alive_x in record {
              same_fixed = was.same_fixed;
              opened_is = was.opened_is;
              nodes_seen = was.nodes_seen;
              events_seen = was.events_seen;
              own = was.own;
              seat = old x.number
                  (λ e. seated r.seat_of r.next x.number i none_next was.seat (sym e)) ∙ was.seat;
              made = λ z. absurd (ne (one_seat s r i id x v at_x alive_x at live (z ∙ sym first)));
              turned = was.turned;
              ended = past x was.ended;
            })
            j u was_at alive)
            (λ (t : (j ≡ length vs) × (child v ≡ u)). subst
            (λ (z : Known F N E). Sits worker first_count
            (fixed_of key) r.nodes r.events r.turn r.holder
            (r.next + 1) seat_of' j z) t.1 record {
              same_fixed = sits.same_fixed;
              opened_is = sits.opened_is;
              nodes_seen = sits.nodes_seen;
              events_seen = sits.events_seen;
              own = ap (λ (z : ℕ). by_number worker z (drop first_count r.events)) made_is
                  ∙ (r.unborn r.next (le_refl r.next)).1;
              seat = ap (λ b. cond b (some fresh) (r.seat_of v.made)) (eq-eqb v.made r.next made_is)
                  ∙ ap some (sym (t.0 ∙ length-set s.views id (parent v)));
              made = λ z. absurd (omega arith);
              turned = λ has. cc;
              ended = All-nil _;
            })
            (at_more vs (child v) u j there);
      }

  pub joins : (f : F) (id : ℕ) (v : Known F N E) (other : ℕ) (w : Known F N E) → v.live ≡ true →
      w.live ≡ true → v.has_turn ≡ false → w.has_turn ≡ false →
      Joins Rule id v other w (merged_known v w) (spent f)
  joins f id v other w live live_w idle idle_w s r at two there =
      let m : Known F N E = merged_known v w in let vs : List (Known F N E) = set s.views id m in
      let at_w : get_elem? s.views other ≡ some w = sym (set_else s.views id other m two) ∙ there in
      let sits = r.each id v at live in let sits_w = r.each other w at_w live_w in
      let seat_of' : ℕ → maybe.Option ℕ = λ k. cond (eqb k w.number) none (r.seat_of k) in
      let old : (k : ℕ) → k ≢ w.number → seat_of' k ≡ r.seat_of k = λ k ne. ap
      (λ b. cond b none (r.seat_of k)) (ne_eqb k w.number ne) in
      let gone : (k : ℕ) → r.seat_of k ≡ none → seat_of' k ≡ none = λ k e. cond_same
      (eqb k w.number) none (r.seat_of k) e in
      let P : ℕ × List E → Type 0 = λ p. (p.0 < r.next) × (seat_of' p.0 ≡ none) ×
      (by_number worker p.0 (drop first_count r.events) ≡ p.1) in
      let past : (u : Known F N E) → All
      (λ p. (p.0 < r.next) × (r.seat_of p.0 ≡ none)
      × (by_number worker p.0 (drop first_count r.events) ≡ p.1)) u.ended → All P u.ended =
      λ u all k d lt. let p = all k d lt in (p.0, gone _ p.1, p.2) in
      record {
        nodes = r.nodes;
        events = r.events;
        turn = r.turn;
        holder = r.holder;
        next = r.next;
        seat_of = seat_of';
        words = r.words;
        first_nodes = r.first_nodes;
        first_events = r.first_events;
        free = r.free;
        held = λ nz. let h = r.held nz in (
          h.0,
          set_else vs other r.holder (spent f) (not_holder s r nz other w at_w idle_w)
              ∙ (set_else s.views id r.holder m (not_holder s r nz id v at idle)
              ∙ h.1),
          h.2,
          h.3,
        );
        unborn = λ k le. let b = r.unborn k le in (gone k b.0, b.1);
        each = each_set
            (Sits worker first_count
            (fixed_of key) r.nodes r.events r.turn r.holder r.next seat_of') vs other (spent f)
            (λ lives. cc)
            (λ j u ne at_u alive. each_set
            (λ i x. i ≢ other → Sits worker first_count
            (fixed_of key) r.nodes r.events r.turn r.holder r.next seat_of' i x) s.views id m
            (λ _ _. record {
              same_fixed = sits.same_fixed;
              opened_is = sits.opened_is;
              nodes_seen = longer_keeps
                  (StartsWith r.nodes) v.nodes w.nodes sits.nodes_seen sits_w.nodes_seen;
              events_seen = longer_keeps
                  (StartsWith r.events) v.events w.events sits.events_seen sits_w.events_seen;
              own = sits.own;
              seat = old v.number
                  (apart r.seat_of v.number w.number id other sits.seat sits_w.seat
                  (λ e. two (sym e))) ∙ sits.seat;
              made = sits.made;
              turned = λ has. cc;
              ended = All-push P (v.ended ++ w.ended) (w.number, w.own)
                  (All-append P v.ended w.ended (past v sits.ended) (past w sits_w.ended)) (
                    born s r other w at_w live_w,
                    ap (λ b. cond b none (r.seat_of w.number))
                        (eq-eqb w.number w.number refl),
                    sits_w.own,
                  );
            })
            (λ i x ne_id at_x alive_x ne_other. let was = r.each i x at_x alive_x in record {
              same_fixed = was.same_fixed;
              opened_is = was.opened_is;
              nodes_seen = was.nodes_seen;
              events_seen = was.events_seen;
              own = was.own;
              seat = old x.number
                  (apart r.seat_of x.number w.number i other was.seat sits_w.seat ne_other)
                  ∙ was.seat;
              made = was.made;
              turned = was.turned;
              ended = past x was.ended;
            })
            j u at_u alive ne);
      }

  pub opens : (n : ℕ) → n ≡ length (events_of key) →
      Rule (opening (0 ∷ n ∷ []) (Some key ∷ []) (opening_view fixed_of nodes_of events_of key))
  opens n count = let first : ℕ → maybe.Option ℕ = λ k. cond (eqb k 0) (some 0) none in record {
    nodes = nodes_of key;
    events = events_of key;
    turn = 0;
    holder = 0;
    next = 1;
    seat_of = first;
    words = ap (λ (z : ℕ). 0 ∷ z ∷ []) count;
    first_nodes = starts_refl (nodes_of key);
    first_events = starts_refl (events_of key);
    free = λ _. (key, refl, refl, refl, refl);
    held = λ z. absurd (z refl);
    unborn = λ k le. (
      ap (λ b. cond b (some 0) none) (ne_eqb k 0 (λ e. omega arith)),
      ap (by_number worker k)
          (drop_whole (events_of key)),
    );
    each = λ j u at alive. let t = at_alone (opening_view fixed_of nodes_of events_of key) u j at in
        subst (λ (z : Known F N E). Sits worker first_count (fixed_of key) (nodes_of key)
        (events_of key) 0 0 1 first j z) t.1 record {
          same_fixed = refl;
          opened_is = refl;
          nodes_seen = starts_refl (nodes_of key);
          events_seen = starts_refl (events_of key);
          own = ap (by_number worker 0) (drop_whole (events_of key));
          seat = ap some (sym t.0);
          made = λ _. refl;
          turned = λ has. cc;
          ended = All-nil _;
        };
  }

  -- with each number ended nobody has the turn
  rests : (s : St) (r : Rule s) (id : ℕ) (v : Known F N E) → get_elem? s.views id ≡ some v →
      v.live ≡ true → v.number ≡ 0 → v.has_turn ≡ false → AllEnded v → r.turn ≢ 0 → ⊥
  rests s r id v at live first idle all nz = let h = r.held nz in let sits = r.each id v at live in
      let k : ℕ = h.0.number in let seat = (r.each r.holder h.0 h.1 h.2).seat in
      dite (ℕ_discrete k 0)
      (λ zero_is. not_holder s r nz id v at idle
      (one_seat s r r.holder id h.0 v h.1 h.2 at live (zero_is ∙ sym first)))
      (λ some_is. let made_is : v.made ≡ r.next = sits.made first in
      let low : k < r.next = born s r r.holder h.0 h.1 h.2 in
      let e = all k some_is (omega arith) in let p = sits.ended e.1.0 (k, e.0) e.1.1 in
      let is : k ≡ k = refl in
      seated r.seat_of _ k r.holder p.1 seat (ap (λ (z : ℕ × List E). z.0) e.1.2))

  -- what a closed lock says of its value
  pub record Closed (v : Known F N E) (x : V) : Type 0 where
    pub fixed : fixed_of x ≡ v.fixed
    pub nodes : StartsWith (nodes_of x) v.nodes
    pub events : StartsWith (events_of x) v.events
    pub are : AreOf worker v (events_of x)

  -- once each number has ended, the value is in the slot
  pub homes : (id : ℕ) (v : Known F N E) (ws : List ℕ) (xs : List (Option V)) → v.live ≡ true →
      v.number ≡ 0 → v.has_turn ≡ false → AllEnded v → Final (Seen Rule id v) ws xs →
      (x : V) × (get_elem? xs 0 ≡ some (Some x)) × Closed v x
  homes id v ws xs live first idle all f = let s = f.0 in let r = f.1.0 in let at = f.1.1 in
      let sits = r.each id v at live in
      dite (ℕ_discrete r.turn 0)
      (λ zero_is. let x = r.free zero_is in (
        x.0,
        f.4 0 (Some x.0) (ap (λ (h : List (maybe.Option (Option V))). get_elem? h 0) x.1),
        record {
          fixed = x.4 ∙ sym sits.same_fixed;
          nodes = (sits.nodes_seen.0, x.2 ∙ sits.nodes_seen.1);
          events = (sits.events_seen.0, x.3 ∙ sits.events_seen.1);
          are = record {
            own = (λ i. by_number worker v.number (drop (sits.opened_is i) (x.3 i))) ∙ sits.own;
            ended = λ k d lt.
                (λ i. by_number worker (get_or v.ended k d).0 (drop (sits.opened_is i) (x.3 i)))
                ∙ (sits.ended k d lt).2;
            others = λ k le. (λ i. by_number worker k (drop (sits.opened_is i) (x.3 i)))
                ∙ (r.unborn k (subst (λ (z : ℕ). z ≤ k) (sits.made first) le)).1;
          };
        },
      ))
      (λ nz. absurd (rests s r id v at live first idle all nz))

  pub closes : (id : ℕ) (v : Known F N E) (ws : List ℕ) (xs : List (Option V)) → v.live ≡ true →
      v.number ≡ 0 → v.has_turn ≡ false → AllEnded v → Final (Seen Rule id v) ws xs →
      (y : V) → get_elem? xs 0 ≡ some (Some y) → Closed v y
  closes id v ws xs live first idle all f y is = let h = homes id v ws xs live first idle all f in
      let e : Some h.0 ≡ Some y = some-injective (Some h.0) (Some y) (sym h.1 ∙ is) in
      let same : h.0 ≡ y = cc in subst (Closed v) same h.2
