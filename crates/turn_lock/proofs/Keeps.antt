-- Each step of a turn keeps the rule of the lock.
use Rattle.std.proofs.Common.{◌≡◌, ◌≢◌, ℕ, ◌<◌, ◌≤◌, eqb, true, Option, Some, List, [], ◌∷◌, ◌++◌, length, drop, set, get_or, sym, refl, ap, ◌∙◌, subst, arith, append-nil, eq-eqb, ne_eqb}
use mathlib.Core.Logic.{dite}
use mathlib.Core.Option.{some, none}
use mathlib.Core.Option as maybe
use native.Mathlib.Decide.{ℕ_discrete}
use lib.ListN.{get_elem?}
use prog.Atomic.{either}
use Rattle.std.specs.List.{All}
use Rattle.std.proofs.lemmas.List.{set-get_or}
use Rattle.atomic_table.specs.Table.{State, Me, step, keeps, takes, gives, put_back, stepped, Allows}
use Rattle.atomic_table.proofs.Lists.{set_here, set_again}
use Rattle.turn_lock.specs.declared.known.Known.{Known}
use Rattle.turn_lock.specs.Growth.{StartsWith, by_number, GoesOnBy}
use Rattle.turn_lock.specs.Turns.{Sits, IsTurnKept, tried, grown_by, entered, left}
use Rattle.turn_lock.specs.Views.{looked, grown, without_turn}
use Rattle.turn_lock.proofs.Growths.{starts_refl, starts_trans, starts_length, set_single, at_below, past_same, past_own}
use Rattle.turn_lock.proofs.Seats.{apart, seated, each_set}

module _ {V F N E : Type 0} (fixed_of : V → F) (nodes_of : V → List N) (events_of : V → List E)
    (worker : E → ℕ) (key : V) where
  abbrev Rule : State (Option V) (Known F N E) → Type 0
  Rule = IsTurnKept fixed_of nodes_of events_of worker key

  abbrev St : Type 0
  St = State (Option V) (Known F N E)

  abbrev M : Type 0
  M = Me (Option V) (Known F N E)

  abbrev first_count : ℕ
  first_count = length (events_of key)

  -- a pass is where it was though the turn changed hands
  turn_on : (nodes : List N) (events : List E) (turn holder turn' holder' next : ℕ)
      (seat_of : ℕ → maybe.Option ℕ) (j : ℕ) (u : Known F N E)
      → (u.has_turn ≡ true → (turn' ≢ 0) × (j ≡ holder') × (u.nodes ≡ nodes) × (u.events ≡ events))
      → Sits worker first_count (fixed_of key) nodes events turn holder next seat_of j u →
      Sits worker first_count (fixed_of key) nodes events turn' holder' next seat_of j u
  turn_on nodes events turn holder turn' holder' next seat_of j u turned was = record {
    same_fixed = was.same_fixed;
    opened_is = was.opened_is;
    nodes_seen = was.nodes_seen;
    events_seen = was.events_seen;
    own = was.own;
    seat = was.seat;
    made = was.made;
    turned = turned;
    ended = was.ended;
  }

  turn_word : (s : St) (r : Rule s) → get_or s.words 0 0 ≡ r.turn
  turn_word s r = ap (λ (l : List ℕ). get_or l 0 0) r.words

  pub tries : (slots id : ℕ) (me : M) → me.0.live ≡ true
      → Allows Rule slots id me 0 (λ n. either (eqb n 0) 1 n)
      (tried fixed_of nodes_of events_of worker (step slots 0 0 1 none) me)
  tries slots id me live s r len at small = let t : ℕ = get_or s.words 0 0 in dite (ℕ_discrete t 0)
      (λ hit. let turn_is : r.turn ≡ 0 = sym (turn_word s r) ∙ hit in let x = r.free turn_is in
      let sits = r.each id me.0 at live in
      let w : Known F N E = looked nodes_of events_of me.0 x.0 in (
        w,
        takes 0 (Some x.0),
        ap (λ (h : List (maybe.Option (Option V))). get_elem? h 0) x.1,
        subst (λ b. Rule (stepped s 0 (either b 1 t) id me.1 w (takes 0 (Some x.0))))
            (sym (eq-eqb t 0 hit)) record {
              nodes = r.nodes;
              events = r.events;
              turn = 1;
              holder = id;
              next = r.next;
              seat_of = r.seat_of;
              words = ap (λ (l : List ℕ). set l 0 1) r.words;
              first_nodes = r.first_nodes;
              first_events = r.first_events;
              free = λ z. absurd (omega arith);
              held = λ _. (w, set_here s.views id w (at_below s.views id me.0 at), live, refl);
              unborn = r.unborn;
              each = each_set
                  (Sits worker first_count
                  (fixed_of key) r.nodes r.events 1 id r.next r.seat_of) s.views id w
                  (λ _. record {
                    same_fixed = sits.same_fixed;
                    opened_is = sits.opened_is;
                    nodes_seen = ([], sym x.2 ∙ sym (append-nil (nodes_of x.0)));
                    events_seen = ([], sym x.3 ∙ sym (append-nil (events_of x.0)));
                    own = sits.own;
                    seat = sits.seat;
                    made = sits.made;
                    turned = λ _. ((λ z. absurd (omega arith)), refl, x.2, x.3);
                    ended = sits.ended;
                  })
                  (λ j u _ there alive. let was = r.each j u there alive in
                  turn_on r.nodes r.events r.turn r.holder 1 id r.next r.seat_of j u
                  (λ has. absurd ((was.turned has).0 turn_is)) was);
            },
        (
          (λ _. (
            x.0,
            refl,
            record {
              fixed = x.4 ∙ sym sits.same_fixed;
              nodes = (sits.nodes_seen.0, x.2 ∙ sits.nodes_seen.1);
              events = (sits.events_seen.0, x.3 ∙ sits.events_seen.1);
              own = (λ i. by_number worker me.0.number (drop (sits.opened_is i) (x.3 i)))
                  ∙ sits.own;
            },
          )),
          λ ne. absurd (ne hit),
        ),
      ))
      (λ miss. (
        me.0,
        keeps,
        tt,
        subst (λ b. Rule (stepped s 0 (either b 1 t) id me.1 me.0 keeps)) (sym (ne_eqb t 0 miss))
            (subst Rule
            (λ i. record {
              words = sym (set-get_or s.words 0 0) i;
              homes = s.homes;
              views = sym
                  (set_again s.views id me.0 at) i;
            }) r),
        ((λ hit. absurd (miss hit)), λ _. refl),
      ))

  pub enters : (slots id : ℕ) (me : M) (x : V) (cs : List (ℕ × Option V)) (n : ℕ) →
      me.1 ≡ (0, Some x) ∷ cs → n ≡ length (events_of x) → me.0.live ≡ true → me.0.has_turn ≡ true
      → StartsWith (nodes_of x) me.0.nodes → GoesOnBy worker me.0.number me.0.events (events_of x)
      → Allows Rule slots id me 1 (λ _. n)
      (λ _. entered nodes_of events_of (step slots 1 n 0 none) me n)
  enters slots id me x cs n hand count live turn more more_events s r len at small =
      let sits = r.each id me.0 at live in let now = sits.turned turn in
      let w : Known F N E = grown nodes_of events_of me.0 x in
      let on : GoesOnBy worker me.0.number r.events (events_of x) = subst
      (λ (l : List E). GoesOnBy worker me.0.number l (events_of x)) now.3 more_events in
      let up : StartsWith (nodes_of x) r.nodes = subst (StartsWith (nodes_of x)) now.2 more in
      let up_events : StartsWith (events_of x) r.events = (on.0, on.1) in
      let low : first_count ≤ length r.events = starts_length
      (events_of key) r.events r.first_events in
      let same : (j : ℕ) → j ≢ me.0.number → by_number worker j
      (drop first_count (events_of x)) ≡ by_number worker j
      (drop first_count r.events) = past_same worker first_count r.events
      (events_of x) me.0.number low on in
      let past : (u : Known F N E) → All
      (λ p. (p.0 < r.next) × (r.seat_of p.0 ≡ none)
      × (by_number worker p.0 (drop first_count r.events) ≡ p.1)) u.ended
      → All (λ p. (p.0 < r.next) × (r.seat_of p.0 ≡ none)
      × (by_number worker p.0 (drop first_count (events_of x)) ≡ p.1)) u.ended =
      λ u all k d lt. let p = all k d lt in
      (p.0, p.1, same _ (seated r.seat_of _ me.0.number id p.1 sits.seat) ∙ p.2) in (
        w,
        keeps,
        tt,
        record {
          nodes = nodes_of x;
          events = events_of x;
          turn = r.turn;
          holder = r.holder;
          next = r.next;
          seat_of = r.seat_of;
          words = ap (λ (l : List ℕ). set l 1 n) r.words ∙ ap (λ (z : ℕ). r.turn ∷ z ∷ []) count;
          first_nodes = starts_trans (nodes_of key) r.nodes (nodes_of x) r.first_nodes up;
          first_events = starts_trans (events_of key) r.events
              (events_of x) r.first_events up_events;
          free = λ z. absurd (now.0 z);
          held = λ _. (
            w,
            subst (λ (z : ℕ). get_elem? (set s.views id w) z ≡ some w) now.1
                (set_here s.views id w (at_below s.views id me.0 at)),
            live,
            turn,
          );
          unborn = λ k le. let b = r.unborn k le in
              (b.0, same k (seated r.seat_of k me.0.number id b.0 sits.seat) ∙ b.1);
          each = each_set
              (Sits worker first_count (fixed_of key) (nodes_of x)
              (events_of x) r.turn r.holder r.next r.seat_of) s.views id w
              (λ _. record {
                same_fixed = sits.same_fixed;
                opened_is = sits.opened_is;
                nodes_seen = starts_refl (nodes_of x);
                events_seen = starts_refl (events_of x);
                own = past_own worker first_count r.events (events_of x) me.0.number low on
                    ∙ (λ i. sits.own i ++ drop (length (sym now.3 i)) (events_of x));
                seat = sits.seat;
                made = sits.made;
                turned = λ _. (now.0, now.1, refl, refl);
                ended = past me.0 sits.ended;
              })
              (λ j u ne there alive. let was = r.each j u there alive in record {
                same_fixed = was.same_fixed;
                opened_is = was.opened_is;
                nodes_seen = starts_trans u.nodes r.nodes (nodes_of x) was.nodes_seen up;
                events_seen = starts_trans u.events r.events
                    (events_of x) was.events_seen up_events;
                own = same u.number
                    (apart r.seat_of u.number me.0.number j id was.seat sits.seat ne) ∙ was.own;
                seat = was.seat;
                made = was.made;
                turned = λ has. absurd (ne ((was.turned has).1 ∙ sym now.1));
                ended = past u was.ended;
              });
        },
        λ i. (grown_by nodes_of events_of me.0 (sym hand i), me.1),
      )

  pub leaves : (slots id : ℕ) (me : M) (x : V) (cs : List (ℕ × Option V)) → slots ≡ 1 →
      me.1 ≡ (0, Some x) ∷ cs → me.0.live ≡ true → me.0.has_turn ≡ true → fixed_of x ≡ me.0.fixed →
      nodes_of x ≡ me.0.nodes → events_of x ≡ me.0.events
      → Allows Rule slots id me 0 (λ _. 0) (λ _. left (step slots 0 0 0 none) me 0)
  leaves slots id me x cs one hand live turn fixed_is nodes_is events_is s r len at small =
      let sits = r.each id me.0 at live in let now = sits.turned turn in
      let w : Known F N E = without_turn me.0 in (
        w,
        gives,
        tt,
        record {
          nodes = r.nodes;
          events = r.events;
          turn = 0;
          holder = r.holder;
          next = r.next;
          seat_of = r.seat_of;
          words = ap (λ (l : List ℕ). set l 0 0) r.words;
          first_nodes = r.first_nodes;
          first_events = r.first_events;
          free = λ _. (
            x,
            ap (put_back s.homes) hand ∙ set_single s.homes (some (Some x)) (len ∙ one),
            nodes_is
                ∙ now.2,
            events_is ∙ now.3,
            fixed_is ∙ sits.same_fixed,
          );
          held = λ z. absurd (z refl);
          unborn = r.unborn;
          each = each_set
              (Sits worker first_count
              (fixed_of key) r.nodes r.events 0 r.holder r.next r.seat_of) s.views id w
              (λ _. turn_on r.nodes r.events r.turn r.holder 0 r.holder r.next r.seat_of id w
              (λ has. cc) record {
                same_fixed = sits.same_fixed;
                opened_is = sits.opened_is;
                nodes_seen = sits.nodes_seen;
                events_seen = sits.events_seen;
                own = sits.own;
                seat = sits.seat;
                made = sits.made;
                turned = λ has. sits.turned turn;
                ended = sits.ended;
              })
              (λ j u ne there alive. let was = r.each j u there alive in
              turn_on r.nodes r.events r.turn r.holder 0 r.holder r.next r.seat_of j u
              (λ has. absurd (ne ((was.turned has).1 ∙ sym now.1))) was);
        },
        refl,
      )
