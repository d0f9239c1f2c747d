-- A round of work: a claim, and its end.
use Rattle.std.proofs.Common.{◌≡◌, ℕ, ◌&&◌, not, true, false, List, [], ◌∷◌, ◌++◌, sym, refl, ap, ◌∙◌, eq-eqb, append_assoc, subst}
use Rattle.std.specs.Prelude.{Result, Ok, Err, IfOk, OnErr}
use Rattle.std.specs.declared.alloc.Global.{Global}
use Rattle.std.specs.declared.sync.Arc.{Arc}
use Rattle.std.proofs.lemmas.List.Elements.{All-cons, All-nil}
use Rattle.tree_core.specs.Replays.{kept}
use Rattle.tree_core.specs.declared.event.Event.{Event}
use Rattle.fork_spec.specs.Histories.{is_release}
use Rattle.fork_tree.specs.Calls.{claim_event}
use Rattle.fork_tree.specs.Works.{Rules}
use Rattle.fork_tree.specs.declared.content.Content.{Content}
use Rattle.fork_tree.specs.declared.tree.Claim.{Claim}
use Rattle.fork_tree.specs.declared.tree.Claim.TheVariants.{Claimed}
use Rattle.turn_lock.proofs.Growths.{starts_refl, starts_trans}
use Rattle.work_run.specs.Seen.{CarriesOn, EndsAndClaims, EndsByTurns, EndsClaim, GoesOnToClaim, IsClaimed, IsLater, KnownOf, SeesMore, StopsBehind}
use Rattle.work_run.specs.Turns.{GoesOnByEntered, GoesOnByTurns, is_turn}
use Rattle.work_run.proofs.Turning.{goes-entered, goes-turns, one_turn}

module _ {F R : Type 0} where
  pub sees-after : (u v w : KnownOf F R) → SeesMore u v → SeesMore v w → SeesMore u w
  sees-after u v w a b = (
    starts_trans u.nodes v.nodes w.nodes a.0 b.0,
    starts_trans u.events v.events w.events a.1 b.1,
  )

  pub later-refl : (v : KnownOf F R) → v.has_turn ≡ false → IsLater v v
  later-refl v turn = record {
    same = record { fixed = refl; number = refl; opened = refl; made = refl; ended = refl };
    turn = turn;
    seen = (starts_refl v.nodes, starts_refl v.events);
  }

  pub later-after : (u v w : KnownOf F R) → IsLater u v → IsLater v w → IsLater u w
  later-after u v w a b = record {
    same = record {
      fixed = b.same.fixed ∙ a.same.fixed;
      number = b.same.number ∙ a.same.number;
      opened = b.same.opened ∙ a.same.opened;
      made = b.same.made ∙ a.same.made;
      ended = b.same.ended ∙ a.same.ended;
    };
    turn = b.turn;
    seen = sees-after u v w a.seen b.seen;
  }

module _ {S L : Type 0} (by m : ℕ) (u v w : List (Event (Content S L) ℕ))
    (claims : v ≡ u ++ kept (claim_event {S = S} {L = L} by m) ∷ []) where
  abbrev first : Event (Content S L) ℕ
  first = kept (claim_event by m)

  -- a claim, and what it was ended by, are turns of work
  pub claim-turns : EndsByTurns m v w → GoesOnByTurns u w
  claim-turns ends = (
    first ∷ ends.0,
    ends.1 ∙ (ap (λ l. l ++ ends.0) claims ∙ append_assoc u (first ∷ []) ends.0),
    ends.2 first refl refl,
  )

  pub claim-entered : EndsClaim false m v w → GoesOnByEntered u w
  claim-entered ends =
      let P : Event (Content S L) ℕ → Type 0 = λ e. is_release e.deed ≡ false in (
        first ∷ ends.event ∷ [],
        ends.goes ∙ (ap (λ l. l ++ ends.event ∷ []) claims
            ∙ append_assoc u (first ∷ []) (ends.event ∷ [])),
        (
          one_turn first ends.event a_turn,
          All-cons P first (ends.event ∷ []) refl
              (All-cons P ends.event [] ends.is_released (All-nil P)),
        ),
      )
    where
      a_turn : is_turn first ends.event ≡ true
      a_turn = λ i. true && (not (ends.ends i) && eq-eqb m ends.event.node (sym ends.of_node) i)

module _ {F S L : Type 0} (rules : Rules S L) (v w : KnownOf F (Content S L))
    (last : Claim S) where
  -- a round in which a node was worked
  pub worked-carries : {E : Type 0} (m : ℕ) (a : Arc S Global) → last ≡ Claimed m a →
      (answer : Result (Claim S) E) → IfOk answer (EndsAndClaims rules m v.own w) →
      IfOk answer (CarriesOn rules v last w)
  worked-carries m a is (Ok next) has = λ old goes.
      let own = goes.0 in
      let got : IsClaimed rules own v (Claimed m a) = subst (IsClaimed rules own v) is goes.2 in (
        has.0,
        goes-entered old own has.0 goes.1 (claim-entered v.number m own v.own has.0 got.1 has.1),
        has.2,
      )
  worked-carries m a is (Err e) has = has

  pub worked-stops : {X E : Type 0} (m : ℕ) (a : Arc S Global) → last ≡ Claimed m a →
      (answer : Result X E) → OnErr answer (EndsByTurns m v.own w.own) →
      OnErr answer (StopsBehind rules v last w)
  worked-stops m a is (Ok x) ends = ends
  worked-stops m a is (Err e) ends = λ old goes.
      let own = goes.0 in
      let got : IsClaimed rules own v (Claimed m a) = subst (IsClaimed rules own v) is goes.2 in
      goes-turns old own w.own goes.1 (claim-turns v.number m own v.own w.own got.1 ends)

-- The rules stay those of the pass's fixed part.
module _ {F S L : Type 0} (rules : F → Rules S L) (u v w : KnownOf F (Content S L))
    (last : Claim S) where
  pub carried : (next : Claim S) → IsLater u v → CarriesOn (rules v.fixed) v last w next →
      GoesOnToClaim (rules u.fixed) u.own v last → GoesOnToClaim (rules u.fixed) u.own w next
  carried next later on goes =
      subst (λ f. CarriesOn (rules f) v last w next) later.same.fixed on u.own goes

  pub stopped-by : IsLater u v → StopsBehind (rules v.fixed) v last w →
      GoesOnToClaim (rules u.fixed) u.own v last → GoesOnByTurns u.own w.own
  stopped-by later stops goes =
      subst (λ f. StopsBehind (rules f) v last w) later.same.fixed stops u.own goes
