-- The events of one worker among all.
use Rattle.std.proofs.Common.{◌≡◌, ◌≢◌, ℕ, ◌+◌, ◌<◌, ◌≤◌, eqb, Bool, true, false, cond, Option, Some, None, List, [], ◌∷◌, ◌++◌, length, refl, sym, ap, ◌∙◌, arith, eq-eqb, ne_eqb, length-append, lt_of_not-le}
use mathlib.Core.Logic.{dite}
use native.Mathlib.Decide.{ℕ_discrete, dec_le}
use Rattle.std.specs.List.{All, filter}
use Rattle.std.proofs.lemmas.List.Elements.{All-nil, All-cons, filter-append}
use Rattle.tree_core.specs.declared.event.Event.{Event}
use Rattle.tree_core.specs.Stories.{last_on, or_later}

module _ {R : Type 0} where
  -- the events of a worker
  abbrev pub events_by : ℕ → List (Event R ℕ) → List (Event R ℕ)
  events_by w es = filter (λ (e : Event R ℕ). eqb e.by w) es

  of-mine : (w : ℕ) (e : Event R ℕ) (es : List (Event R ℕ)) → e.by ≡ w →
      events_by w (e ∷ es) ≡ e ∷ events_by w es
  of-mine w e es is = ap (λ b. cond b (e ∷ events_by w es) (events_by w es)) (eq-eqb e.by w is)

  of-other : (w : ℕ) (e : Event R ℕ) (es : List (Event R ℕ)) → e.by ≢ w →
      events_by w (e ∷ es) ≡ events_by w es
  of-other w e es ne = ap (λ b. cond b (e ∷ events_by w es) (events_by w es)) (ne_eqb e.by w ne)

  no_cons : (e : Event R ℕ) (es : List (Event R ℕ)) → e ∷ es ≡ [] → ⊥
  no_cons e es is = cc

  -- where a list has no event of a worker, all are of others
  pub all-others : (w : ℕ) (es : List (Event R ℕ)) → events_by w es ≡ [] →
      All (λ (e : Event R ℕ). e.by ≢ w) es
  all-others w [] none = All-nil (λ (e : Event R ℕ). e.by ≢ w)
  all-others w (e ∷ es) none = dite (ℕ_discrete e.by w)
      (λ is. absurd (no_cons e (events_by w es) (sym (of-mine w e es is) ∙ none)))
      (λ ne. All-cons (λ (x : Event R ℕ). x.by ≢ w) e es ne
      (all-others w es (sym (of-other w e es ne) ∙ none)))

  -- where a list goes on with no event of a worker, it goes on by others alone
  pub only_others : (w : ℕ) (seen more : List (Event R ℕ)) →
      events_by w (seen ++ more) ≡ events_by w seen → All (λ (e : Event R ℕ). e.by ≢ w) more
  only_others w seen more same = all-others w more
      (nothing (events_by w seen) (events_by w more)
      (sym (filter-append (λ (e : Event R ℕ). eqb e.by w) seen more) ∙ same))
    where
      nothing : (xs ys : List (Event R ℕ)) → xs ++ ys ≡ xs → ys ≡ []
      nothing xs [] is = refl
      nothing xs (y ∷ ys) is = let long : length (xs ++ y ∷ ys) ≡ length xs = ap length is in
          let sum : length (xs ++ y ∷ ys) ≡ length xs + length (y ∷ ys) =
          length-append xs (y ∷ ys) in absurd (omega arith)

  -- the last event on a node is also its worker's last event on it
  pub last-own : (w m : ℕ) (es : List (Event R ℕ)) (e : Event R ℕ) → last_on m es ≡ Some e →
      e.by ≡ w → last_on m (events_by w es) ≡ Some e
  last-own w m [] e is mine = cc
  last-own w m (x ∷ es) e is mine = by_later (last_on m es) (λ y at. last-own w m es y at) refl is
    where
      put : (o : Option (Event R ℕ)) → last_on m (events_by w es) ≡ o → or_later m x o ≡ Some e →
          (e.by ≡ x.by → ⊥) → last_on m (events_by w es) ≡ Some e
      put (Some y) at got ne = let one : y ≡ e = cc in at ∙ ap Some one
      put None at got ne = absurd (alone (eqb x.node m) got)
        where
          alone : (b : Bool) → cond b (Some x) None ≡ Some e → ⊥
          alone true got' = let one : x ≡ e = cc in ne (ap (λ (z : Event R ℕ). z.by) (sym one))
          alone false got' = cc

      by_owner : (o : Option (Event R ℕ)) → last_on m (events_by w es) ≡ o →
          or_later m x o ≡ Some e → last_on m (events_by w (x ∷ es)) ≡ Some e
      by_owner o at got = dite (ℕ_discrete x.by w)
          (λ is'. ap (last_on m) (of-mine w x es is') ∙ (ap (or_later m x) at ∙ got))
          (λ ne. ap (last_on m) (of-other w x es ne) ∙ put o at got (λ same. ne (sym same ∙ mine)))

      none-own : (ys : List (Event R ℕ)) → last_on m ys ≡ None → last_on m (events_by w ys) ≡ None
      none-own [] none = refl
      none-own (y ∷ ys) none = dite (ℕ_discrete y.by w)
          (λ is'. ap (last_on m) (of-mine w y ys is')
          ∙ (ap (or_later m y) (none-own ys (rest (last_on m ys) refl none))
          ∙ here (last_on m ys) refl none))
          (λ ne. ap (last_on m) (of-other w y ys ne) ∙ none-own ys (rest (last_on m ys) refl none))
        where
          rest : (o : Option (Event R ℕ)) → last_on m ys ≡ o → or_later m y o ≡ None →
              last_on m ys ≡ None
          rest None at got = at
          rest (Some z) at got = cc

          here : (o : Option (Event R ℕ)) → last_on m ys ≡ o → or_later m y o ≡ None →
              or_later m y None ≡ None
          here None at got = got
          here (Some z) at got = cc

      by_later : (o : Option (Event R ℕ)) → ((y : Event R ℕ) → last_on m es ≡ Some y → y.by ≡ w →
          last_on m (events_by w es) ≡ Some y) → last_on m es ≡ o → or_later m x o ≡ Some e →
          last_on m (events_by w (x ∷ es)) ≡ Some e
      by_later (Some y) later at got = let one : y ≡ e = cc in
          by_owner (Some y) (later y at (ap (λ (z : Event R ℕ). z.by) one ∙ mine)) got
      by_later None later at got = by_owner None (none-own es at) got

  -- where no worker from a number on has an event, all are of those below
  pub all-below : (n : ℕ) (es : List (Event R ℕ)) → ((k : ℕ) → n ≤ k → events_by k es ≡ []) →
      All (λ (e : Event R ℕ). e.by < n) es
  all-below n [] none = All-nil (λ (e : Event R ℕ). e.by < n)
  all-below n (e ∷ es) none = All-cons (λ (x : Event R ℕ). x.by < n) e es
      (dite (dec_le n e.by) (λ le. absurd (no_cons e (events_by e.by es)
      (sym (of-mine e.by e es refl) ∙ none e.by le))) (λ not. lt_of_not-le not))
      (all-below n es (λ k le. rest k (none k le)))
    where
      rest : (k : ℕ) → events_by k (e ∷ es) ≡ [] → events_by k es ≡ []
      rest k got = dite (ℕ_discrete e.by k)
          (λ is. absurd (no_cons e (events_by k es) (sym (of-mine k e es is) ∙ got)))
          (λ ne. sym (of-other k e es ne) ∙ got)
