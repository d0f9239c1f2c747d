-- Lists of turns of work.
use Rattle.std.proofs.Common.{◌≡◌, ℕ, ◌+◌, ◌≤◌, eqb, Bool, true, false, not, ◌&&◌, ◌||◌, cond, Option, Some, None, List, [], ◌∷◌, ◌++◌, count_by, refl, sym, ap, ◌∙◌, subst, append_assoc, arith}
use Rattle.std.proofs.lemmas.Bool.{false≢true, eqb-true}
use Rattle.std.proofs.lemmas.List.{append-nil}
use Rattle.std.proofs.lemmas.List.Elements.{All-head, All-tail, All-append, All-nil}
use Rattle.std.proofs.lemmas.List.Sums.{sum_by-cons}
use Rattle.tree_core.specs.declared.event.Event.{Event}
use Rattle.tree_core.specs.declared.event.Deed.{Deed}
use Rattle.tree_core.specs.declared.event.Deed.TheVariants.{Claim, Split, Finish, Cut, Release}
use Rattle.tree_core.specs.Stories.{last_on, or_later}
use Rattle.fork_spec.specs.Histories.{is_release}
use Rattle.work_run.specs.Turns.{is_claim, is_last, is_turn, are_turns, AreEntered, GoesOnByTurns, GoesOnByEntered}

pub left_of : (a b : Bool) → a && b ≡ true → a ≡ true
left_of true b e = refl
left_of false b e = absurd (false≢true e)

pub right_of : (a b : Bool) → a && b ≡ true → b ≡ true
right_of true b e = e
right_of false b e = absurd (false≢true e)

not_true : (a : Bool) → not a ≡ true → a ≡ false
not_true true e = absurd (false≢true e)
not_true false e = refl

both : (a b : Bool) → a ≡ true → b ≡ true → a && b ≡ true
both a b p q = (λ i. p i && q i)

kept_on : (a b : Bool) → a ≡ false → not a || b ≡ true
kept_on a b p = ap (λ x. not x || b) p

module _ {R : Type 0} where
  abbrev counted : Event R ℕ → ℕ
  counted e = cond (is_release e.deed) 1 0

  -- how many of the events are releases
  abbrev pub releases : List (Event R ℕ) → ℕ
  releases es = count_by (λ (e : Event R ℕ). is_release e.deed) es

  turn_of : (a b : Event R ℕ) (es : List (Event R ℕ)) → are_turns (a ∷ b ∷ es) ≡ true →
      is_turn a b ≡ true
  turn_of a b es t =
      left_of (is_turn a b) ((not (is_release b.deed) || is_last es) && are_turns es) t

  later_of : (a b : Event R ℕ) (es : List (Event R ℕ)) → are_turns (a ∷ b ∷ es) ≡ true →
      are_turns es ≡ true
  later_of a b es t = right_of (not (is_release b.deed) || is_last es) (are_turns es)
      (right_of (is_turn a b) ((not (is_release b.deed) || is_last es) && are_turns es) t)

  -- one turn of work
  pub one_turn : (a b : Event R ℕ) → is_turn a b ≡ true → are_turns (a ∷ b ∷ []) ≡ true
  one_turn a b t = both (is_turn a b) ((not (is_release b.deed) || true) && true) t
      (last (is_release b.deed))
    where
      last : (r : Bool) → (not r || true) && true ≡ true
      last true = refl
      last false = refl

  -- turns that were entered, and then turns
  pub turns-append : (xs ys : List (Event R ℕ)) → AreEntered xs → are_turns ys ≡ true →
      are_turns (xs ++ ys) ≡ true
  turns-append [] ys x y = y
  turns-append (a ∷ []) ys x y = absurd (false≢true x.0)
  turns-append (a ∷ b ∷ xs) ys x y =
      let P : Event R ℕ → Type 0 = λ e. is_release e.deed ≡ false in
      let more = All-tail P a (b ∷ xs) x.1 in
      both (is_turn a b) ((not (is_release b.deed) || is_last (xs ++ ys)) && are_turns (xs ++ ys))
      (turn_of a b xs x.0)
      (both (not (is_release b.deed) || is_last (xs ++ ys)) (are_turns (xs ++ ys))
      (kept_on (is_release b.deed) (is_last (xs ++ ys)) (All-head P b xs more))
      (turns-append xs ys (later_of a b xs x.0, All-tail P b xs more) y))

  pub entered-append : (xs ys : List (Event R ℕ)) → AreEntered xs → AreEntered ys →
      AreEntered (xs ++ ys)
  entered-append xs ys x y = (
    turns-append xs ys x y.0,
    All-append (λ (e : Event R ℕ). is_release e.deed ≡ false) xs ys x.1 y.1,
  )

  pub goes-turns : (u v w : List (Event R ℕ)) → GoesOnByEntered u v → GoesOnByTurns v w →
      GoesOnByTurns u w
  goes-turns u v w a b = (
    a.0 ++ b.0,
    b.1 ∙ (ap (λ l. l ++ b.0) a.1 ∙ append_assoc u a.0 b.0),
    turns-append a.0 b.0 a.2 b.2,
  )

  pub goes-entered : (u v w : List (Event R ℕ)) → GoesOnByEntered u v → GoesOnByEntered v w →
      GoesOnByEntered u w
  goes-entered u v w a b = (
    a.0 ++ b.0,
    b.1 ∙ (ap (λ l. l ++ b.0) a.1 ∙ append_assoc u a.0 b.0),
    entered-append a.0 b.0 a.2 b.2,
  )

  pub goes-nowhere : (u v : List (Event R ℕ)) → v ≡ u → GoesOnByEntered u v
  goes-nowhere u v is = (
    [],
    is ∙ sym (append-nil u),
    (refl, All-nil (λ (e : Event R ℕ). is_release e.deed ≡ false)),
  )

  -- a node's last event in a list of turns is no claim
  pub turns_end : (m : ℕ) (es : List (Event R ℕ)) → are_turns es ≡ true → (e : Event R ℕ) →
      last_on m es ≡ Some e → is_claim e.deed ≡ false
  turns_end m [] t e is = cc
  turns_end m (a ∷ []) t e is = absurd (false≢true t)
  turns_end m (a ∷ b ∷ es) t e is = by_later (last_on m es) (turns_end m es (later_of a b es t)) is
    where
      ends : is_claim b.deed ≡ false
      ends = not_true (is_claim b.deed) (left_of (not (is_claim b.deed)) (eqb a.node b.node)
          (right_of (is_claim a.deed) (not (is_claim b.deed) && eqb a.node b.node)
          (turn_of a b es t)))

      same : a.node ≡ b.node
      same = eqb-true a.node b.node (right_of (not (is_claim b.deed)) (eqb a.node b.node)
          (right_of (is_claim a.deed) (not (is_claim b.deed) && eqb a.node b.node)
          (turn_of a b es t)))

      by_node : (x : Bool) → eqb b.node m ≡ x → or_later m a (cond x (Some b) None) ≡ Some e →
          is_claim e.deed ≡ false
      by_node true here got = let one : b ≡ e = cc in
          subst (λ (z : Event R ℕ). is_claim z.deed ≡ false) one ends
      by_node false away got =
          let other : eqb a.node m ≡ false = ap (λ n. eqb n m) same ∙ away in
          let none : None ≡ Some e = sym (ap (λ x. cond x (Some a) None) other) ∙ got in cc

      by_later : (o : Option (Event R ℕ)) → ((x : Event R ℕ) → o ≡ Some x →
          is_claim x.deed ≡ false) → or_later m a (or_later m b o) ≡ Some e →
          is_claim e.deed ≡ false
      by_later (Some x) later got = let one : x ≡ e = cc in
          subst (λ (z : Event R ℕ). is_claim z.deed ≡ false) one (later x refl)
      by_later None later got = by_node (eqb b.node m) refl got

  -- in a list of turns there is one release at most
  pub one_release : (es : List (Event R ℕ)) → are_turns es ≡ true → releases es ≤ 1
  one_release [] t = omega arith
  one_release (a ∷ []) t = absurd (false≢true t)
  one_release (a ∷ b ∷ es) t =
      let first : releases (a ∷ b ∷ es) ≡ cond (is_release a.deed) 1 0 + releases (b ∷ es) =
      sum_by-cons counted a (b ∷ es) in
      let second : releases (b ∷ es) ≡ cond (is_release b.deed) 1 0 + releases es =
      sum_by-cons counted b es in
      let none : cond (is_release a.deed) 1 0 ≡ 0 =
      ap (λ c. cond c 1 0) (claims_not a.deed (left_of (is_claim a.deed)
      (not (is_claim b.deed) && eqb a.node b.node) (turn_of a b es t))) in
      summed (releases (a ∷ b ∷ es)) (releases (b ∷ es)) (cond (is_release a.deed) 1 0)
      (cond (is_release b.deed) 1 0) (releases es) first second none
      (ended (is_release b.deed) (left_of (not (is_release b.deed) || is_last es) (are_turns es)
      (right_of (is_turn a b) ((not (is_release b.deed) || is_last es) && are_turns es) t))
      (one_release es (later_of a b es t)))
    where
      claims_not : (d : Deed R ℕ) → is_claim d ≡ true → is_release d ≡ false
      claims_not Claim is = refl
      claims_not (Split kids) is = refl
      claims_not (Finish leaf) is = refl
      claims_not (Cut leaf) is = refl
      claims_not Release is = absurd (false≢true is)

      last : (fs : List (Event R ℕ)) → is_last fs ≡ true → releases fs ≡ 0
      last [] is = refl
      last (f ∷ fs) is = absurd (false≢true is)

      ended : (c : Bool) → not c || is_last es ≡ true → releases es ≤ 1 →
          cond c 1 0 + releases es ≤ 1
      ended true is le = one_and (releases es) (last es is)
        where
          one_and : (n : ℕ) → n ≡ 0 → 1 + n ≤ 1
          one_and n none = omega arith
      ended false is le = zero_and (releases es) le
        where
          zero_and : (n : ℕ) → n ≤ 1 → 0 + n ≤ 1
          zero_and n le = omega arith

      summed : (all more a b n : ℕ) → all ≡ a + more → more ≡ b + n → a ≡ 0 → b + n ≤ 1 → all ≤ 1
      summed all more a b n x y z le = omega arith
