use Rattle.std.proofs.Common.{◌≡◌, ℕ, suc, ◌+◌, ◌<◌, Bool, false, List, [], ◌∷◌, length, get_or, take, drop, drop-cons, refl, ap, sym, ◌∙◌, arith, add-one, None, Some, Option}
use Rattle.std.proofs.lemmas.List.{drop_all}
use Rattle.std.proofs.lemmas.List.Sums.{fold_more}
use Rattle.cnf_form.specs.Literals.{Literal, negation}
use Rattle.cnf_form.specs.Propagation.{reaches_conflict, and_then_holds, unit_of_hint, hint_is_falsified, numbered, assign, unassigned, falsify}

step : (clauses : List (List Literal)) (h k : ℕ) (hs : List ℕ) (a : ℕ → Option Bool) → reaches_conflict clauses (h ∷ k ∷ hs) a ≡ and_then_holds (unit_of_hint a (numbered clauses h)) (λ l. reaches_conflict clauses (k ∷ hs) (assign a l))
unfolding reaches_conflict
step clauses h k hs a = refl

at_end : (clauses : List (List Literal)) (h : ℕ) (a : ℕ → Option Bool) → reaches_conflict clauses (h ∷ []) a ≡ hint_is_falsified a (numbered clauses h)
unfolding reaches_conflict
at_end clauses h a = refl

-- a hint that isn't the last
walk_more : (clauses : List (List Literal)) (hints : List ℕ) (i : ℕ) (a : ℕ → Option Bool) → i + 1 < length hints → reaches_conflict clauses (drop i hints) a ≡ and_then_holds (unit_of_hint a (numbered clauses (get_or hints i 0))) (λ l. reaches_conflict clauses (drop (i + 1) hints) (assign a l))
walk_more clauses hints i a within =
    let next : suc i < length hints = omega arith in
    rw (drop-cons hints i 0 (omega arith), add-one i, drop-cons hints (suc i) 0 next) (step clauses (get_or hints i 0) (get_or hints (suc i) 0) (drop (suc (suc i)) hints) a)

pub refused : (clauses : List (List Literal)) (hints : List ℕ) (i : ℕ) (a : ℕ → Option Bool) → i + 1 < length hints → None ≡ unit_of_hint a (numbered clauses (get_or hints i 0)) → false ≡ reaches_conflict clauses (drop i hints) a
refused clauses hints i a within none =
    sym (walk_more clauses hints i a within ∙ ap (λ (o : Option Literal). and_then_holds o (λ l. reaches_conflict clauses (drop (i + 1) hints) (assign a l))) (sym none))

pub accepted : (clauses : List (List Literal)) (hints : List ℕ) (i : ℕ) (a b : ℕ → Option Bool) (l : Literal) → i + 1 < length hints → Some l ≡ unit_of_hint a (numbered clauses (get_or hints i 0)) → b ≡ assign a l → reaches_conflict clauses (drop (i + 1) hints) b ≡ reaches_conflict clauses (drop i hints) a
accepted clauses hints i a b l within some is =
    ap (reaches_conflict clauses (drop (i + 1) hints)) is
    ∙ sym (walk_more clauses hints i a within ∙ ap (λ (o : Option Literal). and_then_holds o (λ k. reaches_conflict clauses (drop (i + 1) hints) (assign a k))) (sym some))

pub walk_last : (clauses : List (List Literal)) (hints : List ℕ) (i last : ℕ) (a : ℕ → Option Bool) → i + 1 ≡ length hints → last ≡ i → hint_is_falsified a (numbered clauses (get_or hints last 0)) ≡ reaches_conflict clauses (drop i hints) a
walk_last clauses hints i last a all at =
    ap (λ k. hint_is_falsified a (numbered clauses (get_or hints k 0))) at
    ∙ sym (rw (drop-cons hints i 0 (omega arith), drop_all (suc i) hints (omega arith)) (at_end clauses (get_or hints i 0) a))

pub walk_empty : (clauses : List (List Literal)) (hints : List ℕ) (a : ℕ → Option Bool) → length hints ≡ 0 → false ≡ reaches_conflict clauses hints a
unfolding reaches_conflict
walk_empty clauses [] a h = refl
walk_empty clauses (k ∷ hs) a h = absurd (omega (arith, h))

pub falsify_none : falsify [] ≡ unassigned
unfolding falsify
falsify_none = refl

pub falsify_more : (c : List Literal) (i : ℕ) (d : Literal) → i < length c → falsify (take (i + 1) c) ≡ assign (falsify (take i c)) (negation (get_or c i d))
unfolding falsify
falsify_more c i d within = fold_more (λ a l. assign a (negation l)) unassigned c i d within
