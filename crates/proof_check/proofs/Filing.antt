-- A walk along the chain of a key finds a clause that is false where one of this key is, and a clause is new just where
-- none is false, once its literals are, of those of the key 0 and of the keys of its literals.
use Rattle.std.proofs.Common.{◌≡◌, ℕ, zero, suc, ◌-◌, ◌<◌, ◌≤◌, ◌⊎◌, ◌==◌, ◌&&◌, Bool, true, false, not, ◌||◌, List, [], ◌∷◌, ◌++◌, length, get_or, Some, None, Option, option_map, slice_get, refl, ap, sym, ◌∙◌, subst, arith, inl, inr}
use Rattle.std.specs.List.{list_any}
use Rattle.std.proofs.Math.Path.{fun_ext}
use Rattle.std.proofs.lemmas.Bool.{and_parts, and_from, or_cases, or_left, or_right, or_from, eqb-true, eq-eqb, cases_eq, false≢true, false_from_ne_true}
use Rattle.std.proofs.lemmas.List.{map-append}
use Rattle.std.proofs.lemmas.Option.{slice_get-map, slice_get_within}
use Rattle.cnf_form.specs.Literals.{Literal}
use Rattle.cnf_form.specs.Clauses.{are_increasing}
use Rattle.cnf_form.specs.Propagation.{hint_is_falsified, is_falsified, falsify}
use Rattle.cnf_form.specs.Refutations.{is_new}
use Rattle.proof_check.specs.Filing.{Chains, IsLastFiled, AreFiled, literal_key, clause_key, keys_of, has_falsified, has_falsified_end}
use Rattle.proof_check.proofs.Keys.{subset_key}
use Rattle.proof_check.proofs.Supersets.{subset_is_falsified}

pub keys_more : (clauses : List (List Literal)) (c : List Literal) → keys_of clauses ++ clause_key c ∷ [] ≡ keys_of (clauses ++ c ∷ [])
keys_more clauses c = sym (map-append clause_key clauses (c ∷ []))

-- a clause at a place
there : (q : List Literal → Bool) (clauses : List (List Literal)) (k : ℕ) (c : List Literal) → slice_get clauses k ≡ Some c → q c ≡ true → list_any q clauses ≡ true
there q [] k c at h = let e : None ≡ Some c = at in cc
there q (d ∷ ds) zero c at h = let same : d ≡ c = cc in or_left _ _ (ap q same ∙ h)
there q (d ∷ ds) (suc k) c at h = or_right _ _ (there q ds k c at h)

nowhere : (q : List Literal → Bool) (clauses : List (List Literal)) → ((k : ℕ) (c : List Literal) → slice_get clauses k ≡ Some c → q c ≡ true → ⊥) → list_any q clauses ≡ false
nowhere q [] none = refl
nowhere q (d ∷ ds) none = or_from _ _ (false_from_ne_true (q d) (none 0 d refl)) (nowhere q ds (λ k. none (suc k)))

-- a walk along a chain: the clauses that are false and of this key stand below the number where it is
pub record IsWalk (a : ℕ → Option Bool) (clauses : List (List Literal)) (key number : ℕ) : Type 0 where
  pub at : (number ≡ 0) ⊎ ((number ≤ length (keys_of clauses)) × (slice_get (keys_of clauses) (number - 1) ≡ Some key))
  pub rest : (k : ℕ) (c : List Literal) → slice_get clauses k ≡ Some c → clause_key c ≡ key → is_falsified a c ≡ true → k < number

key_there : (clauses : List (List Literal)) (k : ℕ) (c : List Literal) → slice_get clauses k ≡ Some c → slice_get (keys_of clauses) k ≡ Some (clause_key c)
key_there clauses k c at = slice_get-map clause_key clauses k ∙ ap (option_map clause_key) at

pub walk_begins : (a : ℕ → Option Bool) (clauses : List (List Literal)) (chains : Chains) (key number : ℕ) → AreFiled (keys_of clauses) chains → number ≡ get_or chains.lasts key 0 → IsWalk a clauses key number
walk_begins a clauses chains key number filed is =
    let h : IsLastFiled (keys_of clauses) (length (keys_of clauses)) key number = subst (λ n. IsLastFiled (keys_of clauses) (length (keys_of clauses)) key n) (sym is) (filed.lasts key) in
    record {
      at = h.there;
      rest = λ k c at same fails.
          let key_at : slice_get (keys_of clauses) k ≡ Some key = key_there clauses k c at ∙ ap Some same in
          h.last k (slice_get_within (keys_of clauses) k key key_at) key_at;
    }

-- the number is that of a place of this key
stands : (a : ℕ → Option Bool) (clauses : List (List Literal)) (key number : ℕ) → IsWalk a clauses key number → 0 < number → slice_get (keys_of clauses) (number - 1) ≡ Some key
stands a clauses key number w begun = by_case w.at
  where
    by_case : (number ≡ 0) ⊎ ((number ≤ length (keys_of clauses)) × (slice_get (keys_of clauses) (number - 1) ≡ Some key)) → slice_get (keys_of clauses) (number - 1) ≡ Some key
    by_case (inl none) = absurd (omega (arith, none, begun))
    by_case (inr some) = some.1

earlier_last : (a : ℕ → Option Bool) (clauses : List (List Literal)) (chains : Chains) (key number place next : ℕ) → AreFiled (keys_of clauses) chains → IsWalk a clauses key number → 0 < number → place ≡ number - 1 → next ≡ get_or chains.earlier place 0 → IsLastFiled (keys_of clauses) place key next
earlier_last a clauses chains key number place next filed w begun is made =
    subst (λ n. IsLastFiled (keys_of clauses) place key n) (sym made)
    (filed.earlier place key (ap (slice_get (keys_of clauses)) is ∙ stands a clauses key number w begun))

pub walk_smaller : (a : ℕ → Option Bool) (clauses : List (List Literal)) (chains : Chains) (key number place next : ℕ) → AreFiled (keys_of clauses) chains → IsWalk a clauses key number → 0 < number → place ≡ number - 1 → next ≡ get_or chains.earlier place 0 → next < number
walk_smaller a clauses chains key number place next filed w begun is made = by_case (earlier_last a clauses chains key number place next filed w begun is made).there
  where
    by_case : (next ≡ 0) ⊎ ((next ≤ place) × (slice_get (keys_of clauses) (next - 1) ≡ Some key)) → next < number
    by_case (inl none) = omega (arith, none, begun)
    by_case (inr some) = omega (arith, some.0, is, begun)

pub walk_on : (a : ℕ → Option Bool) (clauses : List (List Literal)) (chains : Chains) (key number place next : ℕ) → AreFiled (keys_of clauses) chains → IsWalk a clauses key number → 0 < number → place ≡ number - 1 → hint_is_falsified a (slice_get clauses place) ≡ false → next ≡ get_or chains.earlier place 0
    → IsWalk a clauses key next
walk_on a clauses chains key number place next filed w begun is opens made =
    let h : IsLastFiled (keys_of clauses) place key next = earlier_last a clauses chains key number place next filed w begun is made in
    let within : place < length (keys_of clauses) = slice_get_within (keys_of clauses) place key (ap (slice_get (keys_of clauses)) is ∙ stands a clauses key number w begun) in
    record {
      at = further h.there within;
      rest = λ k c at same fails.
          elim (cases_eq k place) [
            | inl here ↦ absurd (false≢true (sym opens ∙ ap (λ (i : ℕ). hint_is_falsified a (slice_get clauses i)) (sym here) ∙ ap (hint_is_falsified a) at ∙ fails))
            | inr other ↦ h.last k (omega (arith, other, is, w.rest k c at same fails)) (key_there clauses k c at ∙ ap Some same)
          ];
    }
  where
    further : (next ≡ 0) ⊎ ((next ≤ place) × (slice_get (keys_of clauses) (next - 1) ≡ Some key)) → place < length (keys_of clauses) → (next ≡ 0) ⊎ ((next ≤ length (keys_of clauses)) × (slice_get (keys_of clauses) (next - 1) ≡ Some key))
    further (inl none) within = inl none
    further (inr some) within = inr (omega (arith, some.0, within), some.1)

pub walk_ends : (a : ℕ → Option Bool) (clauses : List (List Literal)) (key number : ℕ) → IsWalk a clauses key number → number ≡ 0 → false ≡ has_falsified a clauses key
walk_ends a clauses key number w none =
    sym (nowhere (λ c. (clause_key c == key) && is_falsified a c) clauses (λ k c at h.
    let parts : ((clause_key c == key) ≡ true) × (is_falsified a c ≡ true) = and_parts _ _ h in
    absurd (omega (arith, none, w.rest k c at (eqb-true _ _ parts.0) parts.1))))

key_of : (clauses : List (List Literal)) (k key : ℕ) (c : List Literal) → slice_get clauses k ≡ Some c → slice_get (keys_of clauses) k ≡ Some key → clause_key c ≡ key
key_of clauses k key c at is =
    let both : Some (clause_key c) ≡ Some key = sym (key_there clauses k c at) ∙ is in
    cc

pub walk_finds : (a : ℕ → Option Bool) (clauses : List (List Literal)) (key number place : ℕ) → IsWalk a clauses key number → 0 < number → place ≡ number - 1 → hint_is_falsified a (slice_get clauses place) ≡ true → true ≡ has_falsified a clauses key
walk_finds a clauses key number place w begun is fails = by_clause (slice_get clauses place) refl fails
  where
    by_clause : (o : Option (List Literal)) → slice_get clauses place ≡ o → hint_is_falsified a o ≡ true → true ≡ has_falsified a clauses key
    by_clause None at h = absurd (false≢true h)
    by_clause (Some c) at h =
        let same : clause_key c ≡ key = key_of clauses place key c at (ap (slice_get (keys_of clauses)) is ∙ stands a clauses key number w begun) in
        sym (there (λ d. (clause_key d == key) && is_falsified a d) clauses place c at (and_from _ _ (eq-eqb _ _ same) h))

-- only those of the key 0 and of the keys of the clause's literals have to be looked at
sound : (a : ℕ → Option Bool) (clauses : List (List Literal)) (key : ℕ) → has_falsified a clauses key ≡ true → list_any (is_falsified a) clauses ≡ true
sound a [] key h = absurd (false≢true h)
sound a (d ∷ ds) key h =
    elim (or_cases ((clause_key d == key) && is_falsified a d) (has_falsified a ds key) h) [
      | inl here ↦ or_left (is_falsified a d) (list_any (is_falsified a) ds) (and_parts (clause_key d == key) (is_falsified a d) here).1
      | inr later ↦ or_right _ _ (sound a ds key later)
    ]

sound_end : (a : ℕ → Option Bool) (clauses : List (List Literal)) (c : List Literal) → has_falsified_end a clauses c ≡ true → list_any (is_falsified a) clauses ≡ true
sound_end a clauses [] h = absurd (false≢true h)
sound_end a clauses (l ∷ c) h =
    elim (or_cases (has_falsified a clauses (literal_key l)) (has_falsified_end a clauses c) h) [
      | inl here ↦ sound a clauses (literal_key l) here
      | inr later ↦ sound_end a clauses c later
    ]

-- the place of one of the clauses that is false
record Found (a : ℕ → Option Bool) (clauses : List (List Literal)) : Type 0 where
  place : ℕ
  clause : List Literal
  at : slice_get clauses place ≡ Some clause
  falsified : is_falsified a clause ≡ true

found : (a : ℕ → Option Bool) (clauses : List (List Literal)) → list_any (is_falsified a) clauses ≡ true → Found a clauses
found a [] h = absurd (false≢true h)
found a (c ∷ cs) h =
    elim (or_cases (is_falsified a c) (list_any (is_falsified a) cs) h) [
      | inl here ↦ record { place = 0; clause = c; at = refl; falsified = here }
      | inr later ↦ let f = found a cs later in record { place = suc f.place; clause = f.clause; at = f.at; falsified = f.falsified }
    ]

complete : (clauses : List (List Literal)) (c : List Literal) → are_increasing c ≡ true → list_any (is_falsified (falsify c)) clauses ≡ true → (has_falsified (falsify c) clauses 0 || has_falsified_end (falsify c) clauses c) ≡ true
complete clauses c order h =
    let f = found (falsify c) clauses h in
    subset_key (has_falsified (falsify c) clauses) f.clause c (subset_is_falsified c f.clause order ∙ f.falsified)
    (there (λ d. (clause_key d == clause_key f.clause) && is_falsified (falsify c) d) clauses f.place f.clause f.at (and_from _ _ (eq-eqb _ _ refl) f.falsified))

one_answer : (x y : Bool) → (x ≡ true → y ≡ true) → (y ≡ true → x ≡ true) → x ≡ y
one_answer true y f g = sym (f refl)
one_answer false true f g = g refl
one_answer false false f g = refl

enough : (clauses : List (List Literal)) (c : List Literal) → are_increasing c ≡ true → (has_falsified (falsify c) clauses 0 || has_falsified_end (falsify c) clauses c) ≡ list_any (is_falsified (falsify c)) clauses
enough clauses c order =
    one_answer _ _
    (λ h. elim (or_cases (has_falsified (falsify c) clauses 0) (has_falsified_end (falsify c) clauses c) h) [
      | inl here ↦ sound (falsify c) clauses 0 here
      | inr later ↦ sound_end (falsify c) clauses c later
    ])
    (complete clauses c order)

pub new_if_none_filed : (clauses : List (List Literal)) (c : List Literal) → are_increasing c ≡ true → not (has_falsified (falsify c) clauses 0 || has_falsified_end (falsify c) clauses c) ≡ is_new clauses c
unfolding is_new
new_if_none_filed clauses c order =
    ap not (enough clauses c order ∙ ap (λ (q : List Literal → Bool). list_any q clauses) (fun_ext (λ d. sym (subset_is_falsified c d order))))

-- the answer, by the calls
answered : (clauses : List (List Literal)) (c : List Literal) (a : ℕ → Option Bool) (x y : Bool) → are_increasing c ≡ true → a ≡ falsify c → x ≡ has_falsified a clauses 0 → y ≡ has_falsified_end a clauses c → not (x || y) ≡ is_new clauses c
answered clauses c a x y order values first later =
    ap (λ b. not (b || y)) first ∙ ap (λ b. not (has_falsified a clauses 0 || b)) later
    ∙ ap (λ (v : ℕ → Option Bool). not (has_falsified v clauses 0 || has_falsified_end v clauses c)) values
    ∙ new_if_none_filed clauses c order

pub new_by_ends : (clauses : List (List Literal)) (c : List Literal) (a : ℕ → Option Bool) (x y : Bool) → are_increasing c ≡ true → a ≡ falsify c → x ≡ has_falsified a clauses 0 → x ≡ false → y ≡ has_falsified_end a clauses c → not y ≡ is_new clauses c
new_by_ends clauses c a x y order values first none later = ap (λ b. not (b || y)) (sym none) ∙ answered clauses c a x y order values first later

pub not_new : (clauses : List (List Literal)) (c : List Literal) (a : ℕ → Option Bool) (x : Bool) → are_increasing c ≡ true → a ≡ falsify c → x ≡ has_falsified a clauses 0 → x ≡ true → false ≡ is_new clauses c
not_new clauses c a x order values first some = ap (λ b. not (b || has_falsified_end a clauses c)) (sym some) ∙ answered clauses c a x (has_falsified_end a clauses c) order values first refl
