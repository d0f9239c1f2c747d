-- Chains of places by keys: each place stays in the chain of its key with one place more, and a walk along a chain meets
-- all places of its key.
use Rattle.std.proofs.Common.{◌≡◌, ℕ, zero, suc, ◌+◌, ◌-◌, ◌<◌, ◌≤◌, ◌⊎◌, List, [], ◌∷◌, ◌++◌, length, get_or, set, replicate, Some, None, slice_get, refl, ap, sym, ◌∙◌, subst, arith, inl, inr, length-append}
use Rattle.std.proofs.Math.ListN.{get_or-eq_default}
use Rattle.std.proofs.lemmas.Bool.{cases_eq, cases_lt}
use Rattle.std.proofs.lemmas.List.{get_or-set_same, get_or-set_other, get_or_append_left, get_or-append_right, get_or-replicate, length-replicate}
use Rattle.std.proofs.lemmas.Option.{slice_get_within}
use Rattle.proof_check.specs.Filing.{Chains, IsLastFiled, AreFiled}

-- what stands at a place of a list with one more behind it
got_before : {X : Type 0} (xs more : List X) (k : ℕ) (x : X) → slice_get xs k ≡ Some x → slice_get (xs ++ more) k ≡ Some x
got_before [] more k x at = let e : None ≡ Some x = at in cc
got_before (y ∷ ys) more zero x at = at
got_before (y ∷ ys) more (suc k) x at = got_before ys more k x at

got_last : {X : Type 0} (xs : List X) (x : X) → slice_get (xs ++ x ∷ []) (length xs) ≡ Some x
got_last [] x = refl
got_last (y ∷ ys) x = got_last ys x

pub at_more : {X : Type 0} (xs : List X) (x y : X) (k : ℕ) → slice_get (xs ++ x ∷ []) k ≡ Some y → (slice_get xs k ≡ Some y) ⊎ ((length xs ≡ k) × (x ≡ y))
at_more [] x y zero at = inr (refl, let e : Some x ≡ Some y = at in cc)
at_more [] x y (suc k) at = let e : None ≡ Some y = at in cc
at_more (z ∷ xs) x y zero at = inl at
at_more (z ∷ xs) x y (suc k) at =
    elim (at_more xs x y k at) [
      | inl before ↦ inl before
      | inr last ↦ inr (ap suc last.0, last.1)
    ]

-- one place more: what is the last of earlier places stays so
kept_there : (keys : List ℕ) (k first key n : ℕ) → (n ≡ 0) ⊎ ((n ≤ first) × (slice_get keys (n - 1) ≡ Some key)) → (n ≡ 0) ⊎ ((n ≤ first) × (slice_get (keys ++ k ∷ []) (n - 1) ≡ Some key))
kept_there keys k first key n (inl none) = inl none
kept_there keys k first key n (inr there) = inr (there.0, got_before keys (k ∷ []) (n - 1) key there.1)

last_kept : (keys : List ℕ) (k first key n : ℕ) → first ≤ length keys → IsLastFiled keys first key n → IsLastFiled (keys ++ k ∷ []) first key n
last_kept keys k first key n within h = record {
  there = kept_there keys k first key n h.there;
  last = λ j early at.
      elim (at_more keys k key j at) [
        | inl before ↦ h.last j early before
        | inr end ↦ absurd (omega (arith, end.0, early, within))
      ];
}

further_there : (keys : List ℕ) (first key n : ℕ) → (n ≡ 0) ⊎ ((n ≤ first) × (slice_get keys (n - 1) ≡ Some key)) → (n ≡ 0) ⊎ ((n ≤ first + 1) × (slice_get keys (n - 1) ≡ Some key))
further_there keys first key n (inl none) = inl none
further_there keys first key n (inr there) = inr (omega (arith, there.0), there.1)

-- the last of all, where the place that is put has another key, and where it has this one
last_other : (keys : List ℕ) (k key n : ℕ) → (key ≡ k → ⊥) → IsLastFiled keys (length keys) key n → IsLastFiled (keys ++ k ∷ []) (length (keys ++ k ∷ [])) key n
last_other keys k key n other h =
    subst (λ m. IsLastFiled (keys ++ k ∷ []) m key n) (sym (length-append keys (k ∷ [])))
    record {
      there = further_there (keys ++ k ∷ []) (length keys) key n (kept_there keys k (length keys) key n h.there);
      last = λ j early at.
          elim (at_more keys k key j at) [
            | inl before ↦ h.last j (slice_get_within keys j key before) before
            | inr end ↦ absurd (other (sym end.1))
          ];
    }

last_same : (keys : List ℕ) (k n : ℕ) → n ≡ length keys + 1 → IsLastFiled (keys ++ k ∷ []) (length (keys ++ k ∷ [])) k n
last_same keys k n is =
    subst (λ m. IsLastFiled (keys ++ k ∷ []) m k n) (sym (length-append keys (k ∷ [])))
    record {
      there = inr (omega (arith, is), ap (slice_get (keys ++ k ∷ [])) (let e : n - 1 ≡ length keys = omega (arith, is) in e) ∙ got_last keys k);
      last = λ j early at. omega (arith, is, early);
    }

-- a list with zeros behind it, read with 0 past its end
abbrev nought : ℕ
nought = 0

zeros : (n v k : ℕ) → get_or (replicate n nought) (v - k) nought ≡ nought
zeros n v k =
    elim (cases_lt (v - k) n) [
      | inl within ↦ get_or-replicate n (v - k) nought nought within
      | inr beyond ↦ get_or-eq_default (replicate n nought) nought (omega (arith, length-replicate n nought, beyond))
    ]

padded : (xs : List ℕ) (n v : ℕ) → get_or (xs ++ replicate n nought) v nought ≡ get_or xs v nought
padded xs n v =
    elim (cases_lt v (length xs)) [
      | inl within ↦ get_or_append_left xs (replicate n nought) nought v within
      | inr beyond ↦ get_or-append_right xs (replicate n nought) (length xs) v nought refl beyond ∙ zeros n v (length xs) ∙ sym (get_or-eq_default xs nought beyond)
    ]

-- room for more keys
pub filed_same : (keys : List ℕ) (old : Chains) (lasts earlier : List ℕ) (n : ℕ) → lasts ≡ old.lasts ++ replicate n 0 → earlier ≡ old.earlier → AreFiled keys old → AreFiled keys (record { lasts = lasts; earlier = earlier })
filed_same keys old lasts earlier n more same h = record {
  size = ap (λ (ns : List ℕ). length ns) same ∙ h.size;
  lasts = λ key. subst (λ m. IsLastFiled keys (length keys) key m) (sym (ap (λ (ns : List ℕ). get_or ns key 0) more ∙ padded old.lasts n key)) (h.lasts key);
  earlier = λ k key at. subst (λ m. IsLastFiled keys k key m) (sym (ap (λ (ns : List ℕ). get_or ns k 0) same)) (h.earlier k key at);
}

-- one place more
pub filed_more : (keys : List ℕ) (key : ℕ) (now : Chains) (lasts earlier : List ℕ) (m : ℕ) → AreFiled keys now → key < length now.lasts → m ≡ length now.earlier + 1 → lasts ≡ set now.lasts key m → earlier ≡ now.earlier ++ get_or now.lasts key 0 ∷ []
    → AreFiled (keys ++ key ∷ []) (record { lasts = lasts; earlier = earlier })
filed_more keys key now lasts earlier m h within is made put = record {
  size = ap (λ (ns : List ℕ). length ns) put ∙ length-append now.earlier (get_or now.lasts key 0 ∷ []) ∙ ap (λ n. n + 1) h.size ∙ sym (length-append keys (key ∷ []));
  lasts = λ other. elim (cases_eq other key) [
    | inl same ↦
        subst (λ (q : ℕ). IsLastFiled (keys ++ key ∷ []) (length (keys ++ key ∷ [])) q (get_or lasts q 0)) (sym same)
        (last_same keys key (get_or lasts key 0) (ap (λ (ns : List ℕ). get_or ns key 0) made ∙ get_or-set_same now.lasts key m 0 within ∙ is ∙ ap (λ n. n + 1) h.size))
    | inr apart ↦
        last_other keys key other (get_or lasts other 0) apart
        (subst (λ n. IsLastFiled keys (length keys) other n) (sym (ap (λ (ns : List ℕ). get_or ns other 0) made ∙ get_or-set_other now.lasts key other m 0 apart)) (h.lasts other))
  ];
  earlier = λ k other at. elim (at_more keys key other k at) [
    | inl before ↦
        let early : k < length keys = slice_get_within keys k other before in
        last_kept keys key k other (get_or earlier k 0) (omega (arith, early))
        (subst (λ n. IsLastFiled keys k other n) (sym (ap (λ (ns : List ℕ). get_or ns k 0) put ∙ get_or_append_left now.earlier (get_or now.lasts key 0 ∷ []) 0 k (omega (arith, early, h.size)))) (h.earlier k other before))
    | inr end ↦
        let value : get_or earlier k 0 ≡ get_or now.lasts key 0
        = ap (λ (ns : List ℕ). get_or ns k 0) put ∙ get_or-append_right now.earlier (get_or now.lasts key 0 ∷ []) (length now.earlier) k 0 refl (omega (arith, end.0, h.size))
        ∙ ap (λ i. get_or (get_or now.lasts key 0 ∷ []) i 0) (let e : k - length now.earlier ≡ 0 = omega (arith, end.0, h.size) in e) in
        subst (λ (q : ℕ). IsLastFiled (keys ++ key ∷ []) k q (get_or earlier k 0)) end.1
        (subst (λ n. IsLastFiled (keys ++ key ∷ []) k key n) (sym value)
        (subst (λ i. IsLastFiled (keys ++ key ∷ []) i key (get_or now.lasts key 0)) end.0 (last_kept keys key (length keys) key (get_or now.lasts key 0) (omega arith) (h.lasts key))))
  ];
}
