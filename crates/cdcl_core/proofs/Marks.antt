-- The values and numbers of variables that a trail keeps beside its entries.
use Rattle.std.proofs.Common.{◌≡◌, ℕ, zero, suc, ◌+◌, ◌<◌, Bool, List, [], ◌∷◌, ◌++◌, length, get_or, set, take, replicate, Option, Some, None, slice_get, refl, ap, sym, ◌∙◌, subst, arith, inl, inr}
use Rattle.std.proofs.Math.Path.{fun_ext}
use Rattle.std.proofs.Math.ListN.{get_or-eq_default, length-set}
use Rattle.std.proofs.lemmas.Bool.{cases_lt, cases_eq}
use Rattle.std.proofs.lemmas.List.{get_or-set_same, get_or-set_other, get_or-replicate, length-replicate}
use Rattle.std.proofs.lemmas.List.Sums.{fold-append}
use Rattle.std.proofs.lemmas.Option.{slice_get_within}
use Rattle.cnf_form.specs.Propagation.{unassigned, assign}
use Rattle.proof_check.specs.Marking.{marked}
use Rattle.proof_check.proofs.Chains.{at_more}
use Rattle.cdcl_core.specs.declared.trail.Entry.{Entry}
use Rattle.cdcl_core.specs.Trails.{assigned, trail_values, IsKept, free_count}
use Rattle.cdcl_core.proofs.Lists.{got_more, got_last, got_take}
use Rattle.cdcl_core.proofs.Values.{assign-same, assign-other}

unmarked : (n : ℕ) (v : ℕ) → marked (replicate n None) v ≡ None
unmarked n v =
    elim (cases_lt v n) [
      | inl within ↦ get_or-replicate n v None None within
      | inr beyond ↦ get_or-eq_default (replicate n None) None (omega (arith, length-replicate {A = Option Bool} n None, beyond))
    ]

pub none_marked : (n : ℕ) (marks : List (Option Bool)) (es : List Entry) → marks ≡ replicate n None → es ≡ [] → marked marks ≡ trail_values es
unfolding trail_values
none_marked n marks es none first = ap marked none ∙ fun_ext (unmarked n) ∙ ap (λ ds. assigned unassigned ds) (sym first)

pub values_more : (es : List Entry) (e : Entry) → trail_values (es ++ e ∷ []) ≡ assign (trail_values es) e.literal
unfolding trail_values
values_more es e = fold-append (λ b (d : Entry). assign b d.literal) unassigned es (e ∷ [])

pub marked_more : (marks : List (Option Bool)) (es : List Entry) (e : Entry) (v : ℕ) (value : Option Bool) → marked marks ≡ trail_values es → v ≡ e.literal.variable → v < length marks → value ≡ Some e.literal.positive → marked (set marks v value) ≡ trail_values (es ++ e ∷ [])
marked_more marks es e v value is variable within made =
    fun_ext (λ w.
    elim (cases_eq w v) [
      | inl same ↦
          ap (λ k. get_or (set marks v value) k None) same ∙ get_or-set_same marks v value None within ∙ made
          ∙ sym (ap (λ (a : ℕ → Option Bool). a w) (values_more es e) ∙ assign-same (trail_values es) e.literal w (same ∙ variable))
      | inr other ↦
          get_or-set_other marks v w value None other ∙ ap (λ (a : ℕ → Option Bool). a w) is
          ∙ sym (ap (λ (a : ℕ → Option Bool). a w) (values_more es e) ∙ assign-other (trail_values es) e.literal w (λ h. other (h ∙ sym variable)))
    ])

pub has_place : (marks : List (Option Bool)) (v : ℕ) (t : Bool) → marked marks v ≡ Some t → v < length marks
has_place marks v t has =
    elim (cases_lt v (length marks)) [
      | inl within ↦ within
      | inr beyond ↦ let none : marked marks v ≡ None = get_or-eq_default marks None beyond in cc
    ]

pub last_has_place : (marks : List (Option Bool)) (es all : List Entry) (e : Entry) (v : ℕ) → marked marks ≡ trail_values all → all ≡ es ++ e ∷ [] → v ≡ e.literal.variable → v < length marks
last_has_place marks es all e v is parts variable =
    has_place marks v e.literal.positive
    (ap (λ (a : ℕ → Option Bool). a v) (is ∙ ap trail_values parts ∙ values_more es e) ∙ assign-same (trail_values es) e.literal v variable)

pub marked_less : (marks : List (Option Bool)) (es all : List Entry) (e : Entry) (v : ℕ) → marked marks ≡ trail_values all → all ≡ es ++ e ∷ [] → v ≡ e.literal.variable → trail_values es e.literal.variable ≡ None → marked (set marks v None) ≡ trail_values es
marked_less marks es all e v is parts variable free =
    let within : v < length marks = last_has_place marks es all e v is parts variable in
    let more : trail_values all ≡ assign (trail_values es) e.literal = ap trail_values parts ∙ values_more es e in
    fun_ext (λ w.
    elim (cases_eq w v) [
      | inl same ↦
          ap (λ k. get_or (set marks v None) k None) same ∙ get_or-set_same marks v None None within
          ∙ sym (ap (trail_values es) (same ∙ variable) ∙ free)
      | inr other ↦
          get_or-set_other marks v w None None other ∙ ap (λ (a : ℕ → Option Bool). a w) (is ∙ more) ∙ assign-other (trail_values es) e.literal w (λ h. other (h ∙ sym variable))
    ])

-- a variable that has an entry has a value
valued_from : (es : List Entry) (a : ℕ → Option Bool) (v : ℕ) (t : Bool) → a v ≡ Some t → (u : Bool) × (assigned a es v ≡ Some u)
valued_from [] a v t has = (t, has)
valued_from (e ∷ es) a v t has =
    elim (cases_eq v e.literal.variable) [
      | inl same ↦ valued_from es (assign a e.literal) v e.literal.positive (assign-same a e.literal v same)
      | inr other ↦ valued_from es (assign a e.literal) v t (assign-other a e.literal v other ∙ has)
    ]

valued : (es : List Entry) (a : ℕ → Option Bool) (p : ℕ) (d : Entry) → slice_get es p ≡ Some d → (u : Bool) × (assigned a es d.literal.variable ≡ Some u)
valued [] a p d at = let e : None ≡ Some d = at in cc
valued (e ∷ es) a zero d at =
    let same : e ≡ d = cc in
    valued_from es (assign a e.literal) d.literal.variable e.literal.positive (assign-same a e.literal d.literal.variable (ap (λ (k : Entry). k.literal.variable) (sym same)))
valued (e ∷ es) a (suc p) d at = valued es (assign a e.literal) p d at

has_none : (es : List Entry) (p : ℕ) (d : Entry) (v : ℕ) → slice_get es p ≡ Some d → trail_values es v ≡ None → d.literal.variable ≡ v → ⊥
unfolding trail_values
has_none es p d v at free same =
    let some : (u : Bool) × (assigned unassigned es d.literal.variable ≡ Some u) = valued es unassigned p d at in
    let both : Some some.0 ≡ None = sym some.1 ∙ ap (assigned unassigned es) same ∙ free in
    cc

-- and one that has none has no value
valueless : (es : List Entry) (a : ℕ → Option Bool) (v : ℕ) → a v ≡ None → ((p : ℕ) (d : Entry) → slice_get es p ≡ Some d → d.literal.variable ≡ v → ⊥) → assigned a es v ≡ None
valueless [] a v free none = free
valueless (e ∷ es) a v free none = valueless es (assign a e.literal) v (assign-other a e.literal v (λ same. none 0 e refl (sym same)) ∙ free) (λ p. none (suc p))

-- before its entry a variable has no value
pub free_before : (marks : List (Option Bool)) (numbers : List ℕ) (es : List Entry) (v number n : ℕ) → IsKept marks numbers es → number ≡ get_or numbers v 0 → n < number → trail_values (take n es) v ≡ None
unfolding trail_values
free_before marks numbers es v number n kept is early =
    valueless (take n es) unassigned v refl (λ p d at same.
    let there : (p < n) × (slice_get es p ≡ Some d) = got_take es n p d at in
    absurd (omega (arith, there.0, early, is, kept.numbered p d there.1, ap (λ w. get_or numbers w 0) same)))

last_is_free : (marks : List (Option Bool)) (numbers : List ℕ) (es all : List Entry) (e : Entry) → IsKept marks numbers all → all ≡ es ++ e ∷ [] → trail_values es e.literal.variable ≡ None
unfolding trail_values
last_is_free marks numbers es all e kept parts =
    let last : get_or numbers e.literal.variable 0 ≡ length es + 1 = kept.numbered (length es) e (ap (λ (ds : List Entry). slice_get ds (length es)) parts ∙ got_last es e) in
    valueless es unassigned e.literal.variable refl (λ p d at same.
    let there : get_or numbers d.literal.variable 0 ≡ p + 1 = kept.numbered p d (ap (λ (ds : List Entry). slice_get ds p) parts ∙ got_more es (e ∷ []) p d at) in
    absurd (omega (arith, slice_get_within es p d at, there, last, ap (λ w. get_or numbers w 0) same)))

pub kept_less : (marks : List (Option Bool)) (numbers : List ℕ) (es all : List Entry) (e : Entry) (v : ℕ) → IsKept marks numbers all → all ≡ es ++ e ∷ [] → v ≡ e.literal.variable → IsKept (set marks v None) numbers es
kept_less marks numbers es all e v kept parts variable = record {
  values = marked_less marks es all e v kept.values parts variable (last_is_free marks numbers es all e kept parts);
  room = kept.room ∙ sym (length-set marks v None);
  numbered = λ p d at. kept.numbered p d (ap (λ (ds : List Entry). slice_get ds p) parts ∙ got_more es (e ∷ []) p d at);
}

number_more : (numbers : List ℕ) (es : List Entry) (e : Entry) (v number : ℕ) → ((p : ℕ) (d : Entry) → slice_get es p ≡ Some d → get_or numbers d.literal.variable 0 ≡ p + 1) → v ≡ e.literal.variable → v < length numbers → trail_values es e.literal.variable ≡ None → number ≡ length es + 1
    → (p : ℕ) (d : Entry) → slice_get (es ++ e ∷ []) p ≡ Some d → get_or (set numbers v number) d.literal.variable 0 ≡ p + 1
number_more numbers es e v number numbered variable within free is p d at =
    elim (at_more es e d p at) [
      | inl before ↦ get_or-set_other numbers v d.literal.variable number 0 (λ same. has_none es p d e.literal.variable before free (same ∙ variable)) ∙ numbered p d before
      | inr end ↦
          ap (λ w. get_or (set numbers v number) w 0) (ap (λ (k : Entry). k.literal.variable) (sym end.1) ∙ sym variable)
          ∙ get_or-set_same numbers v number 0 within ∙ is ∙ ap (λ n. n + 1) end.0
    ]

pub kept_more : (marks : List (Option Bool)) (numbers : List ℕ) (es more : List Entry) (e : Entry) (v number : ℕ) (value : Option Bool) → IsKept marks numbers es → v ≡ e.literal.variable → v < length marks → value ≡ Some e.literal.positive → trail_values es e.literal.variable ≡ None → number ≡ length es + 1 → more ≡ es ++ e ∷ []
    → IsKept (set marks v value) (set numbers v number) more
kept_more marks numbers es more e v number value kept variable within made free is put =
    subst (λ (ds : List Entry). IsKept (set marks v value) (set numbers v number) ds) (sym put)
    record {
      values = marked_more marks es e v value kept.values variable within made;
      room = length-set numbers v number ∙ kept.room ∙ sym (length-set marks v value);
      numbered = number_more numbers es e v number kept.numbered variable (omega (arith, within, kept.room)) free is;
    }

pub none_kept : (n : ℕ) (marks : List (Option Bool)) (numbers : List ℕ) (es : List Entry) → marks ≡ replicate n None → length numbers ≡ n → es ≡ [] → IsKept marks numbers es
none_kept n marks numbers es none size first = record {
  values = none_marked n marks es none first;
  room = size ∙ sym (ap (λ (ms : List (Option Bool)). length ms) none ∙ length-replicate {A = Option Bool} n None);
  numbered = λ p d at. absurd (let e : None ≡ Some d = sym (ap (λ (ds : List Entry). slice_get ds p) first) ∙ at in cc);
}

fewer_by : (marks : List (Option Bool)) (v : ℕ) (b : Bool) → v < length marks → get_or marks v None ≡ None → free_count (set marks v (Some b)) < free_count marks
fewer_by [] v b within free = absurd (omega (arith, within))
fewer_by (None ∷ ms) zero b within free = omega arith
fewer_by (Some t ∷ ms) zero b within free = cc
fewer_by (None ∷ ms) (suc v) b within free = omega (arith, fewer_by ms v b (omega (arith, within)) free)
fewer_by (Some t ∷ ms) (suc v) b within free = fewer_by ms v b (omega (arith, within)) free

pub fewer : (marks : List (Option Bool)) (es : List Entry) (v x : ℕ) (b : Bool) → marked marks ≡ trail_values es → v ≡ x → x < length marks → trail_values es x ≡ None → free_count (set marks v (Some b)) < free_count marks
fewer marks es v x b is same within free =
    fewer_by marks v b (omega (arith, same, within)) (ap (λ (a : ℕ → Option Bool). a v) is ∙ ap (trail_values es) same ∙ free)
