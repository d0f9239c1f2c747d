-- What is counted and what is named, of the nodes themselves.
use Rattle.std.proofs.Common.{◌≡◌, ℕ, ◌<◌, ◌≤◌, Bool, true, false, IsTrue, cond, Option, Some, None, List, length, get_or, refl, subst, inl, inr, arith}
use Rattle.std.specs.List.{slice_get}
use Rattle.std.proofs.lemmas.Bool.{and_parts}
use Rattle.std.proofs.lemmas.List.Sums.{get_or-le-sum_by}
use Rattle.std.proofs.lemmas.Option.{slice_get_cases, get_or_from_slice_get, slice_get_within}
use Rattle.tree_core.specs.Orders.{Candidate, free_count, is_named, is_next, is_next_free}
use Rattle.tree_core.specs.declared.order.Order.{Order}

not_one : (b : Bool) → cond b 1 0 ≤ 0 → b ≡ false
not_one true h = absurd (omega (arith, h))
not_one false h = refl

pub none_free_where_none : (nodes : List Candidate) (node : ℕ) (c : Candidate) → free_count nodes ≡ 0 →
    slice_get nodes node ≡ Some c → c.is_free ≡ false
none_free_where_none nodes node c none is =
    let one : cond (get_or nodes node c).is_free 1 0 ≤ free_count nodes =
    get_or-le-sum_by (λ (d : Candidate). cond d.is_free 1 0) nodes node c (slice_get_within nodes node c is) in
    not_one c.is_free (subst (λ (d : Candidate). cond d.is_free 1 0 ≤ 0) (get_or_from_slice_get nodes node c c is) (subst (λ n. cond (get_or nodes node c).is_free 1 0 ≤ n) none one))

pub free_where_named : (order : Order) (events : ℕ) (nodes : List Candidate) (node : ℕ) (c : Candidate) →
    IsTrue (is_named order events nodes node) → slice_get nodes node ≡ Some c → c.is_free ≡ true
unfolding is_named
free_where_named order events nodes node c named is =
    (and_parts c.is_free (is_next order events nodes node c) (subst (λ (o : Option Candidate). IsTrue (is_next_free order events nodes node o)) is named)).0

not_none : (o : Option Candidate) (order : Order) (events : ℕ) (nodes : List Candidate) (node : ℕ) →
    o ≡ None → IsTrue (is_next_free order events nodes node o) → ⊥
not_none None order events nodes node is named = cc
not_none (Some c) order events nodes node is named = cc

pub there_where_named : (order : Order) (events : ℕ) (nodes : List Candidate) (node : ℕ) →
    IsTrue (is_named order events nodes node) → node < length nodes
unfolding is_named
there_where_named order events nodes node named =
    elim (slice_get_cases nodes node).1 [
      | inl w ↦ w.1
      | inr w ↦ absurd (not_none (slice_get nodes node) order events nodes node w.1 named)
    ]
