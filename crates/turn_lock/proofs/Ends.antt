-- A pass that took in the only other.
use Rattle.std.proofs.Common.{◌≡◌, ℕ, ◌<◌, ◌≤◌, List, [], ◌∷◌, ◌++◌, length, get_or, drop, sym, ap, ◌∙◌, subst, arith}
use Rattle.turn_lock.specs.declared.known.Known.{Known}
use Rattle.turn_lock.specs.Views.{merged_known}
use Rattle.turn_lock.specs.Growth.{by_number}
use Rattle.turn_lock.specs.Passes.{AllEnded, AreOf}

module _ {F N E : Type 0} where
  pub one_ended : (v w : Known F N E) → v.ended ≡ [] → w.ended ≡ [] →
      (merged_known v w).ended ≡ (w.number, w.own) ∷ []
  one_ended v w a b = (λ i. a i ++ b i ++ (w.number, w.own) ∷ [])

  pub two_ended : (v w : Known F N E) → v.made ≡ 2 → v.ended ≡ [] → w.number ≡ 1 → w.ended ≡ [] →
      AllEnded (merged_known v w)
  two_ended v w made a number b k some below = let is : w.number ≡ k = omega arith in (
    w.own,
    (
      0,
      subst (λ (l : List (ℕ × List E)). 0 < length l) (sym (one_ended v w a b))
          (omega arith),
      ap (λ (l : List (ℕ × List E)). get_or l 0 (k, w.own)) (one_ended v w a b)
          ∙ ap (λ (z : ℕ). (z, w.own)) is,
    ),
  )

  module _ (worker : E → ℕ) (v w : Known F N E) (events : List E) (a : v.ended ≡ [])
      (b : w.ended ≡ []) (opened : v.opened ≡ 0) (are : AreOf worker (merged_known v w) events) where
    pub second_list : by_number worker w.number events ≡ w.own
    second_list = let d : ℕ × List E = (w.number, w.own) in
        let here : get_or (merged_known v w).ended 0 d ≡ d = ap (λ (l : List (ℕ × List E)). get_or l 0 d)
        (one_ended v w a b) in
        let p : by_number worker (get_or (merged_known v w).ended 0 d).0 (drop v.opened events) ≡
        (get_or (merged_known v w).ended 0 d).1 = are.ended 0 d
        (subst (λ (l : List (ℕ × List E)). 0 < length l) (sym (one_ended v w a b))
        (omega arith)) in
        (λ i. by_number worker (sym here i).0 (drop (sym opened i) events))
        ∙ (p ∙ ap (λ (z : ℕ × List E). z.1) here)

    pub no_list : (k : ℕ) → v.made ≤ k → by_number worker k events ≡ []
    no_list k le = (λ i. by_number worker k (drop (sym opened i) events)) ∙ are.others k le
