use Rattle.std.proofs.Common.{◌≡◌, ℕ, ◌+◌, ◌<◌, Bool, true, false, not, cond, List, [], ◌∷◌, ◌++◌, length, get_or, take, drop, refl, ap, sym, ◌∙◌, filter, Option, Some, None, option_to_list, is_some, append-nil, ◌≤◌}
use Rattle.std.proofs.lemmas.List.{take_more, take_all, take-append-drop}
use Rattle.std.proofs.lemmas.List.Elements.{filter-append}
use Rattle.cnf_form.specs.Literals.{Literal}
use Rattle.cnf_form.specs.Propagation.{is_false, open_literals, only_literal, unit_literal}

pub open_more : (a : ℕ → Option Bool) (c : List Literal) (i : ℕ) (d : Literal) → i < length c → open_literals a (take (i + 1) c) ≡ open_literals a (take i c) ++ cond (not (is_false a (get_or c i d))) (get_or c i d ∷ []) []
unfolding open_literals
open_more a c i d within =
    ap (filter (λ l. not (is_false a l))) (take_more c i d within) ∙ filter-append (λ l. not (is_false a l)) (take i c) (get_or c i d ∷ [])

pub open_none : (a : ℕ → Option Bool) → [] ≡ open_literals a []
unfolding open_literals
open_none a = refl

-- two literals that aren't false
open_rest : (a : ℕ → Option Bool) (c : List Literal) (i : ℕ) → open_literals a c ≡ open_literals a (take i c) ++ open_literals a (drop i c)
unfolding open_literals
open_rest a c i = ap (filter (λ l. not (is_false a l))) (sym (take-append-drop i c)) ∙ filter-append (λ l. not (is_false a l)) (take i c) (drop i c)

pub too_many : (a : ℕ → Option Bool) (c : List Literal) (i : ℕ) (k l : Literal) → i < length c → l ≡ get_or c i l → is_false a l ≡ false → k ∷ [] ≡ open_literals a (take i c) → None ≡ unit_literal a c
too_many a c i k l within at opens so_far =
    let both : open_literals a (take (i + 1) c) ≡ k ∷ l ∷ []
    = open_more a c i l within ∙ rw (← so_far, ← at, opens) refl in
    sym (ap (only_literal a) (open_rest a c (i + 1) ∙ ap (λ x. x ++ open_literals a (drop (i + 1) c)) both))

pub too_many_found : (a : ℕ → Option Bool) (c : List Literal) (i : ℕ) (o : Option Literal) (l : Literal) (f : Bool) → i < length c → l ≡ get_or c i l → f ≡ is_false a l → f ≡ false → is_some o ≡ true → option_to_list o ≡ open_literals a (take i c) → None ≡ unit_literal a c
too_many_found a c i None l f within at is fails found so_far = cc
too_many_found a c i (Some k) l f within at is fails found so_far = too_many a c i k l within at (sym is ∙ fails) so_far

pub opened : (a : ℕ → Option Bool) (c : List Literal) (i : ℕ) (o more : Option Literal) (l : Literal) (f : Bool) → i < length c → l ≡ get_or c i l → f ≡ is_false a l → f ≡ false → is_some o ≡ false → option_to_list o ≡ open_literals a (take i c) → more ≡ Some l → option_to_list more ≡ open_literals a (take (i + 1) c)
opened a c i None more l f within at is fails none so_far made =
    ap option_to_list made ∙ sym (open_more a c i l within ∙ rw (← so_far, ← at, ← is, fails) refl)
opened a c i (Some k) more l f within at is fails none so_far made = cc

pub passed : (a : ℕ → Option Bool) (c : List Literal) (i : ℕ) (o more : Option Literal) (l : Literal) (f : Bool) → i < length c → l ≡ get_or c i l → f ≡ is_false a l → f ≡ true → option_to_list o ≡ open_literals a (take i c) → more ≡ o → option_to_list more ≡ open_literals a (take (i + 1) c)
passed a c i o more l f within at is holds so_far kept =
    ap option_to_list kept ∙ sym (open_more a c i l within ∙ rw (← so_far, ← at, ← is, holds) (append-nil (option_to_list o)))

-- what is left at the end
pub unit_at_end : (a : ℕ → Option Bool) (c : List Literal) (i : ℕ) (o : Option Literal) → length c ≤ i → option_to_list o ≡ open_literals a (take i c) → only_literal a (option_to_list o) ≡ unit_literal a c
unit_at_end a c i o past so_far = ap (only_literal a) (so_far ∙ ap (open_literals a) (take_all i c past))
