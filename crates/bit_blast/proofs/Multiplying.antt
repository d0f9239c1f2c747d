-- Products and divisions, walked place by place: what one place more makes, and where the walk begins or ends.
use Rattle.std.proofs.Common.{◌≡◌, ℕ, ◌+◌, ◌<◌, ◌≤◌, List, [], ◌∷◌, ◌++◌, length, get_or, drop, refl, ap, sym, ◌∙◌, reverse}
use Rattle.std.proofs.lemmas.List.{drop_all, reverse-append}
use Rattle.cnf_form.specs.Literals.{Literal}
use Rattle.circuit_spec.specs.Formulas.{Formula}
use Rattle.circuit_spec.specs.Rows.{add_row}
use Rattle.circuit_spec.specs.Products.{partial_row, products, Division, Restored, division, division_step, with_quotient}
use Rattle.bit_blast.proofs.Walks.{opened}

product_step : (a bs total p t : List Literal) (x : Literal) (low : ℕ) (f g h : Formula) → (p, g) ≡ partial_row a low x f → (t, h) ≡ add_row total p g
    → products a bs (low + 1) t h ≡ products a (x ∷ bs) low total f
unfolding products
product_step a bs total p t x low f g h partial sum =
    ap (λ (s : List Literal × Formula). products a bs (low + 1) s.0 s.1) (sum ∙ ap (λ (s : List Literal × Formula). add_row total s.0 s.1) partial)

pub product_more : (a b total p t : List Literal) (x : Literal) (i : ℕ) (f g h : Formula) → i < length b → x ≡ get_or b i x → (p, g) ≡ partial_row a i x f → (t, h) ≡ add_row total p g
    → products a (drop (i + 1) b) (i + 1) t h ≡ products a (drop i b) i total f
product_more a b total p t x i f g h within at partial sum =
    rw (opened b i x within at) (product_step a (drop (i + 1) b) total p t x i f g h partial sum)

product_none : (a total : List Literal) (i : ℕ) (f : Formula) → products a [] i total f ≡ (total, f)
unfolding products
product_none a total i f = refl

pub product_end : (a b total : List Literal) (i : ℕ) (f : Formula) → length b ≤ i → (total, f) ≡ products a (drop i b) i total f
product_end a b total i f past = sym (ap (λ k. products a k i total f) (drop_all i b past) ∙ product_none a total i f)

division_cons : (x : Literal) (a negated : List Literal) (start : Division)
    → division (x ∷ a) negated start ≡ (let above = division a negated start in with_quotient above.quotient (division_step x negated above.rest above.formula))
unfolding division
division_cons x a negated start = refl

pub division_more : (a negated quotient rest left : List Literal) (start : Division) (i j : ℕ) (x bit : Literal) (f g : Formula) → i < length a → j ≡ i + 1 → x ≡ get_or a i x
    → let made : Restored = record { bit = bit; rest = left; formula = g } in made ≡ division_step x negated rest f
    → let above : Division = record { quotient = reverse quotient; rest = rest; formula = f } in above ≡ division (drop j a) negated start
    → let all : Division = record { quotient = reverse (quotient ++ bit ∷ []); rest = left; formula = g } in all ≡ division (drop i a) negated start
division_more a negated quotient rest left start i j x bit f g within next at made above =
    rw (opened a i x within at, division_cons x (drop (i + 1) a) negated start, ← next, ← above)
    (ap {B = Division} (λ ks. record { quotient = ks; rest = left; formula = g }) (reverse-append quotient (bit ∷ []))
    ∙ ap (with_quotient (reverse quotient)) made)

division_none : (negated : List Literal) (start : Division) → start ≡ division [] negated start
unfolding division
division_none negated start = refl

pub division_start : (a negated : List Literal) (start : Division) (i : ℕ) → length a ≤ i → start ≡ division (drop i a) negated start
division_start a negated start i past = division_none negated start ∙ sym (ap (λ k. division k negated start) (drop_all i a past))
