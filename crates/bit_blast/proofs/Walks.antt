-- What a walk over two rows has made, in front of what it makes of the rest.
use Rattle.std.proofs.Common.{◌≡◌, ℕ, ◌+◌, ◌<◌, ◌≤◌, min, List, [], ◌∷◌, ◌++◌, length, get_or, drop, refl, ap, sym, ◌∙◌, arith, append_assoc, append-nil, inl, inr}
use Rattle.std.proofs.lemmas.List.{drop_all, drop_more}
use Rattle.std.proofs.lemmas.Bool.{cases_lt}
use Rattle.cnf_form.specs.Literals.{Literal, negation}
use Rattle.circuit_spec.specs.Formulas.{Formula}
use Rattle.circuit_spec.specs.Gates.{and_gate, xor_gate, xor3_gate, majority_gate}
use Rattle.circuit_spec.specs.Rows.{each, adder, Sum, equal_from}

abbrev pub with_before : List Literal → List Literal × Formula → List Literal × Formula
with_before front made = (front ++ made.0, made.1)

abbrev pub with_sums : List Literal → Sum → Sum
with_sums front r = record { sums = front ++ r.sums; carry = r.carry; formula = r.formula }

pub opened : (a : List Literal) (i : ℕ) (x : Literal) → i < length a → x ≡ get_or a i x → drop i a ≡ x ∷ drop (i + 1) a
opened a i x within at = drop_more a i x within ∙ ap (λ k. k ∷ drop (i + 1) a) (sym at)

-- a walk over two rows ends with the shorter one
pub at_end : {X : Type 0} (E : List Literal → List Literal → X) (v : X) → ((b : List Literal) → E [] b ≡ v) → ((a : List Literal) → E a [] ≡ v)
    → (a b : List Literal) (i : ℕ) → min (length a) (length b) ≤ i → E (drop i a) (drop i b) ≡ v
at_end E v left right a b i past =
    elim (cases_lt i (length a)) [
      | inl within ↦ ap (E (drop i a)) (drop_all i b (omega arith)) ∙ right (drop i a)
      | inr beyond ↦ ap (λ k. E k (drop i b)) (drop_all i a beyond) ∙ left (drop i b)
    ]

each_step : (g : Literal → Literal → Formula → Literal × Formula) (x y o : Literal) (a b front : List Literal) (f h : Formula) → (o, h) ≡ g x y f
    → with_before (front ++ o ∷ []) (each g a b h) ≡ with_before front (each g (x ∷ a) (y ∷ b) f)
unfolding each
each_step g x y o a b front f h made =
    let r : Literal × Formula = g x y f in
    let rest : List Literal × Formula = each g a b r.1 in
    ap (λ (p : Literal × Formula). with_before (front ++ p.0 ∷ []) (each g a b p.1)) made
    ∙ ap {B = List Literal × Formula} (λ ks. (ks, rest.1)) (append_assoc front (r.0 ∷ []) rest.0)

pub each_more : (g : Literal → Literal → Formula → Literal × Formula) (a b front : List Literal) (i : ℕ) (x y o : Literal) (f h : Formula) → i < length a → i < length b → x ≡ get_or a i x → y ≡ get_or b i y → (o, h) ≡ g x y f
    → with_before (front ++ o ∷ []) (each g (drop (i + 1) a) (drop (i + 1) b) h) ≡ with_before front (each g (drop i a) (drop i b) f)
each_more g a b front i x y o f h in_a in_b at_a at_b made =
    rw (opened a i x in_a at_a, opened b i y in_b at_b) (each_step g x y o (drop (i + 1) a) (drop (i + 1) b) front f h made)

each_left : (g : Literal → Literal → Formula → Literal × Formula) (f : Formula) (b : List Literal) → each g [] b f ≡ ([], f)
unfolding each
each_left g f b = refl

each_right : (g : Literal → Literal → Formula → Literal × Formula) (f : Formula) (a : List Literal) → each g a [] f ≡ ([], f)
unfolding each
each_right g f [] = refl
each_right g f (x ∷ a) = refl

pub each_end : (g : Literal → Literal → Formula → Literal × Formula) (a b front : List Literal) (i : ℕ) (f : Formula) → min (length a) (length b) ≤ i → (front, f) ≡ with_before front (each g (drop i a) (drop i b) f)
each_end g a b front i f past =
    sym (ap (with_before front) (at_end (λ s t. each g s t f) ([], f) (each_left g f) (each_right g f) a b i past)
    ∙ ap {B = List Literal × Formula} (λ ks. (ks, f)) (append-nil front))

-- the adder
adder_step : (x y c s m : Literal) (a b front : List Literal) (f g h : Formula) → (s, g) ≡ xor3_gate x y c f → (m, h) ≡ majority_gate x y c g
    → with_sums (front ++ s ∷ []) (adder a b m h) ≡ with_sums front (adder (x ∷ a) (y ∷ b) c f)
unfolding adder
adder_step x y c s m a b front f g h sum carry =
    let made : Literal × Formula = xor3_gate x y c f in
    let carried : Literal × Formula = majority_gate x y c made.1 in
    let is_carried : (m, h) ≡ carried = carry ∙ ap (majority_gate x y c) (ap (λ (p : Literal × Formula). p.1) sum) in
    let rest : Sum = adder a b carried.0 carried.1 in
    ap (λ (k : Literal). with_sums (front ++ k ∷ []) (adder a b m h)) (ap (λ (p : Literal × Formula). p.0) sum)
    ∙ ap (λ (p : Literal × Formula). with_sums (front ++ made.0 ∷ []) (adder a b p.0 p.1)) is_carried
    ∙ ap {B = Sum} (λ ks. record { sums = ks; carry = rest.carry; formula = rest.formula }) (append_assoc front (made.0 ∷ []) rest.sums)

pub adder_more : (a b front : List Literal) (i : ℕ) (x y c s m : Literal) (f g h : Formula) → i < length a → i < length b → x ≡ get_or a i x → y ≡ get_or b i y
    → (s, g) ≡ xor3_gate x y c f → (m, h) ≡ majority_gate x y c g
    → with_sums (front ++ s ∷ []) (adder (drop (i + 1) a) (drop (i + 1) b) m h) ≡ with_sums front (adder (drop i a) (drop i b) c f)
adder_more a b front i x y c s m f g h in_a in_b at_a at_b sum carry =
    rw (opened a i x in_a at_a, opened b i y in_b at_b) (adder_step x y c s m (drop (i + 1) a) (drop (i + 1) b) front f g h sum carry)

adder_left : (c : Literal) (f : Formula) (b : List Literal) → adder [] b c f ≡ record { sums = []; carry = c; formula = f }
unfolding adder
adder_left c f b = refl

adder_right : (c : Literal) (f : Formula) (a : List Literal) → adder a [] c f ≡ record { sums = []; carry = c; formula = f }
unfolding adder
adder_right c f [] = refl
adder_right c f (x ∷ a) = refl

pub adder_end : (a b front : List Literal) (i : ℕ) (c : Literal) (f : Formula) → min (length a) (length b) ≤ i → record { sums = front; carry = c; formula = f } ≡ with_sums front (adder (drop i a) (drop i b) c f)
adder_end a b front i c f past =
    sym (ap (with_sums front) (at_end (λ s t. adder s t c f) (record { sums = []; carry = c; formula = f }) (adder_left c f) (adder_right c f) a b i past)
    ∙ ap {B = Sum} (λ ks. record { sums = ks; carry = c; formula = f }) (append-nil front))

-- the test of equality
equal_step : (x y e o k : Literal) (a b : List Literal) (f g h : Formula) → (o, g) ≡ xor_gate x y f → (k, h) ≡ and_gate e (negation o) g
    → equal_from k a b h ≡ equal_from e (x ∷ a) (y ∷ b) f
unfolding equal_from
equal_step x y e o k a b f g h differs both =
    ap (λ (p : Literal × Formula). equal_from p.0 a b p.1) (both ∙ ap (λ (p : Literal × Formula). and_gate e (negation p.0) p.1) differs)

pub equal_more : (a b : List Literal) (i : ℕ) (x y e o k : Literal) (f g h : Formula) → i < length a → i < length b → x ≡ get_or a i x → y ≡ get_or b i y
    → (o, g) ≡ xor_gate x y f → (k, h) ≡ and_gate e (negation o) g
    → equal_from k (drop (i + 1) a) (drop (i + 1) b) h ≡ equal_from e (drop i a) (drop i b) f
equal_more a b i x y e o k f g h in_a in_b at_a at_b differs both =
    rw (opened a i x in_a at_a, opened b i y in_b at_b) (equal_step x y e o k (drop (i + 1) a) (drop (i + 1) b) f g h differs both)

equal_left : (e : Literal) (f : Formula) (b : List Literal) → equal_from e [] b f ≡ (e, f)
unfolding equal_from
equal_left e f b = refl

equal_right : (e : Literal) (f : Formula) (a : List Literal) → equal_from e a [] f ≡ (e, f)
unfolding equal_from
equal_right e f [] = refl
equal_right e f (x ∷ a) = refl

pub equal_end : (a b : List Literal) (i : ℕ) (e : Literal) (f : Formula) → min (length a) (length b) ≤ i → (e, f) ≡ equal_from e (drop i a) (drop i b) f
equal_end a b i e f past = sym (at_end (λ s t. equal_from e s t f) (e, f) (equal_left e f) (equal_right e f) a b i past)
