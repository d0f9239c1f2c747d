-- Numbers below a bound that pass a test.
use Rattle.std.proofs.Common.{◌≡◌, ◌≢◌, ℕ, zero, suc, ◌+◌, ◌<◌, ◌≤◌, Bool, false, Some, List, [], ◌∷◌, map, length, sym, refl, ap, ◌∙◌, arith}
use mathlib.Core.Logic.{dite}
use native.Mathlib.Decide.{ℕ_discrete}
use Rattle.std.specs.List.{slice_get, count_by}
use Rattle.std.proofs.lemmas.List.Sums.{sum_by-cons}
use Rattle.tree_core.specs.Covers.{one_if, count_below}

pub count_same : (p q : ℕ → Bool) (n : ℕ) → ((k : ℕ) → k < n → p k ≡ q k) → count_below p n ≡ count_below q n
count_same p q zero same = refl
count_same p q (suc n) same = let before : count_below p n ≡ count_below q n = count_same p q n (λ k lt. same k (omega arith)) in
    let last : p n ≡ q n = same n (omega arith) in λ i. before i + one_if (last i)

-- one number's answer changes
pub count_change : (p q : ℕ → Bool) (n m : ℕ) → m < n → ((k : ℕ) → k < n → k ≢ m → p k ≡ q k) → count_below p n + one_if (q m) ≡ count_below q n + one_if (p m)
count_change p q zero m lt same = absurd (omega arith)
count_change p q (suc n) m lt same = dite (ℕ_discrete n m)
    (λ e. let below : count_below p n ≡ count_below q n = count_same p q n (λ k low. same k (omega arith) (λ is. omega arith)) in
    let here : one_if (p n) ≡ one_if (p m) = ap (λ k. one_if (p k)) e in let there : one_if (q n) ≡ one_if (q m) = ap (λ k. one_if (q k)) e in
    let a : ℕ = count_below p n in let b : ℕ = count_below q n in let pm : ℕ = one_if (p m) in let qm : ℕ = one_if (q m) in let pn : ℕ = one_if (p n) in let qn : ℕ = one_if (q n) in
    let e1 : a ≡ b = below in let e2 : pn ≡ pm = here in let e3 : qn ≡ qm = there in let goal : (a + pn) + qm ≡ (b + qn) + pm = omega arith in goal)
    (λ ne. let before : count_below p n + one_if (q m) ≡ count_below q n + one_if (p m) = count_change p q n m (omega arith) (λ k low. same k (omega arith)) in
    let here : one_if (p n) ≡ one_if (q n) = ap one_if (same n (omega arith) ne) in
    let a : ℕ = count_below p n in let b : ℕ = count_below q n in let pm : ℕ = one_if (p m) in let qm : ℕ = one_if (q m) in let pn : ℕ = one_if (p n) in let qn : ℕ = one_if (q n) in
    let e1 : a + qm ≡ b + pm = before in let e2 : pn ≡ qn = here in let goal : (a + pn) + qm ≡ (b + qn) + pm = omega arith in goal)

count_by-cons : {X : Type 0} (f : X → Bool) (x : X) (xs : List X) → count_by f (x ∷ xs) ≡ one_if (f x) + count_by f xs
count_by-cons f x xs = sum_by-cons (λ y. one_if (f y)) x xs

-- the numbers from n on are tested as the items of a list
pub count_more : {X : Type 0} (p : ℕ → Bool) (f : X → Bool) (n : ℕ) (xs : List X) → ((i : ℕ) (x : X) → slice_get xs i ≡ Some x → p (n + i) ≡ f x) → count_below p (n + length xs) ≡ count_below p n + count_by f xs
count_more p f n [] same = ap (count_below p) (zero_right n) ∙ sym (zero_right (count_below p n))
  where
    zero_right : (a : ℕ) → a + 0 ≡ a
    zero_right a = omega arith
count_more {X} p f n (x ∷ xs) same = let later : count_below p (suc n + length xs) ≡ count_below p (suc n) + count_by f xs = count_more p f (suc n) xs (λ i y at. ap p (move n i) ∙ same (suc i) y at) in
    let first : p n ≡ f x = ap p (zero_right n) ∙ same 0 x refl in
    let cons : count_by f (x ∷ xs) ≡ one_if (f x) + count_by f xs = count_by-cons f x xs in
    ap (count_below p) (sym (move n (length xs))) ∙ (later ∙ (ap (λ b. (count_below p n + one_if b) + count_by f xs) first ∙ (assoc (count_below p n) (one_if (f x)) (count_by f xs) ∙ ap (λ k. count_below p n + k) (sym cons))))
  where
    zero_right : (a : ℕ) → a ≡ a + 0
    zero_right a = omega arith

    move : (a b : ℕ) → suc a + b ≡ a + suc b
    move a b = omega arith

    assoc : (a b c : ℕ) → (a + b) + c ≡ a + (b + c)
    assoc a b c = omega arith

pub count_by-map : {X Y : Type 0} (f : Y → Bool) (g : X → Y) (xs : List X) → count_by f (map g xs) ≡ count_by (λ x. f (g x)) xs
count_by-map f g [] = refl
count_by-map f g (x ∷ xs) = count_by-cons f (g x) (map g xs) ∙ (ap (λ k. one_if (f (g x)) + k) (count_by-map f g xs) ∙ sym (count_by-cons (λ y. f (g y)) x xs))

pub count_by-none : {X : Type 0} (f : X → Bool) (xs : List X) → ((x : X) → f x ≡ false) → count_by f xs ≡ 0
count_by-none f [] no_one = refl
count_by-none f (x ∷ xs) no_one = count_by-cons f x xs ∙ (λ i. one_if (no_one x i) + count_by-none f xs no_one i)

pub count_at : (p : ℕ → Bool) (n m : ℕ) → m < n → one_if (p m) ≤ count_below p n
count_at p zero m lt = absurd (omega arith)
count_at p (suc n) m lt = dite (ℕ_discrete n m)
    (λ e. let is : one_if (p n) ≡ one_if (p m) = ap (λ k. one_if (p k)) e in let a : ℕ = count_below p n in let b : ℕ = one_if (p n) in let c : ℕ = one_if (p m) in let is' : b ≡ c = is in let goal : c ≤ a + b = omega arith in goal)
    (λ ne. let low : one_if (p m) ≤ count_below p n = count_at p n m (omega arith) in let a : ℕ = count_below p n in let b : ℕ = one_if (p n) in let c : ℕ = one_if (p m) in let low' : c ≤ a = low in let goal : c ≤ a + b = omega arith in goal)
