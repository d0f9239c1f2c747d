-- Items of lists by their place, and the last event that names a node.
use Rattle.std.proofs.Common.{◌≡◌, ℕ, zero, suc, ◌+◌, ◌<◌, ◌≤◌, eqb, Bool, true, false, cond, Option, Some, None, List, [], ◌∷◌, ◌++◌, length, set, sym, refl, ap, ◌∙◌, arith, eq-eqb, ne_eqb}
use mathlib.Core.Logic.{dite}
use native.Mathlib.Decide.{ℕ_discrete}
use Rattle.std.specs.List.{slice_get, All}
use Rattle.std.proofs.lemmas.List.Elements.{All-head, All-tail}
use Rattle.tree_core.specs.declared.event.Event.{Event}
use Rattle.tree_core.specs.Stories.{last_on, or_later}

pub get_set : {X : Type 0} (xs : List X) (i j : ℕ) (s : X) → i < length xs → slice_get (set xs i s) j ≡ cond (eqb i j) (Some s) (slice_get xs j)
get_set [] i j s h = absurd (omega arith)
get_set (x ∷ xs) zero zero s h = refl
get_set (x ∷ xs) zero (suc j) s h = sym (ap (λ b. cond b (Some s) (slice_get xs j)) (ne_eqb 0 (suc j) (λ e. omega arith)))
get_set (x ∷ xs) (suc i) zero s h = sym (ap (λ b. cond b (Some s) (Some x)) (ne_eqb (suc i) 0 (λ e. omega arith)))
get_set (x ∷ xs) (suc i) (suc j) s h = get_set xs i j s (omega arith) ∙ dite (ℕ_discrete i j)
    (λ e. ap (λ b. cond b (Some s) (slice_get xs j)) (eq-eqb i j e) ∙ sym (ap (λ b. cond b (Some s) (slice_get xs j)) (eq-eqb (suc i) (suc j) (ap suc e))))
    (λ ne. ap (λ b. cond b (Some s) (slice_get xs j)) (ne_eqb i j ne) ∙ sym (ap (λ b. cond b (Some s) (slice_get xs j)) (ne_eqb (suc i) (suc j) (λ e. ne (omega arith)))))

pub get_before : {X : Type 0} (xs ys : List X) (m : ℕ) → m < length xs → slice_get (xs ++ ys) m ≡ slice_get xs m
get_before [] ys m lt = absurd (omega arith)
get_before (x ∷ xs) ys zero lt = refl
get_before (x ∷ xs) ys (suc m) lt = get_before xs ys m (omega arith)

pub get_behind : {X : Type 0} (xs ys : List X) (i : ℕ) → slice_get (xs ++ ys) (length xs + i) ≡ slice_get ys i
get_behind [] ys i = ap (slice_get ys) (zero_left i)
  where
    zero_left : (a : ℕ) → 0 + a ≡ a
    zero_left a = omega arith
get_behind (x ∷ xs) ys i = ap (slice_get ((x ∷ xs) ++ ys)) (move (length xs) i) ∙ get_behind xs ys i
  where
    move : (a b : ℕ) → suc a + b ≡ suc (a + b)
    move a b = omega arith

pub get_last : {X : Type 0} (xs : List X) (x : X) → slice_get (xs ++ x ∷ []) (length xs) ≡ Some x
get_last [] x = refl
get_last (y ∷ xs) x = get_last xs x

-- an event more
or_later-or_later : {R : Type 0} (m : ℕ) (x e : Event R ℕ) (o : Option (Event R ℕ)) (b : Bool) → or_later m x (cond b (Some e) o) ≡ cond b (Some e) (or_later m x o)
or_later-or_later m x e o true = refl
or_later-or_later m x e o false = refl

pub last_on-push : {R : Type 0} (m : ℕ) (es : List (Event R ℕ)) (e : Event R ℕ) → last_on m (es ++ e ∷ []) ≡ cond (eqb e.node m) (Some e) (last_on m es)
last_on-push m [] e = refl
last_on-push m (x ∷ es) e = ap (or_later m x) (last_on-push m es e) ∙ or_later-or_later m x e (last_on m es) (eqb e.node m)

pub last_on-none : {R : Type 0} (n m : ℕ) (es : List (Event R ℕ)) → n ≤ m → All (λ (e : Event R ℕ). e.node < n) es → last_on m es ≡ None
last_on-none n m [] le named = refl
last_on-none {R} n m (x ∷ es) le named = let low : x.node < n = All-head (λ (e : Event R ℕ). e.node < n) x es named in
    ap (or_later m x) (last_on-none n m es le (All-tail (λ (e : Event R ℕ). e.node < n) x es named)) ∙ ap (λ b. cond b (Some x) None) (ne_eqb x.node m (λ e. omega arith))
