-- Which variables a formula and a row depend on, and what it is that a formula can be extended to another.
use Rattle.std.proofs.Common.{◌≡◌, ℕ, ◌+◌, ◌*◌, ◌≤◌, Bool, cond, eqb, List, [], ◌∷◌, length, get_or, Option, Some, None, All, refl, ap, ◌∙◌, inl, inr, arith}
use Rattle.std.proofs.lemmas.Bool.{eq-eqb, ne_eqb, cases_lt}
use Rattle.std.proofs.lemmas.List.{get_or_past}
use Rattle.std.proofs.lemmas.List.Elements.{All-get_or, All-weaker, All-head, All-tail}
use Rattle.cnf_form.specs.Literals.{Literal, same_truth}
use Rattle.cnf_form.specs.Clauses.{clause_of}
use Rattle.cnf_form.specs.Valuations.{literal_value, satisfies}
use Rattle.circuit_spec.specs.Formulas.{Formula, with_kept, with_clause, with_clauses}
use Rattle.circuit_spec.specs.Bytes.{bit_of, number_of_row}
use Rattle.circuit_spec.proofs.EarlierClauses.{Holds}

-- two valuations with one value for each variable up to n
abbrev pub Agree : ℕ → (ℕ → Bool) → (ℕ → Bool) → Type 0
Agree n v w = (k : ℕ) → k ≤ n → v k ≡ w k

-- a literal of a variable up to n
abbrev pub Below : ℕ → Literal → Type 0
Below n l = l.variable ≤ n

-- a row of such literals
abbrev pub RowBelow : ℕ → List Literal → Type 0
RowBelow n row = All (Below n) row

-- There is a first variable, and whether the clauses are satisfied depends only on the variables that there are.
pub record IsScoped (f : Formula) : Type 0 where
  pub first : 1 ≤ f.variables
  pub only : (v w : ℕ → Bool) → Agree f.variables v w → satisfies v f.clauses ≡ satisfies w f.clauses

-- The formula g has further variables, and each valuation that satisfies f can be changed above f's variables so that
-- it satisfies g.
pub record IsExtension (f g : Formula) : Type 0 where
  pub more : f.variables ≤ g.variables
  pub scoped : IsScoped g
  pub extended : (v : ℕ → Bool) → Holds v f → (w : ℕ → Bool) × Agree f.variables v w × Holds w g

-- a gate's literal and a row, made with an extension of f
abbrev pub MakesLiteral : Formula → Literal × Formula → Type 0
MakesLiteral f made = IsExtension f made.1 × Below made.1.variables made.0

abbrev pub MakesRow : Formula → List Literal × Formula → Type 0
MakesRow f made = IsExtension f made.1 × RowBelow made.1.variables made.0

pub agree_fewer : (m n : ℕ) (v w : ℕ → Bool) → m ≤ n → Agree n v w → Agree m v w
agree_fewer m n v w le same k small = same k (omega arith)

pub literal_same : (v w : ℕ → Bool) (n : ℕ) (l : Literal) → Agree n v w → Below n l → literal_value v l ≡ literal_value w l
literal_same v w n l same within = ap (λ b. same_truth b l.positive) (same l.variable within)

pub number_same : (v w : ℕ → Bool) (n : ℕ) (row : List Literal) → Agree n v w → RowBelow n row → number_of_row v row ≡ number_of_row w row
unfolding number_of_row
number_same v w n [] same within = refl
number_same v w n (l ∷ ls) same within =
    let here : literal_value v l ≡ literal_value w l = literal_same v w n l same (All-head (Below n) l ls within) in
    let rest : number_of_row v ls ≡ number_of_row w ls = number_same v w n ls same (All-tail (Below n) l ls within) in
    ap (λ b. bit_of b + 2 * number_of_row v ls) here ∙ ap (λ m. bit_of (literal_value w l) + 2 * m) rest

below_more : (m n : ℕ) → m ≤ n → (l : Literal) → Below m l → Below n l
below_more m n le l within = omega arith

pub row_more : (m n : ℕ) (row : List Literal) → m ≤ n → RowBelow m row → RowBelow n row
row_more m n row le within = All-weaker (Below m) (Below n) (below_more m n le) row within

-- an element of a list or what stands for it past the end
pub All-at : {X : Type 0} (P : X → Type 0) (xs : List X) (i : ℕ) (d : X) → P d → All P xs → P (get_or xs i d)
All-at P xs i d past all = elim (cases_lt i (length xs)) [
  | inl l ↦ All-get_or P xs i d l all
  | inr l ↦ rw (get_or_past xs i d l) past
]

pub stays : (f : Formula) → IsScoped f → IsExtension f f
stays f is = record { more = omega arith; scoped = is; extended = λ v h. (v, (λ k le. refl), h) }

pub joined : (f g h : Formula) → IsExtension f g → IsExtension g h → IsExtension f h
joined f g h one two = record {
  more = omega (arith, one.more, two.more);
  scoped = two.scoped;
  extended = λ v is.
      let a = one.extended v is in
      let b = two.extended a.0 a.2 in
      (b.0, (λ k le. a.1 k le ∙ b.1 k (omega (arith, le, one.more))), b.2);
}

-- a valuation with another value for one variable
abbrev pub changed : (ℕ → Bool) → ℕ → Bool → ℕ → Bool
changed v n b k = cond (eqb k n) b (v k)

pub changed_at : (v : ℕ → Bool) (n : ℕ) (b : Bool) (k : ℕ) → k ≡ n → changed v n b k ≡ b
changed_at v n b k is = rw (eq-eqb k n is) refl

pub changed_above : (v : ℕ → Bool) (m n : ℕ) (b : Bool) → n ≡ m + 1 → Agree m v (changed v n b)
changed_above v m n b next k le = rw (ne_eqb k n (λ (e : k ≡ n). omega arith)) refl

kept_variables : (f : Formula) (o : Option (List Literal)) → (with_kept o f).variables ≡ f.variables
kept_variables f None = refl
kept_variables f (Some c) = refl

pub clause_variables : (c : List Literal) (f : Formula) → (with_clause c f).variables ≡ f.variables
unfolding with_clause
clause_variables c f = kept_variables f (clause_of c)

pub clauses_variables : (cs : List (List Literal)) (f : Formula) → (with_clauses cs f).variables ≡ f.variables
clauses_variables [] f = refl
clauses_variables (c ∷ cs) f = clauses_variables cs (with_clause c f) ∙ clause_variables c f
