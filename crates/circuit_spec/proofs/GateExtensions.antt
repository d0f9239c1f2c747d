-- A gate extends the formula that it is given: its variable, which is new, has the gate's value.
use Rattle.std.proofs.Common.{◌≡◌, ℕ, ◌+◌, ◌≤◌, Bool, ◌&&◌, if◌then◌else◌, List, refl, ap, sym, ◌∙◌, arith}
use Rattle.std.proofs.lemmas.Bool.{and_from}
use Rattle.cnf_form.specs.Literals.{Literal, negation, same_truth}
use Rattle.cnf_form.specs.Valuations.{literal_value, satisfies}
use Rattle.circuit_spec.specs.Formulas.{Formula, next_variable, with_variable}
use Rattle.circuit_spec.specs.Gates.{gate, and_clauses, xor_clauses, mux_clauses, xor3_clauses, majority_clauses, and_gate, or_gate, xor_gate, mux_gate, xor3_gate, majority_gate}
use Rattle.circuit_spec.specs.Meaning.{is_xor, sum_bit, carry_bit}
use Rattle.circuit_spec.proofs.Truths.{twice, same_itself}
use Rattle.circuit_spec.proofs.GateMeaning.{and_means, xor_means, mux_means, xor3_means, majority_means}
use Rattle.circuit_spec.proofs.Scopes.{Agree, Below, IsScoped, MakesLiteral, agree_fewer, literal_same, changed, changed_at, changed_above, clauses_variables}

-- what a gate says of its literal, which is of the next variable
record IsGate (f : Formula) (made : Literal × Formula) (value : (ℕ → Bool) → Bool) : Type 0 where
  next : made.0.variable ≡ f.variables + 1
  one_more : made.1.variables ≡ f.variables + 1
  depends : (v w : ℕ → Bool) → Agree f.variables v w → value v ≡ value w
  says : (v : ℕ → Bool) → satisfies v made.1.clauses ≡ (satisfies v f.clauses && same_truth (literal_value v made.0) (value v))

gate_scoped : (f : Formula) (made : Literal × Formula) (value : (ℕ → Bool) → Bool) → IsScoped f → IsGate f made value → IsScoped made.1
gate_scoped f made value is gate = record {
  first = omega (arith, gate.one_more);
  only = λ v w same.
      let fewer : Agree f.variables v w = agree_fewer f.variables made.1.variables v w (omega (arith, gate.one_more)) same in
      let o : literal_value v made.0 ≡ literal_value w made.0 = literal_same v w made.1.variables made.0 same (omega (arith, gate.one_more, gate.next)) in
      gate.says v ∙ ap (λ b. b && same_truth (literal_value v made.0) (value v)) (is.only v w fewer)
      ∙ ap (λ b. satisfies w f.clauses && same_truth b (value v)) o
      ∙ ap (λ b. satisfies w f.clauses && same_truth (literal_value w made.0) b) (gate.depends v w fewer) ∙ sym (gate.says w);
}

abbrev with_gate : Formula → Literal → ((ℕ → Bool) → Bool) → (ℕ → Bool) → ℕ → Bool
with_gate f o value v = changed v o.variable (same_truth (value v) o.positive)

gate_value : (f : Formula) (made : Literal × Formula) (value : (ℕ → Bool) → Bool) (v : ℕ → Bool) → IsGate f made value
    → literal_value (with_gate f made.0 value v) made.0 ≡ value (with_gate f made.0 value v)
gate_value f made value v gate =
    ap (λ b. same_truth b made.0.positive) (changed_at v made.0.variable (same_truth (value v) made.0.positive) made.0.variable refl)
    ∙ twice (value v) made.0.positive
    ∙ gate.depends v (with_gate f made.0 value v) (changed_above v f.variables made.0.variable (same_truth (value v) made.0.positive) gate.next)

-- A gate extends a formula: its variable has the gate's value.
gate_extends : (f : Formula) (made : Literal × Formula) (value : (ℕ → Bool) → Bool) → IsScoped f → IsGate f made value → MakesLiteral f made
gate_extends f made value is gate = (
  record {
    more = omega (arith, gate.one_more);
    scoped = gate_scoped f made value is gate;
    extended = λ v h.
        let w : ℕ → Bool = with_gate f made.0 value v in
        let same : Agree f.variables v w = changed_above v f.variables made.0.variable (same_truth (value v) made.0.positive) gate.next in (
          w,
          same,
          gate.says w ∙ and_from _ _ (sym (is.only v w same) ∙ h)
              (ap (λ b. same_truth b (value w)) (gate_value f made value v gate) ∙ same_itself (value w)),
        );
  },
  omega (arith, gate.one_more, gate.next),
)

-- a gate of two literals, in each formula of at least n variables
abbrev pub Extends : ℕ → (Literal → Literal → Formula → Literal × Formula) → Type 0
Extends n g = (a b : Literal) (f : Formula) → n ≤ f.variables → IsScoped f → Below f.variables a → Below f.variables b → MakesLiteral f (g a b f)

-- a gate of these clauses, which has this value
made_by : (clauses : Literal → List (List Literal)) (value : (ℕ → Bool) → Bool) (f : Formula) → IsScoped f → ((v w : ℕ → Bool) → Agree f.variables v w → value v ≡ value w)
    → ((v : ℕ → Bool) → satisfies v (gate clauses f).1.clauses ≡ (satisfies v f.clauses && same_truth (literal_value v (gate clauses f).0) (value v))) → MakesLiteral f (gate clauses f)
made_by clauses value f is depends says =
    gate_extends f (gate clauses f) value is (record { next = refl; one_more = clauses_variables (clauses (next_variable f)) (with_variable f); depends = depends; says = says })

same_two : (op : Bool → Bool → Bool) (v w : ℕ → Bool) (n : ℕ) (a b : Literal) → Agree n v w → Below n a → Below n b → op (literal_value v a) (literal_value v b) ≡ op (literal_value w a) (literal_value w b)
same_two op v w n a b same x y = ap (λ p. op p (literal_value v b)) (literal_same v w n a same x) ∙ ap (op (literal_value w a)) (literal_same v w n b same y)

same_three : (op : Bool → Bool → Bool → Bool) (v w : ℕ → Bool) (n : ℕ) (a b c : Literal) → Agree n v w → Below n a → Below n b → Below n c
    → op (literal_value v a) (literal_value v b) (literal_value v c) ≡ op (literal_value w a) (literal_value w b) (literal_value w c)
same_three op v w n a b c same x y z = ap (λ p. op p (literal_value v b) (literal_value v c)) (literal_same v w n a same x) ∙ same_two (op (literal_value w a)) v w n b c same y z

pub ands : Extends 0 and_gate
unfolding and_gate
ands a b f more is x y =
    made_by (and_clauses a b) (λ v. literal_value v a && literal_value v b) f is (λ v w same. same_two (λ p q. p && q) v w f.variables a b same x y) (λ v. and_means v a b f)

pub ors : Extends 0 or_gate
unfolding or_gate
ors a b f more is x y = ands (negation a) (negation b) f more is x y

pub xors : Extends 0 xor_gate
unfolding xor_gate
xors a b f more is x y =
    made_by (xor_clauses a b) (λ v. is_xor (literal_value v a) (literal_value v b)) f is (λ v w same. same_two is_xor v w f.variables a b same x y) (λ v. xor_means v a b f)

pub muxes : (n : ℕ) (c : Literal) → Below n c → Extends n (mux_gate c)
unfolding mux_gate
muxes n c within a b f more is x y =
    let z : Below f.variables c = omega arith in
    made_by (mux_clauses c a b) (λ v. if literal_value v c then literal_value v a else literal_value v b) f is
    (λ v w same. same_three (λ p q r. if p then q else r) v w f.variables c a b same z x y) (λ v. mux_means v c a b f)

pub xor3_extends : (a b c : Literal) (f : Formula) → IsScoped f → Below f.variables a → Below f.variables b → Below f.variables c → MakesLiteral f (xor3_gate a b c f)
unfolding xor3_gate
xor3_extends a b c f is x y z =
    made_by (xor3_clauses a b c) (λ v. sum_bit (literal_value v a) (literal_value v b) (literal_value v c)) f is (λ v w same. same_three sum_bit v w f.variables a b c same x y z) (λ v. xor3_means v a b c f)

pub majority_extends : (a b c : Literal) (f : Formula) → IsScoped f → Below f.variables a → Below f.variables b → Below f.variables c → MakesLiteral f (majority_gate a b c f)
unfolding majority_gate
majority_extends a b c f is x y z =
    made_by (majority_clauses a b c) (λ v. carry_bit (literal_value v a) (literal_value v b) (literal_value v c)) f is (λ v w same. same_three carry_bit v w f.variables a b c same x y z) (λ v. majority_means v a b c f)
