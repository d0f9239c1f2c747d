-- Gates: a new variable each, and clauses that hold just where it has the gate's value.
use Rattle.std.specs.Prelude.{List, [], ◌∷◌}
use Rattle.cnf_form.specs.Literals.{Literal, negation}
use Rattle.circuit_spec.specs.Formulas.{Formula, next_variable, with_variable, with_clauses}
use Rattle.circuit_spec.specs.declared.gate.Gate.{Gate}
use Rattle.circuit_spec.specs.declared.gate.Gate.TheVariants.{And, Or, Xor, Mux}

-- The clauses of gates in the manner of Tseitin: a new variable o, and clauses that hold just where o is the gate's value.
abbrev pub gate : (Literal → List (List Literal)) → Formula → Literal × Formula
gate clauses f = (next_variable f, with_clauses (clauses (next_variable f)) (with_variable f))

-- a and b
abbrev pub and_clauses : (a b o : Literal) → List (List Literal)
and_clauses a b o =
    (negation o ∷ a ∷ []) ∷
    (negation o ∷ b ∷ []) ∷
    (o ∷ negation a ∷ negation b ∷ []) ∷ []

unfoldable pub and_gate : Literal → Literal → Formula → Literal × Formula
and_gate a b = gate (and_clauses a b)

abbrev pub with_negated : Literal × Formula → Literal × Formula
with_negated made = (negation made.0, made.1)

-- a or b: not both negations
unfoldable pub or_gate : Literal → Literal → Formula → Literal × Formula
or_gate a b f = with_negated (and_gate (negation a) (negation b) f)

-- a unequal to b
abbrev pub xor_clauses : (a b o : Literal) → List (List Literal)
xor_clauses a b o =
    (negation o ∷ a ∷ b ∷ []) ∷
    (negation o ∷ negation a ∷ negation b ∷ []) ∷
    (o ∷ negation a ∷ b ∷ []) ∷
    (o ∷ a ∷ negation b ∷ []) ∷ []

unfoldable pub xor_gate : Literal → Literal → Formula → Literal × Formula
xor_gate a b = gate (xor_clauses a b)

-- a where c is true, else b
abbrev pub mux_clauses : (c a b o : Literal) → List (List Literal)
mux_clauses c a b o =
    (negation c ∷ negation a ∷ o ∷ []) ∷
    (negation c ∷ a ∷ negation o ∷ []) ∷
    (c ∷ negation b ∷ o ∷ []) ∷
    (c ∷ b ∷ negation o ∷ []) ∷ []

unfoldable pub mux_gate : Literal → Literal → Literal → Formula → Literal × Formula
mux_gate c a b = gate (mux_clauses c a b)

-- the sum of a full adder: whether an odd number of a, b and c is true
abbrev pub xor3_clauses : (a b c o : Literal) → List (List Literal)
xor3_clauses a b c o =
    (a ∷ b ∷ c ∷ negation o ∷ []) ∷
    (a ∷ b ∷ negation c ∷ o ∷ []) ∷
    (a ∷ negation b ∷ c ∷ o ∷ []) ∷
    (a ∷ negation b ∷ negation c ∷ negation o ∷ []) ∷
    (negation a ∷ b ∷ c ∷ o ∷ []) ∷
    (negation a ∷ b ∷ negation c ∷ negation o ∷ []) ∷
    (negation a ∷ negation b ∷ c ∷ negation o ∷ []) ∷
    (negation a ∷ negation b ∷ negation c ∷ o ∷ []) ∷ []

unfoldable pub xor3_gate : Literal → Literal → Literal → Formula → Literal × Formula
xor3_gate a b c = gate (xor3_clauses a b c)

-- the carry of a full adder: whether two or more of a, b and c are true
abbrev pub majority_clauses : (a b c o : Literal) → List (List Literal)
majority_clauses a b c o =
    (negation a ∷ negation b ∷ o ∷ []) ∷
    (negation a ∷ negation c ∷ o ∷ []) ∷
    (negation b ∷ negation c ∷ o ∷ []) ∷
    (a ∷ b ∷ negation o ∷ []) ∷
    (a ∷ c ∷ negation o ∷ []) ∷
    (b ∷ c ∷ negation o ∷ []) ∷ []

unfoldable pub majority_gate : Literal → Literal → Literal → Formula → Literal × Formula
majority_gate a b c = gate (majority_clauses a b c)

-- a gate of two literals
abbrev pub gate_of : Gate → Literal → Literal → Formula → Literal × Formula
gate_of And a b f = and_gate a b f
gate_of Or a b f = or_gate a b f
gate_of Xor a b f = xor_gate a b f
gate_of (Mux c) a b f = mux_gate c a b f
