-- Each builder extends the formula that it is given.
use Rattle.std.proofs.Common.{ℕ, ◌+◌, ◌-◌, ◌≤◌, nat_lt, Bool, true, false, if◌then◌else◌, List, [], ◌∷◌, ◌++◌, length, take, replicate, fold, arith}
use Rattle.std.proofs.lemmas.List.Elements.{All-cons, All-head, All-tail, All-append, All-take, All-replicate}
use Rattle.cnf_form.specs.Literals.{Literal, negation}
use Rattle.bv_dag.specs.declared.nodes.BinaryOp.{BinaryOp}
use Rattle.bv_dag.specs.declared.nodes.BinaryOp.TheVariants.{Add, Sub, Mul, Udiv, Urem, And, Or, Xor, Shl, Lshr, Ashr}
use Rattle.bv_dag.specs.declared.nodes.Comparison.{Comparison}
use Rattle.bv_dag.specs.declared.nodes.Comparison.TheVariants.{Ult, Slt, Eq}
use Rattle.circuit_spec.specs.declared.direction.Direction.{Direction}
use Rattle.circuit_spec.specs.declared.direction.Direction.TheVariants.{Up, Down}
use Rattle.circuit_spec.specs.Formulas.{Formula, constant}
use Rattle.circuit_spec.specs.Gates.{and_gate, or_gate, xor_gate, mux_gate, xor3_gate, majority_gate}
use Rattle.circuit_spec.specs.Rows.{negations, zeros, top_of, with_top_negated, each, adder, add_row, sum_row, Sum, equal_from}
use Rattle.circuit_spec.specs.Shifts.{Stage, with_moved, with_big, moved, next_stage, shift_end, shift_row}
use Rattle.circuit_spec.specs.Products.{partial_row, products, Division, Restored, brought_down, division_step, division}
use Rattle.circuit_spec.specs.Circuits.{binary_row, compare_gate}
use Rattle.circuit_spec.proofs.Scopes.{Below, RowBelow, IsScoped, IsExtension, MakesLiteral, MakesRow, row_more, stays, joined}
use Rattle.circuit_spec.proofs.RowsBelow.{none_below, negations_below, zeros_below, top_below, top_negated_below, brought_below, moved_below}
use Rattle.circuit_spec.proofs.GateExtensions.{Extends, ands, ors, xors, muxes, xor3_extends, majority_extends}

first_made : (f : Formula) (o : Literal × Formula) (rest : List Literal × Formula) → MakesLiteral f o → MakesRow o.1 rest → MakesRow f (o.0 ∷ rest.0, rest.1)
first_made f o rest one more =
    (joined f o.1 rest.1 one.0 more.0, All-cons (Below rest.1.variables) o.0 rest.0 (omega (arith, one.1, more.0.more)) more.1)

pub each_extends : (n : ℕ) (g : Literal → Literal → Formula → Literal × Formula) → Extends n g → (a b : List Literal) (f : Formula) → n ≤ f.variables → IsScoped f
    → RowBelow f.variables a → RowBelow f.variables b → MakesRow f (each g a b f)
unfolding each
each_extends n g gates [] b f enough is x y = (stays f is, none_below f.variables)
each_extends n g gates (k ∷ a) [] f enough is x y = (stays f is, none_below f.variables)
each_extends n g gates (k ∷ a) (l ∷ b) f enough is x y =
    let o : Literal × Formula = g k l f in
    let one : MakesLiteral f o = gates k l f enough is (All-head (Below f.variables) k a x) (All-head (Below f.variables) l b y) in
    first_made f o (each g a b o.1) one
    (each_extends n g gates a b o.1 (omega (arith, one.0.more)) one.0.scoped
    (row_more f.variables o.1.variables a one.0.more (All-tail (Below f.variables) k a x))
    (row_more f.variables o.1.variables b one.0.more (All-tail (Below f.variables) l b y)))

-- what an adder makes: sums and a carry, with an extension of f
pub record MakesSum (f : Formula) (s : Sum) : Type 0 where
  pub extends : IsExtension f s.formula
  pub sums : RowBelow s.formula.variables s.sums
  pub carry : Below s.formula.variables s.carry

sum_more : (f g h : Formula) (o : Literal) (s : Sum) → IsExtension f g → IsExtension g h → Below g.variables o → MakesSum h s
    → MakesSum f (record { sums = o ∷ s.sums; carry = s.carry; formula = s.formula })
sum_more f g h o s one two within rest = record {
  extends = joined f h s.formula (joined f g h one two) rest.extends;
  sums = All-cons (Below s.formula.variables) o s.sums (omega (arith, within, two.more, rest.extends.more)) rest.sums;
  carry = rest.carry;
}

pub adder_extends : (a b : List Literal) (c : Literal) (f : Formula) → IsScoped f → RowBelow f.variables a → RowBelow f.variables b → Below f.variables c → MakesSum f (adder a b c f)
unfolding adder
adder_extends [] b c f is x y z = record { extends = stays f is; sums = none_below f.variables; carry = z }
adder_extends (k ∷ a) [] c f is x y z = record { extends = stays f is; sums = none_below f.variables; carry = z }
adder_extends (k ∷ a) (l ∷ b) c f is x y z =
    let s : Literal × Formula = xor3_gate k l c f in
    let m : Literal × Formula = majority_gate k l c s.1 in
    let kin : k.variable ≤ f.variables = All-head (Below f.variables) k a x in
    let lin : l.variable ≤ f.variables = All-head (Below f.variables) l b y in
    let one : MakesLiteral f s = xor3_extends k l c f is kin lin z in
    let two : MakesLiteral s.1 m = majority_extends k l c s.1 one.0.scoped (omega (arith, kin, one.0.more)) (omega (arith, lin, one.0.more)) (omega (arith, z, one.0.more)) in
    let more : f.variables ≤ m.1.variables = omega (arith, one.0.more, two.0.more) in
    sum_more f s.1 m.1 s.0 (adder a b m.0 m.1) one.0 two.0 one.1
    (adder_extends a b m.0 m.1 two.0.scoped
    (row_more f.variables m.1.variables a more (All-tail (Below f.variables) k a x))
    (row_more f.variables m.1.variables b more (All-tail (Below f.variables) l b y))
    two.1)

pub equal_extends : (e : Literal) (a b : List Literal) (f : Formula) → IsScoped f → Below f.variables e → RowBelow f.variables a → RowBelow f.variables b → MakesLiteral f (equal_from e a b f)
unfolding equal_from
equal_extends e [] b f is z x y = (stays f is, z)
equal_extends e (k ∷ a) [] f is z x y = (stays f is, z)
equal_extends e (k ∷ a) (l ∷ b) f is z x y =
    let d : Literal × Formula = xor_gate k l f in
    let o : Literal × Formula = and_gate e (negation d.0) d.1 in
    let one : MakesLiteral f d = xors k l f (omega arith) is (All-head (Below f.variables) k a x) (All-head (Below f.variables) l b y) in
    let two : MakesLiteral d.1 o = ands e (negation d.0) d.1 (omega arith) one.0.scoped (omega (arith, z, one.0.more)) one.1 in
    let more : f.variables ≤ o.1.variables = omega (arith, one.0.more, two.0.more) in
    let rest : MakesLiteral o.1 (equal_from o.0 a b o.1) = equal_extends o.0 a b o.1 two.0.scoped two.1
    (row_more f.variables o.1.variables a more (All-tail (Below f.variables) k a x))
    (row_more f.variables o.1.variables b more (All-tail (Below f.variables) l b y)) in
    (joined f o.1 (equal_from o.0 a b o.1).1 (joined f d.1 o.1 one.0 two.0) rest.0, rest.1)

pub add_extends : (a b : List Literal) (c : Literal) (f : Formula) → IsScoped f → RowBelow f.variables a → RowBelow f.variables b → Below f.variables c → MakesRow f (sum_row (adder a b c f))
add_extends a b c f is x y z = let made = adder_extends a b c f is x y z in (made.extends, made.sums)

pub below_extends : (a b : List Literal) (f : Formula) → IsScoped f → RowBelow f.variables a → RowBelow f.variables b
    → MakesLiteral f (negation (adder a (negations b) (constant true) f).carry, (adder a (negations b) (constant true) f).formula)
below_extends a b f is x y =
    let made = adder_extends a (negations b) (constant true) f is x (negations_below f.variables b y) is.first in
    (made.extends, made.carry)

partial_extends : (a : List Literal) (low : ℕ) (b : Literal) (f : Formula) → IsScoped f → RowBelow f.variables a → Below f.variables b → MakesRow f (partial_row a low b f)
unfolding partial_row
partial_extends a low b f is x y =
    let made : List Literal × Formula = each and_gate (take (length a - low) a) (replicate (length a - low) b) f in
    let one : MakesRow f made = each_extends 0 and_gate ands (take (length a - low) a) (replicate (length a - low) b) f (omega arith) is
    (All-take (Below f.variables) (length a - low) a x) (All-replicate (Below f.variables) (length a - low) b y) in
    (one.0, All-append (Below made.1.variables) (zeros low) made.0 (zeros_below made.1 one.0.scoped low) one.1)

pub products_extend : (a bs : List Literal) (low : ℕ) (total : List Literal) (f : Formula) → IsScoped f → RowBelow f.variables a → RowBelow f.variables bs → RowBelow f.variables total
    → MakesRow f (products a bs low total f)
unfolding products
products_extend a [] low total f is x y z = (stays f is, z)
products_extend a (b ∷ bs) low total f is x y z =
    let p : List Literal × Formula = partial_row a low b f in
    let s : List Literal × Formula = add_row total p.0 p.1 in
    let one : MakesRow f p = partial_extends a low b f is x (All-head (Below f.variables) b bs y) in
    let two : MakesRow p.1 s = add_extends total p.0 (constant false) p.1 one.0.scoped (row_more f.variables p.1.variables total one.0.more z) one.1 one.0.scoped.first in
    let more : f.variables ≤ s.1.variables = omega (arith, one.0.more, two.0.more) in
    let rest : MakesRow s.1 (products a bs (low + 1) s.0 s.1) = products_extend a bs (low + 1) s.0 s.1 two.0.scoped
    (row_more f.variables s.1.variables a more x) (row_more f.variables s.1.variables bs more (All-tail (Below f.variables) b bs y)) two.1 in
    (joined f s.1 (products a bs (low + 1) s.0 s.1).1 (joined f p.1 s.1 one.0 two.0) rest.0, rest.1)

-- what a division makes: its quotient and rest, with an extension of f
pub record MakesDivision (f : Formula) (d : Division) : Type 0 where
  pub extends : IsExtension f d.formula
  pub quotient : RowBelow d.formula.variables d.quotient
  pub rest : RowBelow d.formula.variables d.rest

record MakesRestored (f : Formula) (r : Restored) : Type 0 where
  extends : IsExtension f r.formula
  bit : Below r.formula.variables r.bit
  rest : RowBelow r.formula.variables r.rest

step_extends : (x : Literal) (negated rest : List Literal) (f : Formula) → IsScoped f → Below f.variables x → RowBelow f.variables negated → RowBelow f.variables rest
    → MakesRestored f (division_step x negated rest f)
unfolding division_step
step_extends x negated rest f is xin nin rin =
    let shifted : List Literal = brought_down x rest in
    let d : Sum = adder shifted negated (constant true) f in
    let made : List Literal × Formula = each (mux_gate d.carry) d.sums shifted d.formula in
    let sin : RowBelow f.variables shifted = brought_below f.variables x rest xin rin in
    let one : MakesSum f d = adder_extends shifted negated (constant true) f is sin nin is.first in
    let two : MakesRow d.formula made = each_extends d.formula.variables (mux_gate d.carry) (muxes d.formula.variables d.carry one.carry) d.sums shifted d.formula (omega arith) one.extends.scoped
    one.sums (row_more f.variables d.formula.variables shifted one.extends.more sin) in
    record { extends = joined f d.formula made.1 one.extends two.0; bit = omega (arith, one.carry, two.0.more); rest = two.1 }

quotient_more : (f : Formula) (above : Division) (r : Restored) → MakesDivision f above → MakesRestored above.formula r
    → MakesDivision f (record { quotient = r.bit ∷ above.quotient; rest = r.rest; formula = r.formula })
quotient_more f above r one two = record {
  extends = joined f above.formula r.formula one.extends two.extends;
  quotient = All-cons (Below r.formula.variables) r.bit above.quotient two.bit (row_more above.formula.variables r.formula.variables above.quotient two.extends.more one.quotient);
  rest = two.rest;
}

pub division_extends : (a negated : List Literal) (start : Division) → IsScoped start.formula → RowBelow start.formula.variables a → RowBelow start.formula.variables negated
    → RowBelow start.formula.variables start.quotient → RowBelow start.formula.variables start.rest → MakesDivision start.formula (division a negated start)
unfolding division
division_extends [] negated start is x y q r = record { extends = stays start.formula is; quotient = q; rest = r }
division_extends (k ∷ a) negated start is x y q r =
    let f : Formula = start.formula in
    let above : Division = division a negated start in
    let one : MakesDivision f above = division_extends a negated start is (All-tail (Below f.variables) k a x) y q r in
    let kin : k.variable ≤ f.variables = All-head (Below f.variables) k a x in
    quotient_more f above (division_step k negated above.rest above.formula) one
    (step_extends k negated above.rest above.formula one.extends.scoped (omega (arith, kin, one.extends.more))
    (row_more f.variables above.formula.variables negated one.extends.more y) one.rest)

-- a stage of a shift whose literals are of f's variables, where f is its own formula
pub record IsStage (n : ℕ) (s : Stage) : Type 0 where
  pub row : RowBelow n s.row
  pub big : Below n s.big

abbrev MakesStage : Formula → Stage → Type 0
MakesStage f s = IsExtension f s.formula × IsStage s.formula.variables s

stage_made : (direction : Direction) (fill : Literal) (s : Stage) (b : Literal) (t : Bool) → IsScoped s.formula → Below s.formula.variables fill → Below s.formula.variables b → IsStage s.formula.variables s
    → MakesStage s.formula (if t then with_moved s (each (mux_gate b) (moved direction fill s.unit s.row) s.row s.formula) else with_big s (or_gate s.big b s.formula))
stage_made direction fill s b true is x y stage =
    let f : Formula = s.formula in
    let made : List Literal × Formula = each (mux_gate b) (moved direction fill s.unit s.row) s.row f in
    let one : MakesRow f made = each_extends f.variables (mux_gate b) (muxes f.variables b y) (moved direction fill s.unit s.row) s.row f (omega arith) is
    (moved_below direction fill s.unit f.variables s.row x stage.row) stage.row in
    (one.0, record { row = one.1; big = omega (arith, stage.big, one.0.more) })
stage_made direction fill s b false is x y stage =
    let made : Literal × Formula = or_gate s.big b s.formula in
    let one : MakesLiteral s.formula made = ors s.big b s.formula (omega arith) is stage.big y in
    (one.0, record { row = row_more s.formula.variables made.1.variables s.row one.0.more stage.row; big = one.1 })

stage_extends : (direction : Direction) (fill : Literal) (width : ℕ) (s : Stage) (b : Literal) → IsScoped s.formula → Below s.formula.variables fill → Below s.formula.variables b → IsStage s.formula.variables s
    → MakesStage s.formula (next_stage direction fill width s b)
unfolding next_stage
stage_extends direction fill width s b is x y stage = stage_made direction fill s b (nat_lt s.unit width) is x y stage

stages_extend : (direction : Direction) (fill : Literal) (width : ℕ) (bs : List Literal) (s : Stage) → IsScoped s.formula → Below s.formula.variables fill → RowBelow s.formula.variables bs → IsStage s.formula.variables s
    → MakesStage s.formula (fold (next_stage direction fill width) s bs)
stages_extend direction fill width [] s is x y stage = (stays s.formula is, stage)
stages_extend direction fill width (b ∷ bs) s is x y stage =
    let f : Formula = s.formula in
    let t : Stage = next_stage direction fill width s b in
    let g : Formula = t.formula in
    let one : MakesStage f t = stage_extends direction fill width s b is x (All-head (Below f.variables) b bs y) stage in
    let rest : MakesStage g (fold (next_stage direction fill width) t bs) = stages_extend direction fill width bs t one.0.scoped (omega (arith, x, one.0.more))
    (row_more f.variables g.variables bs one.0.more (All-tail (Below f.variables) b bs y)) one.1 in
    (joined f g (fold (next_stage direction fill width) t bs).formula one.0 rest.0, rest.1)

pub shift_extends : (direction : Direction) (fill : Literal) (a b : List Literal) (f : Formula) → IsScoped f → Below f.variables fill → RowBelow f.variables a → RowBelow f.variables b
    → MakesRow f (shift_row direction fill a b f)
unfolding shift_row shift_end
shift_extends direction fill a b f is x y z =
    let start : Stage = record { row = a; unit = 1; big = constant false; formula = f } in
    let s : Stage = fold (next_stage direction fill (length a)) start b in
    let g : Formula = s.formula in
    let made : List Literal × Formula = each (mux_gate s.big) (replicate (length s.row) fill) s.row g in
    let one : MakesStage f s = stages_extend direction fill (length a) b start is x z (record { row = y; big = is.first }) in
    let two : MakesRow g made = each_extends g.variables (mux_gate s.big) (muxes g.variables s.big one.1.big) (replicate (length s.row) fill) s.row g (omega arith) one.0.scoped
    (All-replicate (Below g.variables) (length s.row) fill (omega (arith, x, one.0.more))) one.1.row in
    (joined f g made.1 one.0 two.0, two.1)

divided_extends : (a b : List Literal) (f : Formula) → IsScoped f → RowBelow f.variables a → RowBelow f.variables b
    → MakesDivision f (division a (negations (b ++ constant false ∷ [])) (record { quotient = []; rest = zeros (length b) ++ constant false ∷ []; formula = f }))
divided_extends a b f is x y =
    let P : Literal → Type 0 = Below f.variables in
    let one : RowBelow f.variables (constant false ∷ []) = All-cons P (constant false) [] is.first (none_below f.variables) in
    division_extends a (negations (b ++ constant false ∷ [])) (record { quotient = []; rest = zeros (length b) ++ constant false ∷ []; formula = f }) is x
    (negations_below f.variables (b ++ constant false ∷ []) (All-append P b (constant false ∷ []) y one)) (none_below f.variables)
    (All-append P (zeros (length b)) (constant false ∷ []) (zeros_below f is (length b)) one)

pub binary_extends : (op : BinaryOp) (a b : List Literal) (f : Formula) → IsScoped f → RowBelow f.variables a → RowBelow f.variables b → MakesRow f (binary_row op a b f)
unfolding binary_row
binary_extends Add a b f is x y = add_extends a b (constant false) f is x y is.first
binary_extends Sub a b f is x y = add_extends a (negations b) (constant true) f is x (negations_below f.variables b y) is.first
binary_extends Mul a b f is x y = products_extend a b 0 (zeros (length a)) f is x y (zeros_below f is (length a))
binary_extends Udiv a b f is x y = let made = divided_extends a b f is x y in (made.extends, made.quotient)
binary_extends Urem a b f is x y =
    let d : Division = division a (negations (b ++ constant false ∷ [])) (record { quotient = []; rest = zeros (length b) ++ constant false ∷ []; formula = f }) in
    let made : MakesDivision f d = divided_extends a b f is x y in
    (made.extends, All-take (Below d.formula.variables) (length a) d.rest made.rest)
binary_extends And a b f is x y = each_extends 0 and_gate ands a b f (omega arith) is x y
binary_extends Or a b f is x y = each_extends 0 or_gate ors a b f (omega arith) is x y
binary_extends Xor a b f is x y = each_extends 0 xor_gate xors a b f (omega arith) is x y
binary_extends Shl a b f is x y = shift_extends Up (constant false) a b f is is.first x y
binary_extends Lshr a b f is x y = shift_extends Down (constant false) a b f is is.first x y
binary_extends Ashr a b f is x y = shift_extends Down (top_of a) a b f is (top_below f is a x) x y

pub compare_extends : (op : Comparison) (a b : List Literal) (f : Formula) → IsScoped f → RowBelow f.variables a → RowBelow f.variables b → MakesLiteral f (compare_gate op a b f)
unfolding compare_gate
compare_extends Ult a b f is x y = below_extends a b f is x y
compare_extends Slt a b f is x y = below_extends (with_top_negated a) (with_top_negated b) f is (top_negated_below f is a x) (top_negated_below f is b y)
compare_extends Eq a b f is x y = equal_extends (constant true) a b f is is.first x y
