-- Where a way comes to: at an address that its bits can lead to, exactly where they are the number of steps there.
use Rattle.std.proofs.Common.{◌≡◌, ◌≢◌, ℕ, ◌+◌, ◌-◌, ◌*◌, ◌/◌, ◌%◌, ◌^◌, ◌<◌, ◌≤◌, ◌&&◌, Bool, true, false, List, refl, sym, ap, subst, ◌∙◌, arith}
use Rattle.std.specs.Prelude.{◌==◌, None, Some, Option, if◌then◌else◌, nat_le, nat_lt}
use Rattle.std.proofs.lemmas.Bool.{and_parts}
use Rattle.std.proofs.lemmas.Bool.Decides.{nat_tests}
use Rattle.std.proofs.lemmas.Nat.{div-add-mod', div-mul-add, mod-mul-add, pow_pos}
use Rattle.std.proofs.Math.Nat.{mod-lt}
use Rattle.bv_dag.specs.BitVectors.{BitVector, bit, equal}
use Rattle.bv_dag.specs.Graphs.{Graph, number_of, val}
use Rattle.bv_dag.specs.declared.nodes.Comparison.TheVariants.{Eq}
use Rattle.bv_dag.specs.declared.nodes.Node.TheVariants.{Compare, Num}
use Rattle.term_simplify.specs.Builds.{BuildsNode}
use Rattle.term_simplify.specs.Simplified.{comparison_of}
use Rattle.term_trees.specs.Trees.{Constant, tree_of}
use Rattle.sym_state.specs.Expressions.{Number, settled}
use Rattle.sym_state.specs.Scattering.{AreWayBits, come_to}
use Rattle.sym_state.specs.Selecting.{as_way}
use Rattle.sym_state.specs.Storing.{comes_to, may_come, steps_to, stride_of, way_bits}
use Rattle.sym_state.specs.Values.{GivesBit, IsBit, bit_worth}
use Rattle.sym_state.specs.declared.value.Bit.{Bit}
use Rattle.sym_state.specs.declared.value.Bit.TheVariants.{Known, Term}
use Rattle.sym_state.specs.declared.ways.Stride.{Stride}
use Rattle.sym_state.specs.declared.ways.Way.{Way}
use Rattle.sym_state.proofs.Expressing.{tree-kept}
use Rattle.sym_state.proofs.Growing.{Continues-trans, number-grown}
use Rattle.sym_state.proofs.Grown.{Continues-refl}

-- ---- Numbers.
-- it leads on by n and comes to an address
module _ (stride : Stride) (address n : ℕ) (small : n < 2 ^ stride.count) where
  abbrev far : ℕ
  far = address - stride.start

  abbrev by : ℕ
  by = 2 ^ stride.scale

  led_far : address ≡ stride.start + n * by → far ≡ n * by + 0
  led_far is = omega (arith, is)

  led_even : address ≡ stride.start + n * by → far % by ≡ 0
  led_even is = ap (λ d. d % by) (led_far is) ∙ mod-mul-add n by 0 (pow_pos stride.scale)

  led_steps : address ≡ stride.start + n * by → far / by ≡ n
  led_steps is = ap (λ d. d / by) (led_far is) ∙ div-mul-add n by 0 (pow_pos stride.scale)

  pub led_may : address ≡ stride.start + n * by → may_come stride address ≡ true
  led_may is =
      let even = led_even is in
      let steps = led_steps is in
      let below : far / by < 2 ^ stride.count = subst (λ k. k < 2 ^ stride.count) (sym steps) small in
      let behind : stride.start ≤ address = omega (arith, is) in
      grind (arith, nat_tests, even, below, behind)

  not_led_by : (t : Bool) → (address == stride.start + n * by) ≡ t → may_come stride address ≡ false → t ≡ false
  not_led_by true is other = cc (led_may (grind (arith, nat_tests, is)), other)
  not_led_by false is other = refl

  pub not_led : may_come stride address ≡ false → (address == stride.start + n * by) ≡ false
  not_led other = not_led_by (address == stride.start + n * by) refl other

  there_by : may_come stride address ≡ true → address ≡ stride.start + far / by * by
  there_by may =
      let first = and_parts (nat_le stride.start address) ((far % by == 0) && nat_lt (far / by) (2 ^ stride.count)) may in
      let behind : stride.start ≤ address = let t = first.0 in grind (arith, nat_tests, t) in
      let even : far % by ≡ 0 = let t = (and_parts (far % by == 0) (nat_lt (far / by) (2 ^ stride.count)) first.1).0 in grind (arith, nat_tests, t) in
      let parts : far / by * by + far % by ≡ far = div-add-mod' far by in
      omega (arith, behind, even, parts)

  led_by : (t : Bool) → (n == far / by) ≡ t → may_come stride address ≡ true → (address == stride.start + n * by) ≡ t
  led_by true is may =
      let same : n ≡ far / by = grind (arith, nat_tests, is) in
      let there : address ≡ stride.start + n * by = there_by may ∙ ap (λ k. stride.start + k * by) (sym same) in
      grind (arith, nat_tests, there)
  led_by false is may =
      let other : n ≢ far / by = grind (arith, nat_tests, is) in
      let apart : address ≢ stride.start + n * by = λ there. other (sym (led_steps there)) in
      grind (arith, nat_tests, apart)

  pub led : may_come stride address ≡ true → (address == stride.start + n * by) ≡ (n == steps_to stride address)
  led may = led_by (n == far / by) refl may

-- ---- The bits of a way.
come_small : (g : Graph) (way : Way) (input : List ℕ) → number_of g way.term input / 2 ^ way.first % 2 ^ way.count < 2 ^ way.count
come_small g way input = mod-lt (number_of g way.term input / 2 ^ way.first) (pow_pos way.count)

-- how often it leads on to come there, if it may
steps_of : (stride : Stride) (address : ℕ) → Option ℕ
steps_of stride address = if may_come stride address then Some (steps_to stride address) else None

never_by : (stride : Stride) (address : ℕ) (t : Bool) → may_come stride address ≡ t
    → None ≡ (if t then Some (steps_to stride address) else None) → may_come stride address ≡ false
never_by stride address true is none = cc none
never_by stride address false is none = is

pub never : (stride : Stride) (address : ℕ)
    → None ≡ (if may_come stride address then Some (steps_to stride address) else None)
    → may_come stride address ≡ false
never stride address none = never_by stride address (may_come stride address) refl none

may_by : (stride : Stride) (address steps : ℕ) (t : Bool) → may_come stride address ≡ t
    → Some steps ≡ (if t then Some (steps_to stride address) else None)
    → (may_come stride address ≡ true) × (steps ≡ steps_to stride address)
may_by stride address steps true is some = (is, cc some)
may_by stride address steps false is some = cc some

pub may : (stride : Stride) (address steps : ℕ)
    → Some steps ≡ (if may_come stride address then Some (steps_to stride address) else None)
    → (may_come stride address ≡ true) × (steps ≡ steps_to stride address)
may stride address steps some = may_by stride address steps (may_come stride address) refl some

pub steps_small : (stride : Stride) (address : ℕ) → may_come stride address ≡ true
    → steps_to stride address < 2 ^ stride.count
steps_small stride address is =
    let rest = (and_parts (nat_le stride.start address) (((address - stride.start) % 2 ^ stride.scale == 0) && nat_lt ((address - stride.start) / 2 ^ stride.scale) (2 ^ stride.count)) is).1 in
    let below = (and_parts ((address - stride.start) % 2 ^ stride.scale == 0) (nat_lt ((address - stride.start) / 2 ^ stride.scale) (2 ^ stride.count)) rest).1 in
    grind (arith, nat_tests, below)

-- ---- The test.
-- it never comes there
pub gives_never : (g : Graph) (way : Way) (address : ℕ) → may_come (stride_of (as_way g way)) address ≡ false
    → GivesBit g g (Known false) (λ input. address == come_to g way input)
gives_never g way address other = record {
  continues = Continues-refl g;
  is_bit = tt;
  worth = λ input bytes.
      sym (not_led (stride_of (as_way g way)) address (number_of g way.term input / 2 ^ way.first % 2 ^ way.count) (come_small g way input) other);
}

pub never_expressed : (g : Graph) (way : Way) (address : ℕ) → may_come (stride_of (as_way g way)) address ≡ false
    → Number 0 ≡ comes_to (as_way g way) address
never_expressed g way address other = rw other refl

one_by : (t : Bool) → ((bit t).number == 1) ≡ t
one_by true = refl
one_by false = refl

pub equal-one : (s t : BitVector) → ((equal s t).number == 1) ≡ (s.number == t.number)
unfolding equal
equal-one s t = one_by (s.number == t.number)

module _ (g h k : Graph) (way : Way) (bits number test address steps : ℕ) (are : AreWayBits g way bits)
    (is_may : may_come (stride_of (as_way g way)) address ≡ true) (many : steps ≡ steps_to (stride_of (as_way g way)) address)
    (made : BuildsNode g h (Num way.count steps) number) (built : BuildsNode h k (Compare Eq bits number) test) where
  pub test_expressed : settled (tree_of k test) ≡ comes_to (as_way g way) address
  test_expressed =
      ap settled (built.tree ∙ cc (tree-kept g h bits way.count made.continues are.width are.some ∙ are.tree, made.tree)
      ∙ ap (λ n. comparison_of Eq (way_bits (as_way g way)) (Constant way.count n)) many)
      ∙ rw is_may refl

  pub gives_test : (bit : Bit) → IsBit k bit → ((input : List ℕ) → bit_worth k input bit ≡ bit_worth k input (Term test))
      → GivesBit g k bit (λ input. address == come_to g way input)
  gives_test bit is worth = record {
    continues = Continues-trans made.continues built.continues;
    is_bit = is;
    worth = λ input bytes.
        let n = number_of g way.term input / 2 ^ way.first % 2 ^ way.count in
        worth input
        ∙ ap (λ (x : BitVector). x.number == 1) (built.value input bytes)
        ∙ equal-one (val h bits input) (val h number input)
        ∙ cc (
          number-grown g h bits way.count input made.continues are.width are.some ∙ are.worth input bytes,
          ap (λ (x : BitVector). x.number) (made.value input bytes) ∙ many,
        )
        ∙ sym (led (stride_of (as_way g way)) address n (come_small g way input) is_may);
  }
