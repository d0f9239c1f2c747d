-- What an index is worth, and how it is read from nodes.
use Rattle.std.proofs.Common.{◌≡◌, ℕ, ◌+◌, ◌-◌, ◌*◌, ◌/◌, ◌%◌, ◌^◌, ◌<◌, ◌≤◌, ◌&&◌, Bool, true, false, List, [], length, refl, sym, ap, subst, ◌∙◌, arith}
use Rattle.std.specs.Prelude.{◌==◌, All, IfSome, nat_le, Option, Some, None, if◌then◌else◌}
use Rattle.std.proofs.Math.Nat.{add-mul, mod-eq_of_lt, mul-le-mul_right}
use Rattle.std.proofs.Math.Pow.{pow_mono}
use Rattle.std.proofs.lemmas.Bool.{and_parts}
use Rattle.std.proofs.lemmas.Bool.Decides.{nat_tests}
use Rattle.std.proofs.lemmas.Nat.{pow-add}
use Rattle.std.proofs.lemmas.List.Elements.{All-nil}
use Rattle.bv_dag.specs.BitVectors.{BitVector, bvadd, bvsub, concat, zero_extend}
use Rattle.bv_dag.specs.Graphs.{Graph, IsDag, number_of}
use Rattle.bv_dag.specs.declared.nodes.BinaryOp.{BinaryOp}
use Rattle.bv_dag.specs.declared.nodes.BinaryOp.TheVariants.{Add, Sub}
use Rattle.term_trees.specs.Trees.{Tree, Constant, Two, Widened, Joined, IsTerm, tree_of, tree_value, tree_width}
use Rattle.term_trees.proofs.Terms.{is_term}
use Rattle.term_trees.proofs.TreeLaws.{value-tree_of, width-tree_of}
use Rattle.term_trees.proofs.Ranges.{in_range}
use Rattle.rv_decode.specs.declared.ops.LoadWidth.{LoadWidth}
use Rattle.sym_state.specs.Indexing.{Index, IsIndex, as_index, base_of, index_at, index_by, index_in, index_of, index_over, index_under, is_index}
use Rattle.sym_state.specs.Loading.{way_by}
use Rattle.sym_state.specs.Selecting.{IsWay}
use Rattle.sym_state.specs.declared.indexing.Index as code

-- what an index says of a number
pub record Tells (input : List ℕ) (number : ℕ) (i : Index) : Type 0 where
  pub is : number ≡ i.start + (tree_value input i.term).number * 2 ^ i.scale
  pub below : (tree_value input i.term).number < 2 ^ tree_width i.term
  pub fits : i.start + 2 ^ (i.scale + tree_width i.term) ≤ 2 ^ 32
  pub few : i.scale + tree_width i.term ≤ 10

-- what leaves room for an index leaves it in 32 bits
pub room_of : (scale bits w base : ℕ) → is_index scale bits w base ≡ true → base * 2 ^ scale + 2 ^ (scale + w) ≤ 2 ^ 32
room_of scale bits w base fits =
    let parts = and_parts (nat_le (scale + w) 10) (nat_le (scale + bits) 32 && nat_le (base + 2 ^ w) (2 ^ bits)) fits in
    let more = and_parts (nat_le (scale + bits) 32) (nat_le (base + 2 ^ w) (2 ^ bits)) parts.1 in
    let within : bits + scale ≤ 32 = grind (arith, nat_tests, more.0) in
    let room : base + 2 ^ w ≤ 2 ^ bits = grind (arith, nat_tests, more.1) in
    let all : (base + 2 ^ w) * 2 ^ scale ≡ base * 2 ^ scale + 2 ^ (scale + w) =
    add-mul base (2 ^ w) (2 ^ scale)
    ∙ ap (λ m. base * 2 ^ scale + m) (sym (pow-add 2 w scale) ∙ ap (λ m. 2 ^ m) (let same : w + scale ≡ scale + w = omega arith in same)) in
    let most : 2 ^ bits * 2 ^ scale ≡ 2 ^ (bits + scale) = sym (pow-add 2 bits scale) in
    let high : 2 ^ (bits + scale) ≤ 2 ^ 32 = pow_mono within in
    let up : (base + 2 ^ w) * 2 ^ scale ≤ 2 ^ bits * 2 ^ scale = mul-le-mul_right (2 ^ scale) room in
    omega (arith, all, most, high, up)

-- a number that is a base and a small one
scaled : (input : List ℕ) (scale bits number base : ℕ) (x : Tree) → number ≡ base + (tree_value input x).number
    → (tree_value input x).number < 2 ^ tree_width x → is_index scale bits (tree_width x) base ≡ true
    → Tells input (number * 2 ^ scale) (record { term = x; scale = scale; start = base * 2 ^ scale })
scaled input scale bits number base x is below fits = record {
  is = ap (λ n. n * 2 ^ scale) is ∙ add-mul base (tree_value input x).number (2 ^ scale);
  below = below;
  fits = room_of scale bits (tree_width x) base fits;
  few =
      let parts = and_parts (nat_le (scale + tree_width x) 10) (nat_le (scale + bits) 32 && nat_le (base + 2 ^ tree_width x) (2 ^ bits)) fits in
      grind (arith, nat_tests, parts.0);
}

if_told : (input : List ℕ) (number : ℕ) (r i : Index) (t : Bool) → (t ≡ true → Tells input number r)
    → (if t then Some r else None) ≡ Some i → Tells input number i
if_told input number r i true tells is = subst (λ (o : Option Index). IfSome o (Tells input number)) is (tells refl)
if_told input number r i false tells is = cc is

-- no sum wraps
unwrapped : (scale bits n base : ℕ) (x : Tree) → n < 2 ^ tree_width x → is_index scale bits (tree_width x) base ≡ true
    → (n + base) % 2 ^ bits ≡ base + n
unwrapped scale bits n base x below fits =
    let parts = and_parts (nat_le (scale + tree_width x) 10) (nat_le (scale + bits) 32 && nat_le (base + 2 ^ tree_width x) (2 ^ bits)) fits in
    let more = and_parts (nat_le (scale + bits) 32) (nat_le (base + 2 ^ tree_width x) (2 ^ bits)) parts.1 in
    let room : base + 2 ^ tree_width x ≤ 2 ^ bits = grind (arith, nat_tests, more.1) in
    mod-eq_of_lt (omega (arith, room, below)) ∙ omega arith

told_at : (input : List ℕ) (scale bits number : ℕ) (x : Tree) (base : Option ℕ) (i : Index)
    → (tree_value input x).number < 2 ^ tree_width x
    → IfSome base (λ b. number ≡ ((tree_value input x).number + b) % 2 ^ bits)
    → index_at scale bits x base ≡ Some i → Tells input (number * 2 ^ scale) i
told_at input scale bits number x None i below is there = cc there
told_at input scale bits number x (Some base) i below is there =
    if_told input (number * 2 ^ scale) (record { term = x; scale = scale; start = base * 2 ^ scale }) i
    (is_index scale bits (tree_width x) base)
    (λ fits. scaled input scale bits number base x (is ∙ unwrapped scale bits (tree_value input x).number base x below fits) below fits) there

-- a sum with a number
sums : (inputs : ℕ) (input : List ℕ) → All (λ b. b < 256) input → (op : BinaryOp) (by bits n : ℕ) (x : Tree)
    → IsTerm inputs (Two op (Widened by false x) (Constant bits n))
    → IfSome (base_of op bits n) (λ base. (tree_value input (Two op (Widened by false x) (Constant bits n))).number
    ≡ ((tree_value input x).number + base) % 2 ^ bits)
unfolding bvadd bvsub zero_extend
sums inputs input bytes Add by bits n x term =
    let width = (in_range inputs input bytes x term.0.0).width in
    ap (λ k. ((tree_value input x).number + n) % 2 ^ k) (ap (λ k. k + by) width ∙ term.2)
sums inputs input bytes Sub by bits n x term =
    let width = (in_range inputs input bytes x term.0.0).width in
    ap (λ k. ((tree_value input x).number + (2 ^ bits - n)) % 2 ^ k) (ap (λ k. k + by) width ∙ term.2)
sums inputs input bytes op by bits n x term = tt

told_by : (inputs : ℕ) (input : List ℕ) → All (λ b. b < 256) input → (scale : ℕ) (op : BinaryOp) (s t : Tree) (i : Index)
    → IsTerm inputs (Two op s t) → index_by scale op s t ≡ Some i → Tells input ((tree_value input (Two op s t)).number * 2 ^ scale) i
told_by inputs input bytes scale op (Widened by false x) (Constant bits n) i term there =
    told_at input scale bits (tree_value input (Two op (Widened by false x) (Constant bits n))).number x (base_of op bits n) i
    (in_range inputs input bytes x term.0.0).in_range (sums inputs input bytes op by bits n x term) there
told_by inputs input bytes scale op s t i term there = cc there

told_in : (inputs : ℕ) (input : List ℕ) → All (λ b. b < 256) input → (scale : ℕ) (t : Tree) (i : Index)
    → IsTerm inputs t → index_in scale t ≡ Some i → Tells input ((tree_value input t).number * 2 ^ scale) i
told_in inputs input bytes scale (Two op s t) i term there = told_by inputs input bytes scale op s t i term there
told_in inputs input bytes scale t i term there = cc there

-- above zeros
over_zeros : (inputs : ℕ) (input : List ℕ) → All (λ b. b < 256) input → (s : Tree) (bits n : ℕ) (i : Index) (zero : Bool) → (n == 0) ≡ zero
    → IsTerm inputs s → (if zero then index_in bits s else None) ≡ Some i
    → Tells input (tree_value input (Joined s (Constant bits n))).number i
unfolding concat
over_zeros inputs input bytes s bits n i true is term there =
    let none : n ≡ 0 = grind (arith, nat_tests, is) in
    subst (λ m. Tells input m i) (let k = (tree_value input s).number * 2 ^ bits in omega (arith, none)) (told_in inputs input bytes bits s i term there)
over_zeros inputs input bytes s bits n i false is term there = cc there

told_over : (inputs : ℕ) (input : List ℕ) → All (λ b. b < 256) input → (s t : Tree) (i : Index)
    → IsTerm inputs (Joined s t) → index_over s t ≡ Some i → Tells input (tree_value input (Joined s t)).number i
told_over inputs input bytes s (Constant bits n) i term there = over_zeros inputs input bytes s bits n i (n == 0) refl term.0 there
told_over inputs input bytes s t i term there = cc there

not_scaled : (input : List ℕ) (n : ℕ) (i : Index) → Tells input (n * 2 ^ 0) i → Tells input n i
not_scaled input n i tells = subst (λ m. Tells input m i) (let same : n * 2 ^ 0 ≡ n = omega arith in same) tells

told_under : (inputs : ℕ) (input : List ℕ) → All (λ b. b < 256) input → (t : Tree) (i : Index)
    → IsTerm inputs t → index_under t ≡ Some i → Tells input (tree_value input t).number i
told_under inputs input bytes (Joined s t) i term there = told_over inputs input bytes s t i term there
told_under inputs input bytes t i term there =
    not_scaled input (tree_value input t).number i (told_in inputs input bytes 0 t i term there)

-- an address that is by an index
pub told : (inputs : ℕ) (input : List ℕ) → All (λ b. b < 256) input → (t : Tree) (i : Index)
    → IsTerm inputs t → index_of t ≡ Some i → Tells input (tree_value input t).number i
unfolding zero_extend
told inputs input bytes (Widened by false t) i term there = told_under inputs input bytes t i term.0 there
told inputs input bytes t i term there = told_under inputs input bytes t i term there

-- ---- The way by an index.
pub way_by_index : (g : Graph) (width : LoadWidth) (page term : ℕ) (i : code.Index) → IsDag g → term < length g.nodes
    → Some (as_index g i) ≡ index_of (tree_of g term) → IsIndex g i
    → IsWay g width page term (record { term = i.term; first = 0; count = i.count; scale = i.scale; start = i.start })
way_by_index g width page term i dag there is index =
    let count : i.count ≡ tree_width (tree_of g i.term) = index.count ∙ sym (width-tree_of g i.term) in
    let told_on : (input : List ℕ) → All (λ b. b < 256) input → Tells input (tree_value input (tree_of g term)).number (as_index g i) =
    λ input bytes. told g.inputs input bytes (tree_of g term) (as_index g i) (is_term g term dag there) (sym is) in
    let any = told_on [] (All-nil (λ b. b < 256)) in
    let few = any.few in
    record {
      is = ap (λ k. record { term = tree_of g i.term; first = 0; count = k; scale = i.scale; start = i.start }) count
          ∙ ap (λ o. way_by o width page (tree_of g term)) is;
      some = index.some;
      within = let same = index.count in omega (arith, same);
      few = omega (arith, few, count);
      short = omega (arith, few, count);
      room = subst (λ k. i.start + 2 ^ (i.scale + k) ≤ 2 ^ 32) (sym count) any.fits;
      leads = λ input bytes here.
          let tells = told_on input bytes in
          let same : (tree_value input (tree_of g i.term)).number ≡ number_of g i.term input = ap (λ (x : BitVector). x.number) (value-tree_of g i.term input) in
          let below : number_of g i.term input < 2 ^ i.count =
          subst (λ k. number_of g i.term input < 2 ^ k) (sym count) (subst (λ n. n < 2 ^ tree_width (tree_of g i.term)) same tells.below) in
          let whole : number_of g i.term input / 2 ^ 0 ≡ number_of g i.term input = omega arith in
          let kept : number_of g i.term input / 2 ^ 0 % 2 ^ i.count ≡ number_of g i.term input = ap (λ n. n % 2 ^ i.count) whole ∙ mod-eq_of_lt below in
          ap (λ n. i.start + n * 2 ^ i.scale) (kept ∙ sym same) ∙ sym tells.is
          ∙ ap (λ (x : BitVector). x.number) (value-tree_of g term input);
    }
