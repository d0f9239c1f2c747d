-- The value of a term lies between the ends that its top nodes tell.
use Rattle.std.proofs.Common.{◌≡◌, ◌∙◌, ℕ, ◌+◌, ◌-◌, ◌*◌, ◌/◌, ◌%◌, ◌^◌, ◌<◌, ◌≤◌, Bool, true, false, bit_and, bit_or, List, [], length, Some, None, refl, ap, sym, arith, inl, inr}
use Rattle.std.specs.Prelude.{◌==◌, nat_lt}
use Rattle.std.specs.List.{All}
use Rattle.std.proofs.Math.Nat.{div-add-mod, div-div-eq-div-mul, div-le_self, div-mul-le_self, mod-eq_of_lt, mul_comm, mul-le-mul_left, mul-le-mul_right}
use Rattle.std.proofs.lemmas.Bool.Decides.{eqb_tells}
use Rattle.std.proofs.lemmas.Nat.{and_le_l, and_le_r, le-div, le_or_l, le_or_r, mod_below, mul-add-lt, pow-add, pow_pos}
use Rattle.bv_dag.specs.BitVectors.{BitVector, IsBitVector, bvadd, bvand, bvashr, bvlshr, bvmul, bvnot, bvor, bvshl, bvsub, bvudiv, bvurem, bvxor, concat, extract, ite, sign_extend, zero_extend}
use Rattle.bv_dag.specs.Graphs.{Graph, IsDag, val}
use Rattle.bv_dag.specs.Nodes.{binary, extend}
use Rattle.bv_dag.specs.declared.nodes.BinaryOp.{BinaryOp}
use Rattle.bv_dag.specs.declared.nodes.BinaryOp.TheVariants.{Add, Sub, Mul, Udiv, Urem, And, Or, Xor, Shl, Lshr, Ashr}
use Rattle.term_trees.specs.Trees.{Tree, Constant, Complement, Two, Choice, Part, Widened, Joined, tree_of, tree_width, tree_value, IsTerm, IsOfWidth}
use Rattle.term_trees.proofs.Ranges.{in_range}
use Rattle.term_trees.proofs.Terms.{is_term}
use Rattle.term_trees.proofs.TreeLaws.{value-tree_of}
use Rattle.term_simplify.specs.Ends.{AreEnds, any, complement_ends, difference_ends, either_ends, ends_of, from, joined_ends, larger, only, part_ends, part_told, quotient_ends, remainder_ends, smaller, sum_ends, two_ends, up_to, widened_ends}
use Rattle.term_simplify.specs.declared.ends.Ends.{Ends}
use Rattle.term_simplify.proofs.EqualityNumbers.{mod_once}
use Rattle.term_simplify.proofs.IntervalNumbers.{widened_below}
use Rattle.term_simplify.proofs.Words.{by_parts, is_apart, le_tells, lt_tells, tests_not_below, tests_unequal}

-- a value between two ends
pub record LiesIn (w : ℕ) (a : Ends) (v : BitVector) : Type 0 where
  pub ends : AreEnds w a
  pub least : a.least.number ≤ v.number
  pub greatest : v.number ≤ a.greatest.number
  pub few : a.greatest.number < 2 ^ w

lies_only : (w : ℕ) (x : BitVector) → IsOfWidth w x → LiesIn w (only x) x
lies_only w x p = record { ends = record { least = p.width; greatest = p.width }; least = omega arith; greatest = omega arith; few = p.in_range }

lies_up_to : (w : ℕ) (x v : BitVector) → x.width ≡ w → x.number < 2 ^ w → v.number ≤ x.number → LiesIn w (up_to x) v
lies_up_to w x v e few h = record { ends = record { least = e; greatest = e }; least = omega arith; greatest = h; few = few }

lies_from : (w : ℕ) (x v : BitVector) → x.width ≡ w → x.number ≤ v.number → v.number < 2 ^ w → LiesIn w (from x) v
lies_from w x v e h below =
    let power : 2 ^ x.width ≡ 2 ^ w = ap (λ k. 2 ^ k) e in
    record { ends = record { least = e; greatest = e }; least = h; greatest = omega (arith, below, power); few = omega (arith, below, power) }

lies_any : (w m : ℕ) (v : BitVector) → m ≡ w → IsOfWidth w v → LiesIn w (any m) v
lies_any w m v e p = lies_from w (record { width = m; number = 0 }) v e (omega arith) p.in_range

-- the smaller is either of two, and the larger too
least_of : (w : ℕ) (x y : BitVector) → x.width ≡ w → y.width ≡ w →
    ((smaller x y).width ≡ w) × ((smaller x y).number ≤ x.number) × ((smaller x y).number ≤ y.number)
least_of w x y e f =
    elim (le_tells x.number y.number) [
      | inl h ↦ rw h.0 (e, omega arith, h.1)
      | inr h ↦ rw h.0 (f, omega (arith, h.1), omega arith)
    ]

most_of : (w : ℕ) (x y : BitVector) → x.width ≡ w → y.width ≡ w →
    ((larger x y).width ≡ w) × (x.number ≤ (larger x y).number) × (y.number ≤ (larger x y).number)
most_of w x y e f =
    elim (le_tells x.number y.number) [
      | inl h ↦ rw h.0 (f, h.1, omega arith)
      | inr h ↦ rw h.0 (e, omega arith, omega (arith, h.1))
    ]

under_both : (n : ℕ) (x y : BitVector) → n ≤ x.number → n ≤ y.number → n ≤ (smaller x y).number
under_both n x y e f = elim (le_tells x.number y.number) [ inl h ↦ rw h.0 e | inr h ↦ rw h.0 f ]

over_both : (n : ℕ) (x y : BitVector) → x.number ≤ n → y.number ≤ n → (larger x y).number ≤ n
over_both n x y e f = elim (le_tells x.number y.number) [ inl h ↦ rw h.0 f | inr h ↦ rw h.0 e ]

below_both : (n : ℕ) (x y : BitVector) → x.number < n → y.number < n → (larger x y).number < n
below_both n x y e f = elim (le_tells x.number y.number) [ inl h ↦ rw h.0 f | inr h ↦ rw h.0 e ]

-- ---- of an operation
quotient_in_turn : (m n d e : ℕ) → m ≤ n → 0 < d → d ≤ e → m / e ≤ n / d
quotient_in_turn m n d e h some k =
    le-div (m / e) n d some (omega (arith, div-mul-le_self m e, mul-le-mul_left (m / e) k, h))

quotient_is : (x y : BitVector) → 0 < y.number → (bvudiv x y).number ≡ x.number / y.number
unfolding bvudiv
quotient_is x y some = rw (tests_unequal y.number 0 (λ z. omega (arith, z, some))) refl

quotient_wide : (x y : BitVector) → (bvudiv x y).width ≡ x.width
unfolding bvudiv
quotient_wide x y = refl

sum_is : (w m a b : ℕ) → m ≡ w → a + b < 2 ^ w → (a + b) % 2 ^ m ≡ a + b
sum_is w m a b e h = rw e (mod-eq_of_lt h)

difference_is : (w m n a b : ℕ) → m ≡ w → n ≡ w → a < 2 ^ w → b ≤ a → (a + (2 ^ m - b)) % 2 ^ n ≡ a - b
difference_is w m n a b e f h k =
    rw (e, f) (elim (mod_once (a + (2 ^ w - b)) (2 ^ w) (omega (arith, h, k))) [
      | inl s ↦ absurd (omega (arith, s, k, h))
      | inr s ↦ omega (arith, s, k, h)
    ])

module _ (w : ℕ) (a b : Ends) (v u : BitVector) (p : IsOfWidth w v) (q : IsOfWidth w u) (h : LiesIn w a v) (k : LiesIn w b u) where
  lies_sum : IsOfWidth w (bvadd v u) → LiesIn w (sum_ends a b) (bvadd v u)
  unfolding bvadd bvnot
  lies_sum made =
      let power : 2 ^ a.greatest.width ≡ 2 ^ w = ap (λ k. 2 ^ k) h.ends.greatest in
      elim (le_tells b.greatest.number (2 ^ a.greatest.width - 1 - a.greatest.number)) [
        | inl e ↦
            let fits : a.greatest.number + b.greatest.number < 2 ^ w = omega (arith, e.1, power, h.few) in
            let value = sum_is w v.width v.number u.number p.width (omega (arith, fits, h.greatest, k.greatest)) in
            let least = sum_is w a.least.width a.least.number b.least.number h.ends.least (omega (arith, fits, h.greatest, k.greatest, h.least, k.least)) in
            let greatest = sum_is w a.greatest.width a.greatest.number b.greatest.number h.ends.greatest fits in
            rw e.0 (record {
              ends = record { least = h.ends.least; greatest = h.ends.greatest };
              least = omega (arith, value, least, h.least, k.least);
              greatest = omega (arith, value, greatest, h.greatest, k.greatest);
              few = omega (arith, greatest, fits);
            })
        | inr e ↦ rw e.0 (lies_any w a.least.width (bvadd v u) h.ends.least made)
      ]

  lies_difference : IsOfWidth w (bvsub v u) → LiesIn w (difference_ends a b) (bvsub v u)
  unfolding bvsub
  lies_difference made =
      elim (le_tells b.greatest.number a.least.number) [
        | inl e ↦
            let value = difference_is w u.width v.width v.number u.number q.width p.width p.in_range (omega (arith, e.1, h.least, k.greatest)) in
            let least = difference_is w b.greatest.width a.least.width a.least.number b.greatest.number k.ends.greatest h.ends.least (omega (arith, h.least, p.in_range)) e.1 in
            let greatest = difference_is w b.least.width a.greatest.width a.greatest.number b.least.number k.ends.least h.ends.greatest h.few
            (omega (arith, e.1, h.least, h.greatest, k.least, k.greatest)) in
            rw e.0 (record {
              ends = record { least = h.ends.least; greatest = h.ends.greatest };
              least = omega (arith, value, least, h.least, k.greatest, e.1);
              greatest = omega (arith, value, greatest, h.greatest, k.least, e.1);
              few = omega (arith, greatest, h.few);
            })
        | inr e ↦ rw e.0 (lies_any w a.least.width (bvsub v u) h.ends.least made)
      ]

  lies_quotient : IsOfWidth w (bvudiv v u) → LiesIn w (quotient_ends a b) (bvudiv v u)
  lies_quotient made =
      elim (eqb_tells b.least.number 0) [
        | inl e ↦ rw e.0 (lies_any w a.least.width (bvudiv v u) h.ends.least made)
        | inr e ↦
            let some : 0 < b.least.number = omega (arith, e.1) in
            let value = quotient_is v u (omega (arith, some, k.least)) in
            let least = quotient_is a.least b.greatest (omega (arith, some, k.least, k.greatest)) in
            let greatest = quotient_is a.greatest b.least some in
            rw e.0 (record {
              ends = record { least = quotient_wide a.least b.greatest ∙ h.ends.least; greatest = quotient_wide a.greatest b.least ∙ h.ends.greatest };
              least = omega (arith, value, least, quotient_in_turn a.least.number v.number u.number b.greatest.number h.least (omega (arith, some, k.least)) k.greatest);
              greatest = omega (arith, value, greatest, quotient_in_turn v.number a.greatest.number b.least.number u.number h.greatest some k.least);
              few = omega (arith, greatest, div-le_self a.greatest.number b.least.number, h.few);
            })
      ]

  lies_remainder : LiesIn w (remainder_ends a b) (bvurem v u)
  unfolding bvurem
  lies_remainder =
      let whole : (bvurem v u).number ≤ v.number =
      elim (eqb_tells u.number 0) [ inl z ↦ rw z.0 (omega arith) | inr z ↦ rw z.0 (omega (arith, div-add-mod v.number u.number)) ] in
      elim (eqb_tells b.least.number 0) [
        | inl e ↦ rw e.0 (lies_up_to w a.greatest (bvurem v u) h.ends.greatest h.few (omega (arith, whole, h.greatest)))
        | inr e ↦ rw e.0 (elim (lt_tells a.greatest.number b.greatest.number) [
          | inl f ↦ rw f.0 (lies_up_to w a.greatest (bvurem v u) h.ends.greatest h.few (omega (arith, whole, h.greatest)))
          | inr f ↦
              let some : 0 < u.number = omega (arith, e.1, k.least) in
              let below : (bvurem v u).number < u.number = rw (tests_unequal u.number 0 (λ z. omega (arith, z, some))) (mod_below v.number u.number some) in
              rw f.0 (lies_up_to w (record { width = b.greatest.width; number = b.greatest.number - 1 }) (bvurem v u) k.ends.greatest
              (omega (arith, k.few)) (omega (arith, below, k.greatest)))
        ])
      ]

  lies_and : LiesIn w (up_to (smaller a.greatest b.greatest)) (bvand v u)
  unfolding bvand
  lies_and =
      let least = least_of w a.greatest b.greatest h.ends.greatest k.ends.greatest in
      lies_up_to w (smaller a.greatest b.greatest) (bvand v u) least.0 (omega (arith, least.1, h.few)) (under_both (bit_and v.number u.number) a.greatest b.greatest
      (omega (arith, and_le_l v.number u.number, h.greatest)) (omega (arith, and_le_r v.number u.number, k.greatest)))

  lies_or : IsOfWidth w (bvor v u) → LiesIn w (from (larger a.least b.least)) (bvor v u)
  unfolding bvor
  lies_or made =
      let most = most_of w a.least b.least h.ends.least k.ends.least in
      lies_from w (larger a.least b.least) (bvor v u) most.0 (over_both (bit_or v.number u.number) a.least b.least
      (omega (arith, le_or_l v.number u.number, h.least)) (omega (arith, le_or_r v.number u.number, k.least))) made.in_range

  lies_lshr : LiesIn w (up_to a.greatest) (bvlshr v u)
  unfolding bvlshr
  lies_lshr =
      lies_up_to w a.greatest (bvlshr v u) h.ends.greatest h.few (elim (lt_tells u.number v.width) [
        | inl e ↦ rw e.0 (omega (arith, div-le_self v.number (2 ^ u.number), h.greatest))
        | inr e ↦ rw e.0 (omega arith)
      ])

  pub lies_two : (op : BinaryOp) → IsOfWidth w (binary op v u) → LiesIn w (two_ends op a b) (binary op v u)
  lies_two Add made = lies_sum made
  lies_two Sub made = lies_difference made
  lies_two Udiv made = lies_quotient made
  lies_two Urem made = lies_remainder
  lies_two And made = lies_and
  lies_two Or made = lies_or made
  lies_two Lshr made = lies_lshr
  lies_two Mul made = lies_any w a.least.width (bvmul v u) h.ends.least made
  lies_two Xor made = lies_any w a.least.width (bvxor v u) h.ends.least made
  lies_two Shl made = lies_any w a.least.width (bvshl v u) h.ends.least made
  lies_two Ashr made = lies_any w a.least.width (bvashr v u) h.ends.least made

  lies_either : (c : BitVector) → LiesIn w (either_ends a b) (ite c v u)
  unfolding ite
  lies_either c =
      let least = least_of w a.least b.least h.ends.least k.ends.least in
      let most = most_of w a.greatest b.greatest h.ends.greatest k.ends.greatest in
      let few = below_both (2 ^ w) a.greatest b.greatest h.few k.few in
      elim (eqb_tells c.number 1) [
        | inl e ↦ record {
          ends = record { least = least.0; greatest = most.0 };
          least = rw e.0 (omega (arith, least.1, h.least));
          greatest = rw e.0 (omega (arith, most.1, h.greatest));
          few = few;
        }
        | inr e ↦ record {
          ends = record { least = least.0; greatest = most.0 };
          least = rw e.0 (omega (arith, least.2, k.least));
          greatest = rw e.0 (omega (arith, most.2, k.greatest));
          few = few;
        }
      ]

-- ---- of bits
pub some_word : (x y : BitVector) → Some y ≡ Some x → x ≡ y
some_word x y e = cc

rest_in_turn : (m x y : ℕ) → x ≤ y → x / m ≡ y / m → x % m ≤ y % m
rest_in_turn m x y h e = omega (arith, div-add-mod x m, div-add-mod y m, ap (λ q. m * q) e, h)

-- what stands above the bits
above_bits : (x high low : ℕ) → low ≤ high → x / 2 ^ low / 2 ^ (high - low + 1) ≡ x / 2 ^ high / 2
above_bits x high low order =
    let power : 2 ^ low * 2 ^ (high - low + 1) ≡ 2 ^ high * 2 ^ 1 =
    sym (pow-add 2 low (high - low + 1)) ∙ ap (λ k. 2 ^ k) (omega (arith, order)) ∙ pow-add 2 high 1 in
    div-div-eq-div-mul x (2 ^ low) (2 ^ (high - low + 1)) ∙ ap (λ d. x / d) power ∙ sym (div-div-eq-div-mul x (2 ^ high) 2)

module _ (w : ℕ) (a : Ends) (v : BitVector) (p : IsOfWidth w v) (h : LiesIn w a v) where
  lies_part : (high low : ℕ) → low ≤ high → IsOfWidth (high - low + 1) (extract high low v) → LiesIn (high - low + 1) (part_ends high low a) (extract high low v)
  unfolding extract
  lies_part high low order made =
      let under = λ (m n : ℕ) (e : m ≤ n). quotient_in_turn m n (2 ^ low) (2 ^ low) e (pow_pos low) (omega arith) in
      let upper = λ (m n : ℕ) (e : m ≤ n). quotient_in_turn (m / 2 ^ high) (n / 2 ^ high) 2 2
      (quotient_in_turn m n (2 ^ high) (2 ^ high) e (pow_pos high) (omega arith)) (omega arith) (omega arith) in
      elim (eqb_tells (a.least.number / 2 ^ high / 2) (a.greatest.number / 2 ^ high / 2)) [
        | inl e ↦
            let first : a.least.number / 2 ^ high / 2 ≡ v.number / 2 ^ high / 2 =
            omega (arith, e.1, upper a.least.number v.number h.least, upper v.number a.greatest.number h.greatest) in
            let second : v.number / 2 ^ high / 2 ≡ a.greatest.number / 2 ^ high / 2 = sym first ∙ e.1 in
            rw e.0 (record {
              ends = record { least = refl; greatest = refl };
              least = rest_in_turn (2 ^ (high - low + 1)) (a.least.number / 2 ^ low) (v.number / 2 ^ low) (under a.least.number v.number h.least)
                  (above_bits a.least.number high low order ∙ first ∙ sym (above_bits v.number high low order));
              greatest = rest_in_turn (2 ^ (high - low + 1)) (v.number / 2 ^ low) (a.greatest.number / 2 ^ low) (under v.number a.greatest.number h.greatest)
                  (above_bits v.number high low order ∙ second ∙ sym (above_bits a.greatest.number high low order));
              few = mod_below (a.greatest.number / 2 ^ low) (2 ^ (high - low + 1)) (pow_pos (high - low + 1));
            })
        | inr e ↦ rw e.0 (lies_any (high - low + 1) (high - low + 1) (extract high low v) refl made)
      ]

  lies_complement : LiesIn w (complement_ends a) (bvnot v)
  unfolding bvnot
  lies_complement =
      let value : 2 ^ v.width ≡ 2 ^ w = ap (λ k. 2 ^ k) p.width in
      let least : 2 ^ a.least.width ≡ 2 ^ w = ap (λ k. 2 ^ k) h.ends.least in
      let greatest : 2 ^ a.greatest.width ≡ 2 ^ w = ap (λ k. 2 ^ k) h.ends.greatest in
      record {
        ends = record { least = h.ends.greatest; greatest = h.ends.least };
        least = omega (arith, value, greatest, h.greatest);
        greatest = omega (arith, value, least, h.least);
        few = omega (arith, least, pow_pos w);
      }

-- ---- of a term that is widened
is_less : (a b : ℕ) → nat_lt a b ≡ false → b ≤ a
is_less a b e = elim (lt_tells a b) [ inl h ↦ let both : false ≡ true = sym e ∙ h.0 in cc | inr h ↦ h.1 ]

extended_in_turn : (w by : ℕ) (signed : Bool) (x y : BitVector) → x.width ≡ w → y.width ≡ w → y.number < 2 ^ w → x.number ≤ y.number →
    (extend signed by x).number ≤ (extend signed by y).number
extended_in_turn w by signed x y e f few h =
    let own = ap (λ (v : BitVector). (extend signed by v).number) (by_parts w x.number x e refl) in
    let other = ap (λ (v : BitVector). (extend signed by v).number) (by_parts w y.number y f refl) in
    let turn = is_less _ _ (sym (widened_below w by y.number x.number few (omega (arith, few, h)) signed) ∙ tests_not_below y.number x.number h) in
    omega (arith, own, other, turn)

pub extended_wide : (by : ℕ) (signed : Bool) (x : BitVector) (w : ℕ) → x.width ≡ w → (extend signed by x).width ≡ w + by
unfolding sign_extend zero_extend
extended_wide by false x w e = ap (λ k. k + by) e
extended_wide by true x w e = ap (λ k. k + by) e

-- a number of so many bits, and what is made of it
no_bytes : All (λ b. b < 256) []
no_bytes = λ k d h. absurd (omega (arith, h))

is_number_of : (w : ℕ) (x : BitVector) → 0 < w → w ≤ 64 → x.width ≡ w → x.number < 2 ^ w → IsBitVector x.width x.number
is_number_of w x some fits e few = rw e (record { not_empty = some; at_most_64 = fits; in_range = few })

pub extended_few : (w by : ℕ) (signed : Bool) (x : BitVector) → 0 < w → 1 ≤ by → w + by ≤ 64 → x.width ≡ w → x.number < 2 ^ w →
    (extend signed by x).number < 2 ^ (w + by)
extended_few w by signed x not_empty some fits e few =
    let number = is_number_of w x not_empty (omega (arith, fits)) e few in
    let made = in_range 0 [] no_bytes (Widened by signed (Constant x.width x.number)) (number, some, omega (arith, fits, e)) in
    omega (arith, made.in_range, ap (λ k. 2 ^ (k + by)) e)

lies_widened : (w by : ℕ) (signed : Bool) (a : Ends) (v : BitVector) → IsOfWidth w v → 1 ≤ by → w + by ≤ 64 → LiesIn w a v →
    LiesIn (w + by) (widened_ends by signed a) (extend signed by v)
lies_widened w by signed a v p some fits h =
    record {
      ends = record { least = extended_wide by signed a.least w h.ends.least; greatest = extended_wide by signed a.greatest w h.ends.greatest };
      least = extended_in_turn w by signed a.least v h.ends.least p.width p.in_range h.least;
      greatest = extended_in_turn w by signed v a.greatest p.width h.ends.greatest h.few h.greatest;
      few = extended_few w by signed a.greatest p.not_empty some fits h.ends.greatest h.few;
    }

-- ---- of two that are joined
lies_joined : (w z : ℕ) (a b : Ends) (v u : BitVector) → IsOfWidth w v → IsOfWidth z u → LiesIn w a v → LiesIn z b u →
    LiesIn (w + z) (joined_ends a b) (concat v u)
unfolding concat
lies_joined w z a b v u p q h k =
    let value : 2 ^ u.width ≡ 2 ^ z = ap (λ k. 2 ^ k) q.width in
    let least : 2 ^ b.least.width ≡ 2 ^ z = ap (λ k. 2 ^ k) k.ends.least in
    let greatest : 2 ^ b.greatest.width ≡ 2 ^ z = ap (λ k. 2 ^ k) k.ends.greatest in
    record {
      ends = record {
        least = ap (λ n. n + b.least.width) h.ends.least ∙ ap (λ n. w + n) k.ends.least;
        greatest = ap (λ n. n + b.greatest.width) h.ends.greatest ∙ ap (λ n. w + n) k.ends.greatest;
      };
      least = rw (value, least) (omega (arith, mul-le-mul_right (2 ^ z) h.least, k.least));
      greatest = rw (value, greatest) (omega (arith, mul-le-mul_right (2 ^ z) h.greatest, k.greatest));
      few = rw (greatest, pow-add 2 w z, mul_comm (2 ^ w) (2 ^ z)) (mul-add-lt a.greatest.number (2 ^ z) b.greatest.number (2 ^ w) h.few k.few);
    }

-- ---- of a term
module _ (inputs : ℕ) (input : List ℕ) (bytes : All (λ b. b < 256) input) where
  pub lies_of : (t : Tree) → IsTerm inputs t → LiesIn (tree_width t) (ends_of t) (tree_value input t)
  unfolding ends_of
  lies_of (Constant w v) term = lies_only w (record { width = w; number = v }) (in_range inputs input bytes (Constant w v) term)
  lies_of (Complement t) term =
      lies_complement (tree_width t) (ends_of t) (tree_value input t) (in_range inputs input bytes t term) (lies_of t term)
  lies_of (Two op s t) term =
      let second : IsOfWidth (tree_width s) (tree_value input t) = rw term.2 (in_range inputs input bytes t term.1) in
      let lies : LiesIn (tree_width s) (ends_of t) (tree_value input t) = rw term.2 (lies_of t term.1) in
      lies_two (tree_width s) (ends_of s) (ends_of t) (tree_value input s) (tree_value input t) (in_range inputs input bytes s term.0) second
      (lies_of s term.0) lies op (in_range inputs input bytes (Two op s t) term)
  lies_of (Choice c s t) term =
      let second : IsOfWidth (tree_width s) (tree_value input t) = rw term.4 (in_range inputs input bytes t term.2) in
      let lies : LiesIn (tree_width s) (ends_of t) (tree_value input t) = rw term.4 (lies_of t term.2) in
      lies_either (tree_width s) (ends_of s) (ends_of t) (tree_value input s) (tree_value input t) (in_range inputs input bytes s term.1) second
      (lies_of s term.1) lies (tree_value input c)
  lies_of (Part high low t) term =
      lies_part (tree_width t) (ends_of t) (tree_value input t) (in_range inputs input bytes t term.0) (lies_of t term.0) high low term.1
      (in_range inputs input bytes (Part high low t) term)
  lies_of (Widened by signed t) term =
      lies_widened (tree_width t) by signed (ends_of t) (tree_value input t) (in_range inputs input bytes t term.0) term.1 term.2 (lies_of t term.0)
  lies_of (Joined s t) term =
      lies_joined (tree_width s) (tree_width t) (ends_of s) (ends_of t) (tree_value input s) (tree_value input t) (in_range inputs input bytes s term.0)
      (in_range inputs input bytes t term.1) (lies_of s term.0) (lies_of t term.1)
  lies_of t term = lies_any (tree_width t) (tree_width t) (tree_value input t) refl (in_range inputs input bytes t term)

-- a term whose least value isn't 0
pub divides : (g : Graph) (id : ℕ) → IsDag g → id < length g.nodes → {n : ℕ} → n ≡ (ends_of (tree_of g id)).least.number → (n == 0) ≡ false →
    (input : List ℕ) → All (λ b. b < 256) input → 0 < (val g id input).number
divides g id dag there is some input bytes =
    let lies = lies_of g.inputs input bytes (tree_of g id) (is_term g id dag there) in
    let value = ap (λ (v : BitVector). v.number) (value-tree_of g id input) in
    let apart = is_apart _ 0 some in
    elim (le_tells 1 (val g id input).number) [
      | inl h ↦ h.1
      | inr h ↦ absurd (apart (omega (arith, is, lies.least, value, h.1)))
    ]

-- bits that each value has
pub part_tells : {w : ℕ} (a : Ends) (v : BitVector) (high low : ℕ) (x : BitVector) → LiesIn w a v → part_told high low a ≡ Some x → x ≡ extract high low v
unfolding extract
part_tells a v high low x h is =
    let up = λ (m n : ℕ) (e : m ≤ n). quotient_in_turn m n (2 ^ low) (2 ^ low) e (pow_pos low) (omega arith) in
    elim (eqb_tells (a.least.number / 2 ^ low) (a.greatest.number / 2 ^ low)) [
      | inl e ↦
          let same : a.least.number / 2 ^ low ≡ v.number / 2 ^ low =
          omega (arith, e.1, up a.least.number v.number h.least, up v.number a.greatest.number h.greatest) in
          let told : Some (extract high low a.least) ≡ Some x = rw e.0 at is in
          some_word x (extract high low a.least) told ∙ ap {B = BitVector} (λ n. record { width = high - low + 1; number = n % 2 ^ (high - low + 1) }) same
      | inr e ↦ let none : None ≡ Some x = rw e.0 at is in cc
    ]

-- ends are as wide as their term
pub wide_ends : (inputs : ℕ) (t : Tree) → IsTerm inputs t → AreEnds (tree_width t) (ends_of t)
wide_ends inputs t term = (lies_of inputs [] no_bytes t term).ends
