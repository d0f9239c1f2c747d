-- What tells a test, as the code finds it: the sign of a term below 0, or the term that is a number where another is one.
use Rattle.std.proofs.Common.{Bool, ◌≡◌, ◌==◌, ◌∙◌, ◌⊎◌, ℕ, ◌+◌, ◌-◌, ◌/◌, ◌%◌, ◌^◌, ◌<◌, ◌≤◌, true, false, List, [], Some, None, length, ap, sym, subst, refl, arith, inl, inr}
use Rattle.std.specs.Prelude.{Option, Result, Ok, Err, IfSome}
use Rattle.std.specs.Result.{IfOk}
use Rattle.std.specs.List.{All, slice_get}
use Rattle.std.proofs.lemmas.Nat.{le-div, pow_pos, shr_below}
use Rattle.bv_dag.specs.BitVectors.{BitVector, bit, bvslt, bvult, equal, extract, is_negative}
use Rattle.bv_dag.specs.Graphs.{Graph, IsDag, val, width_of}
use Rattle.bv_dag.specs.Nodes.{Fits, extend, widths_of}
use Rattle.bv_dag.specs.declared.nodes.BinaryOp.{BinaryOp}
use Rattle.bv_dag.specs.declared.nodes.Comparison.{Comparison}
use Rattle.bv_dag.specs.declared.nodes.Comparison.TheVariants.{Ult, Slt, Eq}
use Rattle.bv_dag.specs.declared.nodes.Node.{Node}
use Rattle.bv_dag.specs.declared.nodes.Node.TheVariants.{Num, Input, Not, Neg, Binary, Compare, Ite, Extract, Extend, Concat}
use Rattle.term_trees.specs.Trees.{Joined, Widened, Tree, Constant, IsOfWidth, IsTerm, node_tree, tree_of, tree_width}
use Rattle.term_trees.proofs.Ranges.{in_range}
use Rattle.term_trees.proofs.Terms.{is_term}
use Rattle.term_trees.proofs.TreeLaws.{tree_by_cases, value-tree_of, width-tree_of}
use Rattle.term_simplify.specs.Builds.{Builds, BuildsAs}
use Rattle.term_simplify.specs.Equalities.{Peeled, bits_above, is_widened, low_bits, peeled, undone}
use Rattle.term_simplify.specs.Intervals.{IsBetween, between_at, interval_of, interval_word}
use Rattle.term_simplify.specs.Moves.{unmoved}
use Rattle.term_simplify.specs.Plain.{number_tree, tree_number}
use Rattle.term_simplify.specs.Simplified.{compared, comparison_of, equal_to, told_by}
use Rattle.term_simplify.specs.Told.{IsEquality, Tells, peeled_at, told_tree, told_word, untold}
use Rattle.term_simplify.specs.declared.equalities.Equality.{Equality}
use Rattle.term_simplify.specs.declared.equalities.Told.{Told}
use Rattle.term_simplify.specs.declared.equalities.Told.TheVariants.{Sign, Equal, Within}
use Rattle.term_simplify.specs.declared.intervals.Between.{Between}
use Rattle.term_simplify.proofs.EqualityNumbers.{same_tests}
use Rattle.term_simplify.proofs.IntervalRules.{interval_worth}
use Rattle.term_simplify.proofs.Reading.{IsOperand, has_second_term, has_term, operand, term_at, width_at}
use Rattle.term_simplify.proofs.Undoing.{undone_none, undone_peeled, undone_worth}
use Rattle.term_simplify.proofs.Words.{by_parts, is_number, le_tells, most_false, number_value, tests_not_below, tests_equal, tests_unequal}

-- ---- going down
pub if_some : {A : Type 0} (o : Option A) (P Q : A → Type 0) → IfSome o P → ((x : A) → P x → Q x) → IfSome o Q
if_some (Some x) P Q p f = f x p
if_some None P Q p f = tt

pub either : (P : ℕ → Type 0) (x a b : ℕ) → (x ≡ a) ⊎ (x ≡ b) → P a → P b → P x
either P x a b (inl e) p q = subst P (sym e) p
either P x a b (inr e) p q = subst P (sym e) q

abbrev pub with_word : Tree → BitVector → Option Peeled
with_word t n = Some (record { term = t; number = n })

no_bytes : All (λ b. b < 256) []
no_bytes = λ k d h. absurd (omega (arith, h))

-- the term that the code has come to
pub record HasPeeled (g : Graph) (e f : Equality) : Type 0 where
  pub is_equality : IsEquality g f
  pub same : peeled (tree_of g e.term) e.number ≡ peeled (tree_of g f.term) f.number
  pub worth : (input : List ℕ) → All (λ b. b < 256) input → told_word g (Equal f) input ≡ told_word g (Equal e) input

pub come_here : (g : Graph) (e : Equality) → IsEquality g e → HasPeeled g e e
come_here g e is = record { is_equality = is; same = refl; worth = λ input bytes. refl }

pub come_on : (g : Graph) (dag : IsDag g) (e f h : Equality) → HasPeeled g e f → Some (peeled_at g h) ≡ undone (tree_of g f.term) f.number →
    h.term < length g.nodes → HasPeeled g e h
come_on g dag e f h come is there =
    let term : IsTerm g.inputs (tree_of g f.term) = is_term g f.term dag come.is_equality.there in
    let wide : IsOfWidth (tree_width (tree_of g f.term)) f.number = rw (width-tree_of g f.term) come.is_equality.number in
    record {
      is_equality = record {
        there = there;
        number = rw (← width-tree_of g h.term)
            (undone_worth g.inputs [] no_bytes (tree_of g f.term) f.number (peeled_at g h) term wide (sym is)).number;
      };
      same = come.same ∙ undone_peeled (tree_of g f.term) f.number (peeled_at g h) (sym is);
      worth = λ input bytes.
          ap (λ v. equal v h.number) (sym (value-tree_of g h.term input))
          ∙ (undone_worth g.inputs input bytes (tree_of g f.term) f.number (peeled_at g h) term wide (sym is)).worth
          ∙ ap (λ v. equal v f.number) (value-tree_of g f.term input) ∙ come.worth input bytes;
    }

pub come_home : (g : Graph) (e f : Equality) → HasPeeled g e f → None ≡ undone (tree_of g f.term) f.number →
    peeled_at g f ≡ peeled (tree_of g e.term) e.number
come_home g e f come none = sym (come.same ∙ undone_none (tree_of g f.term) f.number (sym none))

-- ---- the node that stands there
module _ (g : Graph) (id : ℕ) (dag : IsDag g) where
  undone_at : (n : BitVector) (node : Node) → slice_get g.nodes id ≡ Some node → undone (node_tree (tree_of g) node) n ≡ undone (tree_of g id) n
  undone_at n node is = ap (λ t. undone t n) (sym (tree_by_cases g id node dag is))

  pub not_operand : (a : ℕ) → slice_get g.nodes id ≡ Some (Not a) → IsOperand g id a
  not_operand a is = operand g id a (Not a) dag is (dag.all_fit id (Not a) is)

  pub neg_operand : (a : ℕ) → slice_get g.nodes id ≡ Some (Neg a) → IsOperand g id a
  neg_operand a is = operand g id a (Neg a) dag is (dag.all_fit id (Neg a) is)

  pub first_operand : (op : BinaryOp) (a b : ℕ) → slice_get g.nodes id ≡ Some (Binary op a b) → IsOperand g id a
  first_operand op a b is = operand g id a (Binary op a b) dag is (dag.all_fit id (Binary op a b) is).0

  pub second_operand : (op : BinaryOp) (a b : ℕ) → slice_get g.nodes id ≡ Some (Binary op a b) → IsOperand g id b
  second_operand op a b is =
      let fits = dag.all_fit id (Binary op a b) is in
      operand g id b (Binary op a b) dag is (omega (arith, fits.0, fits.1))

  pub operands_fit : (op : BinaryOp) (a b : ℕ) → slice_get g.nodes id ≡ Some (Binary op a b) → Fits g.inputs (widths_of g.nodes) (Binary op a b)
  operands_fit op a b is =
      ((first_operand op a b is).wide, sym (width-tree_of g a) ∙ (term_at g id (Binary op a b) dag is).2 ∙ width-tree_of g b)

  pub widened_operand : (by : ℕ) (signed : Bool) (a : ℕ) → slice_get g.nodes id ≡ Some (Extend by signed a) → IsOperand g id a
  widened_operand by signed a is = operand g id a (Extend by signed a) dag is (dag.all_fit id (Extend by signed a) is).0

  pub widened_fits : (by : ℕ) (signed : Bool) (a : ℕ) → slice_get g.nodes id ≡ Some (Extend by signed a) → Fits g.inputs (widths_of g.nodes) (Extend by signed a)
  widened_fits by signed a is =
      let term = term_at g id (Extend by signed a) dag is in
      ((widened_operand by signed a is).wide, term.1, omega (arith, term.2, width-tree_of g a))

  pub widened_more : (by : ℕ) (signed : Bool) (a : ℕ) → slice_get g.nodes id ≡ Some (Extend by signed a) → 1 ≤ by
  widened_more by signed a is = (dag.all_fit id (Extend by signed a) is).1

  pub widened_wide : (by : ℕ) (signed : Bool) (a : ℕ) (n : BitVector) → slice_get g.nodes id ≡ Some (Extend by signed a) →
      IsOfWidth (width_of g id) n → n.width ≡ width_of g a + by
  widened_wide by signed a n is p = p.width ∙ width_at g id (Extend by signed a) dag is ∙ ap (λ k. k + by) (width-tree_of g a)

  pub first_wide : (op : BinaryOp) (a b : ℕ) (n : BitVector) → slice_get g.nodes id ≡ Some (Binary op a b) → IsOfWidth (width_of g id) n → n.width ≡ width_of g a
  first_wide op a b n is p = p.width ∙ width_at g id (Binary op a b) dag is ∙ width-tree_of g a

  pub upper_operand : (a b : ℕ) → slice_get g.nodes id ≡ Some (Concat a b) → IsOperand g id a
  upper_operand a b is = operand g id a (Concat a b) dag is (dag.all_fit id (Concat a b) is).0

  pub lower_operand : (a b : ℕ) → slice_get g.nodes id ≡ Some (Concat a b) → IsOperand g id b
  lower_operand a b is = operand g id b (Concat a b) dag is (dag.all_fit id (Concat a b) is).1

  pub joined_fit : (a b : ℕ) → slice_get g.nodes id ≡ Some (Concat a b) → Fits g.inputs (widths_of g.nodes) (Concat a b)
  joined_fit a b is =
      ((upper_operand a b is).wide, (lower_operand a b is).wide, omega (arith, (term_at g id (Concat a b) dag is).2, width-tree_of g a, width-tree_of g b))

  pub joined_wide : (a b : ℕ) (n : BitVector) → slice_get g.nodes id ≡ Some (Concat a b) → IsOfWidth (width_of g id) n →
      n.width ≡ width_of g a + width_of g b
  joined_wide a b n is p = omega (arith, p.width, width_at g id (Concat a b) dag is, width-tree_of g a, width-tree_of g b)

  not_undone : (n : BitVector) (node : Node) → ((a : ℕ) → node ≡ Not a → ⊥) → ((a : ℕ) → node ≡ Neg a → ⊥) →
      ((op : BinaryOp) (a b : ℕ) → node ≡ Binary op a b → ⊥) →
      ((by : ℕ) (signed : Bool) (a : ℕ) → node ≡ Extend by signed a → ⊥) → ((a b : ℕ) → node ≡ Concat a b → ⊥) →
      None ≡ undone (node_tree (tree_of g) node) n
  not_undone n (Not a) x y z u v = absurd (x a refl)
  not_undone n (Neg a) x y z u v = absurd (y a refl)
  not_undone n (Binary op a b) x y z u v = absurd (z op a b refl)
  not_undone n (Num w m) x y z u v = refl
  not_undone n (Input i) x y z u v = refl
  not_undone n (Compare op a b) x y z u v = refl
  not_undone n (Ite c a b) x y z u v = refl
  not_undone n (Extract high low a) x y z u v = refl
  not_undone n (Extend by signed a) x y z u v = absurd (u by signed a refl)
  not_undone n (Concat a b) x y z u v = absurd (v a b refl)

  pub undone_here : (n : BitVector) (node : Node) → slice_get g.nodes id ≡ Some node → {p : Option Peeled} →
      p ≡ undone (node_tree (tree_of g) node) n → p ≡ undone (tree_of g id) n
  undone_here n node is e = e ∙ undone_at n node is

  pub other_here : (n : BitVector) (node : Node) → slice_get g.nodes id ≡ Some node → ((a : ℕ) → node ≡ Not a → ⊥) → ((a : ℕ) → node ≡ Neg a → ⊥) →
      ((op : BinaryOp) (a b : ℕ) → node ≡ Binary op a b → ⊥) →
      ((by : ℕ) (signed : Bool) (a : ℕ) → node ≡ Extend by signed a → ⊥) → ((a b : ℕ) → node ≡ Concat a b → ⊥) →
      None ≡ undone (tree_of g id) n
  other_here n node is x y z u v = not_undone n node x y z u v ∙ undone_at n node is

-- ---- low bits that are widened to a number, or not
module _ (g : Graph) (by : ℕ) (signed : Bool) (a w : ℕ) (n m : BitVector) (wide : w ≡ width_of g a) (is : m ≡ extract (w - 1) 0 n) where
  low_at : m ≡ low_bits (tree_of g a) n
  low_at = is ∙ ap (λ k. extract (k - 1) 0 n) (wide ∙ sym (width-tree_of g a))

  pub low_room : 0 < w → n.width ≡ width_of g a + by → n.width ≤ 64 → m.width + by ≤ 64
  unfolding extract
  low_room some whole fits = omega (arith, ap (λ (v : BitVector). v.width) is, wide, some, whole, fits)

  pub widened_yes : (extend signed by m).number ≡ n.number → with_word (tree_of g a) m ≡ undone (Widened by signed (tree_of g a)) n
  widened_yes h =
      let yes : is_widened by signed (tree_of g a) n ≡ true = tests_equal _ _ (ap (λ v. (extend signed by v).number) (sym low_at) ∙ h) in
      rw yes (ap (with_word (tree_of g a)) low_at)

  pub widened_no : ((extend signed by m).number ≡ n.number → ⊥) → None ≡ undone (Widened by signed (tree_of g a)) n
  widened_no h =
      let no : is_widened by signed (tree_of g a) n ≡ false = tests_unequal _ _ (λ e. h (ap (λ v. (extend signed by v).number) low_at ∙ e)) in
      rw no refl

-- ---- bits of a number above and below
module _ (g : Graph) (a b w : ℕ) (n upper lower : BitVector) (wide : w ≡ width_of g b) (above : upper ≡ extract (n.width - 1) w n)
    (below : lower ≡ extract (w - 1) 0 n) where
  above_is : bits_above (tree_of g b) n ≡ upper
  above_is = sym (above ∙ ap (λ k. extract (n.width - 1) k n) (wide ∙ sym (width-tree_of g b)))

  below_is : low_bits (tree_of g b) n ≡ lower
  below_is = sym (below ∙ ap (λ k. extract (k - 1) 0 n) (wide ∙ sym (width-tree_of g b)))

  -- the other one is left, or the number tells that they are apart
  pub upper_left : (y : BitVector) → None ≡ tree_number (tree_of g a) → Some y ≡ tree_number (tree_of g b) → y.number ≡ lower.number →
      with_word (tree_of g a) upper ≡ undone (Joined (tree_of g a) (tree_of g b)) n
  upper_left y e f same = rw (above_is, below_is, ← e, ← f, tests_equal y.number lower.number same) refl

  pub lower_apart : (y : BitVector) → None ≡ tree_number (tree_of g a) → Some y ≡ tree_number (tree_of g b) → (y.number ≡ lower.number → ⊥) →
      with_word (tree_of g b) lower ≡ undone (Joined (tree_of g a) (tree_of g b)) n
  lower_apart y e f other = rw (above_is, below_is, ← e, ← f, tests_unequal y.number lower.number other) refl

  pub lower_left : (x : BitVector) → Some x ≡ tree_number (tree_of g a) → None ≡ tree_number (tree_of g b) → x.number ≡ upper.number →
      with_word (tree_of g b) lower ≡ undone (Joined (tree_of g a) (tree_of g b)) n
  lower_left x e f same = rw (above_is, below_is, ← e, ← f, tests_equal x.number upper.number same) refl

  pub upper_apart : (x : BitVector) → Some x ≡ tree_number (tree_of g a) → None ≡ tree_number (tree_of g b) → (x.number ≡ upper.number → ⊥) →
      with_word (tree_of g a) upper ≡ undone (Joined (tree_of g a) (tree_of g b)) n
  upper_apart x e f other = rw (above_is, below_is, ← e, ← f, tests_unequal x.number upper.number other) refl

-- ---- tests of a term and a number
pub number_at_second : (g : Graph) (dag : IsDag g) (a b : ℕ) (y : BitVector) → a < length g.nodes → b < length g.nodes → width_of g a ≡ width_of g b →
    tree_number (tree_of g b) ≡ Some y → IsEquality g (record { term = a; number = y })
number_at_second g dag a b y there second wide is = record {
  there = there;
  number = rw (wide, ← width-tree_of g b, ← number_value [] (tree_of g b) y is) (in_range g.inputs [] no_bytes (tree_of g b) (is_term g b dag second));
}

-- a term that is a number is worth it
worth_number : (g : Graph) (b : ℕ) (y : BitVector) (input : List ℕ) → tree_number (tree_of g b) ≡ Some y → val g b input ≡ y
worth_number g b y input is = sym (value-tree_of g b input) ∙ number_value input (tree_of g b) y is

pub turned : (x y : BitVector) → equal x y ≡ equal y x
unfolding equal
turned x y = ap bit (same_tests x.number y.number y.number x.number (λ e. sym e) (λ e. sym e))

pub equal_second : (g : Graph) (a b : ℕ) (y : BitVector) (e : Equality) → tree_number (tree_of g a) ≡ None → tree_number (tree_of g b) ≡ Some y →
    IsEquality g e → peeled_at g e ≡ peeled (tree_of g a) y →
    ((input : List ℕ) → All (λ b. b < 256) input → told_word g (Equal e) input ≡ equal (val g a input) y) → Tells g (Compare Eq a b) (Equal e)
unfolding comparison_of
equal_second g a b y e first second is tree worth = record {
  is_told = is;
  tree = rw (first, second) (ap equal_to (sym tree));
  bits = refl;
  worth = λ input bytes. worth input bytes ∙ ap (equal (val g a input)) (sym (worth_number g b y input second));
}

pub equal_first : (g : Graph) (a b : ℕ) (x : BitVector) (e : Equality) → tree_number (tree_of g a) ≡ Some x → tree_number (tree_of g b) ≡ None →
    IsEquality g e → peeled_at g e ≡ peeled (tree_of g b) x →
    ((input : List ℕ) → All (λ b. b < 256) input → told_word g (Equal e) input ≡ equal (val g b input) x) → Tells g (Compare Eq a b) (Equal e)
unfolding comparison_of
equal_first g a b x e first second is tree worth = record {
  is_told = is;
  tree = rw (first, second) (ap equal_to (sym tree));
  bits = refl;
  worth = λ input bytes. worth input bytes ∙ ap (equal (val g b input)) (sym (worth_number g a x input first)) ∙ turned (val g b input) (val g a input);
}

-- ---- the sign
sign_number : (w n : ℕ) → 0 < w → n < 2 ^ w → (2 ^ (w - 1) ≤ n → n / 2 ^ (w - 1) ≡ 1) × (n < 2 ^ (w - 1) → n / 2 ^ (w - 1) ≡ 0)
sign_number w n some h =
    let whole : 2 ^ w ≡ 2 ^ (1 + (w - 1)) = ap (λ k. 2 ^ k) (omega (arith, some)) in
    let none : 2 ^ (w - 1) ≡ 2 ^ (0 + (w - 1)) = ap (λ k. 2 ^ k) (omega arith) in (
      λ over. let least : 1 ≤ n / 2 ^ (w - 1) = le-div 1 n (2 ^ (w - 1)) (pow_pos (w - 1)) (omega (arith, over)) in
          let most : n / 2 ^ (w - 1) < 2 ^ 1 = shr_below n 1 (w - 1) (omega (arith, h, whole)) in omega (arith, least, most),
      λ under. let most : n / 2 ^ (w - 1) < 2 ^ 0 = shr_below n 0 (w - 1) (omega (arith, under, none)) in omega (arith, most),
    )

below_zero : (w : ℕ) (x y : BitVector) → IsOfWidth w x → IsOfWidth w y → y.number ≡ 0 → extract (y.width - 1) (y.width - 1) x ≡ bvslt x y
unfolding extract bvslt
below_zero w x y p q zero =
    let positive : is_negative y ≡ false = most_false _ _ (omega (arith, zero, pow_pos (y.width - 1))) in
    let one : y.width - 1 - (y.width - 1) + 1 ≡ 1 = omega arith in
    let top : 2 ^ (x.width - 1) ≡ 2 ^ (w - 1) = ap (λ k. 2 ^ (k - 1)) p.width in
    let sign = sign_number w x.number p.not_empty p.in_range in
    let cut : x.number / 2 ^ (y.width - 1) % 2 ^ (y.width - 1 - (y.width - 1) + 1) ≡ x.number / 2 ^ (w - 1) % 2 ^ 1 =
    ap (λ k. x.number / 2 ^ (k - 1) % 2 ^ (y.width - 1 - (y.width - 1) + 1)) q.width ∙ ap (λ k. x.number / 2 ^ (w - 1) % 2 ^ k) one in
    rw (positive, tests_not_below x.number y.number (omega (arith, zero))) (
    elim (le_tells (2 ^ (x.width - 1)) x.number) [
      | inl over ↦ rw over.0 (by_parts 1 1 _ one (cut ∙ ap (λ k. k % 2 ^ 1) (sign.0 (omega (arith, over.1, top)))))
      | inr under ↦ rw under.0 (by_parts 1 0 _ one (cut ∙ ap (λ k. k % 2 ^ 1) (sign.1 (omega (arith, under.1, top)))))
    ]
    )

pub sign_second : (g : Graph) (dag : IsDag g) (a b : ℕ) (y : BitVector) → Fits g.inputs (widths_of g.nodes) (Compare Slt a b) →
    tree_number (tree_of g a) ≡ None → tree_number (tree_of g b) ≡ Some y → (y.number == 0) ≡ true → Tells g (Compare Slt a b) (Sign a y.width)
unfolding comparison_of
sign_second g dag a b y fits first second zero =
    let there : a < length g.nodes = has_term g a fits.0 in
    let e = number_at_second g dag a b y there (has_second_term g a b fits.0 fits.1) fits.1 second in
    record {
      is_told = (omega (arith, e.number.width, e.number.not_empty), sym e.number.width);
      tree = rw (first, second, zero) refl;
      bits = refl;
      worth = λ input bytes.
          let own : IsOfWidth (width_of g a) (val g a input) =
          rw (← value-tree_of g a input, ← width-tree_of g a) (in_range g.inputs input bytes (tree_of g a) (is_term g a dag there)) in
          below_zero (width_of g a) (val g a input) y own e.number (is_number y.number 0 zero)
          ∙ ap (bvslt (val g a input)) (sym (worth_number g b y input second));
    }

-- ---- an interval
pub within_second : (g : Graph) (dag : IsDag g) (a b : ℕ) (y : BitVector) (w : Between) → Fits g.inputs (widths_of g.nodes) (Compare Ult a b) →
    tree_number (tree_of g a) ≡ None → tree_number (tree_of g b) ≡ Some y → IsBetween g w → Some (between_at g w) ≡ interval_of (tree_of g a) y →
    Tells g (Compare Ult a b) (Within w)
unfolding comparison_of
within_second g dag a b y w fits first second is found =
    let there : a < length g.nodes = has_term g a fits.0 in
    let e = number_at_second g dag a b y there (has_second_term g a b fits.0 fits.1) fits.1 second in
    record {
      is_told = is;
      tree = rw (first, second, ← found) refl;
      bits = refl;
      worth = λ input bytes.
          ap (λ v. interval_word v w.low w.high) (sym (value-tree_of g w.term input))
          ∙ interval_worth g.inputs input bytes (tree_of g a) y (between_at g w) (is_term g a dag there) (rw (width-tree_of g a) e.number) (sym found)
          ∙ ap (λ v. bvult v y) (value-tree_of g a input) ∙ ap (bvult (val g a input)) (sym (worth_number g b y input second));
    }

-- ---- any other test is as it is asked
as_number : (t : Tree) (y : BitVector) → tree_number t ≡ Some y → number_tree y ≡ t
as_number (Constant w v) y e = let same : record { width = w; number = v } ≡ y = cc in ap number_tree (sym same)
as_number t y e = cc

pub stays : (f : ℕ → Tree) (op : Comparison) (a b : ℕ) (x y : Option BitVector) → tree_number (f a) ≡ x → tree_number (f b) ≡ y →
    told_by op x y (f a) (f b) ≡ compared op (f a) (f b) → unmoved f (Compare op a b) ≡ untold f (Compare op a b)
unfolding comparison_of
stays f op a b x y first second e =
    ap (λ o. told_by op o (tree_number (f b)) (f a) (f b)) first ∙ ap (λ o. told_by op x o (f a) (f b)) second ∙ e

pub ult_stays : (y : BitVector) (s t : Tree) → None ≡ interval_of s y → told_by Ult None (Some y) s t ≡ compared Ult s t
ult_stays y s t none = rw (← none) refl

pub first_stays : (x : BitVector) (s t : Tree) → told_by Ult (Some x) None s t ≡ compared Ult s t
first_stays x s t = refl

pub slt_stays : (x : BitVector) (s t : Tree) → told_by Slt (Some x) None s t ≡ compared Slt s t
slt_stays x s t = refl

pub some_stays : (y : BitVector) (s t : Tree) → (y.number == 0) ≡ false → told_by Slt None (Some y) s t ≡ compared Slt s t
some_stays y s t h = rw h refl

pub equal_stays : (y : BitVector) (s t : Tree) → tree_number t ≡ Some y → None ≡ undone s y → told_by Eq None (Some y) s t ≡ compared Eq s t
equal_stays y s t is none = ap equal_to (undone_none s y (sym none)) ∙ ap (compared Eq s) (as_number t y is)

pub numbers_stay : (op : Comparison) (x y : BitVector) (s t : Tree) → told_by op (Some x) (Some y) s t ≡ compared op s t
numbers_stay Ult x y s t = refl
numbers_stay Slt x y s t = refl
numbers_stay Eq x y s t = refl

-- ---- an answer that is told, as found in an equal graph
pub told_here : {E : Type 0} (h g more : Graph) (r : Result ℕ E) (node : Node) (t : Told) → h ≡ g → Tells h node t →
    IfOk r (λ id. Builds g more id (told_tree g t) 1 (told_word g t)) → IfOk r (BuildsAs (unmoved (tree_of g) node) g more node)
told_here h g more (Ok id) node t e tells built =
    let here : Tells g node t = subst (λ (k : Graph). Tells k node t) e tells in
    record {
      continues = built.continues;
      there = built.there;
      tree = built.tree ∙ sym here.tree;
      width = built.width ∙ sym here.bits;
      value = λ input bytes. built.value input bytes ∙ here.worth input bytes;
    }
told_here h g more (Err x) node t e tells built = tt
