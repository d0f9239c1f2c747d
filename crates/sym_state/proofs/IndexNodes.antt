-- An index, as it is read from nodes.
use Rattle.std.proofs.Common.{◌≡◌, ◌≢◌, ℕ, ◌+◌, ◌*◌, ◌%◌, ◌^◌, ◌<◌, ◌≤◌, Bool, true, false, length, refl, sym, ap, ◌∙◌, arith}
use Rattle.std.specs.Prelude.{◌==◌, nat_le, Option, Some, None, if◌then◌else◌, slice_get}
use Rattle.std.proofs.Math.Nat.{mod-eq_of_lt}
use Rattle.std.proofs.lemmas.Bool.Decides.{nat_tests}
use Rattle.std.proofs.lemmas.Nat.{pow_pos}
use Rattle.bv_dag.specs.Graphs.{Graph, IsDag}
use Rattle.bv_dag.specs.declared.nodes.BinaryOp.{BinaryOp}
use Rattle.bv_dag.specs.declared.nodes.Node.{Node}
use Rattle.bv_dag.specs.declared.nodes.Node.TheVariants.{Num, Input, Not, Neg, Binary, Compare, Ite, Extract, Extend, Concat}
use Rattle.term_trees.specs.Trees.{Tree, Constant, Widened, node_tree, tree_of, tree_width}
use Rattle.term_trees.proofs.TreeLaws.{tree_by_cases}
use Rattle.term_simplify.proofs.Reading.{operand, term_at}
use Rattle.sym_state.specs.Indexing.{Index, index_at, index_by, index_in, index_of, index_over, index_under, is_index}
use Rattle.sym_state.proofs.Indices.{room_of}

-- ---- An index that has few bits.
pub not_few : (scale bits w base : ℕ) (x : Tree) (o : Option ℕ) → o ≡ Some base → w ≡ tree_width x → is_index scale bits w base ≡ false
    → None ≡ index_at scale bits x o
not_few scale bits w base x o is wide other = rw (is, ← wide, other) refl

pub start_small : (scale bits w base : ℕ) → is_index scale bits w base ≡ true → base * 2 ^ scale < 2 ^ 32
start_small scale bits w base fits = let all = room_of scale bits w base fits in let some = pow_pos (scale + w) in omega (arith, all, some)

pub few : (scale bits w base : ℕ) (x : Tree) (o : Option ℕ) → o ≡ Some base → w ≡ tree_width x → is_index scale bits w base ≡ true
    → Some (record { term = x; scale = scale; start = base * 2 ^ scale % 2 ^ 64 }) ≡ index_at scale bits x o
few scale bits w base x o is wide fits =
    let small : base * 2 ^ scale < 2 ^ 64 = let below = start_small scale bits w base fits in omega (arith, below) in
    ap {B = Option Index} (λ n. Some (record { term = x; scale = scale; start = n })) (mod-eq_of_lt small)
    ∙ rw (is, ← wide, fits) refl

too_wide : (scale bits : ℕ) (x : Tree) (base : ℕ) → 32 < bits → is_index scale bits (tree_width x) base ≡ false
too_wide scale bits x base more =
    let over : nat_le (scale + bits) 32 ≡ false = grind (arith, nat_tests, more) in
    rw over (grind (arith, nat_tests))

pub no_wide : (scale bits : ℕ) (x : Tree) (o : Option ℕ) → 32 < bits → None ≡ index_at scale bits x o
no_wide scale bits x None more = refl
no_wide scale bits x (Some base) more = rw (too_wide scale bits x base more) refl

-- ---- The nodes of a sum.
first_read : (f : ℕ → Tree) (n : Node) (scale : ℕ) (op : BinaryOp) (t : Tree) → ((by : ℕ) (signed : Bool) (a : ℕ) → n ≢ Extend by signed a)
    → None ≡ index_by scale op (node_tree f n) t
first_read f (Num w v) scale op t other = refl
first_read f (Input i) scale op t other = refl
first_read f (Not a) scale op t other = refl
first_read f (Neg a) scale op t other = refl
first_read f (Binary o a b) scale op t other = refl
first_read f (Compare o a b) scale op t other = refl
first_read f (Ite c a b) scale op t other = refl
first_read f (Extract high low a) scale op t other = refl
first_read f (Extend by signed a) scale op t other = absurd (other by signed a refl)
first_read f (Concat a b) scale op t other = refl

second_read : (f : ℕ → Tree) (n : Node) (scale : ℕ) (op : BinaryOp) (by : ℕ) (signed : Bool) (x : Tree) → ((w v : ℕ) → n ≢ Num w v)
    → None ≡ index_by scale op (Widened by signed x) (node_tree f n)
second_read f n scale op by true x other = refl
second_read f (Num w v) scale op by false x other = absurd (other w v refl)
second_read f (Input i) scale op by false x other = refl
second_read f (Not a) scale op by false x other = refl
second_read f (Neg a) scale op by false x other = refl
second_read f (Binary o a b) scale op by false x other = refl
second_read f (Compare o a b) scale op by false x other = refl
second_read f (Ite c a b) scale op by false x other = refl
second_read f (Extract high low a) scale op by false x other = refl
second_read f (Extend k signed a) scale op by false x other = refl
second_read f (Concat a b) scale op by false x other = refl

in_read : (f : ℕ → Tree) (n : Node) (scale : ℕ) → ((op : BinaryOp) (a b : ℕ) → n ≢ Binary op a b) → None ≡ index_in scale (node_tree f n)
in_read f (Num w v) scale other = refl
in_read f (Input i) scale other = refl
in_read f (Not a) scale other = refl
in_read f (Neg a) scale other = refl
in_read f (Binary o a b) scale other = absurd (other o a b refl)
in_read f (Compare o a b) scale other = refl
in_read f (Ite c a b) scale other = refl
in_read f (Extract high low a) scale other = refl
in_read f (Extend k signed a) scale other = refl
in_read f (Concat a b) scale other = refl

over_read : (f : ℕ → Tree) (n : Node) (s : Tree) → ((w v : ℕ) → n ≢ Num w v) → None ≡ index_over s (node_tree f n)
over_read f (Num w v) s other = absurd (other w v refl)
over_read f (Input i) s other = refl
over_read f (Not a) s other = refl
over_read f (Neg a) s other = refl
over_read f (Binary o a b) s other = refl
over_read f (Compare o a b) s other = refl
over_read f (Ite c a b) s other = refl
over_read f (Extract high low a) s other = refl
over_read f (Extend k signed a) s other = refl
over_read f (Concat a b) s other = refl

under_read : (f : ℕ → Tree) (n : Node) → ((a b : ℕ) → n ≢ Concat a b) → index_in 0 (node_tree f n) ≡ index_under (node_tree f n)
under_read f (Num w v) other = refl
under_read f (Input i) other = refl
under_read f (Not a) other = refl
under_read f (Neg a) other = refl
under_read f (Binary o a b) other = refl
under_read f (Compare o a b) other = refl
under_read f (Ite c a b) other = refl
under_read f (Extract high low a) other = refl
under_read f (Extend k signed a) other = refl
under_read f (Concat a b) other = absurd (other a b refl)

of_read : (f : ℕ → Tree) (n : Node) → ((by : ℕ) (signed : Bool) (a : ℕ) → n ≢ Extend by signed a) → index_under (node_tree f n) ≡ index_of (node_tree f n)
of_read f (Num w v) other = refl
of_read f (Input i) other = refl
of_read f (Not a) other = refl
of_read f (Neg a) other = refl
of_read f (Binary o a b) other = refl
of_read f (Compare o a b) other = refl
of_read f (Ite c a b) other = refl
of_read f (Extract high low a) other = refl
of_read f (Extend by signed a) other = absurd (other by signed a refl)
of_read f (Concat a b) other = refl

module _ (g : Graph) (dag : IsDag g) where
  pub first_other : (scale : ℕ) (op : BinaryOp) (a b : ℕ) (n : Node) → slice_get g.nodes a ≡ Some n
      → ((by : ℕ) (signed : Bool) (k : ℕ) → n ≢ Extend by signed k) → None ≡ index_by scale op (tree_of g a) (tree_of g b)
  first_other scale op a b n is other =
      first_read (tree_of g) n scale op (tree_of g b) other ∙ ap (λ t. index_by scale op t (tree_of g b)) (sym (tree_by_cases g a n dag is))

  pub second_other : (scale : ℕ) (op : BinaryOp) (a b : ℕ) (by : ℕ) (signed : Bool) (k : ℕ) (n : Node) → slice_get g.nodes a ≡ Some (Extend by signed k)
      → slice_get g.nodes b ≡ Some n → ((w v : ℕ) → n ≢ Num w v) → None ≡ index_by scale op (tree_of g a) (tree_of g b)
  second_other scale op a b by signed k n first second other =
      second_read (tree_of g) n scale op by signed (tree_of g k) other
      ∙ ap (λ t. index_by scale op (Widened by signed (tree_of g k)) t) (sym (tree_by_cases g b n dag second))
      ∙ ap (λ t. index_by scale op t (tree_of g b)) (sym (tree_by_cases g a (Extend by signed k) dag first))

  pub sum_is : (scale : ℕ) (op : BinaryOp) (a b : ℕ) (by : ℕ) (signed : Bool) (k w v : ℕ) → slice_get g.nodes a ≡ Some (Extend by signed k)
      → slice_get g.nodes b ≡ Some (Num w v) → index_by scale op (Widened by signed (tree_of g k)) (Constant w v) ≡ index_by scale op (tree_of g a) (tree_of g b)
  sum_is scale op a b by signed k w v first second =
      ap (λ t. index_by scale op (Widened by signed (tree_of g k)) t) (sym (tree_by_cases g b (Num w v) dag second))
      ∙ ap (λ t. index_by scale op t (tree_of g b)) (sym (tree_by_cases g a (Extend by signed k) dag first))

  pub number_range : (b w v : ℕ) → slice_get g.nodes b ≡ Some (Num w v) → v < 2 ^ w
  number_range b w v is = (term_at g b (Num w v) dag is).in_range

  pub number_width : (b w v : ℕ) → slice_get g.nodes b ≡ Some (Num w v) → w ≤ 64
  number_width b w v is = (term_at g b (Num w v) dag is).at_most_64

  pub widened_there : (a by : ℕ) (signed : Bool) (k : ℕ) → slice_get g.nodes a ≡ Some (Extend by signed k) → k < length g.nodes
  widened_there a by signed k is = (operand g a k (Extend by signed k) dag is (dag.all_fit a (Extend by signed k) is).0).there

  pub first_there : (id : ℕ) (op : BinaryOp) (a b : ℕ) → slice_get g.nodes id ≡ Some (Binary op a b) → a < length g.nodes
  first_there id op a b is = (operand g id a (Binary op a b) dag is (dag.all_fit id (Binary op a b) is).0).there

  pub second_there : (id : ℕ) (op : BinaryOp) (a b : ℕ) → slice_get g.nodes id ≡ Some (Binary op a b) → b < length g.nodes
  second_there id op a b is =
      let fits = dag.all_fit id (Binary op a b) is in
      (operand g id b (Binary op a b) dag is (let same = fits.1 in let some = fits.0 in omega (arith, same, some))).there

  pub high_there : (id a b : ℕ) → slice_get g.nodes id ≡ Some (Concat a b) → a < length g.nodes
  high_there id a b is = (operand g id a (Concat a b) dag is (dag.all_fit id (Concat a b) is).0).there

  pub low_there : (id a b : ℕ) → slice_get g.nodes id ≡ Some (Concat a b) → b < length g.nodes
  low_there id a b is = (operand g id b (Concat a b) dag is (dag.all_fit id (Concat a b) is).1).there

  pub no_sum : (scale id : ℕ) (n : Node) → slice_get g.nodes id ≡ Some n → ((op : BinaryOp) (a b : ℕ) → n ≢ Binary op a b)
      → None ≡ index_in scale (tree_of g id)
  no_sum scale id n is other = in_read (tree_of g) n scale other ∙ ap (index_in scale) (sym (tree_by_cases g id n dag is))

  pub a_sum : (scale id : ℕ) (op : BinaryOp) (a b : ℕ) → slice_get g.nodes id ≡ Some (Binary op a b)
      → index_by scale op (tree_of g a) (tree_of g b) ≡ index_in scale (tree_of g id)
  a_sum scale id op a b is = ap (index_in scale) (sym (tree_by_cases g id (Binary op a b) dag is))

  pub no_zeros : (s : Tree) (low : ℕ) (n : Node) → slice_get g.nodes low ≡ Some n → ((w v : ℕ) → n ≢ Num w v) → None ≡ index_over s (tree_of g low)
  no_zeros s low n is other = over_read (tree_of g) n s other ∙ ap (index_over s) (sym (tree_by_cases g low n dag is))

  pub other_number : (s : Tree) (low w v : ℕ) → slice_get g.nodes low ≡ Some (Num w v) → v ≢ 0 → None ≡ index_over s (tree_of g low)
  other_number s low w v is some =
      let other : (v == 0) ≡ false = grind (arith, nat_tests, some) in
      ap (λ t. if t then index_in w s else None) (sym other) ∙ ap (index_over s) (sym (tree_by_cases g low (Num w v) dag is))

  pub zeros_below : (s : Tree) (low w v : ℕ) → slice_get g.nodes low ≡ Some (Num w v) → v ≡ 0 → index_in w s ≡ index_over s (tree_of g low)
  zeros_below s low w v is none =
      let zero : (v == 0) ≡ true = grind (arith, nat_tests, none) in
      ap (λ t. if t then index_in w s else None) (sym zero) ∙ ap (index_over s) (sym (tree_by_cases g low (Num w v) dag is))

  pub joined : (id a b : ℕ) → slice_get g.nodes id ≡ Some (Concat a b) → index_over (tree_of g a) (tree_of g b) ≡ index_under (tree_of g id)
  joined id a b is = ap index_under (sym (tree_by_cases g id (Concat a b) dag is))

  pub not_joined : (id : ℕ) (n : Node) → slice_get g.nodes id ≡ Some n → ((a b : ℕ) → n ≢ Concat a b) → index_in 0 (tree_of g id) ≡ index_under (tree_of g id)
  not_joined id n is other =
      ap (index_in 0) (tree_by_cases g id n dag is) ∙ under_read (tree_of g) n other ∙ ap index_under (sym (tree_by_cases g id n dag is))

  pub not_widened : (id : ℕ) (n : Node) → slice_get g.nodes id ≡ Some n → ((by : ℕ) (signed : Bool) (k : ℕ) → n ≢ Extend by signed k)
      → index_under (tree_of g id) ≡ index_of (tree_of g id)
  not_widened id n is other =
      ap index_under (tree_by_cases g id n dag is) ∙ of_read (tree_of g) n other ∙ ap index_of (sym (tree_by_cases g id n dag is))

  pub widened_by_sign : (id by : ℕ) (signed : Bool) (k : ℕ) → slice_get g.nodes id ≡ Some (Extend by signed k) → signed ≡ true
      → index_under (tree_of g id) ≡ index_of (tree_of g id)
  widened_by_sign id by signed k is sign =
      ap index_under (tree_by_cases g id (Extend by signed k) dag is ∙ ap (λ s. Widened by s (tree_of g k)) sign)
      ∙ ap index_of (sym (tree_by_cases g id (Extend by signed k) dag is ∙ ap (λ s. Widened by s (tree_of g k)) sign))

  pub widened_by_zeros : (id by : ℕ) (signed : Bool) (k : ℕ) → slice_get g.nodes id ≡ Some (Extend by signed k) → signed ≡ false
      → index_under (tree_of g k) ≡ index_of (tree_of g id)
  widened_by_zeros id by signed k is zeros =
      ap index_of (sym (tree_by_cases g id (Extend by signed k) dag is ∙ ap (λ s. Widened by s (tree_of g k)) zeros))
