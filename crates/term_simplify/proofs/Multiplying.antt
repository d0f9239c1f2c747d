-- Products by a number, found and made step by step.
use Rattle.std.proofs.Common.{◌≡◌, ◌∙◌, ℕ, ◌+◌, ◌*◌, ◌^◌, ◌<◌, ◌≤◌, List, Some, None, refl, ap, sym, subst, arith}
use Rattle.std.specs.Prelude.{Option}
use Rattle.std.specs.Option.{IfSome}
use Rattle.bv_dag.specs.BitVectors.{BitVector, concat}
use Rattle.std.specs.List.{All}
use Rattle.bv_dag.specs.Graphs.{Graph, val, width_of}
use Rattle.bv_dag.specs.Nodes.{binary}
use Rattle.bv_dag.specs.declared.nodes.BinaryOp.{BinaryOp}
use Rattle.bv_dag.specs.declared.nodes.BinaryOp.TheVariants.{Mul}
use Rattle.bv_dag.proofs.TermLaws.{width-val}
use Rattle.term_trees.specs.Trees.{Tree, Constant, tree_of}
use Rattle.term_trees.proofs.TreeLaws.{value-tree_of, width-tree_of}
use Rattle.term_simplify.specs.Plain.{joined_of, tree_number}
use Rattle.term_simplify.specs.Steps.{Stands}
use Rattle.term_simplify.specs.Times.{raised, raised_word, times_word, IsProduct}
use Rattle.term_simplify.specs.declared.times.Product.{Product}
use Rattle.term_simplify.proofs.Multiples.{word_first, word_raised, word_second}
use Rattle.term_simplify.proofs.Stepping.{Stands-itself, Stands-worth, at_tree, at_width, one_step}
use Rattle.term_simplify.proofs.Words.{by_parts, number_value, number_width, tests_equal, tests_unequal}

-- ---- products that are found
abbrev pub IsOf : (id : ℕ) → BitVector → Option Product → Type 0
IsOf id y r = IfSome r (λ p. p ≡ record { operand = id; width = y.width; number = y.number })

pub product_is : (g : Graph) (id : ℕ) (y : BitVector) (r : Option Product) → width_of g id ≡ y.width → y.number < 2 ^ y.width → y.width ≤ 64 →
    IfSome r (λ p. 1 < y.number) → IsOf id y r → IfSome r (λ p. IsProduct g p)
product_is g id y (Some p) wide range most some is =
    subst (IsProduct g) (sym is) (record { wide = wide; some = omega (arith, some); in_range = range; at_most_64 = most })
product_is g id y None wide range most some is = tt

pub product_wide : (id : ℕ) (y : BitVector) (w : ℕ) (r : Option Product) → y.width ≡ w → IsOf id y r → IfSome r (λ p. p.width ≡ w)
product_wide id y w (Some p) wide is = ap (λ (q : Product). q.width) is ∙ wide
product_wide id y w None wide is = tt

-- the width of a term that is a number
pub wide_as : (g : Graph) (a : ℕ) (y : BitVector) → tree_number (tree_of g a) ≡ Some y → width_of g a ≡ y.width
wide_as g a y is = sym (width-tree_of g a) ∙ sym (number_width (tree_of g a) y is)

pub worth_as : (g : Graph) (a : ℕ) (y : BitVector) → tree_number (tree_of g a) ≡ Some y → (input : List ℕ) → val g a input ≡ y
worth_as g a y is input = sym (value-tree_of g a input) ∙ number_value input (tree_of g a) y is

pub first_worth : (g : Graph) (op : BinaryOp) (a b : ℕ) (x : BitVector) (r : Option Product) → op ≡ Mul → tree_number (tree_of g a) ≡ Some x →
    IsOf b x r → IfSome r (λ p. (input : List ℕ) → times_word p.width 0 p.number (val g p.operand input) ≡ binary op (val g a input) (val g b input))
first_worth g op a b x (Some p) mul number is = λ input.
    rw (is, mul, worth_as g a x number input) (word_first x (val g b input))
first_worth g op a b x None mul number is = tt

pub second_worth : (g : Graph) (op : BinaryOp) (a b : ℕ) (y : BitVector) (r : Option Product) → op ≡ Mul → width_of g a ≡ width_of g b →
    tree_number (tree_of g b) ≡ Some y → IsOf a y r →
    IfSome r (λ p. (input : List ℕ) → times_word p.width 0 p.number (val g p.operand input) ≡ binary op (val g a input) (val g b input))
second_worth g op a b y (Some p) mul same number is = λ input.
    rw (is, mul, worth_as g b y number input) (word_second (val g a input) y (width-val g a input ∙ same ∙ wide_as g b y number))
second_worth g op a b y None mul same number is = tt

-- ---- terms that are moved up
raised_nowhere : (by : ℕ) (x : BitVector) → by ≡ 0 → x ≡ raised_word by x
raised_nowhere by x e = by_parts (x.width + by) (x.number * 2 ^ by) x (omega (arith, e)) (rw e (omega arith))

pub not_raised : (g : Graph) (a by : ℕ) → by ≡ 0 → 0 < width_of g a →
    Stands g a (raised by (tree_of g a)) (width_of g a + by) (λ input. raised_word by (val g a input))
not_raised g a by e some =
    at_width (omega (arith, e)) (at_tree (rw (tests_equal by 0 e) refl)
    (Stands-worth (λ input bytes. raised_nowhere by (val g a input) e) (Stands-itself g a (width_of g a) refl some)))

above_zeros : (by : ℕ) (x : BitVector) → concat x (record { width = by; number = 0 }) ≡ raised_word by x
unfolding concat
above_zeros by x = by_parts (x.width + by) (x.number * 2 ^ by) _ refl (omega arith)

pub joined_raised : {g : Graph} {id w : ℕ} (t : Tree) (F : List ℕ → BitVector) (by : ℕ) → (by ≡ 0 → ⊥) →
    Stands g id (joined_of t (Constant by 0)) w (λ input. concat (F input) (record { width = by; number = 0 })) →
    Stands g id (raised by t) w (λ input. raised_word by (F input))
joined_raised t F by some n = at_tree (rw (tests_unequal by 0 some) refl) (Stands-worth (λ input bytes. above_zeros by (F input)) n)

-- a term that is moved up, where it is as wide and worth as much as a product
pub raised_step : {g h : Graph} {a id : ℕ} {s t : Tree} {k : ℕ} {F : List ℕ → BitVector} (w by c : ℕ) (G : List ℕ → BitVector) →
    Stands g a s k F → k ≡ w → raised by s ≡ t → ((input : List ℕ) → All (λ b. b < 256) input → F input ≡ times_word w 0 c (G input)) →
    Stands h id (raised by (tree_of g a)) (width_of g a + by) (λ input. raised_word by (val g a input)) →
    Stands h id t (w + by) (λ input. times_word w by c (G input))
raised_step w by c G made wide tree worth n =
    at_width (ap (λ k. k + by) (made.width ∙ wide)) (at_tree tree
    (Stands-worth (λ input bytes. ap (raised_word by) (worth input bytes) ∙ word_raised w by c (G input))
    (one_step (raised by) (raised_word by) made n)))
