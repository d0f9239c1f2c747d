-- Terms on the way to an answer of several nodes: they stay as the graph goes on, and each step is
-- by its operands.
use Rattle.std.proofs.Common.{◌≡◌, ℕ, ◌+◌, ◌-◌, ◌<◌, Bool, List, length, refl, ap, sym, subst, ◌∙◌, arith}
use Rattle.std.proofs.lemmas.List.{length-take}
use Rattle.std.specs.Prelude.{Result, Ok, Err}
use Rattle.std.specs.Result.{IfOk, OnOk}
use Rattle.std.specs.List.{All}
use Rattle.bv_dag.specs.BitVectors.{BitVector, bvnot, bvneg, ite, extract, concat}
use Rattle.bv_dag.specs.Graphs.{Graph, val, width_of}
use Rattle.bv_dag.specs.Nodes.{binary, compare, extend}
use Rattle.bv_dag.specs.declared.nodes.BinaryOp.{BinaryOp}
use Rattle.bv_dag.specs.declared.nodes.BinaryOp.TheVariants.{Mul, Urem}
use Rattle.bv_dag.specs.declared.nodes.Comparison.{Comparison}
use Rattle.bv_dag.proofs.TermLaws.{there}
use Rattle.term_trees.specs.Growth.{Continues}
use Rattle.term_trees.specs.Trees.{Tree, tree_of, tree_width, tree_value, IsTerm, IsOfWidth}
use Rattle.term_trees.proofs.Ranges.{in_range}
use Rattle.term_trees.proofs.TreeLaws.{tree-grown, width-grown, value-grown, value-tree_of, width-tree_of}
use Rattle.term_simplify.specs.Plain.{complement_of, part_of, extension_by, joined_of}
use Rattle.term_simplify.specs.Simplified.{negative_of, binary_of, comparison_of, choice_of}
use Rattle.term_simplify.specs.Machine.{sign_tree, signed_tree, magnitude_tree, signed_quotient_tree, or_ones_tree, quotient_tree, remainder_tree, upper_tree}
use Rattle.term_simplify.specs.Steps.{Stands, sign_word, signed_word, magnitude_word, or_ones_word}

-- a term is itself
pub Stands-itself : (g : Graph) (a w : ℕ) → width_of g a ≡ w → 0 < w →
    Stands g a (tree_of g a) w (λ input. val g a input)
Stands-itself g a w e some = record { there = there g a w e some; tree = refl; width = e; value = λ input bytes. refl }

pub there_still : (g h : Graph) (a : ℕ) → Continues g h → a < length g.nodes → a < length h.nodes
there_still g h a grown at = omega (arith, ap length grown.front, at, length-take (length g.nodes) h.nodes)

pub Stands-kept : {g h : Graph} {a : ℕ} {t : Tree} {w : ℕ} {F : List ℕ → BitVector} → Continues g h →
    Stands g a t w F → Stands h a t w F
Stands-kept {g = g} {h = h} {a = a} grown s = record {
  there = there_still g h a grown s.there;
  tree = tree-grown g h a grown s.there ∙ s.tree;
  width = width-grown g h a grown s.there ∙ s.width;
  value = λ input bytes. value-grown g h a input grown s.there ∙ s.value input bytes;
}

-- a term of 32 bits after a step
pub Stands-grown : {g h : Graph} (a w : ℕ) → Continues g h → width_of g a ≡ w → 0 < w →
    Stands h a (tree_of g a) w (λ input. val g a input)
Stands-grown {g = g} a w grown e some = Stands-kept grown (Stands-itself g a w e some)

pub if_ok : {A E : Type 0} (r : Result A E) (P Q : A → Type 0) → IfOk r P →
    ((x : A) → P x → Q x) → IfOk r Q
if_ok (Ok x) P Q p f = f x p
if_ok (Err e) P Q p f = tt

pub on_ok : {A E P : Type 0} (r : Result A E) → P → OnOk r P
on_ok (Ok x) p = p
on_ok (Err e) p = tt

-- ---- a step of one, two or three operands, by what they are
pub one_step : {g h : Graph} {a id : ℕ} {s : Tree} {w k : ℕ} {F : List ℕ → BitVector} (make : Tree → Tree) (worth : BitVector → BitVector) →
    Stands g a s w F → Stands h id (make (tree_of g a)) k (λ input. worth (val g a input)) →
    Stands h id (make s) k (λ input. worth (F input))
one_step make worth first n = record {
  there = n.there;
  tree = n.tree ∙ ap make first.tree;
  width = n.width;
  value = λ input bytes. n.value input bytes ∙ ap worth (first.value input bytes);
}

pub two_step : {g h : Graph} {a b id : ℕ} {s t : Tree} {w v k : ℕ} {F G : List ℕ → BitVector} (make : Tree → Tree → Tree)
    (worth : BitVector → BitVector → BitVector) → Stands g a s w F → Stands g b t v G →
    Stands h id (make (tree_of g a) (tree_of g b)) k (λ input. worth (val g a input) (val g b input)) →
    Stands h id (make s t) k (λ input. worth (F input) (G input))
two_step {g = g} {b = b} {s = s} {F = F} make worth first second n = record {
  there = n.there;
  tree = n.tree ∙ ap (λ r. make r (tree_of g b)) first.tree ∙ ap (make s) second.tree;
  width = n.width;
  value = λ input bytes. n.value input bytes ∙ ap (λ r. worth r (val g b input)) (first.value input bytes)
      ∙ ap (worth (F input)) (second.value input bytes);
}

pub three_step : {g h : Graph} {c a b id : ℕ} {r s t : Tree} {u w v k : ℕ} {C F G : List ℕ → BitVector} (make : Tree → Tree → Tree → Tree)
    (worth : BitVector → BitVector → BitVector → BitVector) → Stands g c r u C → Stands g a s w F → Stands g b t v G →
    Stands h id (make (tree_of g c) (tree_of g a) (tree_of g b)) k (λ input. worth (val g c input) (val g a input) (val g b input)) →
    Stands h id (make r s t) k (λ input. worth (C input) (F input) (G input))
three_step {g = g} {a = a} {b = b} {r = r} {s = s} {C = C} {F = F} make worth condition first second n = record {
  there = n.there;
  tree = n.tree ∙ ap (λ k. make k (tree_of g a) (tree_of g b)) condition.tree
      ∙ ap (λ k. make r k (tree_of g b)) first.tree ∙ ap (make r s) second.tree;
  width = n.width;
  value = λ input bytes.
      n.value input bytes ∙ ap (λ k. worth k (val g a input) (val g b input)) (condition.value input bytes)
      ∙ ap (λ k. worth (C input) k (val g b input)) (first.value input bytes) ∙ ap (worth (C input) (F input)) (second.value input bytes);
}

-- the same width in other words
pub at_width : {g : Graph} {id : ℕ} {t : Tree} {w v : ℕ} {F : List ℕ → BitVector} → w ≡ v → Stands g id t w F → Stands g id t v F
at_width e s = record { there = s.there; tree = s.tree; width = s.width ∙ e; value = s.value }

-- the same tree in other words
pub at_tree : {g : Graph} {id : ℕ} {s t : Tree} {w : ℕ} {F : List ℕ → BitVector} → s ≡ t → Stands g id s w F → Stands g id t w F
at_tree e n = record { there = n.there; tree = n.tree ∙ e; width = n.width; value = n.value }

-- ---- each kind of node
pub not_step : {g h : Graph} {a id : ℕ} {s : Tree} {w : ℕ} {F : List ℕ → BitVector} →
    Stands g a s w F →
    Stands h id (complement_of (tree_of g a)) (width_of g a) (λ input. bvnot (val g a input)) →
    Stands h id (complement_of s) w (λ input. bvnot (F input))
not_step first n = at_width first.width (one_step complement_of bvnot first n)

pub neg_step : {g h : Graph} {a id : ℕ} {s : Tree} {w : ℕ} {F : List ℕ → BitVector} →
    Stands g a s w F →
    Stands h id (negative_of (tree_of g a)) (width_of g a) (λ input. bvneg (val g a input)) →
    Stands h id (negative_of s) w (λ input. bvneg (F input))
neg_step first n = at_width first.width (one_step negative_of bvneg first n)

pub extract_step : {g h : Graph} {a id : ℕ} {s : Tree} {w : ℕ} {F : List ℕ → BitVector} (high low k : ℕ) →
    k ≡ high - low + 1 → Stands g a s w F →
    Stands h id (part_of high low (tree_of g a)) (high - low + 1) (λ input. extract high low (val g a input)) →
    Stands h id (part_of high low s) k (λ input. extract high low (F input))
extract_step high low k e first n = at_width (sym e) (one_step (part_of high low) (extract high low) first n)

pub extend_step : {g h : Graph} {a id : ℕ} {s : Tree} {w : ℕ} {F : List ℕ → BitVector} (by : ℕ) (signed : Bool) →
    Stands g a s w F →
    Stands h id (extension_by by signed (tree_of g a)) (width_of g a + by) (λ input. extend signed by (val g a input)) →
    Stands h id (extension_by by signed s) (w + by) (λ input. extend signed by (F input))
extend_step by signed first n = at_width (ap (λ k. k + by) first.width) (one_step (extension_by by signed) (extend signed by) first n)

pub concat_step : {g h : Graph} {a b id : ℕ} {s t : Tree} {w v : ℕ} {F G : List ℕ → BitVector} →
    Stands g a s w F → Stands g b t v G →
    Stands h id (joined_of (tree_of g a) (tree_of g b)) (width_of g a + width_of g b)
    (λ input. concat (val g a input) (val g b input)) →
    Stands h id (joined_of s t) (w + v) (λ input. concat (F input) (G input))
concat_step {g = g} {b = b} {w = w} first second n =
    at_width (ap (λ k. k + width_of g b) first.width ∙ ap (λ k. w + k) second.width) (two_step joined_of concat first second n)

pub binary_step : {g h : Graph} {a b id : ℕ} {s t : Tree} {w v : ℕ} {F G : List ℕ → BitVector} (op : BinaryOp) →
    Stands g a s w F → Stands g b t v G →
    Stands h id (binary_of op (tree_of g a) (tree_of g b)) (width_of g a) (λ input. binary op (val g a input) (val g b input)) →
    Stands h id (binary_of op s t) w (λ input. binary op (F input) (G input))
binary_step op first second n = at_width first.width (two_step (binary_of op) (binary op) first second n)

pub compare_step : {g h : Graph} {a b id : ℕ} {s t : Tree} {w v : ℕ} {F G : List ℕ → BitVector} (op : Comparison) →
    Stands g a s w F → Stands g b t v G →
    Stands h id (comparison_of op (tree_of g a) (tree_of g b)) 1 (λ input. compare op (val g a input) (val g b input)) →
    Stands h id (comparison_of op s t) 1 (λ input. compare op (F input) (G input))
compare_step op first second n = two_step (comparison_of op) (compare op) first second n

pub ite_step : {g h : Graph} {c a b id : ℕ} {r s t : Tree} {u w v : ℕ} {C F G : List ℕ → BitVector} →
    Stands g c r u C → Stands g a s w F → Stands g b t v G →
    Stands h id (choice_of (tree_of g c) (tree_of g a) (tree_of g b)) (width_of g a)
    (λ input. ite (val g c input) (val g a input) (val g b input)) →
    Stands h id (choice_of r s t) w (λ input. ite (C input) (F input) (G input))
ite_step condition first second n = at_width first.width (three_step choice_of ite condition first second n)

-- ---- calls of several steps, by what their operands are
pub signed_step : {g h : Graph} {c a id : ℕ} {r s : Tree} {u w : ℕ} {C F : List ℕ → BitVector} →
    Stands g c r u C → Stands g a s w F →
    Stands h id (signed_tree (tree_of g c) (tree_of g a)) 32 (λ input. signed_word (val g c input) (val g a input)) →
    Stands h id (signed_tree r s) 32 (λ input. signed_word (C input) (F input))
signed_step bit first n = two_step signed_tree signed_word bit first n

pub or_ones_step : {g h : Graph} {a b id : ℕ} {s t : Tree} {w v : ℕ} {F G : List ℕ → BitVector} →
    Stands g a s w F → Stands g b t v G →
    Stands h id (or_ones_tree (tree_of g a) (tree_of g b)) 32 (λ input. or_ones_word (val g a input) (val g b input)) →
    Stands h id (or_ones_tree s t) 32 (λ input. or_ones_word (F input) (G input))
or_ones_step first second n = two_step or_ones_tree or_ones_word first second n

pub sign_step : {g h : Graph} {a id : ℕ} {s : Tree} {w : ℕ} {F : List ℕ → BitVector} →
    Stands g a s w F →
    Stands h id (sign_tree (tree_of g a)) 1 (λ input. sign_word (val g a input)) →
    Stands h id (sign_tree s) 1 (λ input. sign_word (F input))
sign_step first n = one_step sign_tree sign_word first n

pub magnitude_step : {g h : Graph} {a id : ℕ} {s : Tree} {w : ℕ} {F : List ℕ → BitVector} →
    Stands g a s w F →
    Stands h id (magnitude_tree (tree_of g a)) 32 (λ input. magnitude_word (val g a input)) →
    Stands h id (magnitude_tree s) 32 (λ input. magnitude_word (F input))
magnitude_step first n = one_step magnitude_tree magnitude_word first n

-- ---- the machine's trees
pub as_quotient : {g : Graph} {id : ℕ} {F : List ℕ → BitVector} (s t : Tree) →
    Stands g id (or_ones_tree t (signed_quotient_tree s t)) 32 F →
    Stands g id (quotient_tree s t) 32 F
unfolding quotient_tree
as_quotient s t n = n

pub as_remainder : {g : Graph} {id : ℕ} {F : List ℕ → BitVector} (s t : Tree) →
    Stands g id (signed_tree (sign_tree s) (binary_of Urem (magnitude_tree s) (magnitude_tree t))) 32 F →
    Stands g id (remainder_tree s t) 32 F
unfolding remainder_tree
as_remainder s t n = n

pub as_upper : {g : Graph} {id : ℕ} {F : List ℕ → BitVector} (first second : Bool) (s t : Tree) →
    Stands g id (part_of 63 32 (binary_of Mul (extension_by 32 first s) (extension_by 32 second t))) 32 F →
    Stands g id (upper_tree first second s t) 32 F
unfolding upper_tree
as_upper first second s t n = n

-- the same value in other words
pub Stands-worth : {g : Graph} {id : ℕ} {t : Tree} {w : ℕ} {F G : List ℕ → BitVector} →
    ((input : List ℕ) → All (λ b. b < 256) input → F input ≡ G input) → Stands g id t w F →
    Stands g id t w G
Stands-worth same s = record {
  there = s.there;
  tree = s.tree;
  width = s.width;
  value = λ input
      bytes. s.value input bytes ∙ same input bytes;
}

-- a tree that stays is a term
pub term_before : {g h : Graph} (a w : ℕ) → Continues g h → width_of g a ≡ w → 0 < w →
    IsTerm h.inputs (tree_of h a) → IsTerm g.inputs (tree_of g a)
term_before {g = g} {h = h} a w grown e some term =
    subst (λ k. IsTerm k (tree_of g a)) grown.inputs (subst (IsTerm h.inputs) (tree-grown g h a grown (there g a w e some)) term)

-- and its value is of 32 bits
pub of_32 : (g : Graph) (a : ℕ) (input : List ℕ) → All (λ b. b < 256) input →
    IsTerm g.inputs (tree_of g a) → width_of g a ≡ 32 → IsOfWidth 32 (val g a input)
of_32 g a input bytes term e =
    let p : IsOfWidth (tree_width (tree_of g a)) (tree_value input (tree_of g a)) = in_range g.inputs input bytes (tree_of g a) term in
    subst (IsOfWidth 32) (value-tree_of g a input) (subst
    (λ w. IsOfWidth w (tree_value input (tree_of g a))) (width-tree_of g a ∙ e) p)
