-- A widened sum that doesn't wrap is worth what that of its widened operands is.
use Rattle.std.proofs.Common.{◌≡◌, ◌∙◌, ℕ, ◌+◌, ◌<◌, ◌≤◌, true, false, cond, List, refl, ap, sym, arith, max}
use Rattle.std.specs.List.{All}
use Rattle.std.proofs.Math.Nat.{le-max_left, le-max_right}
use Rattle.bv_dag.specs.BitVectors.{BitVector, bvadd, zero_extend}
use Rattle.bv_dag.specs.Nodes.{binary, extend}
use Rattle.bv_dag.specs.declared.nodes.BinaryOp.{BinaryOp}
use Rattle.bv_dag.specs.declared.nodes.BinaryOp.TheVariants.{Add}
use Rattle.term_trees.specs.Trees.{Tree, Two, Widened, tree_width, tree_value, IsTerm, IsOfWidth}
use Rattle.term_trees.proofs.Ranges.{in_range}
use Rattle.term_simplify.specs.Narrowing.{reach_of}
use Rattle.term_simplify.specs.Plain.{extension_by}
use Rattle.term_simplify.specs.WideSums.{is_exact, operands_widened, widened_two, widened_within}
use Rattle.term_simplify.specs.declared.narrowing.Reach.{Reach}
use Rattle.term_simplify.proofs.ExtensionRules.{value-extension_by}
use Rattle.term_simplify.proofs.NarrowRanges.{IsReach, told}
use Rattle.term_simplify.proofs.PartTerms.{term-extension_by, width-extension_by}
use Rattle.term_simplify.proofs.UnsignedNarrowing.{same_cut, sum_small}
use Rattle.term_simplify.proofs.Words.{is_at_most}

-- ---- two bit-vectors of w bits, and both widened
module _ (w by : ℕ) (a b : Reach) (x y : BitVector) (p : IsOfWidth w x) (q : IsOfWidth w y) (first : IsReach w a x) (second : IsReach w b y) where
  abbrev pub most : ℕ
  most = max a.unsigned b.unsigned

  pub zeros_exact : most + 1 ≤ w → zero_extend by (bvadd x y) ≡ bvadd (zero_extend by x) (zero_extend by y)
  unfolding bvadd zero_extend
  zeros_exact fits =
      ap {B = BitVector} (λ k. record { width = x.width + by; number = k })
      (same_cut x.width (x.width + by) (x.number + y.number) (omega arith)
      (rw p.width (sum_small w a.unsigned b.unsigned x.number y.number first.few second.few
      (omega (arith, fits, le-max_left a.unsigned b.unsigned)) (omega (arith, fits, le-max_right a.unsigned b.unsigned)))))

-- ---- trees
module _ (inputs : ℕ) (input : List ℕ) (bytes : All (λ b. b < 256) input) where
  module _ (by : ℕ) (s t : Tree) (p : IsTerm inputs s) (q : IsTerm inputs t) (same : tree_width s ≡ tree_width t) (some : 1 ≤ by) (room : tree_width s + by ≤ 64) where
    abbrev pub x : BitVector
    x = tree_value input s

    abbrev pub y : BitVector
    y = tree_value input t

    first_widened : IsTerm inputs (Widened by false s)
    first_widened = (p, some, room)

    second_widened : IsTerm inputs (Widened by false t)
    second_widened = (q, some, omega (arith, room, same))

    first_own : IsOfWidth (tree_width s) x
    first_own = in_range inputs input bytes s p

    second_own : IsOfWidth (tree_width s) y
    second_own = rw same (in_range inputs input bytes t q)

    first_told : IsReach (tree_width s) (reach_of s) x
    first_told = told inputs input bytes s p

    second_told : IsReach (tree_width s) (reach_of t) y
    second_told = rw same (told inputs input bytes t q)

    exact : (op : BinaryOp) → is_exact op s t ≡ true → extend false by (binary op x y) ≡ binary op (extend false by x) (extend false by y)
    exact Add e =
        zeros_exact (tree_width s) by (reach_of s) (reach_of t) x y first_own second_own first_told second_told (is_at_most _ _ e)
    exact op e = cc

    -- the sum of the widened operands
    pub term_apart : (op : BinaryOp) → IsTerm inputs (Two op (extension_by by false s) (extension_by by false t))
    term_apart op = (
      term-extension_by inputs by false s first_widened,
      term-extension_by inputs by false t second_widened,
      width-extension_by by false s ∙ ap (λ k. k + by) same ∙ sym (width-extension_by by false t),
    )

    pub value_apart : (op : BinaryOp) → is_exact op s t ≡ true →
        tree_value input (Two op (extension_by by false s) (extension_by by false t)) ≡ tree_value input (Widened by false (Two op s t))
    value_apart op e =
        ap (λ v. binary op v (tree_value input (extension_by by false t))) (value-extension_by inputs input by false s bytes first_widened)
        ∙ ap (binary op (extend false by x)) (value-extension_by inputs input by false t bytes second_widened)
        ∙ sym (exact op e)

  -- a term that is worth as much, and is as wide
  pub record IsSame (t u : Tree) : Type 0 where
    pub term : IsTerm inputs u
    pub wide : tree_width u ≡ tree_width t
    pub worth : tree_value input u ≡ tree_value input t

  same_itself : (t : Tree) → IsTerm inputs t → IsSame t t
  same_itself t term = record { term = term; wide = refl; worth = refl }

  same_two : (by : ℕ) (op : BinaryOp) (s t : Tree) → IsTerm inputs (Widened by false (Two op s t)) →
      IsSame (Widened by false (Two op s t)) (widened_two by op s t)
  same_two by op s t term =
      elim (is_exact op s t) as (λ k. is_exact op s t ≡ k → IsSame (Widened by false (Two op s t))
      (cond k (Two op (extension_by by false s) (extension_by by false t)) (Widened by false (Two op s t)))) [
        | true ↦ λ e. record {
          term = term_apart by s t term.0.0 term.0.1 term.0.2 term.1 term.2 op;
          wide = width-extension_by by false s;
          worth = value_apart by s t term.0.0 term.0.1 term.0.2 term.1 term.2 op e;
        }
        | false ↦ λ e. same_itself (Widened by false (Two op s t)) term
      ] refl

  same_within : (by : ℕ) (t : Tree) → IsTerm inputs (Widened by false t) → IsSame (Widened by false t) (widened_within by t)
  same_within by (Two op s t) term = same_two by op s t term
  same_within by t term = same_itself (Widened by false t) term

  pub same-operands_widened : (t : Tree) → IsTerm inputs t → IsSame t (operands_widened t)
  same-operands_widened (Widened by false t) term = same_within by t term
  same-operands_widened t term = same_itself t term
