-- A byte joined with one under each of some operands.
use Rattle.std.proofs.Common.{◌≡◌, ℕ, ◌<◌, inl, inr, List, [], ◌∷◌, length, Option, Some, None, refl, sym, subst, ◌∙◌, slice_index, arith}
use Rattle.std.specs.Prelude.{Contains}
use Rattle.query_pick.proofs.Lists.{Contains-here, Contains-later, Contains-none, Contains-uncons}
use Rattle.bv_dag.specs.Graphs.{Graph}
use Rattle.query_slice.specs.Classes.{first_under, joined, joined_all}
use Rattle.query_slice.proofs.Labels.{length-joined, joined_none, none_joined, kept_joined, one_joined, only_joined}

-- a byte, where there is one, is one of so many
abbrev pub IsBelow : ℕ → Option ℕ → Type 0
IsBelow n (Some i) = i < n
IsBelow n None = Unit {0}

-- two bytes, where there are both, are related
abbrev pub AreRelated : (ℕ → ℕ → Type 0) → Option ℕ → Option ℕ → Type 0
AreRelated R (Some i) (Some j) = R i j
AreRelated R (Some i) None = Unit {0}
AreRelated R None b = Unit {0}

-- bytes have the same label
abbrev pub HaveOne : List ℕ → ℕ → ℕ → Type 0
HaveOne labels i j = slice_index labels i ≡ slice_index labels j

-- bytes of one label are related
abbrev pub OnlyRelated : (ℕ → ℕ → Type 0) → ℕ → List ℕ → Type 0
OnlyRelated R n labels = (x y : ℕ) → x < n → y < n → slice_index labels x ≡ slice_index labels y → R x y

-- labels that were the same still are
abbrev pub Keeps : ℕ → List ℕ → List ℕ → Type 0
Keeps n old new = (x y : ℕ) → x < n → y < n → slice_index old x ≡ slice_index old y → slice_index new x ≡ slice_index new y

-- one joining
module _ (labels : List ℕ) (n : ℕ) (each : length labels ≡ n) where
  still : (i : ℕ) → i < n → i < length labels
  still i there = omega (arith, each, there)

  pub keeps : (a b : Option ℕ) → IsBelow n a → IsBelow n b → Keeps n labels (joined labels a b)
  keeps (Some i) (Some j) p q x y x_there y_there e = kept_joined labels i j (still i p) (still j q) x y (still x x_there) (still y y_there) e
  keeps (Some i) None p q x y x_there y_there e = subst (λ (ls : List ℕ). slice_index ls x ≡ slice_index ls y) (sym (joined_none labels (Some i))) e
  keeps None b p q x y x_there y_there e = subst (λ (ls : List ℕ). slice_index ls x ≡ slice_index ls y) (sym (none_joined labels b)) e

  pub makes_one : (a b : Option ℕ) → IsBelow n a → IsBelow n b → AreRelated (HaveOne (joined labels a b)) a b
  makes_one (Some i) (Some j) p q = one_joined labels i j (still i p) (still j q)
  makes_one (Some i) None p q = tt
  makes_one None b p q = tt

  module _ (R : ℕ → ℕ → Type 0) (turned : (x y : ℕ) → R x y → R y x) (in_row : (x y z : ℕ) → R x y → R y z → R x z) (before : OnlyRelated R n labels) where
    pub only : (a b : Option ℕ) → IsBelow n a → IsBelow n b → AreRelated R a b → OnlyRelated R n (joined labels a b)
    only (Some i) (Some j) p q related x y x_there y_there e =
        only_joined labels i j (still i p) (still j q) R turned in_row
        (λ v w v_there w_there. before v w (omega (arith, each, v_there)) (omega (arith, each, w_there))) related x y (still x x_there) (still y y_there) e
    only (Some i) None p q related x y x_there y_there e = before x y x_there y_there (subst (λ (ls : List ℕ). slice_index ls x ≡ slice_index ls y) (joined_none labels (Some i)) e)
    only None b p q related x y x_there y_there e = before x y x_there y_there (subst (λ (ls : List ℕ). slice_index ls x ≡ slice_index ls y) (none_joined labels b) e)

-- one label stays one
pub related-kept : (n : ℕ) (old new : List ℕ) (a b : Option ℕ) → IsBelow n a → IsBelow n b → Keeps n old new → AreRelated (HaveOne old) a b → AreRelated (HaveOne new) a b
related-kept n old new (Some i) (Some j) p q keep e = keep i j p q e
related-kept n old new (Some i) None p q keep e = tt
related-kept n old new None b p q keep e = tt

-- all in turn
module _ (graph : Graph) (first : Option ℕ) (n : ℕ) (first_below : IsBelow n first) (below : (a : ℕ) → IsBelow n (first_under graph a)) where
  pub length-joined_all : (labels operands : List ℕ) → length (joined_all graph first labels operands) ≡ length labels
  length-joined_all labels [] = refl
  length-joined_all labels (a ∷ operands) = length-joined_all (joined labels first (first_under graph a)) operands ∙ length-joined labels first (first_under graph a)

  next : (labels : List ℕ) (a : ℕ) → length labels ≡ n → length (joined labels first (first_under graph a)) ≡ n
  next labels a each = length-joined labels first (first_under graph a) ∙ each

  pub keeps_all : (labels operands : List ℕ) → length labels ≡ n → Keeps n labels (joined_all graph first labels operands)
  keeps_all labels [] each x y x_there y_there e = e
  keeps_all labels (a ∷ operands) each x y x_there y_there e =
      keeps_all (joined labels first (first_under graph a)) operands (next labels a each) x y x_there y_there
      (keeps labels n each first (first_under graph a) first_below (below a) x y x_there y_there e)

  pub makes_all : (labels operands : List ℕ) → length labels ≡ n → (a : ℕ) → Contains operands a → AreRelated (HaveOne (joined_all graph first labels operands)) first (first_under graph a)
  makes_all labels [] each a h = Contains-none a h _
  makes_all labels (b ∷ operands) each a h =
      elim (Contains-uncons b operands a h) [
        | inl e ↦
            subst (λ (k : ℕ). AreRelated (HaveOne (joined_all graph first labels (b ∷ operands))) first (first_under graph k)) (sym e)
            (related-kept n (joined labels first (first_under graph b)) (joined_all graph first labels (b ∷ operands)) first (first_under graph b) first_below (below b)
            (keeps_all (joined labels first (first_under graph b)) operands (next labels b each))
            (makes_one labels n each first (first_under graph b) first_below (below b)))
        | inr rest ↦ makes_all (joined labels first (first_under graph b)) operands (next labels b each) a rest
      ]

  module _ (R : ℕ → ℕ → Type 0) (turned : (x y : ℕ) → R x y → R y x) (in_row : (x y z : ℕ) → R x y → R y z → R x z) where
    pub only_all : (labels operands : List ℕ) → length labels ≡ n → OnlyRelated R n labels → ((a : ℕ) → Contains operands a → AreRelated R first (first_under graph a)) → OnlyRelated R n (joined_all graph first labels operands)
    only_all labels [] each before related = before
    only_all labels (a ∷ operands) each before related =
        only_all (joined labels first (first_under graph a)) operands (next labels a each)
        (only labels n each R turned in_row before first (first_under graph a) first_below (below a) (related a (Contains-here a operands a refl)))
        (λ b h. related b (Contains-later a operands b h))
