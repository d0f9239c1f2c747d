-- Nodes whose operands have other names.
use Rattle.std.proofs.Common.{◌≡◌, ℕ, ◌<◌, List, [], ◌∷◌, get_or, map, refl, sym, ◌∙◌, arith, inl, inr}
use Rattle.std.specs.Prelude.{Contains}
use Rattle.bv_dag.specs.Nodes.{Fits}
use Rattle.bv_dag.specs.declared.nodes.Node.{Node}
use Rattle.bv_dag.specs.declared.nodes.Node.TheVariants.{Num, Input, Not, Neg, Binary, Compare, Ite, Extract, Extend, Concat}
use Rattle.term_trees.specs.Trees.{Tree, node_tree}
use Rattle.query_pick.specs.Operands.{operands, renamed}
use Rattle.query_pick.proofs.Lists.{Contains-here, Contains-later, Contains-map, Contains-uncons, Contains-none}

pub first_of_two : (a b : ℕ) → Contains (a ∷ b ∷ []) a
first_of_two a b = Contains-here a (b ∷ []) a refl

pub second_of_two : (a b : ℕ) → Contains (a ∷ b ∷ []) b
second_of_two a b = Contains-later a (b ∷ []) b (Contains-here b [] b refl)

-- the tree of a node rests on its operands alone
pub node_tree-same : (f g : ℕ → Tree) (n : Node) → ((k : ℕ) → Contains (operands n) k → f k ≡ g k) → node_tree f n ≡ node_tree g n
node_tree-same f g (Num w v) same = refl
node_tree-same f g (Input i) same = refl
node_tree-same f g (Not a) same = cc (same a (Contains-here a [] a refl))
node_tree-same f g (Neg a) same = cc (same a (Contains-here a [] a refl))
node_tree-same f g (Binary op a b) same = cc (same a (first_of_two a b), same b (second_of_two a b))
node_tree-same f g (Compare op a b) same = cc (same a (first_of_two a b), same b (second_of_two a b))
node_tree-same f g (Ite c a b) same = cc (same c (Contains-here c (a ∷ b ∷ []) c refl), same a (Contains-later c (a ∷ b ∷ []) a (first_of_two a b)), same b (Contains-later c (a ∷ b ∷ []) b (second_of_two a b)))
node_tree-same f g (Extract high low a) same = cc (same a (Contains-here a [] a refl))
node_tree-same f g (Extend by signed a) same = cc (same a (Contains-here a [] a refl))
node_tree-same f g (Concat a b) same = cc (same a (first_of_two a b), same b (second_of_two a b))

-- the tree of a renamed node
pub node_tree-renamed : (g : ℕ → Tree) (f : ℕ → ℕ) (n : Node) → node_tree (λ k. g (f k)) n ≡ node_tree g (renamed f n)
node_tree-renamed g f (Num w v) = refl
node_tree-renamed g f (Input i) = refl
node_tree-renamed g f (Not a) = refl
node_tree-renamed g f (Neg a) = refl
node_tree-renamed g f (Binary op a b) = refl
node_tree-renamed g f (Compare op a b) = refl
node_tree-renamed g f (Ite c a b) = refl
node_tree-renamed g f (Extract high low a) = refl
node_tree-renamed g f (Extend by signed a) = refl
node_tree-renamed g f (Concat a b) = refl

-- a node fits where its renamed self does, if its operands are as wide
pub Fits-renamed : (inputs : ℕ) (before after : List ℕ) (f : ℕ → ℕ) (n : Node) → ((k : ℕ) → Contains (operands n) k → get_or after k 0 ≡ get_or before (f k) 0) → Fits inputs before (renamed f n) → Fits inputs after n
Fits-renamed inputs before after f (Num w v) wide fits = fits
Fits-renamed inputs before after f (Input i) wide fits = fits
Fits-renamed inputs before after f (Not a) wide fits = omega (arith, fits, wide a (Contains-here a [] a refl))
Fits-renamed inputs before after f (Neg a) wide fits = omega (arith, fits, wide a (Contains-here a [] a refl))
Fits-renamed inputs before after f (Binary op a b) wide fits =
    (omega (arith, fits.0, wide a (first_of_two a b)), wide a (first_of_two a b) ∙ fits.1 ∙ sym (wide b (second_of_two a b)))
Fits-renamed inputs before after f (Compare op a b) wide fits =
    (omega (arith, fits.0, wide a (first_of_two a b)), wide a (first_of_two a b) ∙ fits.1 ∙ sym (wide b (second_of_two a b)))
Fits-renamed inputs before after f (Ite c a b) wide fits =
    let at_a = wide a (Contains-later c (a ∷ b ∷ []) a (first_of_two a b)) in
    let at_b = wide b (Contains-later c (a ∷ b ∷ []) b (second_of_two a b)) in
    (wide c (Contains-here c (a ∷ b ∷ []) c refl) ∙ fits.0, omega (arith, fits.1, at_a), at_a ∙ fits.2 ∙ sym at_b)
Fits-renamed inputs before after f (Extract high low a) wide fits = (fits.0, omega (arith, fits.1, wide a (Contains-here a [] a refl)))
Fits-renamed inputs before after f (Extend by signed a) wide fits =
    let at_a = wide a (Contains-here a [] a refl) in
    (omega (arith, fits.0, at_a), fits.1, omega (arith, fits.2, at_a))
Fits-renamed inputs before after f (Concat a b) wide fits =
    let at_a = wide a (first_of_two a b) in
    let at_b = wide b (second_of_two a b) in
    (omega (arith, fits.0, at_a), omega (arith, fits.1, at_b), omega (arith, fits.2, at_a, at_b))

only : (a k : ℕ) → Contains (a ∷ []) k → k ≡ a
only a k h = elim (Contains-uncons a [] k h) [ inl e ↦ e | inr none ↦ Contains-none k none (k ≡ a) ]

-- what an operand has to be: of the widths before a node that fits, its own is not 0
one_of : (ws : List ℕ) (a k : ℕ) → 0 < get_or ws a 0 → Contains (a ∷ []) k → 0 < get_or ws k 0
one_of ws a k some h = let e : k ≡ a = only a k h in rw e some

two_of : (ws : List ℕ) (a b k : ℕ) → 0 < get_or ws a 0 → 0 < get_or ws b 0 → Contains (a ∷ b ∷ []) k → 0 < get_or ws k 0
two_of ws a b k p q h = elim (Contains-uncons a (b ∷ []) k h) [ inl e ↦ rw e p | inr rest ↦ one_of ws b k q rest ]

pub operand_wide : (inputs : ℕ) (ws : List ℕ) (n : Node) (k : ℕ) → Fits inputs ws n → Contains (operands n) k → 0 < get_or ws k 0
operand_wide inputs ws (Num w v) k fits h = Contains-none k h _
operand_wide inputs ws (Input i) k fits h = Contains-none k h _
operand_wide inputs ws (Not a) k fits h = one_of ws a k fits h
operand_wide inputs ws (Neg a) k fits h = one_of ws a k fits h
operand_wide inputs ws (Binary op a b) k fits h = two_of ws a b k fits.0 (omega (arith, fits.0, fits.1)) h
operand_wide inputs ws (Compare op a b) k fits h = two_of ws a b k fits.0 (omega (arith, fits.0, fits.1)) h
operand_wide inputs ws (Ite c a b) k fits h =
    elim (Contains-uncons c (a ∷ b ∷ []) k h) [
      | inl e ↦ rw e (omega (arith, fits.0))
      | inr rest ↦ two_of ws a b k fits.1 (omega (arith, fits.1, fits.2)) rest
    ]
operand_wide inputs ws (Extract high low a) k fits h = one_of ws a k (omega (arith, fits.1)) h
operand_wide inputs ws (Extend by signed a) k fits h = one_of ws a k fits.0 h
operand_wide inputs ws (Concat a b) k fits h = two_of ws a b k fits.0 fits.1 h

-- the operands of a renamed node
pub operands-renamed : (f : ℕ → ℕ) (n : Node) → operands (renamed f n) ≡ map f (operands n)
operands-renamed f (Num w v) = refl
operands-renamed f (Input i) = refl
operands-renamed f (Not a) = refl
operands-renamed f (Neg a) = refl
operands-renamed f (Binary op a b) = refl
operands-renamed f (Compare op a b) = refl
operands-renamed f (Ite c a b) = refl
operands-renamed f (Extract high low a) = refl
operands-renamed f (Extend by signed a) = refl
operands-renamed f (Concat a b) = refl

-- what an operand becomes is an operand of the renamed node
pub operand_renamed : (f : ℕ → ℕ) (n m : Node) (k : ℕ) → renamed f n ≡ m → Contains (operands n) k → Contains (operands m) (f k)
operand_renamed f n m k e h = rw (sym e, operands-renamed f n) (Contains-map f (operands n) k h)
