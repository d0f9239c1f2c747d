-- The operands of a term.
use Rattle.std.specs.Prelude.{◌↔◌, ◌⊎◌, ℕ, List, [], ◌∷◌, Contains}
use Rattle.bv_dag.specs.declared.nodes.Node.{Node}
use Rattle.bv_dag.specs.declared.nodes.Node.TheVariants.{Num, Input, Not, Neg, Binary, Compare, Ite, Extract, Extend, Concat}

-- the places that a node names
abbrev pub operands : Node → List ℕ
operands (Num w v) = []
operands (Input i) = []
operands (Not a) = a ∷ []
operands (Neg a) = a ∷ []
operands (Binary op a b) = a ∷ b ∷ []
operands (Compare op a b) = a ∷ b ∷ []
operands (Ite c a b) = c ∷ a ∷ b ∷ []
operands (Extract high low a) = a ∷ []
operands (Extend by signed a) = a ∷ []
operands (Concat a b) = a ∷ b ∷ []

-- the node with other places in their stead
abbrev pub renamed : (ℕ → ℕ) → Node → Node
renamed f (Num w v) = Num w v
renamed f (Input i) = Input i
renamed f (Not a) = Not (f a)
renamed f (Neg a) = Neg (f a)
renamed f (Binary op a b) = Binary op (f a) (f b)
renamed f (Compare op a b) = Compare op (f a) (f b)
renamed f (Ite c a b) = Ite (f c) (f a) (f b)
renamed f (Extract high low a) = Extract high low (f a)
renamed f (Extend by signed a) = Extend by signed (f a)
renamed f (Concat a b) = Concat (f a) (f b)

-- the new list has what the old one has, and these, and no other
abbrev pub Adds : (old new more : List ℕ) → Type 0
Adds old new more = (k : ℕ) → Contains new k ↔ (Contains more k ⊎ Contains old k)
