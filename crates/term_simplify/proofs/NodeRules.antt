-- What a node is at its own width is worth what the node's own tree is worth.
use Rattle.std.proofs.Common.{◌≡◌, ℕ, ◌<◌, List, refl}
use Rattle.std.specs.List.{All}
use Rattle.bv_dag.specs.declared.nodes.Node.{Node}
use Rattle.bv_dag.specs.declared.nodes.Node.TheVariants.{Num, Input, Not, Neg, Binary, Compare, Ite, Extract, Extend, Concat}
use Rattle.term_trees.specs.Trees.{Tree, node_tree, tree_value, IsTerm}
use Rattle.term_simplify.specs.Plain.{plain}
use Rattle.term_simplify.proofs.BinaryRules.{value-plain_binary}
use Rattle.term_simplify.proofs.TestRules.{value-complement_of, value-plain_negative, value-plain_comparison}
use Rattle.term_simplify.proofs.ChoiceRules.{value-plain_choice}
use Rattle.term_simplify.proofs.LiftRules.{value-part_of}
use Rattle.term_simplify.proofs.ExtensionRules.{value-extension_by, value-joined_of}

pub value-plain : (inputs : ℕ) (input : List ℕ) → All (λ b. b < 256) input →
    (f : ℕ → Tree) (n : Node) → IsTerm inputs (node_tree f n) →
    tree_value input (plain f n) ≡ tree_value input (node_tree f n)
value-plain inputs input bytes f (Num w v) term = refl
value-plain inputs input bytes f (Input i) term = refl
value-plain inputs input bytes f (Not a) term = value-complement_of inputs input (f a) bytes term
value-plain inputs input bytes f (Neg a) term = value-plain_negative inputs input (f a) bytes term
value-plain inputs input bytes f (Binary op a b) term = value-plain_binary inputs input op (f a) (f b) bytes term
value-plain inputs input bytes f (Compare op a b) term = value-plain_comparison inputs input op (f a) (f b) bytes term
value-plain inputs input bytes f (Ite c a b) term = value-plain_choice inputs input (f c) (f a) (f b) bytes term
value-plain inputs input bytes f (Extract high low a) term = value-part_of inputs input bytes
    (f a) high low term.0 term.1 term.2
value-plain inputs input bytes f (Extend by signed a) term = value-extension_by inputs input by signed (f a) bytes term
value-plain inputs input bytes f (Concat a b) term = value-joined_of inputs input (f a) (f b) bytes term
