-- Terms that are joined are a term, and as wide as both.
use Rattle.std.proofs.Common.{◌≡◌, ◌∙◌, ◌==◌, ℕ, ◌+◌, ◌<◌, false, [], Some, None, refl, arith}
use Rattle.std.specs.Prelude.{Option}
use Rattle.std.proofs.lemmas.List.Elements.{All-nil}
use Rattle.bv_dag.specs.BitVectors.{BitVector, concat}
use Rattle.term_trees.specs.Trees.{Tree, Joined, tree_width, IsTerm}
use Rattle.term_trees.proofs.Ranges.{in_range}
use Rattle.term_simplify.specs.Plain.{extension_by, join_of, joined_by, tree_number}
use Rattle.term_simplify.proofs.PartTerms.{as_number, chosen, chosen_width, some_bits, term-extension_by, width-extension_by}
use Rattle.term_simplify.proofs.Words.{number_value, number_width}

width-joined_by : (x y : Option BitVector) (s t : Tree) → tree_number s ≡ x → tree_number t ≡ y →
    tree_width (joined_by x y s t) ≡ tree_width s + tree_width t
unfolding concat
width-joined_by (Some x) (Some y) s t e f = omega (arith, number_width s x e, number_width t y f)
width-joined_by (Some x) None s t e f =
    chosen_width (tree_width s + tree_width t) (x.number == 0) (extension_by x.width false t) (Joined s t)
    (λ _. width-extension_by x.width false t ∙ omega (arith, number_width s x e)) (λ _. refl)
width-joined_by None y s t e f = refl

pub width-join_of : (s t : Tree) → tree_width (join_of s t) ≡ tree_width s + tree_width t
width-join_of s t = width-joined_by (tree_number s) (tree_number t) s t refl refl

term-joined_by : (inputs : ℕ) (x y : Option BitVector) (s t : Tree) → tree_number s ≡ x → tree_number t ≡ y →
    IsTerm inputs (Joined s t) → IsTerm inputs (joined_by x y s t)
term-joined_by inputs (Some x) (Some y) s t e f term =
    let bytes = All-nil (λ b. b < 256) in
    as_number (tree_width s + tree_width t) (concat x y)
    (rw (← number_value [] s x e, ← number_value [] t y f) (in_range inputs [] bytes (Joined s t) term))
term-joined_by inputs (Some x) None s t e f term =
    let wide : x.width ≡ tree_width s = number_width s x e in
    chosen inputs (x.number == 0) (extension_by x.width false t) (Joined s t)
    (λ _. term-extension_by inputs x.width false t (term.1, omega (arith, wide, some_bits inputs s term.0), omega (arith, wide, term.2)))
    (λ _. term)
term-joined_by inputs None y s t e f term = term

pub term-join_of : (inputs : ℕ) (s t : Tree) → IsTerm inputs (Joined s t) → IsTerm inputs (join_of s t)
term-join_of inputs s t term = term-joined_by inputs (tree_number s) (tree_number t) s t refl refl term
