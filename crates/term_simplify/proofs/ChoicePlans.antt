-- The rules of choices, as the plans go through them.
use Rattle.std.proofs.Common.{◌≡◌, ℕ, refl, sym, ◌∙◌, Some, None}
use Rattle.std.specs.Prelude.{Option}
use Rattle.bv_dag.specs.BitVectors.{BitVector}
use Rattle.term_trees.specs.Trees.{Tree}
use Rattle.term_simplify.specs.Plain.{tree_number, choice_between, plain_choice}
use Rattle.term_simplify.proofs.Words.{tests_equal, tests_unequal}

module _ (c s t : Tree) (r : Option BitVector) (e : r ≡ tree_number c) where
  pub chosen_yes : (x : BitVector) (n : ℕ) → r ≡ Some x → n ≡ x.number → n ≡ 1 → plain_choice c s t ≡ s
  unfolding plain_choice
  chosen_yes x n is value one = rw (← e, is, tests_equal x.number 1 (sym value ∙ one)) refl

  pub chosen_no : (x : BitVector) (n : ℕ) → r ≡ Some x → n ≡ x.number → (n ≡ 1 → ⊥) →
      plain_choice c s t ≡ t
  unfolding plain_choice
  chosen_no x n is value other = rw (← e, is, tests_unequal x.number 1 (λ same. other (value ∙ same))) refl

  pub choice_open : (x y : Option BitVector) → r ≡ None → x ≡ tree_number s → y ≡ tree_number t →
      plain_choice c s t ≡ choice_between x y c s t
  unfolding plain_choice
  choice_open x y is f g = rw (← e, is, ← f, ← g) refl
