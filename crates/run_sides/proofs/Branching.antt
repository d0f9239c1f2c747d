-- The sides of a branch.
use Rattle.std.proofs.Common.{◌≡◌, ℕ, ◌+◌, ◌<◌, Bool, true, false, ◌&&◌, List, [], ◌∷◌, ◌++◌, refl, sym, ap, subst, ◌∙◌}
use Rattle.std.specs.Prelude.{All, Some, ◌==◌, not}
use Rattle.bv_dag.specs.Graphs.{Graph, number_of, width_of}
use Rattle.fork_spec.specs.Decisions.{Side as OnSide}
use Rattle.tree_core.specs.Choices.{IsSmallChoice}
use Rattle.rv_spec.specs.Arithmetic.{one_where}
use Rattle.sym_state.specs.Moves.{MakesTerm}
use Rattle.sym_state.specs.Narrowed.{IsNarrowed}
use Rattle.sym_state.specs.Symbolic.{Symbolic, IsFormed, stands_for}
use Rattle.sym_state.specs.Undecided.{IsBranch}
use Rattle.sym_state.specs.declared.decided.Decided.TheVariants.{Side}
use Rattle.sym_state.proofs.Grown.{Continues-refl}
use Rattle.sym_state.proofs.Tests.{not_false, not_true, one_is}
use Rattle.sym_state.proofs.Undecided.{decision_there}
use Rattle.term_trees.specs.Growth.{Continues}
use Rattle.tree_core.specs.Covers.{one_if}
use Rattle.run_sides.specs.Narrowing.{IsForced, IsNarrower}
use Rattle.run_sides.specs.Sides.{IsSideTested, branch_choice, is_side}
use Rattle.run_sides.specs.declared.branch.Tested.{Tested}
use Rattle.run_sides.proofs.Sides.{narrower, side_run, stands-narrowed}

-- the term itself is 1 where the branch is taken
pub tested_yes : (s : Symbolic) (term : ℕ) → IsFormed s → width_of s.terms term ≡ 1 → IsSideTested s term true (record { run = s; test = term })
tested_yes s term formed bit = record { formed = formed; same = refl; continues = Continues-refl s.terms; bit = bit; tells = λ input bytes. refl }

-- and its other where it isn't
pub tested_no : (s new : Symbolic) (term negated : ℕ) → MakesTerm s new 1 negated (λ input. one_where (not (number_of s.terms term input == 1)))
    → IsSideTested s term false (record { run = new; test = negated })
tested_no s new term negated makes = record {
  formed = makes.grown.before;
  same = makes.grown.same;
  continues = makes.gives.continues;
  bit = makes.gives.width;
  tells = λ input bytes. ap (λ n. n == 1) (makes.gives.worth input bytes) ∙ one_is (not (number_of s.terms term input == 1));
}

decides_side : (side : Bool) (n : ℕ) → is_side side n ≡ true → OnSide (n == 1) ≡ OnSide side
decides_side true n is = ap OnSide is
decides_side false n is = ap OnSide (not_true (n == 1) is)

-- a run on one side of a branch
pub side_narrower : (s : Symbolic) (g : Graph) (term test : ℕ) (side : Bool) → IsFormed s → IsBranch s term → Continues s.terms g
    → ((input : List ℕ) → All (λ b. b < 256) input → (number_of g test input == 1) ≡ is_side side (number_of s.terms term input))
    → IsNarrower s (side_run s g 1 (Side side) (branch_choice side) test) (branch_choice side) (λ input. is_side side (number_of s.terms term input))
side_narrower s g term test side formed at grown tells =
    narrower s g 1 1 term (Side side) (branch_choice side) test (λ input. is_side side (number_of s.terms term input))
    (λ input. OnSide (number_of s.terms term input == 1)) formed grown at tells
    (λ input is. decides_side side (number_of s.terms term input) is)

pub small_choice : (side : Bool) → IsSmallChoice (branch_choice side)
small_choice true = tt
small_choice false = tt

-- ---- A branch is settled where the other side has no assignment.
other_is : (side : Bool) (n : ℕ) → is_side (not side) n ≡ false → (n == 1) ≡ side
other_is true n h = not_false (n == 1) h
other_is false n h = h

pub branch_settled : (s : Symbolic) (term : ℕ) (side : Bool) → IsBranch s term
    → ((input : List ℕ) → stands_for s input ≡ true → is_side (not side) (number_of s.terms term input) ≡ false)
    → IsForced s 1 (Side side)
branch_settled s term side at none = record {
  in_range = at.in_range;
  unknown = at.unknown;
  settled = λ input stands.
      decision_there s 1 (λ i. OnSide (number_of s.terms term i == 1)) at.stands input stands
      ∙ ap Some (ap OnSide (other_is side (number_of s.terms term input) (none input stands)));
}

-- ---- A run that is narrowed by what is 1 on one side.
pub tested_narrowed : (s u : Symbolic) (term : ℕ) (side : Bool) (t : Tested) → IsSideTested s term side t
    → u ≡ record t.run { condition = t.run.condition ++ t.test ∷ [] }
    → IsNarrowed s u (λ input. is_side side (number_of s.terms term input))
tested_narrowed s u term side t is at =
    let g = t.run.terms in
    let form : u ≡ record s { terms = g; condition = s.condition ++ t.test ∷ [] }
    = at ∙ ap (λ (r : Symbolic). record r { condition = r.condition ++ t.test ∷ [] }) is.same in record {
      same = form
          ∙ ap (λ (r : Symbolic). record s { terms = r.terms; condition = r.condition; sample = r.sample }) (sym form);
      continues = subst (λ (r : Symbolic). Continues s.terms r.terms) (sym form) is.continues;
      covers = λ input.
          ap (λ (r : Symbolic). stands_for r input) form
          ∙ stands-narrowed s g 1 (Side side) (branch_choice side) t.test (λ i. is_side side (number_of s.terms term i)) is.formed is.continues is.tells input;
    }

-- an assignment is on one of the two sides
pub one_of_two : (met one : Bool) → one_if (met && not one) + (one_if (met && one) + 0) ≡ one_if met
one_of_two true true = refl
one_of_two true false = refl
one_of_two false one = refl
