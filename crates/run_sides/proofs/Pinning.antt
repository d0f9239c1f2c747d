-- The side of a fork on which a term has a value.
use Rattle.std.proofs.Common.{◌≡◌, ℕ, true, List, ap, ◌∙◌}
use Rattle.std.specs.Prelude.{Some, ◌==◌}
use Rattle.bv_dag.specs.Graphs.{Graph, number_of}
use Rattle.fork_spec.specs.Decisions.{Number as Needs}
use Rattle.rv_spec.specs.Arithmetic.{one_where}
use Rattle.sym_state.specs.Symbolic.{Symbolic, IsFormed, stands_for}
use Rattle.sym_state.specs.Undecided.{IsPin}
use Rattle.sym_state.specs.Values.{GivesTerm}
use Rattle.sym_state.specs.declared.decided.Decided.TheVariants.{Number}
use Rattle.sym_state.proofs.Tests.{equals, one_is}
use Rattle.sym_state.proofs.Undecided.{decision_there}
use Rattle.tree_core.specs.declared.choice.Choice.TheVariants.{Value}
use Rattle.run_sides.specs.Narrowing.{IsForced, IsNarrower}
use Rattle.run_sides.proofs.Sides.{narrower, side_run}

pub value_narrower : (s : Symbolic) (g : Graph) (place term equal value : ℕ) → IsFormed s → IsPin s place term
    → GivesTerm s.terms g 1 equal (λ input. one_where (number_of s.terms term input == value))
    → IsNarrower s (side_run s g place (Number value) (Value value) equal) (Value value) (λ input. number_of s.terms term input == value)
value_narrower s g place term equal value formed at gives =
    narrower s g place 32 term (Number value) (Value value) equal (λ input. number_of s.terms term input == value)
    (λ input. Needs (number_of s.terms term input)) formed gives.continues at
    (λ input bytes. ap (λ n. n == 1) (gives.worth input bytes) ∙ one_is (number_of s.terms term input == value))
    (λ input is. ap Needs (equals _ _ is))

-- a number is known where the term has no other value
pub pin_settled : (s : Symbolic) (place term value : ℕ) → IsPin s place term
    → ((input : List ℕ) → stands_for s input ≡ true → number_of s.terms term input ≡ value) → IsForced s place (Number value)
pin_settled s place term value at one = record {
  in_range = at.in_range;
  unknown = at.unknown;
  settled = λ input stands.
      decision_there s place (λ i. Needs (number_of s.terms term i)) at.stands input stands
      ∙ ap (λ n. Some (Needs n)) (one input stands);
}
