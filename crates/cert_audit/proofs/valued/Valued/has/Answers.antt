use Rattle.std.proofs.Common.{◌≡◌, ℕ, List, ap, sym, ◌∙◌, arith}
use Rattle.std.proofs.lemmas.Bool.Decides.{nat_tests}
use Rattle.bv_dag.specs.Graphs.{Graph, number_of}
use Rattle.fork_spec.specs.Evidence.{Found}
use Rattle.sym_state.proofs.Tests.{equals}
use Rattle.cert_audit.proofs.Valuing.{value_of}
use Rattle.cert_audit.proofs.valued.Valued.has.Goals as goal

pub returns : goal.returns
returns c = (
  λ same. value_of c.args.self.now c.args.found.now (record { value = c.found.inside.value; input = c.found.inside.input }) c.as_slice-input.result.now
      c.found.view_is c.as_slice-input.ensures c.are_bytes.ensures (sym c.in_ok-holds.ensures ∙ c.if-not-branch.false)
      (ap (λ (g : Graph). number_of g c.args.self.now.term c.as_slice-input.result.now) (sym c.dag.ensures) ∙ sym c.in_ok-number.ensures
      ∙ equals c.in_ok-number.number c.from.result same ∙ c.from.ensures)
      (omega arith),
  λ is.
      let number : c.in_ok-number.number ≡ c.from.result =
      c.in_ok-number.ensures ∙ ap (λ (g : Graph). number_of g c.args.self.now.term c.as_slice-input.result.now) c.dag.ensures
      ∙ ap (λ (input : List ℕ). number_of c.args.self.now.condition.graph c.args.self.now.term input) (c.as_slice-input.ensures ∙ ap (λ (f : Found). f.input) c.found.view_is)
      ∙ is.value ∙ sym (ap (λ (f : Found). f.value) c.found.view_is) ∙ sym c.from.ensures in
      grind (arith, nat_tests, number),
)
