use Rattle.std.proofs.Common.{◌≡◌, ℕ, ◌%◌, true, List, sym, ap, subst, ◌∙◌, arith}
use Rattle.std.specs.Prelude.{◌==◌}
use Rattle.std.proofs.lemmas.Bool.Decides.{nat_tests}
use Rattle.rv_spec.specs.Arithmetic.{sum32}
use Rattle.rv_spec.specs.Machine.{linked}
use Rattle.rv_spec.specs.Machine as machine
use Rattle.sym_state.specs.Symbolic.{Symbolic, concrete, set_value}
use Rattle.sym_state.specs.Values.{worth_of}
use Rattle.sym_state.specs.declared.value.Value.TheVariants.{Number}
use Rattle.sym_machine.specs.Steps.{Comes}
use Rattle.sym_machine.specs.declared.outcome.Step.TheVariants.{Running}
use Rattle.sym_state.specs.Unfolded.{unfolded}
use Rattle.sym_machine.proofs.Fetches.{zero_false, zero_true}
use Rattle.sym_machine.proofs.Standing.{Keeps-moved, registers-set}
use Rattle.sym_machine.proofs.Unfolds as unfolds
use Rattle.sym_machine.proofs.going.jump_and_link.Goals as goal

-- at the target, with the link
abbrev linked_to : Symbolic → ℕ → ℕ → Symbolic
linked_to s rd target =
    record s { pc = target; registers = set_value s.registers rd (Number (sum32 s.pc 4)) }

links : (s : Symbolic) (rd target : ℕ) (input : List ℕ) → (target % 4 == 0) ≡ true
    → linked (concrete s input) rd target ≡ machine.Running (concrete (linked_to s rd target) input)
links s rd target input aligned =
    rw aligned
    (ap (λ rs. machine.Running (record (concrete s input) { pc = target; registers = rs }))
    (sym (registers-set (worth_of s.terms input) s.registers rd (Number (sum32 s.pc 4)))))

comes : (s : Symbolic) (rd target : ℕ) → target % 4 ≡ 0
    → Comes s (linked_to s rd target) Running (λ c. linked c rd target)
comes s rd target aligned = record {
  keeps = Keeps-moved s target (set_value s.registers rd (Number (sum32 s.pc 4)));
  is = λ input standing. links s rd target input (grind (arith, nat_tests, aligned));
}

pub returns-clause-comes : goal.returns-clause-comes
returns-clause-comes c =
    let old = c.args.state.now in
    let target = c.args.target in
    let rd = c.args.rd in
    subst (λ (s : Symbolic). Comes old s Running (λ d. linked d rd target))
    (sym (c.go_to.ensures.value
    ∙ ap (λ (s : Symbolic). record s { pc = target }) c.set.ensures.value
    ∙ ap (λ n. record old { pc = target; registers = set_value old.registers rd (Number n) })
    c.address-after.ensures))
    (comes old rd target c.if-target-ne0.false)

pub returns-clause-terms : goal.returns-clause-terms
returns-clause-terms c =
    let old = c.args.state.now in
    let target = c.args.target in
    let rd = c.args.rd in
    ap unfolded (c.go_to.ensures.value
    ∙ ap (λ (s : Symbolic). record s { pc = target }) c.set.ensures.value
    ∙ ap (λ n. record old { pc = target; registers = set_value old.registers rd (Number n) }) c.address-after.ensures)
    ∙ unfolds.unfolded-moved old target rd (Number (sum32 old.pc 4))
    ∙ unfolds.links (unfolded old) rd target (zero_true (target % 4) c.if-target-ne0.false)

pub returns-then-target-ne0-clause-terms : goal.returns-then-target-ne0-clause-terms
returns-then-target-ne0-clause-terms c = unfolds.links_not (unfolded c.args.state.now) c.args.rd c.args.target (zero_false (c.args.target % 4) c.if-target-ne0.true)
