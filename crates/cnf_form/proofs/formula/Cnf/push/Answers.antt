use Rattle.std.proofs.Common.{◌∙◌, arith, ap, sym}
use Rattle.cnf_form.specs.Variables.{greatest_in, greatest_variable}
use Rattle.cnf_form.proofs.Variables.{one_more}
use Rattle.cnf_form.proofs.formula.Cnf.push.Goals as goal

pub invariant_of-self-then-branch : goal.invariant_of-self-then-branch
invariant_of-self-then-branch c =
    omega (
      arith,
      c.max-self-inside.ensures,
      c.greatest_in.ensures,
      ap greatest_in (c.deref-then-branch.ensures.value ∙ sym c.deref.ensures.value),
      c.self.invariant,
      ap greatest_variable c.in_ok-push_literals.ensures.ok,
      one_more c.self.inside.clauses c.deref.result.now,
    )
