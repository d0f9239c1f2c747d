use Rattle.std.proofs.Common.{◌≤◌, length, ap, ◌∙◌, sym, arith, List, take, option_to_list}
use Rattle.std.proofs.lemmas.List.{take-append-le, take_all}
use Rattle.cdcl_core.specs.declared.trail.Entry.{Entry}
use Rattle.cdcl_core.proofs.trail.Trail.cut.Goals as goal

pub loop-self-smaller : goal.loop-self-smaller
loop-self-smaller c = omega (arith, c.pop.ensures.one_less, c.loop-self-test.true, ap (λ (es : List Entry). length es) c.entries.ensures.value)

pub loop-self-preserved : goal.loop-self-preserved
loop-self-preserved c =
    let longer : c.args.len ≤ length c.pop.new.self.entries = omega (arith, c.pop.ensures.one_less, c.loop-self-test.true, ap (λ (es : List Entry). length es) c.entries.ensures.value) in
    record {
      first = sym (take-append-le c.args.len c.pop.new.self.entries (option_to_list c.pop.result) longer) ∙ ap (take c.args.len) (sym c.pop.ensures.entries) ∙ c.loop-self.invariant.first;
      size = c.pop.ensures.size ∙ c.loop-self.invariant.size;
    }

pub returns-clause-entries : goal.returns-clause-entries
returns-clause-entries c =
    sym (take_all c.args.len c.loop-self.self.entries (omega (arith, c.loop-self-test.false, ap (λ (es : List Entry). length es) c.entries.ensures.value))) ∙ c.loop-self.invariant.first
