use Rattle.std.proofs.Common.{ap, ◌∙◌}
use Rattle.bv_dag.specs.BitVectors.{BitVector}
use Rattle.term_simplify.proofs.EndsRules.{extended_wide}
use Rattle.term_simplify.proofs.ends.widened.Goals as goal

pub returns-clause-wide : goal.returns-clause-wide
returns-clause-wide c = record {
  least = ap (λ (v : BitVector). v.width) c.extended.ensures ∙ extended_wide c.args.by c.args.signed c.args.a.least c.args.a.least.width c.requires.wide.least;
  greatest = ap (λ (v : BitVector). v.width) c.extended-2.ensures
      ∙ extended_wide c.args.by c.args.signed c.args.a.greatest c.args.a.least.width c.requires.wide.greatest;
}
