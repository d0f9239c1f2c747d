use Rattle.std.proofs.Common.{◌∙◌, ap}
use Rattle.bv_dag.specs.BitVectors.{BitVector}
use Rattle.term_simplify.proofs.EndsRules.{divides}
use Rattle.term_simplify.proofs.ends.may_divide_by_zero.Goals as goal

pub returns-in-Udiv-clause-divides : goal.returns-in-Udiv-clause-divides
returns-in-Udiv-clause-divides c =
    λ some op input bytes. divides c.args.terms.now c.args.divisor c.ends_of.ensures.fit c.requires
    (c.number.ensures.value ∙ ap (λ (v : BitVector). v.number) (ap (λ e. e.least) c.ends_of.ensures.is)) some input bytes
