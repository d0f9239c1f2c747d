use Rattle.std.proofs.Common.{ap, ◌∙◌}
use Rattle.bv_dag.specs.BitVectors.{BitVector}
use Rattle.term_simplify.proofs.Masking.{keeps_by_width}
use Rattle.term_simplify.proofs.masks.keeps.Goals as goal

pub returns-in-Some : goal.returns-in-Some
returns-in-Some c =
    rw c.number.ensures.value
    (keeps_by_width c.args.terms.now c.args.id c.in-Some.narrow c.width_of.result c.number-all.result c.args.mask
    c.under_zeros.result c.in-Some.is c.under_zeros.ensures.tree c.width_of.ensures.value
    (c.number-all.ensures.value ∙ ap (λ (x : BitVector). x.number) c.ones.ensures))
