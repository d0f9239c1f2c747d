use Rattle.std.proofs.Common.{◌∙◌, ap, subst, sym}
use Rattle.bv_dag.specs.BitVectors.{BitVector, bit}
use Rattle.bv_dag.specs.Graphs.{IsDag}
use Rattle.bv_dag.specs.declared.nodes.Node.TheVariants.{Compare}
use Rattle.term_simplify.proofs.Building.{is_term_of}
use Rattle.term_simplify.proofs.EndsBuilding.{told_built, untold_built}
use Rattle.term_simplify.proofs.Words.{by_parts}
use Rattle.term_simplify.proofs.builder.Builder.decided.Goals as goal

pub returns-in-Some-clause-ok : goal.returns-in-Some-clause-ok
returns-in-Some-clause-ok c =
    let g = c.args.self.now in
    let term = is_term_of g (Compare c.args.op c.args.a c.args.b) (subst IsDag c.known.ensures c.in-Some.ensures.fit) c.requires in
    let word = by_parts c.width.result c.number.result (bit c.in-Some.holds) (sym (c.width.ensures.value ∙ ap (λ (v : BitVector). v.width) c.from_bool-bit.ensures))
    (sym (c.number.ensures.value ∙ ap (λ (v : BitVector). v.number) c.from_bool-bit.ensures)) in
    told_built c.known.result.now g c.plain.new.self c.plain.result c.args.op c.args.a c.args.b c.width.result c.number.result c.in-Some.holds c.known.ensures word
    (sym c.in-Some.is ∙ c.comparison_told.ensures.is) term c.plain.ensures.ok

pub returns-in-Some-clause-term : goal.returns-in-Some-clause-term
returns-in-Some-clause-term c =
    is_term_of c.args.self.now (Compare c.args.op c.args.a c.args.b) (subst IsDag c.known.ensures c.in-Some.ensures.fit) c.requires

pub returns-in-None-clause-ok : goal.returns-in-None-clause-ok
returns-in-None-clause-ok c =
    untold_built c.known.result.now c.args.self.now c.unsummed.new.self c.unsummed.result c.args.op c.args.a c.args.b c.known.ensures
    (sym c.in-None.is ∙ c.comparison_told.ensures.is) c.unsummed.ensures.ok
