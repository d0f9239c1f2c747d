use Rattle.std.proofs.Common.{◌∙◌, ap, arith, subst, sym}
use Rattle.bv_dag.specs.Nodes.{Fits, widths_of}
use Rattle.term_trees.specs.Trees.{tree_of}
use Rattle.term_trees.proofs.TreeLaws.{width-tree_of}
use Rattle.term_simplify.specs.Ends.{any, complement_ends, either_ends, ends_of, joined_ends, only, part_ends, two_ends, widened_ends}
use Rattle.term_simplify.specs.declared.ends.Ends.{Ends}
use Rattle.term_simplify.proofs.EndsReading.{alike}
use Rattle.term_simplify.proofs.Reading.{has_second_term, has_term}
use Rattle.term_simplify.proofs.known.Known.node_ends.Goals as goal

pub ends_of-requires : goal.ends_of-requires
ends_of-requires c =
    let fits = subst (Fits c.args.self.now.inputs (widths_of c.args.self.now.nodes)) c.in-Not.is c.requires in
    has_term c.args.self.now c.in-Not.a fits

pub ends_of-requires-in-Binary : goal.ends_of-requires-in-Binary
ends_of-requires-in-Binary c =
    let fits = subst (Fits c.args.self.now.inputs (widths_of c.args.self.now.nodes)) c.in-Binary.is c.requires in
    has_term c.args.self.now c.in-Binary.a fits.0

pub ends_of-requires-in-Binary-2 : goal.ends_of-requires-in-Binary-2
ends_of-requires-in-Binary-2 c =
    let fits = subst (Fits c.args.self.now.inputs (widths_of c.args.self.now.nodes)) c.in-Binary.is c.requires in
    has_second_term c.args.self.now c.in-Binary.a c.in-Binary.b fits.0 fits.1

pub two-requires-clause-second : goal.two-requires-clause-second
two-requires-clause-second c =
    let fits = subst (Fits c.args.self.now.inputs (widths_of c.args.self.now.nodes)) c.in-Binary.is c.requires in
    alike _ _ c.ends_of-in-Binary.result c.ends_of-in-Binary-2.result c.ends_of-in-Binary.ensures.wide c.ends_of-in-Binary-2.ensures.wide fits.1

pub ends_of-requires-in-Ite : goal.ends_of-requires-in-Ite
ends_of-requires-in-Ite c =
    let fits = subst (Fits c.args.self.now.inputs (widths_of c.args.self.now.nodes)) c.in-Ite.is c.requires in
    has_term c.args.self.now c.in-Ite.yes fits.1

pub ends_of-requires-in-Ite-2 : goal.ends_of-requires-in-Ite-2
ends_of-requires-in-Ite-2 c =
    let fits = subst (Fits c.args.self.now.inputs (widths_of c.args.self.now.nodes)) c.in-Ite.is c.requires in
    has_second_term c.args.self.now c.in-Ite.yes c.in-Ite.no fits.1 fits.2

pub either-requires-clause-second : goal.either-requires-clause-second
either-requires-clause-second c =
    let fits = subst (Fits c.args.self.now.inputs (widths_of c.args.self.now.nodes)) c.in-Ite.is c.requires in
    alike _ _ c.ends_of-in-Ite.result c.ends_of-in-Ite-2.result c.ends_of-in-Ite.ensures.wide c.ends_of-in-Ite-2.ensures.wide fits.2

pub ends_of-requires-in-Extract : goal.ends_of-requires-in-Extract
ends_of-requires-in-Extract c =
    let fits = subst (Fits c.args.self.now.inputs (widths_of c.args.self.now.nodes)) c.in-Extract.is c.requires in
    has_term c.args.self.now c.in-Extract.operand (omega (arith, fits.1))

pub part-requires-clause-order : goal.part-requires-clause-order
part-requires-clause-order c =
    let fits = subst (Fits c.args.self.now.inputs (widths_of c.args.self.now.nodes)) c.in-Extract.is c.requires in
    fits.0

pub part-requires-clause-within : goal.part-requires-clause-within
part-requires-clause-within c =
    let fits = subst (Fits c.args.self.now.inputs (widths_of c.args.self.now.nodes)) c.in-Extract.is c.requires in
    omega (arith, fits.1, c.ends_of-in-Extract.ensures.wide.least)

pub ends_of-requires-in-Extend : goal.ends_of-requires-in-Extend
ends_of-requires-in-Extend c =
    let fits = subst (Fits c.args.self.now.inputs (widths_of c.args.self.now.nodes)) c.in-Extend.is c.requires in
    has_term c.args.self.now c.in-Extend.operand fits.0

pub widened-requires-clause-at_most_64 : goal.widened-requires-clause-at_most_64
widened-requires-clause-at_most_64 c =
    let fits = subst (Fits c.args.self.now.inputs (widths_of c.args.self.now.nodes)) c.in-Extend.is c.requires in
    omega (arith, fits.2, c.ends_of-in-Extend.ensures.wide.least)

pub ends_of-requires-in-Concat : goal.ends_of-requires-in-Concat
ends_of-requires-in-Concat c =
    let fits = subst (Fits c.args.self.now.inputs (widths_of c.args.self.now.nodes)) c.in-Concat.is c.requires in
    has_term c.args.self.now c.in-Concat.high fits.0

pub ends_of-requires-in-Concat-2 : goal.ends_of-requires-in-Concat-2
ends_of-requires-in-Concat-2 c =
    let fits = subst (Fits c.args.self.now.inputs (widths_of c.args.self.now.nodes)) c.in-Concat.is c.requires in
    has_term c.args.self.now c.in-Concat.low fits.1

pub joined-requires-clause-at_most_64 : goal.joined-requires-clause-at_most_64
joined-requires-clause-at_most_64 c =
    let fits = subst (Fits c.args.self.now.inputs (widths_of c.args.self.now.nodes)) c.in-Concat.is c.requires in
    omega (arith, fits.2, c.ends_of-in-Concat.ensures.wide.least, c.ends_of-in-Concat-2.ensures.wide.least)

pub width_of-requires : goal.width_of-requires
width_of-requires c =
    let fits = subst (Fits c.args.self.now.inputs (widths_of c.args.self.now.nodes)) c.in-Neg.is c.requires in
    has_term c.args.self.now c.in-Neg.a fits

pub returns-in-Num : goal.returns-in-Num
unfolding ends_of
returns-in-Num c = rw c.in-Num.is (c.only.ensures ∙ ap only c.new.ensures)

pub returns-in-Not : goal.returns-in-Not
unfolding ends_of
returns-in-Not c = rw c.in-Not.is (c.complement.ensures.is ∙ ap complement_ends c.ends_of.ensures.is)

pub returns-in-Binary : goal.returns-in-Binary
unfolding ends_of
returns-in-Binary c = rw c.in-Binary.is (c.two.ensures.is ∙ ap (λ (r : Ends). two_ends c.in-Binary.op r c.ends_of-in-Binary-2.result) c.ends_of-in-Binary.ensures.is
    ∙ ap (two_ends c.in-Binary.op (ends_of (tree_of c.args.self.now c.in-Binary.a))) c.ends_of-in-Binary-2.ensures.is)

pub returns-in-Ite : goal.returns-in-Ite
unfolding ends_of
returns-in-Ite c = rw c.in-Ite.is (c.either.ensures.is ∙ ap (λ (r : Ends). either_ends r c.ends_of-in-Ite-2.result) c.ends_of-in-Ite.ensures.is
    ∙ ap (either_ends (ends_of (tree_of c.args.self.now c.in-Ite.yes))) c.ends_of-in-Ite-2.ensures.is)

pub returns-in-Extract : goal.returns-in-Extract
unfolding ends_of
returns-in-Extract c = rw c.in-Extract.is (c.part.ensures.is ∙ ap (part_ends c.in-Extract.high c.in-Extract.low) c.ends_of-in-Extract.ensures.is)

pub returns-in-Extend : goal.returns-in-Extend
unfolding ends_of
returns-in-Extend c = rw c.in-Extend.is (c.widened.ensures.is ∙ ap (widened_ends c.in-Extend.by c.in-Extend.signed) c.ends_of-in-Extend.ensures.is)

pub returns-in-Concat : goal.returns-in-Concat
unfolding ends_of
returns-in-Concat c = rw c.in-Concat.is (c.joined.ensures.is ∙ ap (λ (r : Ends). joined_ends r c.ends_of-in-Concat-2.result) c.ends_of-in-Concat.ensures.is
    ∙ ap (joined_ends (ends_of (tree_of c.args.self.now c.in-Concat.high))) c.ends_of-in-Concat-2.ensures.is)

pub returns-in-Input : goal.returns-in-Input
unfolding ends_of
returns-in-Input c = rw c.in-Input.is (c.any.ensures.is)

pub returns-in-Neg : goal.returns-in-Neg
unfolding ends_of
returns-in-Neg c = rw c.in-Neg.is (c.any-in-Neg.ensures.is ∙ ap any (c.width_of.ensures.value ∙ sym (width-tree_of c.args.self.now c.in-Neg.a)))

pub returns-in-Compare : goal.returns-in-Compare
unfolding ends_of
returns-in-Compare c = rw c.in-Compare.is (c.any-in-Compare.ensures.is)
