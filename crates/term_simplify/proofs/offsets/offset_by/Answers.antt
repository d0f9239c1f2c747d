use Rattle.std.proofs.Common.{refl, sym}
use Rattle.bv_dag.specs.Graphs.{width_of}
use Rattle.term_simplify.proofs.Reading.{has_second_term, has_term}
use Rattle.term_simplify.proofs.WideReading.{number_here, summand_from}
use Rattle.term_trees.specs.Trees.{tree_of}
use Rattle.term_simplify.proofs.offsets.offset_by.Goals as goal

pub number_at-requires : goal.number_at-requires
number_at-requires c = has_term c.args.terms.now c.args.a c.requires.0

pub number_at-requires-2 : goal.number_at-requires-2
number_at-requires-2 c = has_second_term c.args.terms.now c.args.a c.args.b c.requires.0 c.requires.1

pub returns-clause-some : goal.returns-clause-some
returns-clause-some c =
    let g = c.args.terms.now in
    let w = width_of g c.args.a in
    let first = has_term g c.args.a c.requires.0 in
    let second = has_second_term g c.args.a c.args.b c.requires.0 c.requires.1 in
    let dag = c.number_at.ensures.fit in
    summand_from g c.args.a c.args.b c.offset_from.result first second c.requires.1 c.offset_from.ensures.term
    (c.offset_from.ensures.number w (number_here g dag c.args.a w c.number_at.result first refl c.number_at.ensures.number)
    (number_here g dag c.args.b w c.number_at-2.result second (sym c.requires.1) c.number_at-2.ensures.number))

pub returns-clause-is : goal.returns-clause-is
returns-clause-is c = rw (← c.number_at.ensures.number, ← c.number_at-2.ensures.number) (c.offset_from.ensures.is (tree_of c.args.terms.now))
