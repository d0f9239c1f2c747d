use Rattle.std.proofs.Common.{◌∙◌}
use Rattle.term_trees.specs.Trees.{tree_of}
use Rattle.term_simplify.proofs.EndsReading.{equal_here, slt_here, ult_here}
use Rattle.term_simplify.proofs.Reading.{has_second_term, has_term}
use Rattle.term_simplify.proofs.deciding.comparison_told.Goals as goal

pub ends_of-requires : goal.ends_of-requires
ends_of-requires c = has_term c.args.terms.now c.args.a c.requires.0

pub ends_of-requires-in-Ult : goal.ends_of-requires-in-Ult
ends_of-requires-in-Ult c = has_second_term c.args.terms.now c.args.a c.args.b c.requires.0 c.requires.1

pub signed_ends_of-requires : goal.signed_ends_of-requires
signed_ends_of-requires c = has_term c.args.terms.now c.args.a c.requires.0

pub signed_ends_of-requires-in-Slt : goal.signed_ends_of-requires-in-Slt
signed_ends_of-requires-in-Slt c = has_second_term c.args.terms.now c.args.a c.args.b c.requires.0 c.requires.1

pub equality_told-requires-clause-first : goal.equality_told-requires-clause-first
equality_told-requires-clause-first c = has_term c.args.terms.now c.args.a c.requires.0

pub equality_told-requires-clause-second : goal.equality_told-requires-clause-second
equality_told-requires-clause-second c = has_second_term c.args.terms.now c.args.a c.args.b c.requires.0 c.requires.1

pub returns-in-Ult-clause-is : goal.returns-in-Ult-clause-is
returns-in-Ult-clause-is c =
    c.order_told.ensures ∙ ult_here c.args.op (tree_of c.args.terms.now c.args.a) (tree_of c.args.terms.now c.args.b) c.ends_of.result c.ends_of-in-Ult.result
    c.in-Ult.is c.ends_of.ensures.is c.ends_of-in-Ult.ensures.is

pub returns-in-Slt-clause-is : goal.returns-in-Slt-clause-is
returns-in-Slt-clause-is c =
    c.order_told-in-Slt.ensures ∙ slt_here c.args.op (tree_of c.args.terms.now c.args.a) (tree_of c.args.terms.now c.args.b) c.signed_ends_of.result
    c.signed_ends_of-in-Slt.result c.in-Slt.is c.signed_ends_of.ensures.is c.signed_ends_of-in-Slt.ensures.is

pub returns-in-Eq-clause-is : goal.returns-in-Eq-clause-is
returns-in-Eq-clause-is c =
    c.equality_told.ensures.is ∙ equal_here c.args.op (tree_of c.args.terms.now c.args.a) (tree_of c.args.terms.now c.args.b) c.in-Eq.is
