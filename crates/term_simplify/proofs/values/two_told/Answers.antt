use Rattle.std.proofs.Common.{Some, ap, option_map, sym, ◌∙◌}
use Rattle.term_trees.specs.Trees.{tree_of}
use Rattle.term_simplify.specs.Plain.{number_tree}
use Rattle.term_simplify.proofs.Reading.{has_second_term, has_term}
use Rattle.term_simplify.proofs.ValueRules.{first_told, number_told}
use Rattle.term_simplify.proofs.values.two_told.Goals as goal

pub ends_of-left-requires : goal.ends_of-left-requires
ends_of-left-requires c = has_term c.args.terms.now c.args.a c.requires.0

pub ends_of-right-requires : goal.ends_of-right-requires
ends_of-right-requires c = has_second_term c.args.terms.now c.args.a c.args.b c.requires.0 c.requires.1

pub returns-then-is_dividend-clause-is : goal.returns-then-is_dividend-clause-is
returns-then-is_dividend-clause-is c =
    first_told c.args.op (tree_of c.args.terms.now c.args.a) (tree_of c.args.terms.now c.args.b) c.ends_of-left.result c.ends_of-right.result
    c.ends_of-left.ensures.is c.ends_of-right.ensures.is (sym c.is_dividend.ensures ∙ c.if-is_dividend.true)

pub returns-then-is_dividend-clause-fits : goal.returns-then-is_dividend-clause-fits
returns-then-is_dividend-clause-fits c = has_term c.args.terms.now c.args.a c.requires.0

pub returns-in-Some-clause-is : goal.returns-in-Some-clause-is
returns-in-Some-clause-is c =
    ap Some ((c.number.ensures c.args.terms.now).is)
    ∙ number_told c.args.op (tree_of c.args.terms.now c.args.a) (tree_of c.args.terms.now c.args.b) c.ends_of-left.result c.ends_of-right.result
    c.ends_of-left.ensures.is c.ends_of-right.ensures.is (sym c.is_dividend.ensures ∙ c.if-is_dividend.false) c.two.result c.two.ensures.is
    (Some c.in-Some.x) (sym c.in-Some.is ∙ c.value_told.ensures)

pub returns-in-Some-clause-fits : goal.returns-in-Some-clause-fits
returns-in-Some-clause-fits c = (c.number.ensures c.args.terms.now).fits

pub returns-in-None-clause-is : goal.returns-in-None-clause-is
returns-in-None-clause-is c =
    ap (option_map number_tree) (sym c.in-None.is)
    ∙ number_told c.args.op (tree_of c.args.terms.now c.args.a) (tree_of c.args.terms.now c.args.b) c.ends_of-left.result c.ends_of-right.result
    c.ends_of-left.ensures.is c.ends_of-right.ensures.is (sym c.is_dividend.ensures ∙ c.if-is_dividend.false) c.two.result c.two.ensures.is
    c.value_told.result c.value_told.ensures
