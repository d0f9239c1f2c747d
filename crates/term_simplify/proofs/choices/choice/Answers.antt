use Rattle.std.proofs.Common.{arith, sym}
use Rattle.term_trees.specs.Trees.{tree_of}
use Rattle.term_simplify.proofs.ChoicePlans.{chosen_yes, chosen_no, choice_open}
use Rattle.term_simplify.proofs.Reading.{Makes-same, has_term, has_second_term}
use Rattle.term_simplify.proofs.choices.choice.Goals as goal

pub number_at-requires : goal.number_at-requires
number_at-requires c = has_term c.args.terms.now c.args.c (omega (arith, c.requires.0))

pub number_at-requires-in-None : goal.number_at-requires-in-None
number_at-requires-in-None c = has_term c.args.terms.now c.args.a c.requires.1

pub number_at-requires-in-None-2 : goal.number_at-requires-in-None-2
number_at-requires-in-None-2 c = has_second_term c.args.terms.now c.args.a c.args.b c.requires.1 c.requires.2

pub choice_between-requires-clause-there : goal.choice_between-requires-clause-there
choice_between-requires-clause-there c = has_term c.args.terms.now c.args.c (omega (arith, c.requires.0))

pub choice_between-requires-clause-first : goal.choice_between-requires-clause-first
choice_between-requires-clause-first c = has_term c.args.terms.now c.args.a c.requires.1

pub returns-then-number-eq1-clause-makes : goal.returns-then-number-eq1-clause-makes
returns-then-number-eq1-clause-makes c = record {
  is = sym (chosen_yes (tree_of c.args.terms.now c.args.c) (tree_of c.args.terms.now c.args.a)
      (tree_of c.args.terms.now c.args.b) c.number_at.result c.number_at.ensures.number c.in-Some.x
      c.number.result c.in-Some.is c.number.ensures.value c.if-number-eq1.true);
  fits = has_term c.args.terms.now c.args.a c.requires.1;
}

pub returns-else-number-eq1-clause-makes : goal.returns-else-number-eq1-clause-makes
returns-else-number-eq1-clause-makes c = record {
  is = sym (chosen_no (tree_of c.args.terms.now c.args.c) (tree_of c.args.terms.now c.args.a)
      (tree_of c.args.terms.now c.args.b) c.number_at.result c.number_at.ensures.number c.in-Some.x
      c.number.result c.in-Some.is c.number.ensures.value c.if-number-eq1.false);
  fits = has_second_term c.args.terms.now c.args.a c.args.b c.requires.1 c.requires.2;
}

pub returns-in-None-clause-makes : goal.returns-in-None-clause-makes
returns-in-None-clause-makes c =
    Makes-same c.args.terms.now _ _ _ c.choice_between.ensures
    (choice_open (tree_of c.args.terms.now c.args.c) (tree_of c.args.terms.now c.args.a)
    (tree_of c.args.terms.now c.args.b) c.number_at.result c.number_at.ensures.number _ _
    c.in-None.is c.number_at-in-None.ensures.number c.number_at-in-None-2.ensures.number)
