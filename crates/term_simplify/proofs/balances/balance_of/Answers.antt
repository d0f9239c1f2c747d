use Rattle.std.proofs.Common.{◌∙◌, None, Some, ap, refl, sym}
use Rattle.std.specs.Prelude.{option_map}
use Rattle.term_simplify.specs.Offsets.{wide_offset_at}
use Rattle.term_simplify.specs.Pairs.{numbered_of}
use Rattle.term_simplify.proofs.BalanceReading.{as_balance}
use Rattle.term_trees.specs.Trees.{tree_of}
use Rattle.term_simplify.proofs.balances.balance_of.Goals as goal

pub returns-in-Some-Some-clause-is : goal.returns-in-Some-Some-clause-is
returns-in-Some-Some-clause-is c =
    let g = c.args.terms.now in
    as_balance _ _ (Some (wide_offset_at g c.in-Some-Some.o)) (Some (wide_offset_at g c.in-Some-Some.p)) _
    (ap (option_map (wide_offset_at g)) (sym c.in-Some-Some.is-0) ∙ c.numbered_of.ensures.is)
    (ap (option_map (wide_offset_at g)) (sym c.in-Some-Some.is-1) ∙ c.numbered_of-2.ensures.is)
    (c.balance_with.ensures.is g)

pub returns-in-Some-None-clause-is : goal.returns-in-Some-None-clause-is
returns-in-Some-None-clause-is c =
    let g = c.args.terms.now in
    as_balance _ _ (Some (wide_offset_at g c.in-Some-None.field-0-0)) None _
    (ap (option_map (wide_offset_at g)) (sym c.in-Some-None.is-0) ∙ c.numbered_of.ensures.is)
    (ap (option_map (wide_offset_at g)) (sym c.in-Some-None.is-1) ∙ c.numbered_of-2.ensures.is) refl

pub returns-in-None-default-clause-is : goal.returns-in-None-default-clause-is
returns-in-None-default-clause-is c =
    let g = c.args.terms.now in
    as_balance (tree_of g c.args.a) (tree_of g c.args.b) None (numbered_of (tree_of g c.args.b)) None
    (ap (option_map (wide_offset_at g)) (sym c.in-None-default.is-0) ∙ c.numbered_of.ensures.is) refl refl
