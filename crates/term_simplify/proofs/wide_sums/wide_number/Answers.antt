use Rattle.std.proofs.Common.{◌∙◌, arith, sym}
use Rattle.term_simplify.proofs.Reading.{wide_number}
use Rattle.term_simplify.proofs.WideReading.{wide_none, wide_some}
use Rattle.term_simplify.proofs.wide_sums.wide_number.Goals as goal

pub extended-requires : goal.extended-requires
extended-requires c =
    let wide = wide_number c.args.terms.now c.args.id c.in-Some.x (sym c.in-Some.is ∙ c.number_at.ensures.number) in
    omega (arith, wide, c.requires.room)

pub returns-in-Some-clause-is : goal.returns-in-Some-clause-is
returns-in-Some-clause-is c =
    rw c.extended.ensures (wide_some c.args.by _ c.in-Some.x (sym c.in-Some.is ∙ c.number_at.ensures.number))

pub returns-in-None-clause-is : goal.returns-in-None-clause-is
returns-in-None-clause-is c = wide_none c.args.by _ (sym c.in-None.is ∙ c.number_at.ensures.number)
