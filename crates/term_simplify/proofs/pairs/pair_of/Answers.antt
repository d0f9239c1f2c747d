use Rattle.std.proofs.Common.{◌∙◌, None, Some, ap, refl, sym}
use Rattle.std.specs.Prelude.{option_and_then, option_map}
use Rattle.term_simplify.specs.Offsets.{Offset, wide_offset_at}
use Rattle.term_simplify.specs.Pairs.{pair_by}
use Rattle.term_simplify.proofs.PairReading.{as_pair}
use Rattle.term_simplify.proofs.Reading.{has_second_term, has_term}
use Rattle.term_simplify.proofs.pairs.pair_of.Goals as goal

pub numbered_of-requires : goal.numbered_of-requires
numbered_of-requires c = has_term c.args.terms.now c.args.a c.requires.0

pub numbered_of-requires-2 : goal.numbered_of-requires-2
numbered_of-requires-2 c = has_second_term c.args.terms.now c.args.a c.args.b c.requires.0 c.requires.1

pub beside-requires-clause-sum : goal.beside-requires-clause-sum
beside-requires-clause-sum c = has_term c.args.terms.now c.args.a c.requires.0

pub beside-requires-clause-there : goal.beside-requires-clause-there
beside-requires-clause-there c = has_second_term c.args.terms.now c.args.a c.args.b c.requires.0 c.requires.1

pub beside-requires-in-None-Some-clause-sum : goal.beside-requires-in-None-Some-clause-sum
beside-requires-in-None-Some-clause-sum c = has_second_term c.args.terms.now c.args.a c.args.b c.requires.0 c.requires.1

pub beside-requires-in-None-Some-clause-there : goal.beside-requires-in-None-Some-clause-there
beside-requires-in-None-Some-clause-there c = has_term c.args.terms.now c.args.a c.requires.0

pub returns-in-Some-Some-clause-is : goal.returns-in-Some-Some-clause-is
returns-in-Some-Some-clause-is c =
    let g = c.args.terms.now in
    as_pair c.args.op _ _ (Some (wide_offset_at g c.in-Some-Some.o)) (Some (wide_offset_at g c.in-Some-Some.p)) _
    (ap (option_map (wide_offset_at g)) (sym c.in-Some-Some.is-0) ∙ c.numbered_of.ensures.is)
    (ap (option_map (wide_offset_at g)) (sym c.in-Some-Some.is-1) ∙ c.numbered_of-2.ensures.is)
    (c.pair_by.ensures.is g)

pub returns-in-Some-clause-is : goal.returns-in-Some-clause-is
returns-in-Some-clause-is c =
    let g = c.args.terms.now in
    as_pair c.args.op _ _ (Some (wide_offset_at g c.in-Some-None.o)) None _
    (ap (option_map (wide_offset_at g)) (sym c.in-Some-None.is-0) ∙ c.numbered_of.ensures.is)
    (ap (option_map (wide_offset_at g)) (sym c.in-Some-None.is-1) ∙ c.numbered_of-2.ensures.is)
    (c.pair_by-in-Some.ensures.is g ∙ ap (option_and_then (pair_by c.args.op (wide_offset_at g c.in-Some-None.o))) c.in-Some.ensures.is)

pub returns-in-None-clause-is : goal.returns-in-None-clause-is
returns-in-None-clause-is c =
    let g = c.args.terms.now in
    as_pair c.args.op _ _ (Some (wide_offset_at g c.in-Some-None.o)) None _
    (ap (option_map (wide_offset_at g)) (sym c.in-Some-None.is-0) ∙ c.numbered_of.ensures.is)
    (ap (option_map (wide_offset_at g)) (sym c.in-Some-None.is-1) ∙ c.numbered_of-2.ensures.is)
    (ap (option_and_then (pair_by c.args.op (wide_offset_at g c.in-Some-None.o))) c.in-None.ensures.is)

pub returns-in-Some-beside-clause-is : goal.returns-in-Some-beside-clause-is
returns-in-Some-beside-clause-is c =
    let g = c.args.terms.now in
    as_pair c.args.op _ _ None (Some (wide_offset_at g c.in-None-Some.p)) _
    (ap (option_map (wide_offset_at g)) (sym c.in-None-Some.is-0) ∙ c.numbered_of.ensures.is)
    (ap (option_map (wide_offset_at g)) (sym c.in-None-Some.is-1) ∙ c.numbered_of-2.ensures.is)
    (c.pair_by-in-Some-beside.ensures.is g ∙ ap (option_and_then (λ (o : Offset). pair_by c.args.op o (wide_offset_at g c.in-None-Some.p))) c.in-Some-beside.ensures.is)

pub returns-in-None-beside-clause-is : goal.returns-in-None-beside-clause-is
returns-in-None-beside-clause-is c =
    let g = c.args.terms.now in
    as_pair c.args.op _ _ None (Some (wide_offset_at g c.in-None-Some.p)) _
    (ap (option_map (wide_offset_at g)) (sym c.in-None-Some.is-0) ∙ c.numbered_of.ensures.is)
    (ap (option_map (wide_offset_at g)) (sym c.in-None-Some.is-1) ∙ c.numbered_of-2.ensures.is)
    (ap (option_and_then (λ (o : Offset). pair_by c.args.op o (wide_offset_at g c.in-None-Some.p))) c.in-None-beside.ensures.is)

pub returns-in-None-None-clause-is : goal.returns-in-None-None-clause-is
returns-in-None-None-clause-is c =
    let g = c.args.terms.now in
    as_pair c.args.op _ _ None None _
    (ap (option_map (wide_offset_at g)) (sym c.in-None-None.is-0) ∙ c.numbered_of.ensures.is)
    (ap (option_map (wide_offset_at g)) (sym c.in-None-None.is-1) ∙ c.numbered_of-2.ensures.is)
    (refl)
