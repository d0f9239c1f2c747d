use Rattle.std.proofs.Common.{arith, refl}
use Rattle.term_simplify.proofs.OperationNumbers.{even_number}
use Rattle.term_simplify.proofs.Stepping.{Stands-itself, Stands-kept, Stands-worth, if_ok, extract_step, concat_step, of_32}
use Rattle.term_simplify.proofs.builder.Builder.cleared.Goals as goal

pub step-requires-3 : goal.step-requires-3
step-requires-3 c =
    let whole = Stands-itself c.args.self.now c.args.a 32 c.requires (omega arith) in
    let upper = Stands-kept c.step-2.ensures.continues
    (extract_step 31 1 31 refl whole c.in_ok-upper.ensures.ok) in
    let zero = c.in_ok-zero.ensures.ok in
    (omega (arith, upper.width), omega (arith, zero.width), omega (arith, upper.width, zero.width))

pub returns-clause-ok : goal.returns-clause-ok
returns-clause-ok c =
    let whole = Stands-itself c.args.self.now c.args.a 32 c.requires (omega arith) in
    let upper = Stands-kept c.step-2.ensures.continues
    (extract_step 31 1 31 refl whole c.in_ok-upper.ensures.ok) in
    if_ok _ _ _ c.step-3.ensures.ok (λ id n. Stands-worth
    (λ input bytes. even_number _
    (of_32 c.args.self.now c.args.a input bytes c.step.ensures.term.0 c.requires))
    (concat_step upper c.in_ok-zero.ensures.ok n))
