use Rattle.std.proofs.Common.{arith, refl}
use Rattle.term_simplify.proofs.Magnitudes.{sign_after}
use Rattle.term_simplify.proofs.Stepping.{Stands-itself, Stands-kept, Stands-grown, extract_step, magnitude_step}
use Rattle.term_simplify.proofs.builder.Builder.parts.Goals as goal

pub magnitude-requires-clause-whole : goal.magnitude-requires-clause-whole
magnitude-requires-clause-whole c =
    let whole = Stands-grown c.args.a 32 c.step.ensures.continues c.requires (omega arith) in whole.width

pub magnitude-requires-clause-sign : goal.magnitude-requires-clause-sign
magnitude-requires-clause-sign c =
    let negative = extract_step 31 31 1 refl (Stands-itself c.args.self.now c.args.a 32 c.requires (omega arith)) c.in_ok-negative.ensures.ok in
    let whole = Stands-grown c.args.a 32 c.step.ensures.continues c.requires (omega arith) in
    sign_after whole negative

pub returns-clause-negative : goal.returns-clause-negative
returns-clause-negative c =
    let negative = extract_step 31 31 1 refl (Stands-itself c.args.self.now c.args.a 32 c.requires (omega arith)) c.in_ok-negative.ensures.ok in
    Stands-kept c.magnitude.ensures.continues negative

pub returns-clause-magnitude : goal.returns-clause-magnitude
returns-clause-magnitude c =
    let whole = Stands-grown c.args.a 32 c.step.ensures.continues c.requires (omega arith) in
    magnitude_step whole c.in_ok-magnitude.ensures.ok
