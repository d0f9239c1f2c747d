use Rattle.std.proofs.Common.{refl, arith}
use Rattle.term_simplify.proofs.Reading.{Makes-same}
use Rattle.term_simplify.proofs.Words.{tests_equal, tests_unequal}
use Rattle.term_simplify.proofs.extensions.further.Goals as goal

pub extension-requires : goal.extension-requires
extension-requires c =
    let room = c.requires.room (omega (arith, c.if-by-eq0.false)) in
    (room.0, omega (arith, c.if-by-eq0.false), room.1)

pub returns-then-by-eq0 : goal.returns-then-by-eq0
returns-then-by-eq0 c = record { is = rw (tests_equal c.args.by 0 c.if-by-eq0.true) refl; fits = c.requires.there }

pub returns : goal.returns
returns c = Makes-same c.args.terms.now _ _ _ c.extension.ensures.makes (rw (tests_unequal c.args.by 0 c.if-by-eq0.false) refl)
