use Rattle.term_trees.specs.Trees.{IsOfWidth}
use Rattle.term_simplify.proofs.OffsetReading.{of_negative}
use Rattle.term_simplify.proofs.offsets.offset_from.Goals as goal

pub returns-in-Sub-None-Some-clause-number : goal.returns-in-Sub-None-Some-clause-number
returns-in-Sub-None-Some-clause-number c = λ width first second.
    let number : IsOfWidth width c.in-Sub-None-Some.y = rw c.in-Sub-None-Some.is-2 at second in
    rw c.negated.ensures (of_negative width c.in-Sub-None-Some.y number)
