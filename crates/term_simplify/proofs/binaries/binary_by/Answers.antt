use Rattle.term_simplify.proofs.binaries.binary_by.Goals as goal

pub returns-in-Some-Some : goal.returns-in-Some-Some
returns-in-Some-Some c = λ graph at_a at_b fits. rw (
  c.in-Some-Some.is-0,
  c.in-Some-Some.is-1,
  ←
      c.apply.ensures,
) (c.number.ensures graph)
