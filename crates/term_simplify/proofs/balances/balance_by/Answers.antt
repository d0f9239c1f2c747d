use Rattle.term_simplify.proofs.OffsetReading.{of_negative}
use Rattle.term_simplify.proofs.balances.balance_by.Goals as goal

pub returns-then-is_negative-clause-of : goal.returns-then-is_negative-clause-of
returns-then-is_negative-clause-of c = λ g w first second number.
    record { first = second; second = first; number = rw c.negated.ensures (of_negative w c.args.n number) }
