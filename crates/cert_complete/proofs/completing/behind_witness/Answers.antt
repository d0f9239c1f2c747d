use Rattle.std.proofs.lemmas.List.Elements.{All-nil}
use Rattle.std.proofs.Common.{◌≡◌, true}
use Rattle.cert_audit.specs.Todos.{IsTodo}
use Rattle.sym_state.specs.Symbolic.{stands_for}
use Rattle.cert_complete.proofs.completing.behind_witness.Goals as goal

pub returns : goal.returns
returns g c = λ p budgets part.
    let stands : stands_for c.args.others.now.rest c.in-Some.input ≡ true = rw c.in-Some.is at c.in_ok-input.ensures in
    (rw c.new-kids.ensures.items (All-nil (IsTodo p budgets)), record { others = c.args.others.now; is_part = part; stands = stands })
