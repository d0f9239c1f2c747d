use Rattle.run_leaves.proofs.Cutting.{without_narrowed}
use Rattle.tree_core.specs.declared.choice.Choice.TheVariants.{Rest}
use Rattle.cert_audit.specs.Kids.{has_none}
use Rattle.cert_audit.proofs.Parting.{asked_kid, others_kid}
use Rattle.cert_audit.proofs.pin.rest_todo.Goals as goal

pub returns-in-Conflicts : goal.returns-in-Conflicts
returns-in-Conflicts c =
    let s = c.args.run.now in
    let values = c.args.values.items in
    rw c.in-Conflicts.is
    (asked_kid s (record { run = c.args.rest; choice = Rest }) (has_none s c.args.term values) c.in_ok-fork.ensures.formed tt
    (without_narrowed s c.args.term values c.args.rest c.in_ok-fork.ensures.formed c.requires.without))

pub returns-in-Targets : goal.returns-in-Targets
returns-in-Targets c =
    rw c.in-Targets.is
    (others_kid c.args.run.now (record { fork = c.in_ok-fork.fork; term = c.args.term; values = c.args.values; rest = c.args.rest })
    c.in_ok-fork.ensures.formed c.in_ok-fork.ensures.same c.requires.unknown c.requires.increasing c.requires.without)
