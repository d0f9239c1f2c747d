use Rattle.std.proofs.Common.{rules}
use Rattle.test_files.specs.Forms.{path_of}
use Rattle.test_files.proofs.PathForms.{next_step, no_step, nothing_before, whole_path}
use Rattle.test_files.proofs.path_form.read_path.Goals as goal

pub loop-rest-init : goal.loop-rest-init
loop-rest-init c = search (rules, nothing_before (path_of c.args.text.now))

pub returns-in_default : goal.returns-in_default
returns-in_default c = search (rules, no_step c.args.text.now)

pub loop-rest-preserved : goal.loop-rest-preserved
loop-rest-preserved c = rw c.in_ok-push.ensures.items
    (next_step c.args.text.now c.loop-rest.rest.now c.in-Some.len c.loop-rest.path.items c.in-Some.step c.loop-rest.invariant c.in-Some.ensures.cases)

pub returns : goal.returns
returns c = whole_path c.args.text.now c.loop-rest.rest.now c.loop-rest.path.items c.loop-rest.invariant (search rules)
