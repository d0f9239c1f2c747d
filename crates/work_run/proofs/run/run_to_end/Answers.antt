use Rattle.fork_tree.proofs.Releases.{once_kept}
use Rattle.work_run.proofs.Closing.{few_grown, goes_grown}
use Rattle.work_run.proofs.run.run_to_end.Goals as goal

pub returns-clause-goes : goal.returns-clause-goes
returns-clause-goes g c =
    goes_grown c.args.tree.story c.in_ok-tree.tree.story c.drain.new.tree.story
    c.in_ok-tree.ensures.goes c.drain.ensures.grows

pub returns-clause-few : goal.returns-clause-few
returns-clause-few g c =
    few_grown c.args.workers c.in_ok-tree.tree.story c.drain.new.tree.story c.requires.some
    c.drain.ensures.grows c.in_ok-tree.ensures.few

pub returns-clause-releases : goal.returns-clause-releases
returns-clause-releases g c =
    once_kept c.in_ok-tree.tree.story c.drain.new.tree.story c.in_ok-drain.ensures.none_given_up
    c.in_ok-tree.ensures.releases
