use Rattle.std.proofs.Common.{refl}
use Rattle.fork_tree.specs.Calls.{release_event}
use Rattle.fork_tree.proofs.Entering.{held-less, on_err}
use Rattle.fork_tree.proofs.Fitting.{worked_by}
use Rattle.fork_tree.proofs.Entered.{entered-grows, entered-held, entered-kept, entered-less}
use Rattle.fork_tree.proofs.Releases.{releases_more}
use Rattle.fork_tree.proofs.draining.enter.Goals as goal

pub enter-requires : goal.enter-requires
enter-requires g c = record {
  fit = record {
    there = c.requires.there;
    held = c.requires.held;
    state = c.args.state.now;
    is_state = c.requires.state;
    worked = worked_by g.W.Work.rules g.W.State.Placed.place g.W.Leaf.Placed.place c.args.state.now
        c.worker.result.now c.args.tree.now.worker c.in-Ok.parts c.in-Ok.parts c.worker.ensures refl c.in-Ok.ensures;
  };
}

pub returns-in-Err-clause-held : goal.returns-in-Err-clause-held
returns-in-Err-clause-held g c =
    held-less c.args.tree.now.story c.release.new.self.story (release_event c.args.by c.args.node)
    c.release.ensures.story c.release.ensures.there c.requires.there c.requires.held
    (λ st by. refl) refl refl

pub returns-in-Err-clause-one_given_up : goal.returns-in-Err-clause-one_given_up
returns-in-Err-clause-one_given_up g c =
    releases_more c.args.tree.now.story c.release.new.self.story
    (release_event c.args.by c.args.node) c.release.ensures.story

pub returns-in_err-enter-in-Ok-clause-held : goal.returns-in_err-enter-in-Ok-clause-held
returns-in_err-enter-in-Ok-clause-held g c =
    held-less c.args.tree.now.story c.enter.new.self.story (release_event c.args.by c.args.node)
    c.in_err-enter-in-Ok.ensures.err c.enter.ensures.there c.requires.there c.requires.held
    (λ st by. refl) refl refl

pub returns-in_err-enter-in-Ok-clause-one_given_up : goal.returns-in_err-enter-in-Ok-clause-one_given_up
returns-in_err-enter-in-Ok-clause-one_given_up g c =
    on_err c.from_residual.result (releases_more c.args.tree.now.story c.enter.new.self.story
    (release_event c.args.by c.args.node) c.in_err-enter-in-Ok.ensures.err)

pub returns-in_ok-enter-in-Ok-clause-held : goal.returns-in_ok-enter-in-Ok-clause-held
returns-in_ok-enter-in-Ok-clause-held g c =
    entered-held c.args.tree.now.story c.enter.new.self.story c.args.by c.args.node c.in-Ok.parts
    c.enter.ensures.there c.requires.there c.requires.held c.in_ok-enter-in-Ok.ensures.ok

pub returns-in_ok-enter-in-Ok-clause-grows : goal.returns-in_ok-enter-in-Ok-clause-grows
returns-in_ok-enter-in-Ok-clause-grows g c =
    entered-grows c.args.tree.now.story c.enter.new.self.story c.args.by c.args.node c.in-Ok.parts
    c.in_ok-enter-in-Ok.ensures.ok

pub returns-in_ok-enter-in-Ok-clause-none_given_up : goal.returns-in_ok-enter-in-Ok-clause-none_given_up
returns-in_ok-enter-in-Ok-clause-none_given_up g c =
    entered-kept c.args.tree.now.story c.enter.new.self.story c.args.by c.args.node c.in-Ok.parts
    c.in_ok-enter-in-Ok.ensures.ok

pub returns-in_ok-enter-in-Ok-clause-less : goal.returns-in_ok-enter-in-Ok-clause-less
returns-in_ok-enter-in-Ok-clause-less g c =
    entered-less (g.W.Work.rules c.args.tree.now.worker) g.W.State.Placed.place g.W.Leaf.Placed.place
    c.args.tree.now.story c.enter.new.self.story c.args.by c.args.node c.in-Ok.parts c.args.state.now
    c.enter.ensures.there c.requires.there c.requires.held
    (worked_by g.W.Work.rules g.W.State.Placed.place g.W.Leaf.Placed.place c.args.state.now
    c.worker.result.now c.args.tree.now.worker c.in-Ok.parts c.in-Ok.parts c.worker.ensures refl c.in-Ok.ensures)
    c.in_ok-enter-in-Ok.ensures.ok
