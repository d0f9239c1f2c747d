use Rattle.std.proofs.Common.{false, refl, subst, sym}
use Rattle.tree_core.specs.Stories.{Story}
use Rattle.fork_tree.specs.Calls.{IsClaim, release_event}
use Rattle.fork_tree.specs.declared.content.Content.{Content}
use Rattle.fork_tree.proofs.Entered.{entered-grows}
use Rattle.fork_tree.proofs.Entering.{grows-both, grows-one, on_err}
use Rattle.work_run.specs.Entering.{IsClaimEnded}
use Rattle.work_run.proofs.Entries.{entered-ended, released-ended}
use Rattle.work_run.proofs.turn_tree.TurnTree.enter_and_claim.Goals as goal

pub enter-requires : goal.enter-requires
enter-requires g c = let worked = c.requires.worked in record {
  fit = record {
    there = c.requires.there;
    held = c.requires.held;
    state = worked.0;
    is_state = worked.1;
    worked = worked.2;
  };
}

pub returns-in_err-run-clause-err : goal.returns-in_err-run-clause-err
returns-in_err-run-clause-err g c =
    released-ended c.args.self.now.tree.story c.enter.new.self.story c.args.by c.args.node
    c.from_residual.result c.in_err-run.ensures.err

pub returns-in_err-run-clause-grows : goal.returns-in_err-run-clause-grows
returns-in_err-run-clause-grows g c =
    grows-one c.args.by c.args.self.now.tree.story c.enter.new.self.story
    (release_event c.args.by c.args.node) c.in_err-run.ensures.err refl

pub returns-clause-grows : goal.returns-clause-grows
returns-clause-grows g c =
    grows-both c.args.by c.args.self.now.tree.story c.enter.new.self.story
    c.claim.new.self.tree.story
    (entered-grows c.args.self.now.tree.story c.enter.new.self.story c.args.by c.args.node c.args.parts c.in_ok-run.ensures.ok)
    c.claim.ensures.grows

pub returns-in_err-claim-clause-err : goal.returns-in_err-claim-clause-err
returns-in_err-claim-clause-err g c =
    let ended = entered-ended c.args.self.now.tree.story c.enter.new.self.story c.args.by c.args.node c.args.parts c.in_ok-run.ensures.ok in
    on_err c.from_residual-in_err-claim.result (
      false,
      subst (λ (x : Story (Content g.row.W-State.Denot g.row.W-Leaf.Denot)). IsClaimEnded false c.args.by c.args.node c.args.self.now.tree.story x) (sym c.in_err-claim.ensures.err) ended,
    )

pub returns-clause-ok : goal.returns-clause-ok
returns-clause-ok g c = (
  c.enter.new.self.story,
  entered-ended c.args.self.now.tree.story c.enter.new.self.story c.args.by c.args.node c.args.parts c.in_ok-run.ensures.ok,
  subst (λ (w : g.row.W.Denot). IsClaim (g.W.Work.rules w).IsWell c.enter.new.self.story c.args.by c.in_ok-claim.field-0 c.claim.new.self.tree.story) c.enter.ensures.worker c.in_ok-claim.ensures.ok,
)
