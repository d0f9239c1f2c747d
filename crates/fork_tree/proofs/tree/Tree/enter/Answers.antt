use Rattle.std.proofs.Common.{None, Some, refl}
use Rattle.tree_core.specs.declared.cause.Cause.TheVariants.{Steps}
use Rattle.fork_tree.specs.declared.work.Parts.TheVariants.{CutSteps, Finished, Kids}
use Rattle.fork_tree.proofs.Fitting.{end_fits, worked_by}
use Rattle.fork_tree.proofs.tree.Tree.enter.Goals as goal

pub finish-requires : goal.finish-requires
finish-requires g c =
    let w = c.args.self.now.worker in let fit = c.requires.fit in
    let ends =
    worked_by g.W.Work.rules g.W.State.Placed.place g.W.Leaf.Placed.place fit.state w w c.args.parts
    (Finished c.in-Finished.leaf) refl c.in-Finished.is fit.worked in
    record {
      fit = end_fits (g.W.Work.rules w) g.W.State.Placed.place g.W.Leaf.Placed.place None None
          c.args.self.now.story c.args.by c.args.node fit.state c.in-Finished.leaf
          fit.there fit.held fit.is_state ends refl;
    }

pub cut-requires : goal.cut-requires
cut-requires g c =
    let w = c.args.self.now.worker in let fit = c.requires.fit in
    let ends =
    worked_by g.W.Work.rules g.W.State.Placed.place g.W.Leaf.Placed.place fit.state w w c.args.parts
    (CutSteps c.in-CutSteps.leaf) refl c.in-CutSteps.is fit.worked in
    record {
      fit = end_fits (g.W.Work.rules w) g.W.State.Placed.place g.W.Leaf.Placed.place (Some Steps) None
          c.args.self.now.story c.args.by c.args.node fit.state c.in-CutSteps.leaf
          fit.there fit.held fit.is_state ends refl;
      may = tt;
    }

pub part-requires : goal.part-requires
part-requires g c =
    let w = c.args.self.now.worker in let fit = c.requires.fit in
    let parts =
    worked_by g.W.Work.rules g.W.State.Placed.place g.W.Leaf.Placed.place fit.state w w c.args.parts
    (Kids c.in-Kids.kids c.in-Kids.run') refl c.in-Kids.is fit.worked in
    record {
      fit = record {
        there = fit.there;
        held = fit.held;
        state = fit.state;
        is_state = fit.is_state;
        split = parts.0;
        run_at = parts.1;
      };
    }
