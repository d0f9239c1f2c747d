use Rattle.term_simplify.proofs.Building.{tree_pushed}
use Rattle.term_simplify.proofs.builder.Builder.put.Goals as goal

pub returns-in-None-clause-tree : goal.returns-in-None-clause-tree
returns-in-None-clause-tree c = tree_pushed c.self.inside.known c.args.self.now c.push.new.self
    c.args.node c.push.result c.self.view_is c.push.ensures.place c.push.ensures.ok
