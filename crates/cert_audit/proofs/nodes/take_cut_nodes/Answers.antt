use Rattle.cert_audit.proofs.NodeLeaves.{nodes_leaf}
use Rattle.cert_audit.proofs.nodes.take_cut_nodes.Goals as goal

pub returns : goal.returns
returns c = λ budgets same.
    nodes_leaf budgets c.args.run.now c.args.nodes c.args.rest.now c.in_ok-leaf.leaf c.in_ok-leaf.ensures.sample c.in_ok-leaf.ensures.leaf same
