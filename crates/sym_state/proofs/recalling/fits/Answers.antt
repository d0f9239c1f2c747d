use Rattle.std.proofs.Common.{arith}
use Rattle.bv_dag.proofs.TermLaws.{there}
use Rattle.term_trees.proofs.Numbers.{number_fits}
use Rattle.term_trees.proofs.Terms.{is_term}
use Rattle.sym_state.proofs.recalling.fits.Goals as goal

pub node-requires : goal.node-requires
node-requires c =
    let wide = rw c.in-Term.is at c.requires.wide in
    rw c.terms.ensures (there c.args.terms.now c.in-Term.id 32 wide.width (omega arith))

pub returns-in-Term : goal.returns-in-Term
returns-in-Term c =
    let g = c.args.terms.now in
    let wide = rw c.in-Term.is at c.requires.wide in
    rw c.in-Term.is (λ input bytes.
    number_fits g c.in-Term.id 32 input
    (is_term g c.in-Term.id (rw c.terms.ensures at c.node.ensures.fit) (there g c.in-Term.id 32 wide.width (omega arith)))
    wide.width bytes)
