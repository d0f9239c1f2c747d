use Rattle.std.proofs.Common.{◌∙◌}
use Rattle.bv_dag.specs.Graphs.{val}
use Rattle.bv_dag.proofs.TermLaws.{width-val}
use Rattle.term_simplify.proofs.MachineBuilds.{Builds-worth}
use Rattle.term_simplify.proofs.OperationNumbers.{half_width, half_number}
use Rattle.term_simplify.proofs.Stepping.{if_ok}
use Rattle.term_simplify.proofs.builder.Builder.half.Goals as goal

pub returns-clause-ok : goal.returns-clause-ok
returns-clause-ok c =
    if_ok _ _ _ c.concat.ensures.ok (λ id n. Builds-worth (half_width c.requires.high c.requires.low)
    (λ input. half_number (val c.args.self.now c.args.low input) (val c.args.self.now c.args.high input)
    (width-val c.args.self.now c.args.low input ∙ c.requires.low)
    (width-val c.args.self.now c.args.high input ∙ c.requires.high)) n)
