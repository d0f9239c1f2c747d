use Rattle.std.proofs.Common.{rules, arith}
use Rattle.test_files.proofs.InputChecks.{few_each}
use Rattle.test_files.proofs.inputs.measure.Goals as goal

pub overflow_cast-count : goal.overflow_cast-count
overflow_cast-count c = search (rules, arith, few_each c.args.regions.now c.loop-region.region-index c.region-item.result, c.requires)
