use Rattle.std.proofs.Common.{◌≡◌, length}
use Rattle.cdcl_core.specs.Searches.{IsSearch}
use Rattle.cdcl_core.proofs.solver.Solver.work.Given as goal

abbrev pub invariant-loop : goal.invariant-loop
invariant-loop l = record {
  search : IsSearch l.formula l.self.clauses l.self.log l.self.trail l.self.calm;
  one_each : length l.self.log ≡ l.counter;
}
