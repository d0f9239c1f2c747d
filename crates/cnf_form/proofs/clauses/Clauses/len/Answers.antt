use Rattle.std.proofs.Common.{arith}
use Rattle.cnf_form.proofs.Pieces.{count_is}
use Rattle.cnf_form.proofs.clauses.Clauses.len.Goals as goal

pub returns : goal.returns
returns c = omega (arith, c.len.ensures, c.self.inside.ends.ok, count_is c.self.inside.literals.items c.self.inside.ends.items c.args.self.now c.self.view_is)
