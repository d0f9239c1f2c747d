use Rattle.sym_machine.proofs.transfer.put.Goals as goal

pub returns-in-Sw-clause-puts : goal.returns-in-Sw-clause-puts
returns-in-Sw-clause-puts c = rw c.in-Sw.is c.put_word.ensures.puts
