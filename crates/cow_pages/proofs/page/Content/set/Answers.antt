use Rattle.std.proofs.lemmas.List.{map-set}
use Rattle.cow_pages.specs.declared.byte.Byte.TheVariants.{Number}
use Rattle.cow_pages.proofs.page.Content.set.Goals as goal

pub returns-in-Number-clause-ok : goal.returns-in-Number-clause-ok
returns-in-Number-clause-ok c =
    rw (c.in-Numbers.is, c.in-Number.is)
    (map-set (λ n. Number n) c.in-Numbers.numbers.items c.args.offset c.in-Number.number)
