use Rattle.std.proofs.Common.{rules}
use Rattle.leaf_reader.proofs.CursorSteps.{short_eight}
use Rattle.leaf_reader.proofs.cursor.eight.Goals as goal

pub returns-then-text-lt8 : goal.returns-then-text-lt8
returns-then-text-lt8 c = search (rules, short_eight c.args.text.now)
