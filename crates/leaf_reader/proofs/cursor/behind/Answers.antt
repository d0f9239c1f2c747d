use Rattle.leaf_reader.proofs.CursorSteps.{stripped}
use Rattle.leaf_reader.proofs.cursor.behind.Goals as goal

pub returns : goal.returns
returns c = stripped c.args.word.now c.args.text.now c.as_bytes.result.now c.strip_prefix.result c.as_bytes.ensures.value c.strip_prefix.ensures.cases
