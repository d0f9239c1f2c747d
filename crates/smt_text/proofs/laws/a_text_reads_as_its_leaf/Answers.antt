use Rattle.smt_text.proofs.Reading.{text_reads}
use Rattle.smt_text.proofs.laws.a_text_reads_as_its_leaf.Goals as goal

pub returns : goal.returns
returns c = text_reads
