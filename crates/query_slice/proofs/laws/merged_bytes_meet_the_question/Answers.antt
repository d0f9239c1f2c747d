use Rattle.query_slice.proofs.Kept.{merged_holds}
use Rattle.query_slice.proofs.laws.merged_bytes_meet_the_question.Goals as goal

pub returns : goal.returns
returns c = λ q new s sample answer cut long rest holding. merged_holds q new s cut sample answer long rest holding
