use Rattle.tool_words.proofs.Bounds.{job_bounds}
use Rattle.tool_words.proofs.laws.jobs_are_within_their_limits.Goals as goal

pub returns : goal.returns
returns c = job_bounds
