use Rattle.std.proofs.Common.{option_map}
use Rattle.clap.specs.Words.{found_of}
use Rattle.tool_words.proofs.Exploring.{audit_job_is}
use Rattle.tool_words.proofs.words.read_audit.Goals.{in_default-via-in-Some+in_default, in_default-via-in_default}
use Rattle.tool_words.proofs.words.read_audit.Goals as goal

pub returns-in_default : goal.returns-in_default
returns-in_default c =
    let job = audit_job_is (found_of c.args.found.now) (option_map (λ s. s.now) c.get_str.result) (option_map (λ s. s.now) c.get_str-2.result) c.get_str.ensures c.get_str-2.ensures in
    elim c.in_default.branch [
      | in_default-via-in-Some+in_default w ↦ rw (w.in_default.is-0, w.in_default.is-1) at job
      | in_default-via-in_default w ↦ rw w.in_default.is-0 at job
    ]

pub returns : goal.returns
returns c =
    let job = audit_job_is (found_of c.args.found.now) (option_map (λ s. s.now) c.get_str.result) (option_map (λ s. s.now) c.get_str-2.result) c.get_str.ensures c.get_str-2.ensures in
    let found = c.in-Some-Some in
    rw (found.is-0, found.is-1, ← c.in_ok-from_str.ensures.ok, ← c.in_ok-from_str-2.ensures.ok) at job
