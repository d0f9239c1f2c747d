use Rattle.std.proofs.Common.{rules, ◌≡◌, map, string_bytes, Err}
use Rattle.clap.specs.Words.{found_of, kind_of, rows_of}
use Rattle.tool_words.specs.Seen.{error_of, job_seen}
use Rattle.tool_words.proofs.Bounds.{read_bounds}
use Rattle.tool_words.proofs.Jobs.{command_named, error_read, job_refused, none_named}
use Rattle.tool_words.proofs.words.read_words.Goals as goal

pub returns-in_err-matches-clause-job : goal.returns-in_err-matches-clause-job
returns-in_err-matches-clause-job c =
    let is : c.from_residual.result ≡ Err (error_of (kind_of c.in_err-matches.field-0.0)) = search rules in
    rw is (error_read job_seen _ (kind_of c.in_err-matches.field-0.0)
    (λ other. job_refused (map string_bytes c.args.words.now) (c.in_err-matches.ensures.refuses other)))

pub returns-in-Some-clause-job : goal.returns-in-Some-clause-job
returns-in-Some-clause-job c =
    let job = command_named (map string_bytes c.args.words.now) c.in_ok-matches.matches c.in-Some.name.now (rows_of (found_of c.in-Some.found.now))
    c.in_ok-matches.ensures.takes c.in_ok-matches.ensures.finds c.in-Some.ensures.name c.in-Some.ensures.rows in
    rw job c.read_command.ensures

pub returns-in-Some-clause-within : goal.returns-in-Some-clause-within
returns-in-Some-clause-within c =
    let job = command_named (map string_bytes c.args.words.now) c.in_ok-matches.matches c.in-Some.name.now (rows_of (found_of c.in-Some.found.now))
    c.in_ok-matches.ensures.takes c.in_ok-matches.ensures.finds c.in-Some.ensures.name c.in-Some.ensures.rows in
    read_bounds (map string_bytes c.args.words.now) c.read_command.result (rw job c.read_command.ensures)

pub returns-clause-job : goal.returns-clause-job
returns-clause-job c = none_named (map string_bytes c.args.words.now) c.in_ok-matches.matches c.in_ok-matches.ensures.takes c.in_ok-matches.ensures.finds c.in-None.ensures.name
