use Rattle.std.proofs.Common.{◌≡◌, ◌∙◌, None, option_map, rules}
use Rattle.clap.specs.Words.{found_of}
use Rattle.tool_words.proofs.Options.{number_said_is}
use Rattle.tool_words.proofs.limit.read_said.Goals as goal

pub returns-in_err-said : goal.returns-in_err-said
returns-in_err-said c =
    let said = number_said_is c.args.limit (found_of c.args.found.now) c.args.name.now (option_map (λ s. s.now) c.get_str.result) c.get_str.ensures in
    let none : c.get_str.result ≡ None = search rules in
    let answer : c.from_residual.result ≡ None = search rules in
    answer ∙ (rw none at said)

pub returns : goal.returns
returns c =
    let said = number_said_is c.args.limit (found_of c.args.found.now) c.args.name.now (option_map (λ s. s.now) c.get_str.result) c.get_str.ensures in
    c.read_within.ensures ∙ (rw c.in_ok-said.was at said)
