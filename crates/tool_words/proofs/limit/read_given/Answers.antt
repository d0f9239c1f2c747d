use Rattle.std.proofs.Common.{◌∙◌, option_map}
use Rattle.clap.specs.Words.{found_of}
use Rattle.tool_words.proofs.Options.{number_found_is}
use Rattle.tool_words.proofs.limit.read_given.Goals as goal

pub returns-in-Some : goal.returns-in-Some
returns-in-Some c =
    let given = number_found_is c.args.limit (found_of c.args.found.now) c.args.name.now (option_map (λ s. s.now) c.get_str.result) c.get_str.ensures in
    c.read_within.ensures ∙ (rw c.in-Some.is at given)

pub returns-in-None : goal.returns-in-None
returns-in-None c =
    let given = number_found_is c.args.limit (found_of c.args.found.now) c.args.name.now (option_map (λ s. s.now) c.get_str.result) c.get_str.ensures in
    rw c.in-None.is at given
