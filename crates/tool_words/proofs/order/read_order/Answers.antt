use Rattle.std.proofs.Common.{◌∙◌, option_map}
use Rattle.clap.specs.Words.{found_of}
use Rattle.tool_words.proofs.Options.{order_found_is}
use Rattle.tool_words.proofs.order.read_order.Goals as goal

pub returns-in-Some : goal.returns-in-Some
returns-in-Some c =
    let given = order_found_is (found_of c.args.found.now) (option_map (λ s. s.now) c.get_str.result) c.get_str.ensures in
    c.read_name.ensures ∙ (rw c.in-Some.is at given)

pub returns-in-None : goal.returns-in-None
returns-in-None c =
    let given = order_found_is (found_of c.args.found.now) (option_map (λ s. s.now) c.get_str.result) c.get_str.ensures in
    rw c.in-None.is at given
