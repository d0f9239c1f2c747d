use Rattle.std.proofs.Common.{◌≡◌, map, string_bytes}
use Rattle.std.proofs.lemmas.Result.{IfOk-weaker}
use Rattle.clap.specs.Words.{app_of}
use Rattle.tool_words.specs.Command.{rvklee_command}
use Rattle.tool_words.proofs.Matching.{refuses_words, rvklee_is_simple, takes_words}
use Rattle.tool_words.proofs.words.match_words.Goals as goal

pub returns-clause-takes : goal.returns-clause-takes
returns-clause-takes c = takes_words (app_of c.in_ok-rvklee.field-0) (map string_bytes c.args.words.now)
    c.try_get_matches_from.result c.in_ok-rvklee.ensures c.try_get_matches_from.ensures.kinds

pub returns-clause-finds : goal.returns-clause-finds
returns-clause-finds c =
    let is : app_of c.in_ok-rvklee.field-0 ≡ rvklee_command = c.in_ok-rvklee.ensures in
    let matches = rw is at c.try_get_matches_from.ensures.matches in
    IfOk-weaker c.try_get_matches_from.result _ _ (λ m has. (has rvklee_is_simple).1) matches

pub returns-clause-refuses : goal.returns-clause-refuses
returns-clause-refuses c = refuses_words (app_of c.in_ok-rvklee.field-0) (map string_bytes c.args.words.now)
    c.try_get_matches_from.result c.in_ok-rvklee.ensures c.try_get_matches_from.ensures.kinds
