use Rattle.std.proofs.Common.{◌≡◌, codes}
use Rattle.std.proofs.lemmas.Result.{IfOk-weaker}
use Rattle.clap.specs.Words.{app_of, new_app, with_rule}
use Rattle.tool_words.specs.Command.{bench_command, required_word}
use Rattle.tool_words.proofs.Adding.{arg_added, stays_local}
use Rattle.tool_words.proofs.command.bench.Goals as goal

pub returns-clause-app : goal.returns-clause-app
unfolding bench_command
returns-clause-app c =
    let number : app_of c.in_ok-arg.field-0 ≡ with_rule (new_app (codes "bench")) (required_word (codes "NUMBER")) =
    arg_added c.new.result c.in_ok-arg.field-0 c.required_word.result _ _ c.in_ok-arg.ensures c.new.ensures.app c.required_word.ensures.rule c.required_word.ensures.local in
    let workers = arg_added c.in_ok-arg.field-0 c.in_ok-arg-2.field-0 c.required_word-2.result _ _ c.in_ok-arg-2.ensures number c.required_word-2.ensures.rule c.required_word-2.ensures.local in
    IfOk-weaker c.arg-3.result _ _ (λ command added.
    arg_added c.in_ok-arg-2.field-0 command c.required_word-3.result _ _ added workers c.required_word-3.ensures.rule c.required_word-3.ensures.local) c.arg-3.ensures

pub returns-clause-local : goal.returns-clause-local
returns-clause-local c =
    let number = stays_local c.new.result c.in_ok-arg.field-0 c.required_word.result c.in_ok-arg.ensures c.new.ensures.local c.required_word.ensures.local in
    let workers = stays_local c.in_ok-arg.field-0 c.in_ok-arg-2.field-0 c.required_word-2.result c.in_ok-arg-2.ensures number c.required_word-2.ensures.local in
    IfOk-weaker c.arg-3.result _ _ (λ command added.
    stays_local c.in_ok-arg-2.field-0 command c.required_word-3.result added workers c.required_word-3.ensures.local) c.arg-3.ensures
