use Rattle.std.proofs.Common.{◌≡◌, codes}
use Rattle.std.proofs.lemmas.Result.{IfOk-weaker}
use Rattle.clap.specs.Words.{app_of, new_app, with_rule}
use Rattle.tool_words.specs.Command.{audit_command, required_word}
use Rattle.tool_words.proofs.Adding.{arg_added, stays_local}
use Rattle.tool_words.proofs.command.audit.Goals as goal

pub returns-clause-app : goal.returns-clause-app
unfolding audit_command
returns-clause-app c =
    let program : app_of c.in_ok-arg.field-0 ≡ with_rule (new_app (codes "audit")) (required_word (codes "PROGRAM")) =
    arg_added c.new.result c.in_ok-arg.field-0 c.required_word.result _ _ c.in_ok-arg.ensures c.new.ensures.app c.required_word.ensures.rule c.required_word.ensures.local in
    IfOk-weaker c.arg-2.result _ _ (λ command added.
    arg_added c.in_ok-arg.field-0 command c.required_word-2.result _ _ added program c.required_word-2.ensures.rule c.required_word-2.ensures.local) c.arg-2.ensures

pub returns-clause-local : goal.returns-clause-local
returns-clause-local c =
    let program = stays_local c.new.result c.in_ok-arg.field-0 c.required_word.result c.in_ok-arg.ensures c.new.ensures.local c.required_word.ensures.local in
    IfOk-weaker c.arg-2.result _ _ (λ command added.
    stays_local c.in_ok-arg.field-0 command c.required_word-2.result added program c.required_word-2.ensures.local) c.arg-2.ensures
