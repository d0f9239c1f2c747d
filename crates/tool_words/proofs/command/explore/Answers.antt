use Rattle.std.proofs.Common.{◌≡◌, codes}
use Rattle.std.proofs.lemmas.Result.{IfOk-weaker}
use Rattle.clap.specs.Words.{app_of, new_app, with_rule}
use Rattle.tool_words.specs.Command.{explore_command, with_options, required_word}
use Rattle.tool_words.proofs.Adding.{arg_added, stays_local}
use Rattle.tool_words.proofs.command.explore.Goals as goal

pub returns-clause-app : goal.returns-clause-app
unfolding explore_command
returns-clause-app c =
    let steps = arg_added c.new.result c.in_ok-arg.field-0 c.value_option.result _ _ c.in_ok-arg.ensures c.new.ensures.app c.value_option.ensures.rule c.value_option.ensures.local in
    let targets = arg_added c.in_ok-arg.field-0 c.in_ok-arg-2.field-0 c.value_option-2.result _ _ c.in_ok-arg-2.ensures steps c.value_option-2.ensures.rule c.value_option-2.ensures.local in
    let conflicts = arg_added c.in_ok-arg-2.field-0 c.in_ok-arg-3.field-0 c.value_option-3.result _ _ c.in_ok-arg-3.ensures targets c.value_option-3.ensures.rule c.value_option-3.ensures.local in
    let workers = arg_added c.in_ok-arg-3.field-0 c.in_ok-arg-4.field-0 c.value_option-4.result _ _ c.in_ok-arg-4.ensures conflicts c.value_option-4.ensures.rule c.value_option-4.ensures.local in
    let nodes = arg_added c.in_ok-arg-4.field-0 c.in_ok-arg-5.field-0 c.value_option-5.result _ _ c.in_ok-arg-5.ensures workers c.value_option-5.ensures.rule c.value_option-5.ensures.local in
    let options : app_of c.in_ok-arg-6.field-0 ≡ with_options (new_app (codes "explore")) =
    arg_added c.in_ok-arg-5.field-0 c.in_ok-arg-6.field-0 c.value_option-6.result _ _ c.in_ok-arg-6.ensures nodes c.value_option-6.ensures.rule c.value_option-6.ensures.local in
    let program : app_of c.in_ok-arg-7.field-0 ≡ with_rule (with_options (new_app (codes "explore"))) (required_word (codes "PROGRAM")) =
    arg_added c.in_ok-arg-6.field-0 c.in_ok-arg-7.field-0 c.required_word.result _ _ c.in_ok-arg-7.ensures options c.required_word.ensures.rule c.required_word.ensures.local in
    let out = arg_added c.in_ok-arg-7.field-0 c.in_ok-arg-8.field-0 c.required_word-2.result _ _ c.in_ok-arg-8.ensures program c.required_word-2.ensures.rule c.required_word-2.ensures.local in
    IfOk-weaker c.arg-9.result _ _ (λ command added.
    arg_added c.in_ok-arg-8.field-0 command c.required_words.result _ _ added out c.required_words.ensures.rule c.required_words.ensures.local) c.arg-9.ensures

pub returns-clause-local : goal.returns-clause-local
returns-clause-local c =
    let steps = stays_local c.new.result c.in_ok-arg.field-0 c.value_option.result c.in_ok-arg.ensures c.new.ensures.local c.value_option.ensures.local in
    let targets = stays_local c.in_ok-arg.field-0 c.in_ok-arg-2.field-0 c.value_option-2.result c.in_ok-arg-2.ensures steps c.value_option-2.ensures.local in
    let conflicts = stays_local c.in_ok-arg-2.field-0 c.in_ok-arg-3.field-0 c.value_option-3.result c.in_ok-arg-3.ensures targets c.value_option-3.ensures.local in
    let workers = stays_local c.in_ok-arg-3.field-0 c.in_ok-arg-4.field-0 c.value_option-4.result c.in_ok-arg-4.ensures conflicts c.value_option-4.ensures.local in
    let nodes = stays_local c.in_ok-arg-4.field-0 c.in_ok-arg-5.field-0 c.value_option-5.result c.in_ok-arg-5.ensures workers c.value_option-5.ensures.local in
    let options = stays_local c.in_ok-arg-5.field-0 c.in_ok-arg-6.field-0 c.value_option-6.result c.in_ok-arg-6.ensures nodes c.value_option-6.ensures.local in
    let program = stays_local c.in_ok-arg-6.field-0 c.in_ok-arg-7.field-0 c.required_word.result c.in_ok-arg-7.ensures options c.required_word.ensures.local in
    let out = stays_local c.in_ok-arg-7.field-0 c.in_ok-arg-8.field-0 c.required_word-2.result c.in_ok-arg-8.ensures program c.required_word-2.ensures.local in
    IfOk-weaker c.arg-9.result _ _ (λ command added.
    stays_local c.in_ok-arg-8.field-0 command c.required_words.result added out c.required_words.ensures.local) c.arg-9.ensures
