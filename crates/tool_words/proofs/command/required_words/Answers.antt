use Rattle.std.proofs.Common.{◌∙◌, ap, ap₂}
use Rattle.clap.specs.Words.{Rule, rule_of}
use Rattle.tool_words.proofs.Adding.{only_value}
use Rattle.tool_words.proofs.command.required_words.Goals as goal

pub returns-clause-rule : goal.returns-clause-rule
returns-clause-rule c =
    ap rule_of c.num_args.ensures.0
    ∙ ap₂ (λ (r : Rule) x. record r { range = x }) c.required_word.ensures.rule (only_value _ _ c.num_args.ensures.1)
