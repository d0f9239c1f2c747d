use Rattle.std.proofs.Common.{◌∙◌, ap}
use Rattle.std.specs.Fmt.{styled_decimal}
use Rattle.report_text.proofs.SixDigits.{padded_to_six}
use Rattle.report_text.proofs.file_names.padded_rank.Goals as goal

pub returns : goal.returns
returns c =
    c.in_ok-digits.ensures.ok ∙ ap (λ s. styled_decimal s c.args.rank) c.laid_out.ensures
    ∙ padded_to_six c.args.rank
