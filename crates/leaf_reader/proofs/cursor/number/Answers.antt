use Rattle.std.proofs.Common.{◌∙◌, sym, ap, subst, take, arith}
use Rattle.std.specs.Char.{is_ascii_digit}
use Rattle.std.specs.Str.Parse.{AllDigits}
use Rattle.std.proofs.lemmas.List.{length-take}
use Rattle.std.proofs.lemmas.List.Folds.{length-prefix_len}
use Rattle.text_parts.specs.Pieces.{digit_count}
use Rattle.text_parts.proofs.Words.{all_counted}
use Rattle.leaf_reader.proofs.cursor.number.Goals as goal

pub split_at-requires : goal.split_at-requires
split_at-requires c =
    omega (arith, c.digit_count.ensures, length-prefix_len is_ascii_digit c.args.text.now, length-take (digit_count c.args.text.now) c.args.text.now)

pub plain_number-requires : goal.plain_number-requires
plain_number-requires c =
    let front = c.split_at.ensures.front ∙ ap (λ k. take k c.args.text.now) c.digit_count.ensures in
    subst (AllDigits 10) (sym front) (all_counted c.args.text.now)
