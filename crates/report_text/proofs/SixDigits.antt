use Rattle.std.proofs.Common.{◌≡◌, ◌∙◌, ℕ, ◌-◌, ◌^◌, ◌++◌, [], false, replicate, length, ap, arith, decimal}
use Rattle.std.proofs.lemmas.List.{append-nil}
use Rattle.std.specs.Fmt.{padded_integral, format_spec, char_count}
use Rattle.report_text.specs.FileNames.{six_digits}

-- what a hole of six digits, filled with zeros, writes
pub padded_to_six : (n : ℕ) → padded_integral (format_spec 32 0 4 6 (2 ^ 64 - 1)) false [] (decimal n) ≡ six_digits n
unfolding padded_integral char_count
padded_to_six n =
    let zeros : 6 - length (decimal n) - 0 - 0 ≡ 6 - length (decimal n) = omega arith in
    ap (λ k. replicate k 48 ++ (decimal n ++ [])) zeros ∙ ap (λ ds. replicate (6 - length (decimal n)) 48 ++ ds) (append-nil (decimal n))
