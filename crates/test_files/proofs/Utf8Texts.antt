-- The texts of tests are in UTF-8.
use Rattle.std.proofs.Common.{ℕ, List, [], ◌∷◌, ◌++◌, ◌<◌, ◌^◌, map, IsUtf8, Option, Some, None, refl, nat_lt, ltb-true, codes, decimal, arith}
use Rattle.std.specs.Str.{IsAscii}
use Rattle.std.proofs.lemmas.Fmt.{IsAscii-decimal}
use Rattle.std.proofs.lemmas.Str.{IsUtf8-append, IsUtf8-from_ascii, IsUtf8-nil}
use Rattle.std.proofs.lemmas.List.Sums.{AllPass-from_list_all}
use Rattle.std.proofs.lemmas.Str.Ascii.{IsAscii-from_all}
use Rattle.hex.specs.Hex.{encode_lower, lower_digits}
use Rattle.hex.proofs.HexLemmas.{IsAscii-encode_with}
use Rattle.json.specs.Print.{quoted}
use Rattle.json.proofs.Printed.Utf8.{IsUtf8-are_ascii, IsUtf8-quoted}
use Rattle.rv_decode.specs.Ends.{trap_name}
use Rattle.rv_decode.specs.declared.ends.End.{End}
use Rattle.rv_decode.specs.declared.ends.End.TheVariants.{Exit, Trapped}
use Rattle.rv_decode.specs.declared.ends.PathStep.{PathStep}
use Rattle.rv_decode.specs.declared.ends.PathStep.TheVariants.{Taken, NotTaken, Target}
use Rattle.rv_decode.specs.declared.ends.Trap.{Trap}
use Rattle.rv_decode.specs.declared.ends.Trap.TheVariants.{Illegal, FetchMisaligned, FetchAccess, LoadMisaligned, LoadAccess, StoreMisaligned, StoreAccess, Break, Call}
use Rattle.text_parts.specs.Names.{eight_digits, path_text, step_text}
use Rattle.test_files.specs.Tests.{Filled, Test, end_text, filled, filled_text, test_text, with_commas}
use Rattle.test_files.specs.Writable.{HasStatus}

lower_ascii : IsAscii lower_digits
lower_ascii = IsAscii-from_all lower_digits (λ k d lt. ltb-true _ _ (AllPass-from_list_all (λ b. nat_lt b 128) lower_digits refl k d lt))

digits_utf8 : (bytes : List ℕ) → IsUtf8 (encode_lower bytes)
digits_utf8 bytes = IsUtf8-from_ascii (encode_lower bytes) (IsAscii-encode_with lower_digits bytes lower_ascii)

decimal_utf8 : (n : ℕ) → n < 2 ^ 64 → IsUtf8 (decimal n)
decimal_utf8 n small = IsUtf8-from_ascii (decimal n) (IsAscii-decimal n small)

trap_utf8 : (trap : Trap) → IsUtf8 (codes "trap " ++ trap_name trap)
trap_utf8 Illegal = IsUtf8-are_ascii _ refl
trap_utf8 FetchMisaligned = IsUtf8-are_ascii _ refl
trap_utf8 FetchAccess = IsUtf8-are_ascii _ refl
trap_utf8 LoadMisaligned = IsUtf8-are_ascii _ refl
trap_utf8 LoadAccess = IsUtf8-are_ascii _ refl
trap_utf8 StoreMisaligned = IsUtf8-are_ascii _ refl
trap_utf8 StoreAccess = IsUtf8-are_ascii _ refl
trap_utf8 Break = IsUtf8-are_ascii _ refl
trap_utf8 Call = IsUtf8-are_ascii _ refl

end_utf8 : (end : Option End) → HasStatus end → IsUtf8 (end_text end)
end_utf8 None status = IsUtf8-are_ascii (codes "running") refl
end_utf8 (Some (Exit n)) status = IsUtf8-append (codes "exit ") (decimal n) (IsUtf8-are_ascii (codes "exit ") refl) (decimal_utf8 n (omega (arith, status)))
end_utf8 (Some (Trapped trap)) status = trap_utf8 trap

step_utf8 : (step : PathStep) → IsUtf8 (step_text step)
step_utf8 Taken = IsUtf8-are_ascii (codes "T") refl
step_utf8 NotTaken = IsUtf8-are_ascii (codes "N") refl
step_utf8 (Target target) = IsUtf8-append (codes "@") _ (IsUtf8-are_ascii (codes "@") refl) (digits_utf8 _)

path_utf8 : (path : List PathStep) → IsUtf8 (path_text path)
path_utf8 [] = IsUtf8-nil
path_utf8 (step ∷ path) = IsUtf8-append (step_text step) (path_text path) (step_utf8 step) (path_utf8 path)

-- a region with its bytes
filled_utf8 : (region : Filled) → IsUtf8 (filled_text region)
filled_utf8 region =
    IsUtf8-append _ (codes "}") (
    IsUtf8-append _ (quoted (encode_lower region.bytes)) (
    IsUtf8-append _ (codes ",\"bytes\":") (
    IsUtf8-append _ (quoted (eight_digits region.start)) (IsUtf8-are_ascii (codes "{\"at\":") refl) (IsUtf8-quoted _ (digits_utf8 _))
    ) (IsUtf8-are_ascii (codes ",\"bytes\":") refl)
    ) (IsUtf8-quoted _ (digits_utf8 region.bytes))
    ) (IsUtf8-are_ascii (codes "}") refl)

inputs_utf8 : (regions : List Filled) → IsUtf8 (with_commas (map filled_text regions))
inputs_utf8 [] = IsUtf8-nil
inputs_utf8 (region ∷ []) = filled_utf8 region
inputs_utf8 (region ∷ next ∷ regions) =
    IsUtf8-append (filled_text region ++ codes ",") (with_commas (map filled_text (next ∷ regions)))
    (IsUtf8-append (filled_text region) (codes ",") (filled_utf8 region) (IsUtf8-are_ascii (codes ",") refl))
    (inputs_utf8 (next ∷ regions))

pub text_utf8 : (test : Test) → test.leaf < 2 ^ 64 → test.steps < 2 ^ 64 → HasStatus test.end → IsUtf8 (test_text test)
unfolding test_text
text_utf8 test leaf steps status =
    IsUtf8-append _ (codes "}\n") (
    IsUtf8-append _ (decimal test.steps) (
    IsUtf8-append _ (codes ",\"steps\":") (
    IsUtf8-append _ (quoted (path_text test.path)) (
    IsUtf8-append _ (codes ",\"path\":") (
    IsUtf8-append _ (quoted (encode_lower test.output)) (
    IsUtf8-append _ (codes ",\"output\":") (
    IsUtf8-append _ (decimal test.leaf) (
    IsUtf8-append _ (codes "],\"leaf\":") (
    IsUtf8-append _ (with_commas (map filled_text (filled test.regions test.input))) (
    IsUtf8-append _ (codes ",\"format\":2,\"inputs\":[") (
    IsUtf8-append _ (quoted (end_text test.end)) (IsUtf8-are_ascii (codes "{\"end\":") refl) (IsUtf8-quoted _ (end_utf8 test.end status))
    ) (IsUtf8-are_ascii (codes ",\"format\":2,\"inputs\":[") refl)
    ) (inputs_utf8 (filled test.regions test.input))
    ) (IsUtf8-are_ascii (codes "],\"leaf\":") refl)
    ) (decimal_utf8 test.leaf leaf)
    ) (IsUtf8-are_ascii (codes ",\"output\":") refl)
    ) (IsUtf8-quoted _ (digits_utf8 test.output))
    ) (IsUtf8-are_ascii (codes ",\"path\":") refl)
    ) (IsUtf8-quoted _ (path_utf8 test.path))
    ) (IsUtf8-are_ascii (codes ",\"steps\":") refl)
    ) (decimal_utf8 test.steps steps)
    ) (IsUtf8-are_ascii (codes "}\n") refl)
