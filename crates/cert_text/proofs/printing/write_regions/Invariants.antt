use Rattle.std.proofs.Common.{◌≡◌, ◌++◌, string_bytes, take}
use Rattle.std.specs.List.{flat_map}
use Rattle.cert_text.specs.Texts.{blank_region}
use Rattle.cert_text.proofs.printing.write_regions.Given as goal

abbrev pub invariant-loop-region : goal.invariant-loop-region
invariant-loop-region l = string_bytes l.text ≡ string_bytes l.fn.text ++ flat_map blank_region (take l.region-index l.regions)
