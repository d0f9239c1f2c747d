use Rattle.std.proofs.Common.{◌≡◌, drop, length}
use Rattle.rv_spec.specs.Memory.{count_of, placed}
use Rattle.rv_machine.specs.Pages.{AreMapped, byte_on, flags_on}
use Rattle.rv_machine.proofs.filling.place_input.Given as goal

abbrev pub invariant-loop-region : goal.invariant-loop-region
invariant-loop-region l = record {
  rest : l.hart ≡ record l.fn.hart { pages = l.hart.pages };
  flags : flags_on l.hart.pages ≡ flags_on l.fn.hart.pages;
  mapped : AreMapped (flags_on l.fn.hart.pages) (drop l.region-index l.regions);
  enough : length l.left ≡ count_of (drop l.region-index l.regions);
  bytes : placed (drop l.region-index l.regions) l.left (byte_on l.hart.pages) ≡ placed l.regions l.input (byte_on l.fn.hart.pages);
}
