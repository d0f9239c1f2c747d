use Rattle.std.proofs.Common.{◌≡◌}
use Rattle.rv_machine.specs.Pages.{byte_on, filled, flags_on}
use Rattle.rv_machine.proofs.filling.fill.Given as goal

abbrev pub invariant-loop-i : goal.invariant-loop-i
invariant-loop-i l = record {
  rest : l.hart ≡ record l.fn.hart { pages = l.hart.pages };
  flags : flags_on l.hart.pages ≡ flags_on l.fn.hart.pages;
  bytes : byte_on l.hart.pages ≡ filled l.region.start l.i l.bytes (byte_on l.fn.hart.pages);
}
