use Rattle.std.proofs.Common.{◌≡◌, ℕ, T}
use Rattle.std.specs.FinMap.{entries, find, get}
use Rattle.std.specs.Prelude.{All}
use Rattle.std.specs.FinMap.Entries.{is_sorted}
use Rattle.std.specs.Option.{option_map, option_or}
use Rattle.std.specs.Ordering.{nat_cmp}
use Rattle.cow_pages.specs.SymbolicMemory.{as_symbolic}
use Rattle.cow_pages.specs.Groups.{memory_in}
use Rattle.cow_pages.proofs.ImageBytes.{IsOfBytes}
use Rattle.cow_pages.proofs.pages.Pages.new.Given as goal

-- the pages so far are there, and those that are left come behind them; all have bytes, where those that are left do
abbrev pub invariant-loop-number : goal.invariant-loop-number
invariant-loop-number l = record {
  sorted : T (is_sorted nat_cmp l.number-iterator);
  pages : (q : ℕ) → option_map as_symbolic (get l.image.pages q) ≡ option_or (option_map as_symbolic (find nat_cmp q l.number-iterator)) (get (memory_in l.groups) q);
  small : All IsOfBytes l.number-iterator → All IsOfBytes (entries l.image.pages);
}
