use Rattle.std.proofs.Common.{◌≡◌, ◌+◌, ◌<◌, ℕ, List, drop}
use Rattle.std.specs.Prelude.{All}
use Rattle.cow_pages.specs.SymbolicMemory.{memory_flags}
use Rattle.rv_machine.specs.Pages.{AreMapped}
use Rattle.rv_spec.specs.Memory.{count_of, placed}
use Rattle.term_trees.specs.Growth.{Continues}
use Rattle.sym_state.specs.Placing.{HasBytes, bytes_expressed, bytes_worth}
use Rattle.sym_state.specs.Unfolded.{inputs_placed}
use Rattle.sym_state.proofs.first.place_inputs.Given as goal

abbrev pub invariant-loop-region : goal.invariant-loop-region
invariant-loop-region l = record {
  continues : Continues l.fn.terms l.terms;
  flags : memory_flags l.memory ≡ memory_flags l.fn.memory;
  has_bytes : HasBytes l.terms l.memory;
  mapped : AreMapped (memory_flags l.fn.memory) (drop l.region-index l.regions);
  left : l.first + count_of (drop l.region-index l.regions) ≡ count_of l.regions;
  expressed : inputs_placed (drop l.region-index l.regions) l.first (bytes_expressed l.terms l.memory)
      ≡ inputs_placed l.regions 0 (bytes_expressed l.fn.terms l.fn.memory);
  worth : (input : List ℕ) → All (λ b. b < 256) input →
      placed (drop l.region-index l.regions) (drop l.first input) (bytes_worth l.terms l.memory input)
      ≡ placed l.regions input (bytes_worth l.fn.terms l.fn.memory input);
}
