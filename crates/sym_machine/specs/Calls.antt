-- What a write of memory does to the output of a symbolic run.
use Rattle.std.specs.Prelude.{◌≡◌, ℕ, ◌++◌, map}
use Rattle.cow_pages.specs.SymbolicMemory.{memory_byte}
use Rattle.rv_spec.specs.Machine.{addresses}
use Rattle.sym_state.specs.Symbolic.{Symbolic}

-- the bytes at so many addresses were put behind the output, and nothing else has changed
pub record WritesOutput (old new : Symbolic) (start count : ℕ) : Type 0 where
  pub is : new ≡ record old
      { output = old.output ++ map (memory_byte old.memory) (addresses start count) }
