-- A symbolic run with its terms unfolded: what it knows of the machine's state, whatever table keeps
-- its terms.
use Rattle.std.specs.Prelude.{ℕ, ◌+◌, ◌-◌, ◌==◌, List, [], ◌∷◌, map, slice_index_or, slice_set, if◌then◌else◌, Option}
use Rattle.cow_pages.specs.SymbolicMemory.{memory_flags}
use Rattle.elf_load.specs.Images.{Image}
use Rattle.elf_load.specs.declared.region.Region.{Region}
use Rattle.rv_decode.specs.declared.ends.PathStep.{PathStep}
use Rattle.rv_spec.specs.Machine.{first_registers}
use Rattle.rv_spec.specs.Memory.{flags_of, byte_of, is_in}
use Rattle.term_trees.specs.Trees.{Byte}
use Rattle.sym_state.specs.Expressions.{Expression, Number, Unknown, value_expression, byte_expression}
use Rattle.sym_state.specs.KeptUpdates.{updates_expressed}
use Rattle.sym_state.specs.Placing.{bytes_expressed}
use Rattle.sym_state.specs.Updates.{ExpressedUpdates}
use Rattle.sym_state.specs.Symbolic.{Symbolic}

pub record Unfolded : Type 0 where
  pub pc : ℕ
  -- x0 to x31
  pub registers : List Expression
  pub flags : ℕ → Option ℕ
  pub byte : ℕ → Expression
  -- the bytes written so far
  pub output : List Expression
  pub path : List PathStep
  -- the last stores by terms
  pub updates : List ExpressedUpdates

abbrev pub unfolded : Symbolic → Unfolded
unfolded s = record {
  pc = s.pc;
  registers = map (value_expression s.terms) s.registers;
  flags = memory_flags s.memory;
  byte = bytes_expressed s.terms s.memory;
  output = map (byte_expression s.terms) s.output;
  path = s.path;
  updates = updates_expressed s.terms s.updates;
}

-- memory with the input bytes in the regions, numbered in their order from one on
abbrev pub inputs_placed : List Region → (first : ℕ) → (ℕ → Expression) → ℕ → Expression
inputs_placed [] first byte = byte
inputs_placed (r ∷ rs) first byte =
    inputs_placed rs (first + r.count)
    (λ x. if is_in r x then Unknown (Byte (first + (x - r.start))) else byte x)

-- in which the run of a program begins
abbrev pub first_unfolded : Image → List Region → Unfolded
first_unfolded image regions = record {
  pc = image.entry;
  registers = map (λ n. Number n) first_registers;
  flags = flags_of image;
  byte = inputs_placed regions 0 (λ address. Number (byte_of image address));
  output = [];
  path = [];
  updates = [];
}

abbrev pub expression_at : List Expression → ℕ → Expression
expression_at registers r = slice_index_or registers r (Number 0)

-- x0 is never written
abbrev pub set_expression : List Expression → ℕ → Expression → List Expression
set_expression registers rd e = if rd == 0 then registers else slice_set registers rd e
