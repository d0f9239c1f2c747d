-- The run of all assignments, before its first step.
use Rattle.std.specs.Prelude.{ℕ, List, [], map, replicate}
use Rattle.bv_dag.specs.Graphs.{Graph}
use Rattle.cow_pages.specs.SymbolicMemory.{SymbolicMemory}
use Rattle.rv_spec.specs.Machine.{first_registers}
use Rattle.sym_state.specs.Symbolic.{Symbolic, nothing_known}
use Rattle.sym_state.specs.declared.value.Value.{Value}
use Rattle.sym_state.specs.declared.value.Value.TheVariants.{Number}

-- numbers as values
abbrev pub number_values : List ℕ → List Value
number_values numbers = map (λ n. Number n) numbers

-- a run before its first step, at this address, with this memory and these terms
abbrev pub first_run : ℕ → SymbolicMemory → Graph → Symbolic
first_run entry memory terms = record {
  pc = entry;
  registers = number_values first_registers;
  memory = memory;
  terms = terms;
  condition = [];
  output = [];
  path = [];
  choices = [];
  steps = 0;
  known = nothing_known;
  sample = replicate terms.inputs 0;
  updates = [];
}
