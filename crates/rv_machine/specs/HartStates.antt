-- The state of a hart, and the state of the definitions that it is in then.
use Rattle.std.specs.Prelude.{ℕ, List}
use Rattle.rv_decode.specs.declared.ends.PathStep.{PathStep}
use Rattle.rv_spec.specs.Machine.{State}
use Rattle.rv_machine.specs.Pages.{Pages, byte_on, flags_on}

pub record HartState : Type 0 where
  pub pc : ℕ
  -- x0 to x31
  pub registers : List ℕ
  pub pages : Pages
  -- the bytes written so far
  pub output : List ℕ
  -- what each conditional branch so far did, and where each JALR went
  pub path : List PathStep

-- the state of the definitions, whose memory is a function of addresses
abbrev pub state_of : HartState → State
state_of h = record {
  pc = h.pc;
  registers = h.registers;
  flags = flags_on h.pages;
  byte = byte_on h.pages;
  output = h.output;
  path = h.path;
}
