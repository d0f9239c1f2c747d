use Rattle.std.proofs.Common.{◌≡◌, ℕ, ◌^◌, ◌/◌, ◌%◌, ◌*◌, List, [], ◌∷◌}
use Rattle.std.specs.Prelude.{◌==◌, Result, Ok, Err, OnOk, if◌then◌else◌}
use Rattle.cow_pages.specs.SymbolicMemory.{memory_byte, memory_flags}
use Rattle.cow_pages.specs.declared.byte.Byte.{Byte}
use Rattle.sym_state.specs.Moves.{MakesByte, stored_at}
use Rattle.sym_state.specs.Symbolic.{Symbolic, IsFormed}
use Rattle.sym_state.specs.Values.{worth_of}
use Rattle.sym_state.specs.Expressions.{register_byte, value_expression}
use Rattle.sym_machine.specs.Steps.{Puts}
use Rattle.sym_machine.proofs.Unfolds.{unfolded-put}
use Rattle.sym_machine.proofs.Putting.{puts_byte}
use Rattle.sym_machine.proofs.transfer.put_byte.Goals as goal

-- where memory was there
puts : {E : Type 0} (old mid new : Symbolic) (address : ℕ) (byte : Byte) (number : List ℕ → ℕ)
    (r : Result (Unit {0}) E)
    → MakesByte old mid byte number → OnOk r (new ≡ stored_at mid address byte)
    → OnOk r ((at : ℕ) → memory_byte new.memory at
    ≡ (if at == address then byte else memory_byte mid.memory at))
    → OnOk r ((page : ℕ) → memory_flags new.memory page ≡ memory_flags mid.memory page)
    → IsFormed new
    → OnOk r (Puts old new address (λ input. number input ∷ []))
puts old mid new address byte number (Err e) made there bytes flags formed = tt
puts old mid new address byte number (Ok u) made there bytes flags formed =
    puts_byte old mid new address byte number made there bytes flags formed

pub returns-clause-puts : goal.returns-clause-puts
returns-clause-puts c =
    puts c.args.state.now c.byte_at.new.self c.put.new.self c.args.address c.in_ok-byte.byte
    (λ input. worth_of c.args.state.now.terms input c.args.value / 2 ^ (8 * c.args.at) % 2 ^ 8)
    c.put.result
    c.in_ok-byte.ensures.ok c.put.ensures.ok c.put.ensures.bytes c.put.ensures.flags
    c.put.ensures.formed

pub returns-clause-terms : goal.returns-clause-terms
returns-clause-terms c =
    unfolded-put c.args.state.now c.byte_at.new.self c.put.new.self c.args.address c.in_ok-byte.byte
    (register_byte c.args.at (value_expression c.args.state.now.terms c.args.value)) c.put.result
    c.in_ok-byte.ensures.ok.grown c.in_ok-byte.ensures.expression c.put.ensures.ok c.put.ensures.bytes c.put.ensures.flags
