-- The form of a run stays where terms are added.
use Rattle.std.proofs.Common.{◌≡◌, ℕ, Bool, List, get_or, refl, sym, subst, ◌∙◌, arith}
use Rattle.std.specs.Prelude.{All, Result, Ok, Err, IfOk, OnErr}
use Rattle.bv_dag.specs.Graphs.{Graph}
use Rattle.bv_dag.specs.Queries.{AreBits}
use Rattle.cow_pages.specs.SymbolicMemory.{SymbolicMemory, memory_byte}
use Rattle.cow_pages.specs.declared.byte.Byte.{Byte}
use Rattle.term_trees.specs.Growth.{Continues}
use Rattle.sym_state.specs.KeptUpdates.{AreUpdates, KeptUpdates}
use Rattle.sym_state.specs.Moves.{IsGrown, MakesBit, MakesByte, MakesTerm, MakesValue, with_terms}
use Rattle.sym_state.specs.Placing.{HasBytes}
use Rattle.sym_state.specs.Symbolic.{Symbolic, IsFormed}
use Rattle.sym_state.specs.Values.{GivesBit, GivesByte, GivesTerm, GivesValue, IsByte, IsWide}
use Rattle.sym_state.specs.declared.value.Bit.{Bit}
use Rattle.sym_state.specs.declared.value.Value.{Value}
use Rattle.sym_state.proofs.Growing.{IsByte-grown, IsWide-grown, width-kept}
use Rattle.sym_state.proofs.Updating.{All-by, updates-grown}

pub AreBits-grown : (g h : Graph) (ids : List ℕ) → Continues g h → AreBits g ids → AreBits h ids
AreBits-grown g h ids grown bits k d below = width-kept g h (get_or ids k d) 1 grown (bits k d below) (omega arith)

pub formed-grown : (s : Symbolic) (g : Graph) → IsFormed s → Continues s.terms g → IsFormed (with_terms s g)
formed-grown s g f grown = record {
  all_registers = f.all_registers;
  wide = All-by (IsWide s.terms) (IsWide g) s.registers (λ v. IsWide-grown s.terms g v grown) f.wide;
  zero = f.zero;
  memory = λ address. IsByte-grown s.terms g (memory_byte s.memory address) grown (f.memory address);
  bits = AreBits-grown s.terms g s.condition grown f.bits;
  bytes = All-by (IsByte s.terms) (IsByte g) s.output (λ b. IsByte-grown s.terms g b grown) f.bytes;
  in_memory = f.in_memory;
  choices = f.choices;
  path = f.path;
  few_steps = f.few_steps;
  places = f.places;
  each_input = f.each_input ∙ sym grown.inputs;
  sample_bytes = f.sample_bytes;
  updates = updates-grown s.terms g grown s.memory s.updates f.memory f.updates;
}

-- and where bytes were put to memory too
pub formed-put : (s : Symbolic) (g : Graph) (m : SymbolicMemory) (ts : List KeptUpdates) → IsFormed s → Continues s.terms g → HasBytes g m
    → All (AreUpdates g m) ts → IsFormed (record s { memory = m; terms = g; updates = ts })
formed-put s g m ts f grown has all =
    let kept = formed-grown s g f grown in
    record {
      all_registers = kept.all_registers;
      wide = kept.wide;
      zero = kept.zero;
      memory = has;
      bits = kept.bits;
      bytes = kept.bytes;
      in_memory = kept.in_memory;
      choices = kept.choices;
      path = kept.path;
      few_steps = kept.few_steps;
      places = kept.places;
      each_input = kept.each_input;
      sample_bytes = kept.sample_bytes;
      updates = all;
    }

pub grows : (s : Symbolic) (g : Graph) → IsFormed s → Continues s.terms g → IsGrown s (with_terms s g)
grows s g f grown = record { before = f; same = refl; continues = grown; formed = formed-grown s g f grown }

-- where terms were made, or none after want of memory
pub formed_value : {E : Type 0} (s : Symbolic) (g : Graph) (r : Result Value E) (number : List ℕ → ℕ) → IsFormed s
    → IfOk r (λ v. GivesValue s.terms g v number) → OnErr r (g ≡ s.terms) → IsFormed (with_terms s g)
formed_value s g (Ok v) number f gives err = formed-grown s g f gives.continues
formed_value s g (Err e) number f gives err = subst (λ h. IsFormed (with_terms s h)) (sym err) f

pub makes_value : {E : Type 0} (s : Symbolic) (g : Graph) (r : Result Value E) (number : List ℕ → ℕ) → IsFormed s
    → IfOk r (λ v. GivesValue s.terms g v number) → IfOk r (λ v. MakesValue s (with_terms s g) v number)
makes_value s g (Ok v) number f gives = record {
  grown = record { before = f; same = refl; continues = gives.continues; formed = formed-grown s g f gives.continues };
  gives = gives;
}
makes_value s g (Err e) number f gives = tt

pub formed_byte : {E : Type 0} (s : Symbolic) (g : Graph) (r : Result Byte E) (number : List ℕ → ℕ) → IsFormed s
    → IfOk r (λ b. GivesByte s.terms g b number) → OnErr r (g ≡ s.terms) → IsFormed (with_terms s g)
formed_byte s g (Ok b) number f gives err = formed-grown s g f gives.continues
formed_byte s g (Err e) number f gives err = subst (λ h. IsFormed (with_terms s h)) (sym err) f

pub makes_byte : {E : Type 0} (s : Symbolic) (g : Graph) (r : Result Byte E) (number : List ℕ → ℕ) → IsFormed s
    → IfOk r (λ b. GivesByte s.terms g b number) → IfOk r (λ b. MakesByte s (with_terms s g) b number)
makes_byte s g (Ok b) number f gives = record {
  grown = record { before = f; same = refl; continues = gives.continues; formed = formed-grown s g f gives.continues };
  gives = gives;
}
makes_byte s g (Err e) number f gives = tt

pub formed_bit : {E : Type 0} (s : Symbolic) (g : Graph) (r : Result Bit E) (test : List ℕ → Bool) → IsFormed s
    → IfOk r (λ b. GivesBit s.terms g b test) → OnErr r (g ≡ s.terms) → IsFormed (with_terms s g)
formed_bit s g (Ok b) test f gives err = formed-grown s g f gives.continues
formed_bit s g (Err e) test f gives err = subst (λ h. IsFormed (with_terms s h)) (sym err) f

pub makes_bit : {E : Type 0} (s : Symbolic) (g : Graph) (r : Result Bit E) (test : List ℕ → Bool) → IsFormed s
    → IfOk r (λ b. GivesBit s.terms g b test) → IfOk r (λ b. MakesBit s (with_terms s g) b test)
makes_bit s g (Ok b) test f gives = record {
  grown = record { before = f; same = refl; continues = gives.continues; formed = formed-grown s g f gives.continues };
  gives = gives;
}
makes_bit s g (Err e) test f gives = tt

pub formed_term : {E : Type 0} (s : Symbolic) (g : Graph) (r : Result ℕ E) (bits : ℕ) (number : List ℕ → ℕ) → IsFormed s
    → IfOk r (λ id. GivesTerm s.terms g bits id number) → OnErr r (g ≡ s.terms) → IsFormed (with_terms s g)
formed_term s g (Ok id) bits number f gives err = formed-grown s g f gives.continues
formed_term s g (Err e) bits number f gives err = subst (λ h. IsFormed (with_terms s h)) (sym err) f

pub makes_term : {E : Type 0} (s : Symbolic) (g : Graph) (r : Result ℕ E) (bits : ℕ) (number : List ℕ → ℕ) → IsFormed s
    → IfOk r (λ id. GivesTerm s.terms g bits id number) → IfOk r (λ id. MakesTerm s (with_terms s g) bits id number)
makes_term s g (Ok id) bits number f gives = record {
  grown = record { before = f; same = refl; continues = gives.continues; formed = formed-grown s g f gives.continues };
  gives = gives;
}
makes_term s g (Err e) bits number f gives = tt
