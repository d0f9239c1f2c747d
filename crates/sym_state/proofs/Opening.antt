-- The run of all assignments, before its first step.
use Rattle.std.proofs.Common.{◌≡◌, ℕ, zero, suc, ◌+◌, ◌<◌, ◌≤◌, ◌^◌, ◌&&◌, Bool, true, false, List, [], ◌∷◌, length, map, refl, sym, ap, subst, ◌∙◌, arith}
use Rattle.std.specs.Prelude.{◌==◌, All, Err, IfOk, None, Ok, Result, Option, Some, if◌then◌else◌, nat_lt, replicate, slice_index_or, sum_by}
use Rattle.std.proofs.Math.Path.{fun_ext}
use Rattle.std.proofs.lemmas.Bool.{and_parts}
use Rattle.std.proofs.lemmas.Bool.Decides.{nat_tests}
use Rattle.std.proofs.lemmas.List.{length-replicate}
use Rattle.std.proofs.lemmas.List.Elements.{All-head, All-map, All-nil, All-replicate, All-set, All-tail}
use Rattle.std.proofs.lemmas.List.Sums.{sum_by-cons}
use Rattle.bv_dag.specs.Graphs.{Graph, width_of}
use Rattle.bv_dag.specs.Queries.{holds}
use Rattle.cow_pages.specs.SymbolicMemory.{SymbolicMemory, memory_byte, memory_flags}
use Rattle.cow_pages.specs.declared.byte.Byte.TheVariants.{Number as ByteNumber}
use Rattle.elf_load.specs.Fits.{unfit, unfit_empty, unfit_overlap, unfit_too_long, unfit_too_many, unfit_unmapped}
use Rattle.elf_load.specs.Images.{Image}
use Rattle.elf_load.specs.declared.region.Region.{Region}
use Rattle.elf_load.specs.declared.unfit.Unfit.TheVariants.{TooMany, Empty, TooLong, Unmapped, Overlap}
use Rattle.fork_spec.specs.Leaves.{IsSmallStep, are_bytes}
use Rattle.tree_core.specs.Choices.{IsSmallChoice}
use Rattle.fork_spec.proofs.ByteLists.{are_bytes-each, are_bytes-of}
use Rattle.rv_machine.proofs.Placing.{fitting_mapped}
use Rattle.rv_machine.specs.Pages.{AreMapped}
use Rattle.fork_spec.specs.Decisions.{decisions_from}
use Rattle.rv_spec.specs.Machine.{first_registers, first_state}
use Rattle.rv_spec.specs.Memory.{byte_of, count_of, flags_of, placed}
use Rattle.rv_spec.specs.Runs.{run_from}
use Rattle.sym_state.specs.Expressions.{Expression, Number as ANumber, byte_expression, value_expression}
use Rattle.sym_state.specs.KeptUpdates.{AreUpdates}
use Rattle.sym_state.specs.First.{first_run, number_values}
use Rattle.sym_state.specs.Placing.{HasBytes, PutsBytes, bytes_expressed, bytes_worth}
use Rattle.sym_state.specs.Programs.{Program}
use Rattle.sym_state.specs.Runs.{IsFirst, IsOpen, IsSampled}
use Rattle.sym_state.specs.Unfolded.{first_unfolded, inputs_placed, unfolded}
use Rattle.sym_state.specs.Unfolding.{unfolded_run}
use Rattle.sym_state.specs.Symbolic.{IsFormed, IsTrulyKnown, Symbolic, concrete, condition_of, known_at, nothing_known, stands_for}
use Rattle.sym_state.specs.Values.{IsByte, IsWide, byte_worth, worth_of}
use Rattle.sym_state.specs.declared.decided.Decided.{Decided}
use Rattle.sym_state.specs.declared.value.Value.TheVariants.{Number}

counted : (rs : List Region) → sum_by (λ r. r.count) rs ≡ count_of rs
counted [] = refl
counted (r ∷ rs) = sum_by-cons (λ s. s.count) r rs ∙ ap (λ n. r.count + n) (counted rs)

-- the third of the tests of regions
not_too_long : (a b c d e : Bool)
    → (if a then Some TooMany else if b then Some Empty else if c then Some TooLong else if d then Some Unmapped else if e then Some Overlap else None) ≡ None
    → c ≡ false
not_too_long true b c d e is = cc
not_too_long false true c d e is = cc
not_too_long false false true d e is = cc
not_too_long false false false d e is = refl

-- regions that fit an image have 1,024 bytes at most
pub fitting_few : (image : Image) (rs : List Region) → unfit image rs ≡ None → count_of rs ≤ 1024
unfolding unfit
fitting_few image rs fit =
    let short : nat_lt 1024 (sum_by (λ r. r.count) rs) ≡ false =
    not_too_long (unfit_too_many rs) (unfit_empty rs) (unfit_too_long rs) (unfit_unmapped image rs) (unfit_overlap rs) fit in
    let same = counted rs in
    grind (arith, nat_tests, short, same)

-- so that they are mapped in the memory that begins with it
pub image_mapped : (p : Program) (memory : SymbolicMemory) → unfit p.image p.regions ≡ None
    → ((page : ℕ) → memory_flags memory page ≡ flags_of p.image page) → AreMapped (memory_flags memory) p.regions
image_mapped p memory fit flags =
    subst (λ (f : ℕ → Option ℕ). AreMapped f p.regions) (sym (fun_ext flags)) (fitting_mapped p.image p.regions fit)

-- numbers as values are worth what they are
worth_numbers : (terms : Graph) (input numbers : List ℕ) → map (worth_of terms input) (number_values numbers) ≡ numbers
worth_numbers terms input [] = refl
worth_numbers terms input (n ∷ numbers) = ap (λ ns. n ∷ ns) (worth_numbers terms input numbers)

-- and are these numbers as expressions
expressed_numbers : (terms : Graph) (numbers : List ℕ) → map (value_expression terms) (number_values numbers) ≡ map (λ n. ANumber n) numbers
expressed_numbers terms [] = refl
expressed_numbers terms (n ∷ numbers) = ap (λ es. ANumber n ∷ es) (expressed_numbers terms numbers)

wide_registers : (terms : Graph) → All (IsWide terms) (number_values first_registers)
wide_registers terms =
    All-map (IsWide terms) (λ n. Number n) first_registers
    (All-set (λ n. n < 2 ^ 32) (replicate 32 0) 2 0x7FFFFFF0 (omega arith) (All-replicate (λ n. n < 2 ^ 32) 32 0 (omega arith)))

-- its form
pub first_formed : (entry : ℕ) (memory : SymbolicMemory) (terms : Graph) → entry < 2 ^ 32
    → HasBytes terms memory → IsFormed (first_run entry memory terms)
first_formed entry memory terms small has = record {
  all_registers = refl;
  wide = wide_registers terms;
  zero = refl;
  memory = has;
  bits = All-nil (λ id. width_of terms id ≡ 1);
  bytes = All-nil (IsByte terms);
  in_memory = small;
  choices = All-nil IsSmallChoice;
  path = All-nil IsSmallStep;
  few_steps = omega arith;
  places = refl;
  each_input = length-replicate terms.inputs 0;
  sample_bytes = All-replicate (λ b. b < 256) terms.inputs 0 (omega arith);
  updates = All-nil (AreUpdates terms memory);
}

-- a run stands for lists of bytes
pub stands-bytes : (s : Symbolic) (input : List ℕ) → stands_for s input ≡ true → All (λ b. b < 256) input
stands-bytes s input stands =
    are_bytes-each input (and_parts (are_bytes input) (holds (condition_of s) input) stands).0

-- nothing is known at any place
none_at : (known : List (Option Decided)) (place : ℕ) → All (λ k. k ≡ None) known → slice_index_or known place None ≡ None
none_at [] place all = refl
none_at (k ∷ known) zero all = All-head (λ (o : Option Decided). o ≡ None) k known all
none_at (k ∷ known) (suc place) all = none_at known place (All-tail (λ (o : Option Decided). o ≡ None) k known all)

known_nowhere : (entry : ℕ) (memory : SymbolicMemory) (terms : Graph) (place : ℕ) → known_at (first_run entry memory terms) place ≡ None
known_nowhere entry memory terms place =
    none_at nothing_known place (All-replicate (λ (k : Option Decided). k ≡ None) 5 None refl)

-- its sample is zeros
zeros_stand : (entry : ℕ) (memory : SymbolicMemory) (terms : Graph) → stands_for (first_run entry memory terms) (replicate terms.inputs 0) ≡ true
zeros_stand entry memory terms =
    let zeros : List ℕ = replicate terms.inputs 0 in
    let bytes : are_bytes zeros ≡ true = are_bytes-of zeros (All-replicate (λ b. b < 256) terms.inputs 0 (omega arith)) in
    let each : (length zeros == terms.inputs) ≡ true = let long : length zeros ≡ terms.inputs = length-replicate terms.inputs 0 in grind (arith, nat_tests, long) in
    ap (λ t. t && ((length zeros == terms.inputs) && true)) bytes ∙ ap (λ t. t && true) each

-- memory and terms as the input bytes were put to the image
module _ (p : Program) (start terms : Graph) (image memory : SymbolicMemory)
    (inputs : start.inputs ≡ count_of p.regions)
    (bytes : (address : ℕ) → memory_byte image address ≡ ByteNumber (byte_of p.image address))
    (flags : (page : ℕ) → memory_flags image page ≡ flags_of p.image page)
    (puts : PutsBytes start terms image memory (inputs_placed p.regions 0 (bytes_expressed start image)) (λ input. placed p.regions input (bytes_worth start image input))) where
  byte_is : (input : List ℕ) → All (λ b. b < 256) input → bytes_worth terms memory input ≡ placed p.regions input (byte_of p.image)
  byte_is input small =
      puts.worth input small
      ∙ ap (λ (byte : ℕ → ℕ). placed p.regions input byte) (fun_ext (λ address. ap (byte_worth start input) (bytes address)))

  state_is : (input : List ℕ) → All (λ b. b < 256) input → concrete (first_run p.image.entry memory terms) input ≡ first_state p.image p.regions input
  state_is input small =
      ap (λ rs. record (concrete (first_run p.image.entry memory terms) input) { registers = rs }) (worth_numbers terms input first_registers)
      ∙ ap (λ (f : ℕ → Option ℕ). record (first_state p.image p.regions input) { flags = f; byte = bytes_worth terms memory input }) (puts.flags ∙ fun_ext flags)
      ∙ ap (λ (b : ℕ → ℕ). record (first_state p.image p.regions input) { byte = b }) (byte_is input small)

  bytes_are : bytes_expressed terms memory ≡ inputs_placed p.regions 0 (λ address. ANumber (byte_of p.image address))
  bytes_are = puts.expressed ∙ ap (inputs_placed p.regions 0) (fun_ext (λ address. ap (byte_expression start) (bytes address)))

  terms_are : unfolded (first_run p.image.entry memory terms) ≡ first_unfolded p.image p.regions
  terms_are =
      ap (λ es. record (unfolded (first_run p.image.entry memory terms)) { registers = es }) (expressed_numbers terms first_registers)
      ∙ ap (λ (f : ℕ → Option ℕ). record (first_unfolded p.image p.regions) { flags = f; byte = bytes_expressed terms memory }) (puts.flags ∙ fun_ext flags)
      ∙ ap (λ (b : ℕ → Expression). record (first_unfolded p.image p.regions) { byte = b }) bytes_are

  pub is_first : IsFirst p (first_run p.image.entry memory terms)
  is_first = record {
    steps = refl;
    choices = refl;
    condition = refl;
    inputs = puts.continues.inputs ∙ inputs;
    known = refl;
    state = λ input assigned. state_is input assigned.1;
    terms = terms_are;
  }

  pub is_open : IsOpen p (first_run p.image.entry memory terms)
  unfolding run_from decisions_from unfolded_run
  is_open = record {
    inputs = puts.continues.inputs ∙ inputs;
    knows = λ place. subst (IsTrulyKnown (first_run p.image.entry memory terms) place) (sym (known_nowhere p.image.entry memory terms place)) tt;
    few_outputs = omega arith;
    sound = λ input stands.
        ap (λ s. record { state = s; end = None; steps = 0 }) (sym (state_is input (stands-bytes (first_run p.image.entry memory terms) input stands)));
    alike = record { made = []; alike = λ input stands. refl };
    terms = λ input stands. terms_are;
  }

-- what holds of it holds of what begins, where memory was there
pub if_first : {E : Type 0} (P : Symbolic → Type 0) (r : Result Symbolic E) (entry : ℕ) (memory : SymbolicMemory) (terms : Graph)
    → IfOk r (λ s. s ≡ first_run entry memory terms) → P (first_run entry memory terms) → IfOk r P
if_first P (Err e) entry memory terms is holds = tt
if_first P (Ok s) entry memory terms is holds = subst P (sym is) holds

-- so its sample is one of its assignments
pub first_sampled : {E : Type 0} (r : Result Symbolic E) (entry : ℕ) (memory : SymbolicMemory) (terms : Graph)
    → IfOk r (λ s. s ≡ first_run entry memory terms) → IfOk r IsSampled
first_sampled r entry memory terms is = if_first IsSampled r entry memory terms is (zeros_stand entry memory terms)
