-- What came of reading two names, one behind the other.
use Rattle.std.proofs.Common.{◌≡◌, ℕ, List, [], ◌∷◌, ◌∙◌, refl, sym}
use Rattle.std.specs.Prelude.{Result, Ok, Err, IsErrOf, OnErr}
use Rattle.tool_io.specs.Told.{Seen, after, reads}
use Rattle.tool_io.specs.declared.files.Fault.{Fault}
use Rattle.tool_io.specs.declared.files.Fault.TheVariants.{Failed, NoMemory}
use Rattle.tool_io.proofs.Deeds.{after_two, after-nothing, IsPrefix-nothing, IsPrefix-whole}
use Rattle.tool_top.specs.Plan.{OnlyReads}

abbrev failing : (T : Type 0) → Fault → Result T Fault
failing T e = Err e

fault_cases : {T P : Type 0} → (e : Fault) → (IsErrOf (failing T e) Failed → P) → (IsErrOf (failing T e) NoMemory → P) → P
fault_cases Failed failed no_memory = failed refl
fault_cases NoMemory failed no_memory = no_memory refl

pub on_err : {T E P : Type 0} → (r : Result T E) → P → OnErr r P
on_err (Ok x) p = tt
on_err (Err e) p = p

module _ (first second : List ℕ) where
  pub first_failed : {T : Type 0} (old new : Seen) (e : Fault) → (IsErrOf (failing T e) Failed → new.told ≡ after old.told (reads first)) → (IsErrOf (failing T e) NoMemory → new.told ≡ old.told)
      → OnlyReads old new (first ∷ second ∷ [])
  first_failed old new e failed no_memory = fault_cases e
      (λ is. record { names = first ∷ []; begins = (second ∷ [], refl); changes = failed is })
      (λ is. record { names = []; begins = IsPrefix-nothing _; changes = no_memory is ∙ sym (after-nothing _) })

  pub second_failed : {T : Type 0} (old mid new : Seen) (e : Fault) → mid.told ≡ after old.told (reads first) → (IsErrOf (failing T e) Failed → new.told ≡ after mid.told (reads second)) → (IsErrOf (failing T e) NoMemory → new.told ≡ mid.told)
      → OnlyReads old new (first ∷ second ∷ [])
  second_failed old mid new e read failed no_memory = fault_cases e
      (λ is. record { names = first ∷ second ∷ []; begins = IsPrefix-whole _; changes = after_two old.told mid.told new.told (reads first) (reads second) read (failed is) })
      (λ is. record { names = first ∷ []; begins = (second ∷ [], refl); changes = no_memory is ∙ read })
