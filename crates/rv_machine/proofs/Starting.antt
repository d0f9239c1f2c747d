-- The state in which a run begins.
use Rattle.std.proofs.Common.{◌≡◌, ℕ, List, [], refl, ap, ◌∙◌}
use Rattle.std.specs.Prelude.{Option}
use Rattle.elf_load.specs.Images.{Image}
use Rattle.elf_load.specs.declared.region.Region.{Region}
use Rattle.rv_spec.specs.Machine.{State, first_registers, first_state}
use Rattle.rv_spec.specs.Memory.{byte_of, placed}
use Rattle.rv_machine.specs.Pages.{byte_on, flags_on}
use Rattle.rv_machine.specs.HartStates.{HartState, state_of}

-- the pages of an image give its bytes
bytes_of_image : (image : Image) → byte_on image.pages ≡ byte_of image
unfolding byte_of
bytes_of_image image = refl

-- a state like that of h, but for its memory
unfoldable with_memory : HartState → (ℕ → Option ℕ) → (ℕ → ℕ) → State
with_memory h flags byte = record { pc = h.pc; registers = h.registers; flags = flags; byte = byte; output = h.output; path = h.path }

pub first_at : (image : Image) (regions slice : List Region) (input : List ℕ) (h after : HartState)
    → h ≡ record { pc = image.entry; registers = first_registers; pages = image.pages; output = []; path = [] } → slice ≡ regions
    → after ≡ record h { pages = after.pages } → flags_on after.pages ≡ flags_on h.pages → byte_on after.pages ≡ placed slice input (byte_on h.pages)
    → state_of after ≡ first_state image regions input
unfolding with_memory
first_at image regions slice input h after begins same rest flags bytes =
    ap (λ (a : HartState). state_of a) rest
    ∙ ap (λ (f : ℕ → Option ℕ). with_memory h f (byte_on after.pages)) flags
    ∙ ap (λ (b : ℕ → ℕ). with_memory h (flags_on h.pages) b) bytes
    ∙ ap (λ (a : HartState). with_memory a (flags_on a.pages) (placed slice input (byte_on a.pages))) begins
    ∙ ap (λ (b : ℕ → ℕ). record (first_state image slice input) { byte = placed slice input b }) (bytes_of_image image)
    ∙ ap (λ (rs : List Region). first_state image rs input) same
