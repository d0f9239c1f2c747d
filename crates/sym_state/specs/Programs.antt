-- A program, and where its input bytes stand.
use Rattle.std.specs.Prelude.{◌≡◌, ℕ, List, None, refl}
use Rattle.std.specs.Coded.{Coded, code_by, coded×, coded_ℕ, coded_list}
use Rattle.elf_load.specs.Fits.{unfit}
use Rattle.elf_load.specs.Images.{Image, image_code}
use Rattle.elf_load.specs.declared.region.Region.{Region}

pub record Program : Type 0 where
  pub image : Image
  pub regions : List Region

-- its input bytes are on mapped pages, each at an address of its own
abbrev pub IsFitted : Program → Type 0
IsFitted p = unfit p.image p.regions ≡ None

-- The codes of regions and programs, by which they are told apart.
abbrev pub region_code : Coded Region
region_code = code_by (ℕ × ℕ) (coded× coded_ℕ coded_ℕ) (λ r. (r.start, r.count))
    (λ c. record { start = c.0; count = c.1 }) (λ _. refl)

abbrev pub program_code : Coded Program
program_code =
    code_by (Image × List Region) (coded× image_code (coded_list region_code))
    (λ p. (p.image, p.regions))
    (λ c. record { image = c.0; regions = c.1 }) (λ _. refl)
