-- Regions, put together of what words and texts say.
use Rattle.std.specs.Prelude.{ℕ, List, ◌∷◌, Option, Some, None}
use Rattle.elf_load.specs.declared.region.Region.{Region}

-- where both numbers are there, the region of this start and this count
abbrev pub region_with : Option ℕ → Option ℕ → Option Region
region_with (Some start) (Some count) = Some (record { start = start; count = count })
region_with _ _ = None

-- where both are there, the first before the others
abbrev pub put_first : {A : Type 0} → Option A → Option (List A) → Option (List A)
put_first (Some first) (Some others) = Some (first ∷ others)
put_first _ _ = None
