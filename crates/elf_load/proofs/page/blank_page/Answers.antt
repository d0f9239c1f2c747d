use Rattle.std.proofs.Common.{◌≡◌, ℕ, zero, suc, get_or, replicate, refl}
use Rattle.elf_load.proofs.page.blank_page.Goals as goal

zero_at : (n i : ℕ) → get_or {A = ℕ} (replicate n 0) i 0 ≡ 0
zero_at zero i = refl
zero_at (suc n) zero = refl
zero_at (suc n) (suc i) = zero_at n i

pub returns-clause-bytes : goal.returns-clause-bytes
returns-clause-bytes c i = zero_at 256 i
