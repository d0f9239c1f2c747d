-- What the tests on areas mean.
use Rattle.std.proofs.Common.{◌≡◌, ℕ, ◌*◌, ◌/◌, ◌<◌, ◌≤◌, max, true, ltb, leb, ◌↔◌, IsTrue, arith}
use Rattle.std.proofs.lemmas.Bool.{and_parts, and_from, lt-ltb, ltb-true, leb-true, le-leb}
use Rattle.elf_load.specs.Areas.{end_of, first_page, last_page, share_address, touches}
use Rattle.elf_load.specs.declared.header.ProgramHeader.{ProgramHeader}

pub shares : (s t : ProgramHeader) → 0 < s.memory_size → 0 < t.memory_size → IsTrue (share_address s t) ↔ ((x : ℕ) × (s.address ≤ x) × (x < end_of s) × (t.address ≤ x) × (x < end_of t))
shares s t a b = (
  λ h. let p : (ltb s.address (end_of t) ≡ true) × (ltb t.address (end_of s) ≡ true) = and_parts _ _ h in
      let l : s.address < end_of t = ltb-true _ _ p.0 in
      let m : t.address < end_of s = ltb-true _ _ p.1 in
      (max s.address t.address, omega arith, omega arith, omega arith, omega arith),
  λ w. and_from (ltb s.address (end_of t)) (ltb t.address (end_of s)) (lt-ltb s.address (end_of t) (omega arith)) (lt-ltb t.address (end_of s) (omega arith)),
)

pub touches_at : (s : ProgramHeader) (page : ℕ) → 0 < s.memory_size → IsTrue (touches s page) ↔ ((x : ℕ) × (s.address ≤ x) × (x < end_of s) × (x / 256 ≡ page))
touches_at s page a = (
  λ h. let p : (leb (first_page s) page ≡ true) × (leb page (last_page s) ≡ true) = and_parts _ _ h in
      let l : first_page s ≤ page = leb-true _ _ p.0 in
      let m : page ≤ last_page s = leb-true _ _ p.1 in
      (max s.address (256 * page), omega arith, omega arith, omega arith),
  λ w. and_from (leb (first_page s) page) (leb page (last_page s)) (le-leb (first_page s) page (omega arith)) (le-leb page (last_page s) (omega arith)),
)
