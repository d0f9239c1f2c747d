-- The entries of a segment tree. Entry 1 is the root, the children of entry i are entries 2i and 2i + 1, and the second half of
-- the entries are the leaves, in the order of the nodes. Entry 0 is not used.
use Rattle.std.specs.Prelude.{◌≡◌, ◌≢◌, ℕ, zero, suc, ◌+◌, ◌*◌, ◌<◌, ◌≤◌, List, length, slice_index_or}
use Rattle.std.specs.Int.{IsPowerOfTwo}
use Rattle.free_nodes.specs.declared.sum.FreeSum.{FreeSum}
use Rattle.free_nodes.specs.Sums.{none_free, sum_of_both}

-- the entry of this number, and one with no free node past the end
abbrev pub sum_at : List FreeSum → ℕ → FreeSum
sum_at entries i = slice_index_or entries i none_free

-- the sum of so many entries from the first on
unfoldable pub sum_from : List FreeSum → (first count : ℕ) → FreeSum
sum_from entries first zero = none_free
sum_from entries first (suc count) =
    sum_of_both (sum_from entries first count) (sum_at entries (first + count))

-- Each entry from `least` on that has children is the sum of both, but for the one of the number `hole`. What is free under an
-- entry, times its number, is less than there are entries: so a leaf has one free node at most, the root no more than there are
-- leaves, and each sum fits. An entry with no free node has the depth 0.
pub record IsJoined (entries : List FreeSum) (least hole : ℕ) : Type 0 where
  pub few : (i : ℕ) → i < length entries → i * (sum_at entries i).free < length entries
  pub plain : (i : ℕ) → (sum_at entries i).free ≡ 0 → (sum_at entries i).deepest ≡ 0
  pub joins : (i : ℕ) → 1 ≤ i → least ≤ i → i * 2 + 1 < length entries → i ≢ hole →
      sum_at entries i ≡ sum_of_both (sum_at entries (i * 2)) (sum_at entries (i * 2 + 1))

-- the same entries, from this number on
abbrev pub AreSameFrom : (first : ℕ) → (old new : List FreeSum) → Type 0
AreSameFrom first old new = (i : ℕ) → first ≤ i → sum_at new i ≡ sum_at old i

-- all entries with children are the sums of them, and there are entries on each level
pub record IsTree (entries : List FreeSum) : Type 0 where
  pub some : 1 < length entries
  pub power : IsPowerOfTwo (length entries)
  pub joined_all : IsJoined entries 1 0
