-- What joining an entry's children leaves of the entries.
use Rattle.std.proofs.Common.{◌≡◌, ◌≢◌, ℕ, ◌+◌, ◌*◌, ◌/◌, ◌<◌, ◌≤◌, ◌^◌, zero, suc, List, length, set, ◌∙◌, inl, inr, arith}
use Rattle.std.proofs.lemmas.Bool.{cases_eq}
use Rattle.std.proofs.lemmas.List.{length-set, get_or-set_same, get_or-set_other}
use Rattle.free_nodes.specs.declared.sum.FreeSum.{FreeSum}
use Rattle.free_nodes.specs.Sums.{none_free, sum_of_both}
use Rattle.free_nodes.specs.Entries.{sum_at, AreSameFrom, IsJoined}

-- the sum of two children fits
pub children_fit : (entries : List FreeSum) (least hole at : ℕ) → IsJoined entries least hole → 1 ≤ at →
    at * 2 + 1 < length entries → length entries < 2 ^ 64 →
    (sum_at entries (at * 2)).free + (sum_at entries (at * 2 + 1)).free < 2 ^ 64
children_fit entries least hole zero j h there l = absurd (omega (arith, h))
children_fit entries least hole (suc k) j h there l =
    omega (arith, l, j.few (suc k * 2) (omega (arith, there)), j.few (suc k * 2 + 1) there)

-- an entry is made the sum of its children: then others hold than before
pub IsJoined-join : (entries : List FreeSum) (least hole at next_least next_hole : ℕ) →
    IsJoined entries least hole → 1 ≤ at → at * 2 + 1 < length entries →
    ((k : ℕ) → next_least ≤ k → k ≢ next_hole → k ≢ at → (least ≤ k) × (k ≢ hole) × (k ≢ at / 2)) →
    IsJoined (set entries at (sum_of_both (sum_at entries (at * 2)) (sum_at entries (at * 2 + 1)))) next_least next_hole
IsJoined-join entries least hole at next_least next_hole j h there others =
    let left : FreeSum = sum_at entries (at * 2) in
    let right : FreeSum = sum_at entries (at * 2 + 1) in
    let new : List FreeSum = set entries at (sum_of_both left right) in
    let same : (k : ℕ) → k ≢ at → sum_at new k ≡ sum_at entries k = λ k other. get_or-set_other entries at k (sum_of_both left right) none_free other in
    let here : sum_at new at ≡ sum_of_both left right = get_or-set_same entries at (sum_of_both left right) none_free (omega (arith, there)) in
    let long : length new ≡ length entries = length-set entries at (sum_of_both left right) in
    record {
      few = λ i. elim (cases_eq i at) [
        | inl is ↦ rw (is, here, long) (λ _. omega (arith, j.few (at * 2) (omega (arith, there)), j.few (at * 2 + 1) there))
        | inr other ↦ rw (same i other, long) (j.few i)
      ];
      plain = λ i. elim (cases_eq i at) [
        | inl is ↦ rw (is, here) (λ none. omega (arith, none, j.plain (at * 2), j.plain (at * 2 + 1)))
        | inr other ↦ rw (same i other) (j.plain i)
      ];
      joins = λ i one from parent filled. elim (cases_eq i at) [
        | inl is ↦
            rw (is, same (at * 2 + 1) (λ e. absurd (omega (arith, e, h))), same (at * 2) (λ e. absurd (omega (arith, e, h)))) here
        | inr other ↦
            let o : (least ≤ i) × (i ≢ hole) × (i ≢ at / 2) = others i from filled other in
            rw (same (i * 2 + 1) (λ e. o.2 (omega (arith, e))), same (i * 2) (λ e. o.2 (omega (arith, e))))
            (same i other ∙ j.joins i one o.0 (omega (arith, parent, long)) o.1)
      ];
    }

-- what joins from the first on is all that joins
pub IsJoined-all : (entries : List FreeSum) (least : ℕ) → IsJoined entries least 0 → least ≤ 1 → IsJoined entries 1 0
IsJoined-all entries least j h = record {
  few = j.few;
  plain = j.plain;
  joins = λ i one from. j.joins i one (omega (arith, h, one));
}

-- what stands from a number on is left as it is by a write before it
pub AreSameFrom-set : (first at : ℕ) (old new : List FreeSum) (s : FreeSum) → AreSameFrom first old new →
    at < first → AreSameFrom first old (set new at s)
AreSameFrom-set first at old new s same h = λ i from.
    get_or-set_other new at i s none_free (λ e. absurd (omega (arith, e, from, h))) ∙ same i from
