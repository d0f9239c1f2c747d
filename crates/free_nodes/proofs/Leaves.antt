-- What a write to a leaf leaves of the entries.
use Rattle.std.proofs.Common.{◌≡◌, ◌≢◌, ℕ, ◌+◌, ◌*◌, ◌/◌, ◌<◌, ◌≤◌, zero, suc, Bool, true, false, Option, Some, None, List, [], ◌∷◌, ◌++◌, length, get_or, set, take, drop, if◌then◌else◌, refl, sym, ap, subst, ◌∙◌, inl, inr, arith}
use Rattle.std.specs.List.{slice_get}
use Rattle.std.proofs.Math.Seq.{take-append_seam}
use Rattle.std.proofs.lemmas.Bool.{cases_eq}
use Rattle.std.proofs.lemmas.List.{length-set, length-map, length-take-le, length_push, map-append, take_more, get_or-set_same, get_or-set_other, get_or-map}
use Rattle.std.proofs.lemmas.Option.{get_or_from_slice_get}
use Rattle.tree_core.specs.Orders.{Candidate}
use Rattle.free_nodes.specs.declared.claimable.Claimable.{Claimable}
use Rattle.free_nodes.specs.declared.sum.FreeSum.{FreeSum}
use Rattle.free_nodes.specs.Sums.{none_free, sum_of}
use Rattle.free_nodes.specs.Entries.{sum_at, AreSameFrom, IsJoined}
use Rattle.free_nodes.specs.Listings.{candidate_of, candidates_of, HasLeaves, IsOver}

-- Lists that are written.

pub get-push_other : {X : Type 0} (xs : List X) (y : X) (j : ℕ) → j ≢ length xs →
    slice_get (xs ++ y ∷ []) j ≡ slice_get xs j
get-push_other [] y zero other = absurd (other refl)
get-push_other [] y (suc j) other = refl
get-push_other (x ∷ xs) y zero other = refl
get-push_other (x ∷ xs) y (suc j) other = get-push_other xs y j (λ e. other (ap suc e))

pub get-push_same : {X : Type 0} (xs : List X) (y : X) → slice_get (xs ++ y ∷ []) (length xs) ≡ Some y
get-push_same [] y = refl
get-push_same (x ∷ xs) y = get-push_same xs y

pub get-set_other : {X : Type 0} (xs : List X) (i : ℕ) (y : X) (j : ℕ) → j ≢ i →
    slice_get (set xs i y) j ≡ slice_get xs j
get-set_other [] i y j other = refl
get-set_other (x ∷ xs) zero y zero other = absurd (other refl)
get-set_other (x ∷ xs) zero y (suc j) other = refl
get-set_other (x ∷ xs) (suc i) y zero other = refl
get-set_other (x ∷ xs) (suc i) y (suc j) other = get-set_other xs i y j (λ e. other (ap suc e))

pub get-set_same : {X : Type 0} (xs : List X) (i : ℕ) (y : X) → i < length xs →
    slice_get (set xs i y) i ≡ Some y
get-set_same [] i y h = absurd (omega (arith, h))
get-set_same (x ∷ xs) zero y h = refl
get-set_same (x ∷ xs) (suc i) y h = get-set_same xs i y (omega (arith, h))

-- a part that was lent, and is as long as the whole, is the whole
pub written_back : (new old : List FreeSum) (n : ℕ) → n ≡ length old → length new ≡ length old →
    take n (new ++ drop (length new) old) ≡ new
written_back new old n is same =
    ap (λ m. take m (new ++ drop (length new) old)) (is ∙ sym same)
    ∙ take-append_seam new (drop (length new) old)

-- The sum of one node.

few_if : (b : Bool) (d : ℕ) → let s : FreeSum = if b then record { free = 1; deepest = d } else none_free in s.free ≤ 1
few_if true d = omega arith
few_if false d = omega arith

plain_if : (b : Bool) (d : ℕ) → let s : FreeSum = if b then record { free = 1; deepest = d } else none_free in s.free ≡ 0 → s.deepest ≡ 0
plain_if true d h = absurd (omega (arith, h))
plain_if false d h = refl

pub sum_of-few : (o : Option Candidate) → (sum_of o).free ≤ 1
sum_of-few None = omega arith
sum_of-few (Some c) = few_if c.is_free c.depth

pub sum_of-plain : (o : Option Candidate) → (sum_of o).free ≡ 0 → (sum_of o).deepest ≡ 0
sum_of-plain None h = refl
sum_of-plain (Some c) h = plain_if c.is_free c.depth h

few_under : (at free n : ℕ) → at < n → free ≤ 1 → at * free < n
few_under at zero n h l = omega (arith, h)
few_under at (suc zero) n h l = omega (arith, h)
few_under at (suc (suc more)) n h l = absurd (omega (arith, l))

-- a leaf is written: all joins but the one above it stand
pub IsJoined-leaf : (entries : List FreeSum) (least leaf : ℕ) (o : Option Candidate) → IsJoined entries least 0 →
    leaf < length entries → length entries ≤ leaf * 2 →
    IsJoined (set entries leaf (sum_of o)) least (leaf / 2)
IsJoined-leaf entries least leaf o j there h =
    let s : FreeSum = sum_of o in
    let new : List FreeSum = set entries leaf s in
    let same : (k : ℕ) → k ≢ leaf → sum_at new k ≡ sum_at entries k = λ k other. get_or-set_other entries leaf k s none_free other in
    let here : sum_at new leaf ≡ s = get_or-set_same entries leaf s none_free there in
    let long : length new ≡ length entries = length-set entries leaf s in
    record {
      few = λ i. elim (cases_eq i leaf) [
        | inl is ↦ rw (is, here, long) (λ l. few_under leaf s.free (length entries) l (sum_of-few o))
        | inr other ↦ rw (same i other, long) (j.few i)
      ];
      plain = λ i. elim (cases_eq i leaf) [
        | inl is ↦ rw (is, here) (sum_of-plain o)
        | inr other ↦ rw (same i other) (j.plain i)
      ];
      joins = λ i one from parent filled.
          let inner : i * 2 + 1 < length entries = omega (arith, parent, long) in
          rw (same i (λ e. absurd (omega (arith, e, inner, h))), same (i * 2 + 1) (λ e. filled (omega (arith, e))), same (i * 2) (λ e. filled (omega (arith, e))))
          (j.joins i one from inner (λ e. absurd (omega (arith, e, one))));
    }

-- where no leaf has children, none is missed
pub IsJoined-leaves : (entries : List FreeSum) (least hole : ℕ) → IsJoined entries least hole →
    length entries ≤ least * 2 + 1 → IsJoined entries least 0
IsJoined-leaves entries least hole j h = record {
  few = j.few;
  plain = j.plain;
  joins = λ i one from parent filled. absurd (omega (arith, from, parent, h));
}

-- a node's leaf is written
pub HasLeaves-set : (old new : List Candidate) (capacity node : ℕ) (entries : List FreeSum) (c : Candidate) →
    HasLeaves old capacity entries → capacity + node < length entries → slice_get new node ≡ Some c →
    ((j : ℕ) → j ≢ node → slice_get new j ≡ slice_get old j) →
    HasLeaves new capacity (set entries (capacity + node) (sum_of (Some c)))
HasLeaves-set old new capacity node entries c leaves there is others = λ j h.
    elim (cases_eq j node) [
      | inl same ↦
          rw (same, is) (get_or-set_same entries (capacity + node) (sum_of (Some c)) none_free there)
      | inr other ↦
          rw (others j other)
          (get_or-set_other entries (capacity + node) (capacity + j) (sum_of (Some c)) none_free (λ e. other (omega (arith, e))) ∙ leaves j h)
    ]

-- a node more has its leaf
pub HasLeaves-more : (seen : List Claimable) (entries : List FreeSum) (capacity i : ℕ) (d : Claimable) →
    HasLeaves (candidates_of (take i seen)) capacity entries → i < length seen → capacity + i < length entries →
    HasLeaves (candidates_of (take (i + 1) seen)) capacity (set entries (capacity + i) (sum_of (Some (candidate_of (get_or seen i d)))))
HasLeaves-more seen entries capacity i d leaves h there =
    let before : List Candidate = candidates_of (take i seen) in
    let place : Claimable = get_or seen i d in
    let more : candidates_of (take (i + 1) seen) ≡ before ++ candidate_of place ∷ [] =
    ap candidates_of (take_more seen i d h) ∙ map-append candidate_of (take i seen) (place ∷ []) in
    let len : length before ≡ i = length-map (take i seen) candidate_of ∙ length-take-le i seen (omega (arith, h)) in
    rw more
    (HasLeaves-set before (before ++ candidate_of place ∷ []) capacity i entries (candidate_of place) leaves there
    (subst (λ n. slice_get (before ++ candidate_of place ∷ []) n ≡ Some (candidate_of place)) len (get-push_same before (candidate_of place)))
    (λ j other. get-push_other before (candidate_of place) j (λ e. other (e ∙ len))))

-- a node's leaf is written, and what is above it made the sum of its children again
pub IsOver-put : (old new : List Candidate) (capacity node : ℕ) (entries next : List FreeSum) (c : Candidate) →
    IsOver old capacity entries → node < capacity → slice_get new node ≡ Some c →
    ((j : ℕ) → j ≢ node → slice_get new j ≡ slice_get old j) → length new ≤ capacity →
    length next ≡ length entries → IsJoined next 1 0 →
    AreSameFrom (length entries / 2) (set entries (capacity + node) (sum_of (Some c))) next →
    IsOver new capacity next
IsOver-put old new capacity node entries next c o h is others within long j same = record {
  within = within;
  long = long ∙ o.long;
  power = o.power;
  joined_all = j;
  leaves = λ k below.
      same (capacity + k) (omega (arith, o.long))
      ∙ HasLeaves-set old new capacity node entries c o.leaves (omega (arith, o.long, h)) is others k below;
}

pub IsOver-push : (nodes : List Candidate) (c : Candidate) (capacity : ℕ) (entries next : List FreeSum) →
    IsOver nodes capacity entries → length nodes < capacity →
    length next ≡ length entries → IsJoined next 1 0 →
    AreSameFrom (length entries / 2) (set entries (capacity + length nodes) (sum_of (Some c))) next →
    IsOver (nodes ++ c ∷ []) capacity next
IsOver-push nodes c capacity entries next o h long j same =
    IsOver-put nodes (nodes ++ c ∷ []) capacity (length nodes) entries next c o h (get-push_same nodes c)
    (get-push_other nodes c) (omega (arith, length_push nodes c, h)) long j same

pub IsOver-set : (nodes : List Candidate) (c : Candidate) (capacity node : ℕ) (entries next : List FreeSum) →
    IsOver nodes capacity entries → node < length nodes →
    length next ≡ length entries → IsJoined next 1 0 →
    AreSameFrom (length entries / 2) (set entries (capacity + node) (sum_of (Some c))) next →
    IsOver (set nodes node c) capacity next
IsOver-set nodes c capacity node entries next o h long j same =
    IsOver-put nodes (set nodes node c) capacity node entries next c o (omega (arith, h, o.within)) (get-set_same nodes node c h)
    (get-set_other nodes node c) (omega (arith, length-set nodes node c, o.within)) long j same

-- what is read of a node is what an order sees of it
pub depth_read : (seen : List Claimable) (node : ℕ) (read : Claimable) (old : Candidate) → node < length seen →
    read ≡ get_or seen node read → slice_get (candidates_of seen) node ≡ Some old → read.depth ≡ old.depth
depth_read seen node read old h is found =
    ap (λ (c : Candidate). c.depth)
    (ap candidate_of is ∙ sym (get_or-map candidate_of seen node read old h) ∙ get_or_from_slice_get (candidates_of seen) node old old found)
