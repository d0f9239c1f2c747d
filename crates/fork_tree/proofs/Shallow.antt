-- The list of candidates behind an event.
use Rattle.std.proofs.Common.{◌≡◌, ℕ, zero, suc, ◌+◌, ◌-◌, ◌<◌, ◌≤◌, ◌⊎◌, inl, inr, Bool, true, false, not, List, [], ◌∷◌, ◌++◌, Option, Some, None, if◌then◌else◌, length, map, set, refl, sym, ap, ◌∙◌, arith}
use mathlib.Core.Logic.{dite}
use native.Mathlib.Decide.{ℕ_discrete}
use Rattle.std.specs.Prelude.{All, is_some, slice_get}
use Rattle.std.proofs.lemmas.Bool.{cases_lt}
use Rattle.std.proofs.lemmas.List.{append-nil, length-append, set-get_or}
use Rattle.std.proofs.lemmas.List.Elements.{All-head, All-tail}
use Rattle.std.proofs.lemmas.Option.{get_or_from_slice_get, slice_get_within}
use Rattle.tree_core.specs.Orders.{Candidate}
use Rattle.tree_core.specs.Replays.{is_free}
use Rattle.tree_core.specs.Stories.{at_birth}
use Rattle.tree_core.specs.declared.cause.Cause.{Cause}
use Rattle.tree_core.specs.declared.choice.Choice.{Choice}
use Rattle.tree_core.specs.declared.event.Deed.{Deed}
use Rattle.tree_core.specs.declared.event.Deed.TheVariants.{Claim, Split, Finish, Cut, Release}
use Rattle.tree_core.specs.declared.event.Kid.{Kid}
use Rattle.fork_spec.specs.Walks.{Side, Sides, candidate, side_at, side_births}
use Rattle.fork_tree.specs.Candidates.{AreShallow, kid_candidate}
use Rattle.fork_tree.specs.Written.{IsCutOr, IsKidOf, side_of_kid}
use Rattle.fork_tree.proofs.Changing.{changed, get_new, get_other, get_same}

same_held : {X : Type 0} (x y : X) → Some x ≡ Some y → x ≡ y
same_held {X} x y is = ap held is
  where
    held : Option X → X
    held None = x
    held (Some z) = z

-- an item put where it stands changes nothing
pub set-same : (all : List Candidate) (m : ℕ) (c : Candidate) → slice_get all m ≡ Some c → all ≡ changed all m c []
set-same all m c at =
    sym (ap (λ x. set all m x) (sym (get_or_from_slice_get all m c c at)) ∙ set-get_or all m c)
    ∙ sym (append-nil (set all m c))

-- what is put in the place of a node has its depth
pub set-here : (all : List Candidate) (m : ℕ) (c : Candidate) (depth : ℕ) (now before : Bool) → slice_get all m ≡ Some c
    → slice_get all m ≡ Some (record { depth = depth; is_free = before })
    → set all m (record { depth = c.depth; is_free = now }) ≡ changed all m (record { depth = depth; is_free = now }) []
set-here all m c depth now before at is =
    let same = same_held c (record { depth = depth; is_free = before }) (sym at ∙ is) in
    ap (λ (x : Candidate). set all m (record { depth = x.depth; is_free = now })) same
    ∙ sym (append-nil (set all m (record { depth = depth; is_free = now })))

-- the sides of a fork are one choice deeper
births-deep : (choices : List Choice) (d : Deed (Option Cause) Sides) (i : ℕ) (c : Candidate)
    → slice_get (map candidate (side_births choices d)) i ≡ Some c → c.depth ≡ length choices + 1
births-deep choices Claim i c at = cc
births-deep choices (Split sides) i c at = by_side sides.sides i at
  where
    by_side : (ss : List Side) (i : ℕ) → slice_get (map candidate (map (side_at choices) ss)) i ≡ Some c → c.depth ≡ length choices + 1
    by_side [] i at = cc
    by_side (side ∷ ss) zero at =
        sym (ap (λ (x : Candidate). x.depth) (same_held (candidate (side_at choices side)) c at))
        ∙ length-append choices (side.choice ∷ [])
    by_side (side ∷ ss) (suc i) at = by_side ss i at
births-deep choices (Finish cut) i c at = cc
births-deep choices (Cut cut) i c at = cc
births-deep choices Release i c at = cc

-- nodes are still shallow where one has changed, and its sides have come behind the others
pub shallow-changed : (all : List Candidate) (m : ℕ) (choices : List Choice) (now before : Bool) (d : Deed (Option Cause) Sides)
    → slice_get all m ≡ Some (record { depth = length choices; is_free = before }) → AreShallow all
    → AreShallow (changed all m (record { depth = length choices; is_free = now }) (map candidate (side_births choices d)))
shallow-changed all m choices now before d is shallow k c at = by_place (cases_lt k (length all))
  where
    x : Candidate
    x = record { depth = length choices; is_free = now }

    more : List Candidate
    more = map candidate (side_births choices d)

    within : m < length all
    within = slice_get_within all m (record { depth = length choices; is_free = before }) is

    low : length choices ≤ m
    low = shallow m (record { depth = length choices; is_free = before }) is

    here : m ≡ k → c.depth ≤ k
    here same =
        let is_x : x ≡ c = same_held x c (sym (get_same all m x more within) ∙ ap (slice_get (changed all m x more)) same ∙ at) in
        let deep : length choices ≡ c.depth = ap (λ (y : Candidate). y.depth) is_x in
        omega (arith, low, same, deep)

    by_place : (k < length all) ⊎ (length all ≤ k) → c.depth ≤ k
    by_place (inl lt) = dite (ℕ_discrete m k) here
        (λ other. shallow k c (sym (get_other all m x more k within lt other) ∙ at))
    by_place (inr ge) =
        let i : ℕ = k - length all in
        let sum : length all + i ≡ k = omega (arith, ge) in
        let deep : c.depth ≡ length choices + 1 = births-deep choices d i c
        (sym (get_new all m x more i) ∙ ap (slice_get (changed all m x more)) sum ∙ at) in
        omega (arith, deep, low, within, ge)

module _ {R : Type 0} (choices : R → List Choice) (cut : R → Option Cause) (r : R) where
  kid_free : (b : Bool) (c : Option Cause) → IsCutOr b c → is_free (at_birth (is_some (if b then c else None))) ≡ not b
  kid_free true None marked = absurd marked
  kid_free true (Some c) marked = refl
  kid_free false c marked = refl

  one_kid : (depth : ℕ) (kid : Kid R) → depth ≡ length (choices r) → IsKidOf choices cut r kid
      → kid_candidate (depth + 1) kid ≡ candidate (side_at (choices r) (side_of_kid cut kid))
  one_kid depth kid is of_kid = λ i. record {
    depth = (ap (λ n. n + 1) is ∙ sym (length-append (choices r) (kid.choice ∷ []))) i;
    is_free = sym (kid_free kid.is_leaf (cut kid.content) of_kid.marked) i;
  }

  kids_listed : (depth : ℕ) (kids : List (Kid R)) → depth ≡ length (choices r) → All (IsKidOf choices cut r) kids
      → map (kid_candidate (depth + 1)) kids ≡ map candidate (map (side_at (choices r)) (map (side_of_kid cut) kids))
  kids_listed depth [] is all = refl
  kids_listed depth (kid ∷ kids) is all = λ i.
      one_kid depth kid is (All-head (IsKidOf choices cut r) kid kids all) i
      ∷ kids_listed depth kids is (All-tail (IsKidOf choices cut r) kid kids all) i

  -- kids behind the others are the sides of the fork
  pub sides-of-kids : (all : List Candidate) (m : ℕ) (c : Candidate) (kids : List (Kid R)) → slice_get all m ≡ Some c
      → slice_get all m ≡ Some (record { depth = length (choices r); is_free = false }) → All (IsKidOf choices cut r) kids
      → all ++ map (kid_candidate (c.depth + 1)) kids
      ≡ changed all m (record { depth = length (choices r); is_free = false }) (map candidate (map (side_at (choices r)) (map (side_of_kid cut) kids)))
  sides-of-kids all m c kids at held each =
      let x : Candidate = record { depth = length (choices r); is_free = false } in
      let same : c ≡ x = same_held c x (sym at ∙ held) in
      let unchanged : all ≡ set all m x = set-same all m x held ∙ append-nil (set all m x) in
      λ i. unchanged i ++ kids_listed c.depth kids (ap (λ (y : Candidate). y.depth) same) each i
