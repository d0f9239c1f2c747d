-- The lines of a walk are told by their text, where there are few workers and few nodes.
use Rattle.std.proofs.Common.{◌≡◌, ℕ, ◌+◌, ◌<◌, ◌≤◌, ◌^◌, Bool, true, false, ◌&&◌, ◌||◌, ◌==◌, nat_le, nat_lt, List, [], ◌∷◌, Option, None, Some, ap, arith, drop, length, length-append, map, refl, subst, sym}
use Rattle.std.specs.Prelude.{All, if◌then◌else◌, slice_get, slice_set}
use Rattle.std.proofs.lemmas.Bool.{and_parts, eqb-true}
use Rattle.std.proofs.lemmas.List.{length-set}
use Rattle.std.proofs.lemmas.List.Elements.{All-cons, All-nil}
use Rattle.std.proofs.lemmas.Option.{same_Some, slice_get_within}
use Rattle.tree_core.specs.Choices.{IsSmallChoice, is_same}
use Rattle.tree_core.specs.Replays.{may_do}
use Rattle.tree_core.specs.declared.cause.Cause.{Cause}
use Rattle.tree_core.specs.declared.choice.Choice.{Choice}
use Rattle.tree_core.specs.declared.choice.Choice.TheVariants.{No, Yes, Value, Rest}
use Rattle.tree_core.specs.declared.event.Deed.{Deed}
use Rattle.tree_core.specs.declared.event.Deed.TheVariants.{Claim, Split, Finish, Cut, Release}
use Rattle.tree_core.specs.Stories.{left_by}
use Rattle.fork_spec.specs.Leaves.{IsSmall}
use Rattle.fork_spec.specs.Walks.{Bounds, Line, Side, Sides, Standing, are_branch_sides, are_sides, are_small, are_values, candidate, side_births, cut_by, done_on, is_in_form, is_in_turn, is_by_nodes, is_increasing, is_one_cut_at_most, is_rest, is_rest_cut, may_come, open_value, walk_step, value_before, values_first, walk_from}
use Rattle.text_parts.proofs.Options.{then_from}
use Rattle.text_parts.proofs.Tests.{lt_from}
use Rattle.report_text.specs.Legible.{AreLegible, IsLegibleDeed, IsLegibleLine}
use Rattle.report_text.proofs.Ranked.{same_are_equal}

-- ---- the sides of a fork

abbrev IsSmallSide : Side → Type 0
IsSmallSide s = IsSmallChoice s.choice

small_as : (c d : Choice) → IsSmallChoice d → is_same c d ≡ true → IsSmallChoice c
small_as c d small same = subst IsSmallChoice (sym (same_are_equal c d same)) small

branch_small : (sides : List Side) → are_branch_sides sides ≡ true → All IsSmallSide sides
branch_small [] h = cc
branch_small (s ∷ []) h = cc
branch_small (s ∷ t ∷ []) h =
    let parts = and_parts (is_same s.choice No && is_same t.choice Yes) (is_one_cut_at_most s.cut t.cut) h in
    let both = and_parts (is_same s.choice No) (is_same t.choice Yes) parts.0 in
    All-cons IsSmallSide s (t ∷ []) (small_as s.choice No tt both.0) (All-cons IsSmallSide t [] (small_as t.choice Yes tt both.1) (All-nil IsSmallSide))
branch_small (s ∷ t ∷ u ∷ sides) h = cc

-- a side that has a value and isn't cut
open_is : (c : Choice) (cut : Option Cause) (v : ℕ) → open_value c cut ≡ Some v → c ≡ Value v
open_is No cut v h = cc
open_is Yes cut v h = cc
open_is (Value w) None v h = ap Value (same_Some w v h)
open_is (Value w) (Some cause) v h = cc
open_is Rest cut v h = cc

module _ (targets found : ℕ) where
  -- what may come behind the values is one side at most
  rest_small : (sides : List Side) → is_rest targets found sides ≡ true → All IsSmallSide sides
  rest_small [] rest = All-nil IsSmallSide
  rest_small (s ∷ []) rest =
      let parts = and_parts (is_same s.choice Rest) (is_rest_cut targets found s.cut) rest in
      All-cons IsSmallSide s [] (small_as s.choice Rest tt parts.0) (All-nil IsSmallSide)
  rest_small (s ∷ t ∷ sides) rest = cc

  values_small : (sides : List Side) → are_small (values_first sides) ≡ true → is_rest targets found (drop (length (values_first sides)) sides) ≡ true → All IsSmallSide sides
  unfolding values_first
  values_small [] small rest = All-nil IsSmallSide
  values_small (s ∷ sides) small rest = go (open_value s.choice s.cut) refl (values_small sides) small rest
    where
      go : (o : Option ℕ) → open_value s.choice s.cut ≡ o
          → (are_small (values_first sides) ≡ true → is_rest targets found (drop (length (values_first sides)) sides) ≡ true → All IsSmallSide sides)
          → are_small (value_before o (values_first sides)) ≡ true
          → is_rest targets found (drop (length (value_before o (values_first sides))) (s ∷ sides)) ≡ true → All IsSmallSide (s ∷ sides)
      go None is later small rest = rest_small (s ∷ sides) rest
      go (Some v) is later small rest =
          let parts = and_parts (nat_lt v (2 ^ 32)) (are_small (values_first sides)) small in
          let low : v < 2 ^ 32 = lt_from v (2 ^ 32) parts.0 in
          All-cons IsSmallSide s sides (subst IsSmallChoice (sym (open_is s.choice s.cut v is)) low) (later parts.1 rest)

sides_small : (targets : ℕ) (sides : List Side) → are_sides targets sides ≡ true → All IsSmallSide sides
unfolding are_values
sides_small targets sides h = go (are_branch_sides sides) refl h
  where
    vs : List ℕ
    vs = values_first sides

    of_values : (a b c d e f : Bool) → (a && b && c && d && e && f) ≡ true → (b ≡ true) × (e ≡ true)
    of_values a b c d e f h =
        let one = and_parts (a && b && c && d && e) f h in
        let two = and_parts (a && b && c && d) e one.0 in
        let three = and_parts (a && b && c) d two.0 in
        let four = and_parts (a && b) c three.0 in
        ((and_parts a b four.0).1, two.1)

    go : (b : Bool) → are_branch_sides sides ≡ b → (b || are_values targets sides) ≡ true → All IsSmallSide sides
    go true is h = branch_small sides is
    go false is h =
        let parts = of_values (is_increasing vs) (are_small vs) (nat_le 1 (length vs)) (nat_le (length vs) targets) (is_rest targets (length vs) (drop (length vs) sides)) (nat_le 2 (length sides)) h in
        values_small targets (length vs) sides parts.0 parts.1

deed_legible : (targets nodes : ℕ) (deed : Deed (Option Cause) Sides) → is_in_form targets nodes deed ≡ true → IsSmall nodes → IsLegibleDeed deed
deed_legible targets nodes Claim form small = tt
deed_legible targets nodes (Split sides) form small =
    let parts = and_parts (sides.first == nodes) (are_sides targets sides.sides) form in
    (omega (arith, eqb-true sides.first nodes parts.0, small), sides_small targets sides.sides parts.1)
deed_legible targets nodes (Finish None) form small = refl
deed_legible targets nodes (Finish (Some cause)) form small = cc
deed_legible targets nodes (Cut cut) form small = tt
deed_legible targets nodes Release form small = tt

-- ---- a step

-- what a line that may come says of the nodes before it and behind it
record Came (bounds : Bounds) (nodes next : List Standing) (line : Line) : Type 0 where
  by : line.by < bounds.workers
  within : line.node < length nodes
  form : is_in_form bounds.targets (length nodes) line.deed ≡ true
  grows : length nodes ≤ length next

module _ (bounds : Bounds) where
  came : (events : ℕ) (nodes next : List Standing) (line : Line) → walk_step bounds events nodes line ≡ Some next → Came bounds nodes next line
  unfolding walk_step
  came events nodes next line h = go (may_come bounds events nodes line node) refl at.2
    where
      at : (node : Standing) × (slice_get nodes line.node ≡ Some node) × ((if may_come bounds events nodes line node then Some (done_on nodes line node) else None) ≡ Some next)
      at = then_from (λ (node : Standing). if may_come bounds events nodes line node then Some (done_on nodes line node) else None) (slice_get nodes line.node) next h

      node : Standing
      node = at.0

      left : Standing
      left = record node { status = left_by line.by line.deed; cut = cut_by line.deed }

      longer : done_on nodes line node ≡ next → length nodes ≤ length next
      longer same = omega (arith, ap length same, length-append (slice_set nodes line.node left) (side_births node.choices line.deed), length-set nodes line.node left)

      go : (b : Bool) → may_come bounds events nodes line node ≡ b → (if b then Some (done_on nodes line node) else None) ≡ Some next → Came bounds nodes next line
      go true may is =
          let turn : Bool = is_in_turn bounds.order events (map candidate nodes) line.node line.deed in
          let guards : Bool = may_do is_by_nodes bounds.nodes (length nodes) node.status line.by line.deed in
          let parts = and_parts (nat_lt line.by bounds.workers && guards && turn) (is_in_form bounds.targets (length nodes) line.deed) may in
          let timely = and_parts (nat_lt line.by bounds.workers && guards) turn parts.0 in
          let worker = and_parts (nat_lt line.by bounds.workers) guards timely.0 in
          record {
            by = lt_from line.by bounds.workers worker.0;
            within = slice_get_within nodes line.node node at.1;
            form = parts.1;
            grows = longer (same_Some (done_on nodes line node) next is);
          }
      go false may is = cc

  -- ---- the walk

  pub legible_from : (events : ℕ) (nodes reached : List Standing) (lines : List Line) → IsSmall bounds.workers → walk_from bounds events nodes lines ≡ Some reached → IsSmall (length reached) →
      AreLegible lines × (length nodes ≤ length reached)
  unfolding walk_from
  legible_from events nodes reached [] few h small = (All-nil IsLegibleLine, omega (arith, ap length (same_Some nodes reached h)))
  legible_from events nodes reached (line ∷ lines) few h small =
      let at = then_from (λ (next : List Standing). walk_from bounds (events + 1) next lines) (walk_step bounds events nodes line) reached h in
      let here = came events nodes at.0 line at.1 in
      let later : AreLegible lines × (length at.0 ≤ length reached) = legible_from (events + 1) at.0 reached lines few at.2 small in
      let low : IsSmall (length nodes) = omega (arith, here.grows, later.1, small) in
      let legible : IsLegibleLine line =
      (omega (arith, here.by, few), omega (arith, here.within, low), deed_legible bounds.targets (length nodes) line.deed here.form low) in
      (All-cons IsLegibleLine line lines legible later.0, omega (arith, here.grows, later.1))
