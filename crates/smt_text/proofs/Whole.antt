-- A whole text: it is that of a leaf in full, and of no other.
use Rattle.std.proofs.Common.{◌≡◌, ◌∙◌, ℕ, List, [], ◌∷◌, ◌++◌, Some, refl, sym, ap, subst, arith}
use Rattle.std.proofs.lemmas.Option.{same_Some}
use Rattle.fork_spec.specs.Leaves.{IsFull, Leaf}
use Rattle.smt_text.specs.Grammar.{Reading, leaf_of, read_lines, start, with_line, IsWhole}
use Rattle.smt_text.specs.LeafLines.{leaf_lines, leaf_text}
use Rattle.smt_text.specs.Lines.{LeafLine, lines_text}
use Rattle.smt_text.specs.Phases.{Counted, IsSoundReading, IsInBounds}
use Rattle.smt_text.specs.declared.spot.Spot.{Spot}
use Rattle.smt_text.specs.declared.spot.Spot.TheVariants.{Closed}
use Rattle.smt_text.proofs.LinesSaid.{lines_are}
use Rattle.smt_text.proofs.OneReading.{same_lines, stood}
use Rattle.smt_text.proofs.Phases.{Counted-start, IsWithin-start, kept}
use Rattle.smt_text.proofs.Reading.{all_read, ended}

-- ---- lines that stand

pub reached : (r s : Reading) (lines : List LeafLine) → IsSoundReading r → read_lines r lines ≡ Some s → IsSoundReading s
unfolding read_lines
reached r s [] sound h = subst IsSoundReading (same_Some r s h) sound
reached r s (line ∷ lines) sound h =
    let one = stood r line lines s h in
    reached (with_line r line) s lines (kept r.place r line sound.0 sound.1 refl one.0) one.1

pub sound_start : IsSoundReading start
sound_start = (IsWithin-start, Counted-start)

-- ---- the leaf

pub whole_sound : (text : List ℕ) (r : Reading) → IsWhole text r → IsSoundReading r
whole_sound text r whole = reached start r whole.lines sound_start whole.all_stand

full_when_closed : (r : Reading) → IsInBounds r → Counted Closed r → IsFull (leaf_of r)
full_when_closed r w c = record {
  is_dag = record { all_fit = w.6 };
  bits = w.8;
  status = c.4;
  bytes = w.7;
  small_choices = w.0;
  small_path = w.1;
  few_steps = w.2;
  few_inputs = w.3;
  few_nodes = omega (arith, c.1, w.4);
  few_outputs = omega (arith, c.2, w.5);
}

pub whole_full : (text : List ℕ) (r : Reading) → IsWhole text r → IsFull (leaf_of r)
whole_full text r whole =
    let sound = whole_sound text r whole in
    full_when_closed r sound.0 (subst (λ (p : Spot). Counted p r) whole.to_the_end sound.1)

-- the text is the leaf's
pub whole_text : (text : List ℕ) (r : Reading) → IsWhole text r → text ≡ leaf_text (leaf_of r)
unfolding leaf_text
whole_text text r whole =
    whole.is_theirs ∙ ap lines_text (lines_are whole.lines r sound_start (whole_sound text r whole) whole.all_stand whole.to_the_end)

-- the text of a full leaf is read as this leaf
pub whole_only : (text : List ℕ) (r : Reading) (leaf : Leaf) → IsWhole text r → IsFull leaf → text ≡ leaf_text leaf →
    leaf_of r ≡ leaf
unfolding leaf_text
whole_only text r leaf whole full e =
    let texts : lines_text whole.lines ≡ lines_text (leaf_lines leaf) = sym whole.is_theirs ∙ e in
    let same = same_lines start r (ended leaf) whole.lines (leaf_lines leaf) [] [] IsWithin-start Counted-start whole.all_stand (all_read leaf full) whole.to_the_end refl
    (ap (λ (t : List ℕ). t ++ []) texts) in
    let readings : Some r ≡ Some (ended leaf) = sym whole.all_stand ∙ ap (read_lines start) same.0 ∙ all_read leaf full in
    ap leaf_of (same_Some r (ended leaf) readings)
