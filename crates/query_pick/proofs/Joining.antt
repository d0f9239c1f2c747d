-- What is known of the input bytes under terms says what is known of those under further terms.
use Rattle.std.proofs.Common.{◌≡◌, ◌≢◌, ℕ, zero, suc, List, [], ◌∷◌, ◌++◌, ◌<◌, ◌+◌, length, take, get_or, refl, ap, ◌∙◌, arith}
use Rattle.std.specs.List.{AllZip, flat_map}
use Rattle.std.proofs.Math.Seq.{take-suc}
use Rattle.std.proofs.lemmas.Grind.{flat_map-append}
use Rattle.std.proofs.lemmas.List.{append-nil}
use Rattle.std.proofs.lemmas.List.Elements.{Contains-append_left, Contains-append_right}
use Rattle.bv_dag.specs.declared.nodes.Node.{Node}
use Rattle.bv_dag.proofs.InTurn.{map_in_turn_more}
use Rattle.bv_dag.specs.Inputs.{HasTwo, inputs_at, inputs_of, node_inputs}
use Rattle.query_pick.specs.Occurring.{IsOccurrence}
use Rattle.query_pick.specs.declared.occurrence.Occurrence.{Occurrence}
use Rattle.query_pick.specs.declared.occurrence.Occurrence.TheVariants.{NoInput, OneInput}

pub two_left : (one two : List ℕ) → HasTwo one → HasTwo (one ++ two)
two_left one two has =
    record {
      first = has.first;
      second = has.second;
      differ = has.differ;
      first_there = Contains-append_left one two has.first has.first_there;
      second_there = Contains-append_left one two has.second has.second_there;
    }

pub two_right : (one two : List ℕ) → HasTwo two → HasTwo (one ++ two)
two_right one two has =
    record {
      first = has.first;
      second = has.second;
      differ = has.differ;
      first_there = Contains-append_right one two has.first has.first_there;
      second_there = Contains-append_right one two has.second has.second_there;
    }

-- one of each
pub two_apart : (one two : List ℕ) (i k : ℕ) → i ≢ k → IsOccurrence one (OneInput i) → IsOccurrence two (OneInput k) → HasTwo (one ++ two)
two_apart one two i k differ here there =
    record {
      first = i;
      second = k;
      differ = differ;
      first_there = Contains-append_left one two i here.0;
      second_there = Contains-append_right one two k there.0;
    }

-- of the term at a place, and of none past the end
pub occurrence_at : (under : List (List ℕ)) (found : List Occurrence) (k : ℕ) → AllZip IsOccurrence under found → IsOccurrence (inputs_at under k) (get_or found k NoInput)
occurrence_at [] [] k all = refl
occurrence_at [] (f ∷ fs) k all = absurd all
occurrence_at (u ∷ us) [] k all = absurd all
occurrence_at (u ∷ us) (f ∷ fs) zero all = all.0
occurrence_at (u ∷ us) (f ∷ fs) (suc k) all = occurrence_at us fs k all.1

pub one_more : (under : List (List ℕ)) (found : List Occurrence) (u : List ℕ) (f : Occurrence) → AllZip IsOccurrence under found → IsOccurrence u f → AllZip IsOccurrence (under ++ u ∷ []) (found ++ f ∷ [])
one_more [] [] u f all is = (is, tt)
one_more [] (g ∷ gs) u f all is = absurd all
one_more (t ∷ ts) [] u f all is = absurd all
one_more (t ∷ ts) (g ∷ gs) u f all is = (all.0, one_more ts gs u f all.1 is)

pub one_node_more : (nodes : List Node) (i : ℕ) (d : Node) → i < length nodes → inputs_of (take (i + 1) nodes) ≡ inputs_of (take i nodes) ++ node_inputs (inputs_at (inputs_of (take i nodes))) (get_or nodes i d) ∷ []
unfolding inputs_of
one_node_more nodes i d within = map_in_turn_more (λ before n. node_inputs (inputs_at before) n) nodes i d within

-- those under one asserted term more
pub one_asserted_more : (under : List (List ℕ)) (ids : List ℕ) (i : ℕ) → i < length ids → flat_map (inputs_at under) (take (i + 1) ids) ≡ flat_map (inputs_at under) (take i ids) ++ inputs_at under (get_or ids i 0)
one_asserted_more under ids i within =
    let next : i + 1 ≡ suc i = omega arith in
    ap (flat_map (inputs_at under)) (ap (λ n. take n ids) next ∙ take-suc ids i 0 within)
    ∙ flat_map-append (inputs_at under) (take i ids) (get_or ids i 0 ∷ [])
    ∙ ap (λ (l : List ℕ). flat_map (inputs_at under) (take i ids) ++ l) (append-nil (inputs_at under (get_or ids i 0)))
