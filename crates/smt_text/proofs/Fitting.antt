use Rattle.std.proofs.Common.{◌≡◌, ◌∙◌, ℕ, ◌<◌, List, [], ◌∷◌, ◌++◌, Some, length, ap, arith, sym, refl, subst, true, append_assoc, length-append}
use Rattle.std.specs.Prelude.{slice_get}
use Rattle.std.proofs.lemmas.Bool.Decides.{nat_tests}
use Rattle.std.proofs.lemmas.List.{append-nil}
use Rattle.std.proofs.Math.Seq.{take-append_seam}
use Rattle.bv_dag.specs.Graphs.{AllFit, width_of}
use Rattle.bv_dag.specs.Nodes.{Fits, node_width, widths_of}
use Rattle.bv_dag.specs.declared.nodes.Node.{Node}
use Rattle.bv_dag.specs.declared.nodes.Node.TheVariants.{Num, Input, Not, Neg, Binary, Compare, Ite, Extract, Extend, Concat}
use Rattle.bv_dag.proofs.TermLaws.{width_of-new, width_of-with_node}
use Rattle.smt_text.specs.NodeFits.{fits}

-- a node that fits passes the test
pub fits_where_it_fits : (inputs : ℕ) (before : List ℕ) (n : Node) → Fits inputs before n →
    fits inputs before n ≡ true
fits_where_it_fits inputs before (Num w v) h =
    grind (arith, nat_tests, h.not_empty, h.at_most_64, h.in_range)
fits_where_it_fits inputs before (Input i) h = grind (arith, nat_tests)
fits_where_it_fits inputs before (Not a) h = grind (arith, nat_tests)
fits_where_it_fits inputs before (Neg a) h = grind (arith, nat_tests)
fits_where_it_fits inputs before (Binary op a b) h = grind (arith, nat_tests)
fits_where_it_fits inputs before (Compare op a b) h = grind (arith, nat_tests)
fits_where_it_fits inputs before (Ite c a b) h = grind (arith, nat_tests)
fits_where_it_fits inputs before (Extract high low a) h = grind (arith, nat_tests)
fits_where_it_fits inputs before (Extend by signed a) h = grind (arith, nat_tests)
fits_where_it_fits inputs before (Concat a b) h = grind (arith, nat_tests)

-- more nodes change no width
width_kept : (inputs : ℕ) (nodes more : List Node) (id : ℕ) → id < length nodes →
    width_of (record { inputs = inputs; nodes = nodes ++ more }) id
    ≡ width_of (record { inputs = inputs; nodes = nodes }) id
width_kept inputs nodes [] id h =
    ap (λ (ns : List Node). width_of (record { inputs = inputs; nodes = ns }) id) (append-nil nodes)
width_kept inputs nodes (n ∷ more) id h =
    ap (λ (ns : List Node). width_of (record { inputs = inputs; nodes = ns }) id) (sym (append_assoc nodes (n ∷ []) more))
    ∙ width_kept inputs (nodes ++ n ∷ []) more id (omega (arith, length-append nodes (n ∷ []), h))
    ∙ width_of-with_node (record { inputs = inputs; nodes = nodes }) n id h

-- the width of the node behind the first ones
pub width_here : (inputs : ℕ) (before : List Node) (n : Node) (after : List Node) →
    width_of (record { inputs = inputs; nodes = before ++ n ∷ after }) (length before)
    ≡ node_width (widths_of before) n
width_here inputs before n after =
    ap (λ (ns : List Node). width_of (record { inputs = inputs; nodes = ns }) (length before)) (sym (append_assoc before (n ∷ []) after))
    ∙ width_kept inputs (before ++ n ∷ []) after (length before) (omega (arith, length-append before (n ∷ [])))
    ∙ width_of-new (record { inputs = inputs; nodes = before }) n

found_here : {X : Type 0} (before : List X) (x : X) (after : List X) →
    slice_get (before ++ x ∷ after) (length before) ≡ Some x
found_here [] x after = refl
found_here (y ∷ before) x after = found_here before x after

-- the node behind the first ones fits them
pub fits_here : (inputs : ℕ) (before : List Node) (n : Node) (after : List Node) →
    AllFit inputs (before ++ n ∷ after) → fits inputs (widths_of before) n ≡ true
fits_here inputs before n after all =
    fits_where_it_fits inputs (widths_of before) n
    (subst (λ (ns : List Node). Fits inputs (widths_of ns) n) (take-append_seam before (n ∷ after)) (all (length before) n (found_here before n after)))
