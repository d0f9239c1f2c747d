-- Which input bytes terms and conditions rest on.
use Rattle.std.proofs.Common.{◌≡◌, ℕ, zero, suc, ◌<◌, ◌==◌, ◌&&◌, List, [], ◌∷◌, ◌++◌, length, fold, refl, ap, ◌∙◌, slice_index, take, Some, arith}
use Rattle.std.specs.List.{Contains, flat_map, list_all, slice_get}
use Rattle.std.proofs.lemmas.List.{length-take-le}
use Rattle.std.proofs.lemmas.List.Elements.{All-contains_itself, All-head, Contains-append_left, Contains-append_right}
use Rattle.std.proofs.lemmas.Option.{get_or_from_slice_get, slice_get_within}
use Rattle.bv_dag.specs.BitVectors.{BitVector, ite, concat}
use Rattle.bv_dag.specs.Graphs.{Graph, IsDag, val}
use Rattle.bv_dag.specs.Inputs.{node_inputs, inputs_at, inputs_of, inputs_under, asserted_inputs, AgreeOn}
use Rattle.bv_dag.specs.Nodes.{Fits, node_value, binary, compare, values, widths_of, vector_at, map_in_turn}
use Rattle.bv_dag.specs.Queries.{Condition, holds}
use Rattle.bv_dag.specs.declared.nodes.Node.{Node}
use Rattle.bv_dag.specs.declared.nodes.Node.TheVariants.{Num, Input, Not, Neg, Binary, Compare, Ite, Extract, Extend, Concat}
use Rattle.bv_dag.proofs.Fitting.{has_place, length-widths_of}
use Rattle.bv_dag.proofs.InTurn.{get_or-map_in_turn, get_or-map_in_turn-take}

agree_left : (one other here there : List ℕ) → AgreeOn one other (here ++ there) → AgreeOn one other here
agree_left one other here there agree i is = agree i (Contains-append_left here there i is)

agree_right : (one other here there : List ℕ) → AgreeOn one other (here ++ there) → AgreeOn one other there
agree_right one other here there agree i is = agree i (Contains-append_right here there i is)

-- each term is worth the same on input bytes that agree under it
abbrev AreAlike : List ℕ → List ℕ → List (List ℕ) → List BitVector → List BitVector → Type 0
AreAlike one other [] [] [] = Unit {0}
AreAlike one other (u ∷ us) (w ∷ ws) (x ∷ xs) = (AgreeOn one other u → w ≡ x) × AreAlike one other us ws xs
AreAlike one other us ws xs = ⊥

alike_at : (one other : List ℕ) (us : List (List ℕ)) (ws xs : List BitVector) (k : ℕ) → AreAlike one other us ws xs → AgreeOn one other (inputs_at us k) → vector_at ws k ≡ vector_at xs k
alike_at one other [] [] [] k alike agree = refl
alike_at one other (u ∷ us) (w ∷ ws) (x ∷ xs) zero alike agree = alike.0 agree
alike_at one other (u ∷ us) (w ∷ ws) (x ∷ xs) (suc k) alike agree = alike_at one other us ws xs k alike.1 agree
alike_at one other [] [] (x ∷ xs) k alike agree = absurd alike
alike_at one other [] (w ∷ ws) xs k alike agree = absurd alike
alike_at one other (u ∷ us) [] xs k alike agree = absurd alike
alike_at one other (u ∷ us) (w ∷ ws) [] k alike agree = absurd alike

one_more : (one other : List ℕ) (us : List (List ℕ)) (ws xs : List BitVector) (u : List ℕ) (w x : BitVector) → AreAlike one other us ws xs → (AgreeOn one other u → w ≡ x) → AreAlike one other (us ++ u ∷ []) (ws ++ w ∷ []) (xs ++ x ∷ [])
one_more one other [] [] [] u w x alike same = (same, tt)
one_more one other (t ∷ us) (v ∷ ws) (y ∷ xs) u w x alike same = (alike.0, one_more one other us ws xs u w x alike.1 same)
one_more one other [] [] (y ∷ xs) u w x alike same = absurd alike
one_more one other [] (v ∷ ws) xs u w x alike same = absurd alike
one_more one other (t ∷ us) [] xs u w x alike same = absurd alike
one_more one other (t ∷ us) (v ∷ ws) [] u w x alike same = absurd alike

-- what is made of two words that are the same as two others
of_two : (f : BitVector → BitVector → BitVector) (a b c d : BitVector) → a ≡ c → b ≡ d → f a b ≡ f c d
of_two f a b c d e h = ap (λ w. f w b) e ∙ ap (λ w. f c w) h

node_alike : (one other : List ℕ) (us : List (List ℕ)) (ws xs : List BitVector) (n : Node) → AreAlike one other us ws xs → AgreeOn one other (node_inputs (inputs_at us) n) → node_value one (vector_at ws) n ≡ node_value other (vector_at xs) n
node_alike one other us ws xs (Num w v) alike agree = refl
node_alike one other us ws xs (Input i) alike agree = ap (λ (m : ℕ). record { width = 8; number = m }) (agree i (All-head (Contains (i ∷ [])) i [] (All-contains_itself (i ∷ []))))
node_alike one other us ws xs (Not a) alike agree = ap (λ w. node_value one (λ k. w) (Not a)) (alike_at one other us ws xs a alike agree)
node_alike one other us ws xs (Neg a) alike agree = ap (λ w. node_value one (λ k. w) (Neg a)) (alike_at one other us ws xs a alike agree)
node_alike one other us ws xs (Extract high low a) alike agree = ap (λ w. node_value one (λ k. w) (Extract high low a)) (alike_at one other us ws xs a alike agree)
node_alike one other us ws xs (Extend by signed a) alike agree = ap (λ w. node_value one (λ k. w) (Extend by signed a)) (alike_at one other us ws xs a alike agree)
node_alike one other us ws xs (Binary op a b) alike agree =
    of_two (binary op) (vector_at ws a) (vector_at ws b) (vector_at xs a) (vector_at xs b)
    (alike_at one other us ws xs a alike (agree_left one other (inputs_at us a) (inputs_at us b) agree))
    (alike_at one other us ws xs b alike (agree_right one other (inputs_at us a) (inputs_at us b) agree))
node_alike one other us ws xs (Compare op a b) alike agree =
    of_two (compare op) (vector_at ws a) (vector_at ws b) (vector_at xs a) (vector_at xs b)
    (alike_at one other us ws xs a alike (agree_left one other (inputs_at us a) (inputs_at us b) agree))
    (alike_at one other us ws xs b alike (agree_right one other (inputs_at us a) (inputs_at us b) agree))
node_alike one other us ws xs (Concat a b) alike agree =
    of_two concat (vector_at ws a) (vector_at ws b) (vector_at xs a) (vector_at xs b)
    (alike_at one other us ws xs a alike (agree_left one other (inputs_at us a) (inputs_at us b) agree))
    (alike_at one other us ws xs b alike (agree_right one other (inputs_at us a) (inputs_at us b) agree))
node_alike one other us ws xs (Ite c a b) alike agree =
    let sides : AgreeOn one other (inputs_at us c ++ inputs_at us a) = agree_left one other (inputs_at us c ++ inputs_at us a) (inputs_at us b) agree in
    ap (λ w. ite w (vector_at ws a) (vector_at ws b)) (alike_at one other us ws xs c alike (agree_left one other (inputs_at us c) (inputs_at us a) sides))
    ∙ of_two (ite (vector_at xs c)) (vector_at ws a) (vector_at ws b) (vector_at xs a) (vector_at xs b)
    (alike_at one other us ws xs a alike (agree_right one other (inputs_at us c) (inputs_at us a) sides))
    (alike_at one other us ws xs b alike (agree_right one other (inputs_at us c ++ inputs_at us a) (inputs_at us b) agree))

abbrev inputs_from : List (List ℕ) → List Node → List (List ℕ)
inputs_from us nodes = fold (λ before n. before ++ node_inputs (inputs_at before) n ∷ []) us nodes

abbrev values_from : List ℕ → List BitVector → List Node → List BitVector
values_from input ws nodes = fold (λ before n. before ++ node_value input (vector_at before) n ∷ []) ws nodes

nodes_alike : (one other : List ℕ) (nodes : List Node) (us : List (List ℕ)) (ws xs : List BitVector) → AreAlike one other us ws xs → AreAlike one other (inputs_from us nodes) (values_from one ws nodes) (values_from other xs nodes)
nodes_alike one other [] us ws xs alike = alike
nodes_alike one other (n ∷ nodes) us ws xs alike =
    nodes_alike one other nodes (us ++ node_inputs (inputs_at us) n ∷ []) (ws ++ node_value one (vector_at ws) n ∷ []) (xs ++ node_value other (vector_at xs) n ∷ [])
    (one_more one other us ws xs (node_inputs (inputs_at us) n) (node_value one (vector_at ws) n) (node_value other (vector_at xs) n) alike (node_alike one other us ws xs n alike))

table_alike : (one other : List ℕ) (nodes : List Node) → AreAlike one other (inputs_of nodes) (values one nodes) (values other nodes)
unfolding inputs_of values map_in_turn
table_alike one other nodes = nodes_alike one other nodes [] [] [] tt

-- the asserted terms are worth the same
all_alike : (one other : List ℕ) (us : List (List ℕ)) (ws xs : List BitVector) (ids : List ℕ) → AreAlike one other us ws xs → AgreeOn one other (flat_map (inputs_at us) ids)
    → list_all (λ id. (vector_at ws id).number == 1) ids ≡ list_all (λ id. (vector_at xs id).number == 1) ids
all_alike one other us ws xs [] alike agree = refl
all_alike one other us ws xs (id ∷ ids) alike agree =
    ap (λ (w : BitVector). (w.number == 1) && list_all (λ id. (vector_at ws id).number == 1) ids) (alike_at one other us ws xs id alike (agree_left one other (inputs_at us id) (flat_map (inputs_at us) ids) agree))
    ∙ ap (λ b. ((vector_at xs id).number == 1) && b) (all_alike one other us ws xs ids alike (agree_right one other (inputs_at us id) (flat_map (inputs_at us) ids) agree))

-- a term is worth the same on bytes that agree under it
pub val-agrees : (graph : Graph) (id : ℕ) (one other : List ℕ) → AgreeOn one other (inputs_under graph id) → val graph id one ≡ val graph id other
val-agrees graph id one other agree = alike_at one other (inputs_of graph.nodes) (values one graph.nodes) (values other graph.nodes) id (table_alike one other graph.nodes) agree

-- a condition holds alike on bytes that agree under its asserted terms
pub holds-agrees : (q : Condition) (one other : List ℕ) → length one ≡ length other → AgreeOn one other (asserted_inputs q) → holds q one ≡ holds q other
holds-agrees q one other long agree =
    ap (λ n. (n == q.graph.inputs) && list_all (λ id. (vector_at (values one q.graph.nodes) id).number == 1) q.asserted) long
    ∙ ap (λ b. (length other == q.graph.inputs) && b)
    (all_alike one other (inputs_of q.graph.nodes) (values one q.graph.nodes) (values other q.graph.nodes) q.asserted (table_alike one other q.graph.nodes) agree)

-- the bytes under a node rest on its operands alone
same_operands : (inputs : ℕ) (before : List ℕ) (f g : ℕ → List ℕ) (n : Node) → ((k : ℕ) → k < length before → f k ≡ g k) → ((k : ℕ) → 0 < slice_index before k → k < length before) → Fits inputs before n → node_inputs f n ≡ node_inputs g n
same_operands inputs before f g (Num w v) same there fits = refl
same_operands inputs before f g (Input i) same there fits = refl
same_operands inputs before f g (Not a) same there fits = same a (there a fits)
same_operands inputs before f g (Neg a) same there fits = same a (there a fits)
same_operands inputs before f g (Binary op a b) same there fits =
    cc (same a (there a fits.0), same b (there b (omega (arith, fits.0, fits.1))))
same_operands inputs before f g (Compare op a b) same there fits =
    cc (same a (there a fits.0), same b (there b (omega (arith, fits.0, fits.1))))
same_operands inputs before f g (Ite c a b) same there fits =
    cc (same c (there c (omega (arith, fits.0))), same a (there a fits.1), same b (there b (omega (arith, fits.1, fits.2))))
same_operands inputs before f g (Extract high low a) same there fits = same a (there a (omega (arith, fits.1)))
same_operands inputs before f g (Extend by signed a) same there fits = same a (there a fits.0)
same_operands inputs before f g (Concat a b) same there fits = cc (same a (there a fits.0), same b (there b fits.1))

-- the bytes under a term are by its case, from those under its operands
pub inputs_by_cases : (graph : Graph) (id : ℕ) (n : Node) → IsDag graph → slice_get graph.nodes id ≡ Some n → inputs_under graph id ≡ node_inputs (inputs_under graph) n
unfolding inputs_of
inputs_by_cases graph id n dag h =
    let there : id < length graph.nodes = slice_get_within graph.nodes id n h in
    get_or-map_in_turn _ graph.nodes id n _ there
    ∙ ap (λ m. node_inputs (inputs_at (inputs_of (take id graph.nodes))) m) (get_or_from_slice_get graph.nodes id n n h)
    ∙ same_operands graph.inputs (widths_of (take id graph.nodes)) (inputs_at (inputs_of (take id graph.nodes))) (inputs_under graph) n
    (λ k within. get_or-map_in_turn-take _ graph.nodes id k _ (omega (arith, within, length-widths_of (take id graph.nodes), length-take-le id graph.nodes (omega (arith, there)))) (omega (arith, there)))
    (λ k wide. omega (arith, has_place (take id graph.nodes) k wide, length-widths_of (take id graph.nodes)))
    (dag.all_fit id n h)
