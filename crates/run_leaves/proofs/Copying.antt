-- Terms of one graph that stand in another one too.
use Rattle.std.proofs.Common.{◌≡◌, ℕ, ◌&&◌, List, [], ◌∷◌, ◌++◌, length, map, take, drop, sym, ap, subst, ◌∙◌, refl}
use Rattle.std.specs.Prelude.{All, ◌==◌}
use Rattle.std.specs.List.{list_all}
use Rattle.std.proofs.lemmas.List.{drop-map, take-map}
use Rattle.std.proofs.lemmas.List.Elements.{All-nil, All-cons, All-head, All-tail}
use Rattle.std.proofs.Math.Seq.{drop-append_seam, take-append_seam}
use Rattle.bv_dag.specs.BitVectors.{BitVector}
use Rattle.bv_dag.specs.Graphs.{Graph, number_of, val, width_of}
use Rattle.bv_dag.specs.Queries.{holds}
use Rattle.term_trees.specs.Trees.{tree_of}
use Rattle.run_leaves.specs.Copies.{AreCopies}

vals-numbers : (old new : Graph) (input ids copies : List ℕ)
    → map (λ id. val new id input) copies ≡ map (λ id. val old id input) ids
    → map (λ id. number_of new id input) copies ≡ map (λ id. number_of old id input) ids
vals-numbers old new input [] [] is = refl
vals-numbers old new input [] (c ∷ cs) is = absurd (cc is)
vals-numbers old new input (i ∷ ids) [] is = absurd (cc is)
vals-numbers old new input (i ∷ ids) (c ∷ cs) is =
    let first : val new c input ≡ val old i input = cc is in
    let rest : map (λ id. val new id input) cs ≡ map (λ id. val old id input) ids = cc is in
    cc (ap (λ (x : BitVector). x.number) first, vals-numbers old new input ids cs rest)

-- what was picked
pub picked_copies : (old new : Graph) (ids copies : List ℕ) → new.inputs ≡ old.inputs
    → map (tree_of new) copies ≡ map (tree_of old) ids → map (width_of new) copies ≡ map (width_of old) ids
    → ((input : List ℕ) → map (λ id. val new id input) copies ≡ map (λ id. val old id input) ids)
    → AreCopies old ids new copies
picked_copies old new ids copies inputs trees widths vals = record {
  inputs = inputs;
  trees = trees;
  widths = widths;
  numbers = λ input. vals-numbers old new input ids copies (vals input);
}

pub picked_from : {old table new : Graph} {ids some copies all : List ℕ} → table ≡ old → some ≡ ids → all ≡ copies
    → new.inputs ≡ table.inputs → map (tree_of new) all ≡ map (tree_of table) some → map (width_of new) all ≡ map (width_of table) some
    → ((input : List ℕ) → map (λ id. val new id input) all ≡ map (λ id. val table id input) some)
    → AreCopies old ids new copies
picked_from {old} {table} {new} {ids} {some} {copies} {all} graph asked got inputs trees widths vals =
    subst (λ g. AreCopies g ids new copies) graph
    (subst (λ is. AreCopies table is new copies) asked
    (subst (λ cs. AreCopies table some new cs) got (picked_copies table new some all inputs trees widths vals)))

-- the first ones, and those behind them
front-same : {A : Type 0} (f g : ℕ → A) (xs ys zs : List ℕ) → map f zs ≡ map g (xs ++ ys) → map f (take (length xs) zs) ≡ map g xs
front-same f g xs ys zs is =
    sym (take-map f (length xs) zs) ∙ ap (take (length xs)) is ∙ take-map g (length xs) (xs ++ ys)
    ∙ ap (map g) (take-append_seam xs ys)

back-same : {A : Type 0} (f g : ℕ → A) (xs ys zs : List ℕ) → map f zs ≡ map g (xs ++ ys) → map f (drop (length xs) zs) ≡ map g ys
back-same f g xs ys zs is =
    sym (drop-map f (length xs) zs) ∙ ap (drop (length xs)) is ∙ drop-map g (length xs) (xs ++ ys)
    ∙ ap (map g) (drop-append_seam xs ys)

pub copies-front : (old new : Graph) (xs ys zs : List ℕ) → AreCopies old (xs ++ ys) new zs
    → AreCopies old xs new (take (length xs) zs)
copies-front old new xs ys zs is = record {
  inputs = is.inputs;
  trees = front-same (tree_of new) (tree_of old) xs ys zs is.trees;
  widths = front-same (width_of new) (width_of old) xs ys zs is.widths;
  numbers = λ input. front-same (λ id. number_of new id input) (λ id. number_of old id input) xs ys zs (is.numbers input);
}

pub copies-back : (old new : Graph) (xs ys zs : List ℕ) → AreCopies old (xs ++ ys) new zs
    → AreCopies old ys new (drop (length xs) zs)
copies-back old new xs ys zs is = record {
  inputs = is.inputs;
  trees = back-same (tree_of new) (tree_of old) xs ys zs is.trees;
  widths = back-same (width_of new) (width_of old) xs ys zs is.widths;
  numbers = λ input. back-same (λ id. number_of new id input) (λ id. number_of old id input) xs ys zs (is.numbers input);
}

-- they are as wide
pub all-copied : (old new : Graph) (w : ℕ) (ids copies : List ℕ) → map (width_of new) copies ≡ map (width_of old) ids
    → All (λ id. width_of old id ≡ w) ids → All (λ id. width_of new id ≡ w) copies
all-copied old new w [] [] is all = All-nil (λ id. width_of new id ≡ w)
all-copied old new w [] (c ∷ cs) is all = absurd (cc is)
all-copied old new w (i ∷ ids) [] is all = All-nil (λ id. width_of new id ≡ w)
all-copied old new w (i ∷ ids) (c ∷ cs) is all =
    let first : width_of new c ≡ width_of old i = cc is in
    let rest : map (width_of new) cs ≡ map (width_of old) ids = cc is in
    All-cons (λ id. width_of new id ≡ w) c cs (first ∙ All-head (λ id. width_of old id ≡ w) i ids all)
    (all-copied old new w ids cs rest (All-tail (λ id. width_of old id ≡ w) i ids all))

ones-copied : (old new : Graph) (input ids copies : List ℕ)
    → map (λ id. number_of new id input) copies ≡ map (λ id. number_of old id input) ids
    → list_all (λ id. number_of new id input == 1) copies ≡ list_all (λ id. number_of old id input == 1) ids
ones-copied old new input [] [] is = refl
ones-copied old new input [] (c ∷ cs) is = absurd (cc is)
ones-copied old new input (i ∷ ids) [] is = absurd (cc is)
ones-copied old new input (i ∷ ids) (c ∷ cs) is =
    let first : number_of new c input ≡ number_of old i input = cc is in
    let rest : map (λ id. number_of new id input) cs ≡ map (λ id. number_of old id input) ids = cc is in
    cc (first, ones-copied old new input ids cs rest)

pub holds-copied : (old new : Graph) (ids copies input : List ℕ) → AreCopies old ids new copies
    → holds (record { graph = new; asserted = copies }) input ≡ holds (record { graph = old; asserted = ids }) input
holds-copied old new ids copies input is =
    ap (λ n. (length input == n) && list_all (λ id. number_of new id input == 1) copies) is.inputs
    ∙ ap (λ b. (length input == old.inputs) && b) (ones-copied old new input ids copies (is.numbers input))
