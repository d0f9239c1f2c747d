-- What meets a condition meets one that asks no more.
use Rattle.std.proofs.Common.{◌≡◌, ◌==◌, ◌&&◌, ℕ, true, false, inl, inr, List, length, get_or, sym, ap, ◌∙◌}
use Rattle.std.specs.Prelude.{Contains}
use Rattle.std.specs.List.{list_all}
use Rattle.std.proofs.lemmas.Bool.{and_parts, and_from, cases_Bool}
use Rattle.std.proofs.lemmas.List.Elements.{All-contains, Contains-get_or}
use Rattle.std.proofs.lemmas.List.Sums.{AllPass-from_list_all, list_all-from_AllPass}
use Rattle.bv_dag.specs.Queries.{Condition, holds, IsUnsatisfiable}
use Rattle.term_trees.specs.Subsets.{AsksNoMore}
use Rattle.term_trees.specs.Trees.{Tree}
use Rattle.term_trees.specs.TreeSlices.{asserted_trees}
use Rattle.term_trees.proofs.Conditions.{is_one, ones-by_trees}

-- a condition holds where each of its trees is worth 1
holds_by_trees : (c : Condition) (input : List ℕ) → holds c input ≡ ((length input == c.graph.inputs) && list_all (is_one input) (asserted_trees c))
holds_by_trees c input = ap (λ b. (length input == c.graph.inputs) && b) (ones-by_trees c.graph input c.asserted)

pub holds-less : (less more : Condition) (input : List ℕ) → AsksNoMore less more → holds more input ≡ true → holds less input ≡ true
holds-less less more input asks holding =
    let parts = and_parts (length input == more.graph.inputs) (list_all (is_one input) (asserted_trees more)) (sym (holds_by_trees more input) ∙ holding) in
    let all = AllPass-from_list_all (is_one input) (asserted_trees more) parts.1 in
    let each : (t : Tree) → Contains (asserted_trees less) t → is_one input t ≡ true =
    λ t h. All-contains (λ s. is_one input s ≡ true) (asserted_trees more) t all (asks.trees t h) in
    holds_by_trees less input
    ∙ and_from (length input == less.graph.inputs) (list_all (is_one input) (asserted_trees less))
    (ap (λ n. length input == n) asks.inputs ∙ parts.0)
    (list_all-from_AllPass (is_one input) (asserted_trees less)
    (λ k d l. each (get_or (asserted_trees less) k d) (Contains-get_or (asserted_trees less) k d l)))

-- where nothing meets the one that asks less, nothing meets the other
pub unsatisfiable-more : (less more : Condition) → AsksNoMore less more → IsUnsatisfiable less → IsUnsatisfiable more
unsatisfiable-more less more asks none input small =
    elim (cases_Bool (holds more input)) [
      | inl holding ↦ (let both : true ≡ false = sym (holds-less less more input asks holding) ∙ none input small in cc)
      | inr fails ↦ fails
    ]
