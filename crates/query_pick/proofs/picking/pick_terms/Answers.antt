use Rattle.std.proofs.Common.{◌≡◌, ◌<◌, ℕ, List, length, map, sym, ap, ◌∙◌, subst}
use Rattle.std.specs.Prelude.{All, Contains}
use Rattle.bv_dag.specs.Graphs.{Graph}
use Rattle.term_trees.specs.Trees.{trees, tree_of}
use Rattle.query_pick.proofs.Copying.{numbers_there, place_of, trees-asked}
use Rattle.query_pick.proofs.SameTrees.{values-same_trees, widths-same_trees}
use Rattle.query_pick.proofs.picking.pick_terms.Goals as goal

pub numbers_of-requires-clause-there : goal.numbers_of-requires-clause-there
numbers_of-requires-clause-there g c =
    subst (λ (places : List ℕ). All (Contains places) c.args.ids.now) (sym c.deref-2.ensures.value)
    c.in_ok-places.ensures.tops_in

-- the copy has the trees of the places among which the terms were numbered
copied : (table copy : Graph) (one places other : List ℕ) →
    trees copy.nodes ≡ map (tree_of table) one → one ≡ places → other ≡ places →
    trees copy.nodes ≡ map (tree_of table) other
copied table copy one places other same here there = same ∙ ap (map (tree_of table)) (here ∙ sym there)

-- so the terms are those that were asked for
asked : (table copy : Graph) (one places other numbers ids : List ℕ) →
    trees copy.nodes ≡ map (tree_of table) one → one ≡ places → other ≡ places →
    All (λ k. k < length other) numbers → map (place_of other) numbers ≡ ids →
    map (tree_of copy) numbers ≡ map (tree_of table) ids
asked table copy one places other numbers ids same here there within are =
    trees-asked table copy other (copied table copy one places other same here there) numbers ids within are

pub returns-clause-there : goal.returns-clause-there
returns-clause-there g c =
    numbers_there (g.T.Table.graph c.args.terms.now) c.in_ok-graph.graph c.deref-2.result.now
    (copied (g.T.Table.graph c.args.terms.now) c.in_ok-graph.graph _ _ _ c.in_ok-graph.ensures.same c.deref.ensures.value c.deref-2.ensures.value)
    c.in_ok-numbers.numbers.items c.in_ok-numbers.ensures.there

pub returns-clause-same_trees : goal.returns-clause-same_trees
returns-clause-same_trees g c =
    asked (g.T.Table.graph c.args.terms.now) c.in_ok-graph.graph _ _ _ c.in_ok-numbers.numbers.items c.args.ids.now
    c.in_ok-graph.ensures.same c.deref.ensures.value c.deref-2.ensures.value
    c.in_ok-numbers.ensures.there c.in_ok-numbers.ensures.same

pub returns-clause-same_widths : goal.returns-clause-same_widths
returns-clause-same_widths g c =
    widths-same_trees c.in_ok-graph.graph (g.T.Table.graph c.args.terms.now)
    c.in_ok-numbers.numbers.items c.args.ids.now
    (asked (g.T.Table.graph c.args.terms.now) c.in_ok-graph.graph _ _ _ c.in_ok-numbers.numbers.items c.args.ids.now
    c.in_ok-graph.ensures.same c.deref.ensures.value c.deref-2.ensures.value
    c.in_ok-numbers.ensures.there c.in_ok-numbers.ensures.same)

pub returns-clause-same_values : goal.returns-clause-same_values
returns-clause-same_values g c =
    values-same_trees c.in_ok-graph.graph (g.T.Table.graph c.args.terms.now)
    c.in_ok-numbers.numbers.items c.args.ids.now
    (asked (g.T.Table.graph c.args.terms.now) c.in_ok-graph.graph _ _ _ c.in_ok-numbers.numbers.items c.args.ids.now
    c.in_ok-graph.ensures.same c.deref.ensures.value c.deref-2.ensures.value
    c.in_ok-numbers.ensures.there c.in_ok-numbers.ensures.same)
