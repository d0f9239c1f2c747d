use Rattle.std.proofs.Common.{◌<◌, ℕ, List, reverse, sym, subst}
use Rattle.std.specs.List.Sorted.{IsStrictlyIncreasing}
use Rattle.query_pick.specs.Cones.{IsCone}
use Rattle.query_pick.proofs.Pending.{none_left, reverse-push}
use Rattle.query_pick.proofs.Searching.{IsSearched, least_of, searched_all, searched_first, searched_more, taken_below, taken_there}
use Rattle.query_pick.proofs.finding.cone.Goals as goal

pub loop-id-init : goal.loop-id-init
loop-id-init g c = (
  c.in_ok-pending.ensures.increasing,
  subst (λ (found : List ℕ). IsSearched (g.T.Table.graph c.args.terms.now) c.args.tops.now c.in_ok-pending.pending.items (reverse found)) (sym c.in_ok-found.ensures.items)
      (searched_first (g.T.Table.graph c.args.terms.now) c.args.tops.now c.in_ok-pending.pending.items c.requires c.in_ok-pending.ensures.adds),
)

pub node-requires : goal.node-requires
node-requires g c =
    taken_there (g.T.Table.graph c.args.terms.now) c.args.tops.now c.pop.new.self.items (reverse c.loop-id.found.items) c.in-Some.id (subst IsStrictlyIncreasing c.in-Some.ensures.items c.loop-id.invariant.0)
    (subst (λ (all : List ℕ). IsSearched (g.T.Table.graph c.args.terms.now) c.args.tops.now all (reverse c.loop-id.found.items)) c.in-Some.ensures.items c.loop-id.invariant.1)

pub loop-id-smaller : goal.loop-id-smaller
loop-id-smaller g c =
    subst (λ (found : List ℕ). least_of (g.T.Table.graph c.args.terms.now) found < least_of (g.T.Table.graph c.args.terms.now) (reverse c.loop-id.found.items))
    (sym (reverse-push c.loop-id.found.items c.push.new.self.items c.in-Some.id c.in_ok-push.ensures.items))
    (taken_below (g.T.Table.graph c.args.terms.now) c.args.tops.now c.pop.new.self.items (reverse c.loop-id.found.items) c.in-Some.id (subst IsStrictlyIncreasing c.in-Some.ensures.items c.loop-id.invariant.0)
    (subst (λ (all : List ℕ). IsSearched (g.T.Table.graph c.args.terms.now) c.args.tops.now all (reverse c.loop-id.found.items)) c.in-Some.ensures.items c.loop-id.invariant.1))

pub loop-id-preserved : goal.loop-id-preserved
loop-id-preserved g c = (
  c.in_ok-add_operands.ensures.increasing,
  subst (λ (found : List ℕ). IsSearched (g.T.Table.graph c.args.terms.now) c.args.tops.now c.add_operands.new.places.items found)
      (sym (reverse-push c.loop-id.found.items c.push.new.self.items c.in-Some.id c.in_ok-push.ensures.items))
      (searched_more (g.T.Table.graph c.args.terms.now) c.args.tops.now c.pop.new.self.items (reverse c.loop-id.found.items) c.in-Some.id (subst IsStrictlyIncreasing c.in-Some.ensures.items c.loop-id.invariant.0)
      (subst (λ (all : List ℕ). IsSearched (g.T.Table.graph c.args.terms.now) c.args.tops.now all (reverse c.loop-id.found.items)) c.in-Some.ensures.items c.loop-id.invariant.1)
      c.add_operands.new.places.items c.node.result c.node.ensures.fit c.node.ensures.is c.in_ok-add_operands.ensures.adds),
)

pub returns : goal.returns
returns g c =
    subst (λ (places : List ℕ). IsCone (g.T.Table.graph c.args.terms.now) c.args.tops.now places) (sym c.reverse.ensures.items)
    (searched_all (g.T.Table.graph c.args.terms.now) c.args.tops.now c.loop-id.pending.items (reverse c.loop-id.found.items)
    (none_left c.loop-id.pending.items c.loop-id.pending.len c.pop.result c.loop-id.pending.ok.0 c.in_default.not-Some c.pop.ensures.variant) c.loop-id.invariant.1)
