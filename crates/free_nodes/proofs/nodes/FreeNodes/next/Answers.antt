use Rattle.std.proofs.Common.{◌≡◌, ◌<◌, List, refl, sym, subst, ◌∙◌, arith}
use Rattle.free_nodes.specs.declared.sum.FreeSum.{FreeSum}
use Rattle.free_nodes.specs.Entries.{sum_at}
use Rattle.free_nodes.specs.Listings.{IsOver, Listed}
use Rattle.free_nodes.proofs.Naming.{IsTree-some, is_named_of, root_counts}
use Rattle.free_nodes.proofs.nodes.FreeNodes.next.Goals as goal
use Rattle.free_nodes.proofs.nodes.FreeNodes.next.Goals.{Then-free_in-eq0, After-deref-2, After-named_in}

-- what the slice holds stands over the nodes
over : (k : Listed) (l : Listed) (entries slice : List FreeSum) → IsOver k.nodes k.capacity entries → k ≡ l → slice ≡ entries →
    IsOver l.nodes l.capacity slice
over k l entries slice o same is =
    subst (λ (es : List FreeSum). IsOver l.nodes l.capacity es) (sym is)
    (subst (λ (m : Listed). IsOver m.nodes m.capacity entries) same o)

pub returns-then-free_in-eq0-clause-none : goal.returns-then-free_in-eq0-clause-none
returns-then-free_in-eq0-clause-none c =
    let o = over _ c.args.self.now c.self.inside.entries.items c.deref.result.now c.self.invariant.1 c.self.view_is c.deref.ensures.value in
    (λ _. sym (root_counts _ _ _ o) ∙ sym c.free_in.ensures ∙ c.if-free_in-eq0.true, λ _. refl)

some_free : (c : After-deref-2) → 0 < (sum_at c.deref-2.result.now 1).free
some_free c =
    subst (λ (es : List FreeSum). 0 < (sum_at es 1).free) (c.deref.ensures.value ∙ sym c.deref-2.ensures.value)
    (omega (arith, c.free_in.ensures, c.if-free_in-eq0.false))

pub named_in-requires-clause-tree : goal.named_in-requires-clause-tree
named_in-requires-clause-tree c =
    let o = over _ c.args.self.now c.self.inside.entries.items c.deref-2.result.now c.self.invariant.1 c.self.view_is c.deref-2.ensures.value in
    IsTree-some _ _ _ o (some_free c)

pub returns-clause-some : goal.returns-clause-some
returns-clause-some c =
    let o = over _ c.args.self.now c.self.inside.entries.items c.deref-2.result.now c.self.invariant.1 c.self.view_is c.deref-2.ensures.value in
    is_named_of c.args.order c.args.events _ _ c.named_in.result _ o c.named_in.ensures.there c.named_in.ensures.free c.named_in.ensures.named

pub returns-clause-none : goal.returns-clause-none
returns-clause-none c =
    let o = over _ c.args.self.now c.self.inside.entries.items c.deref.result.now c.self.invariant.1 c.self.view_is c.deref.ensures.value in
    let some : 0 < c.free_in.result = omega (arith, c.if-free_in-eq0.false) in
    (λ e. absurd (cc e), λ none. absurd (omega (arith, none, some, root_counts _ _ _ o, c.free_in.ensures)))
