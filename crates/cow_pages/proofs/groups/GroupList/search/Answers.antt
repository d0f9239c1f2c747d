use Rattle.std.proofs.Common.{rules, ap, subst, ◌∙◌}
use Rattle.std.proofs.lemmas.List.Sorted.{answers_always}
use Rattle.cow_pages.specs.Groups.{AreGroups, shared_groups}
use Rattle.cow_pages.proofs.Searching.{search_found, search_gap}
use Rattle.cow_pages.proofs.groups.GroupList.search.Goals as goal

pub returns-clause-found : goal.returns-clause-found
returns-clause-found c =
    search_found c.deref.result.now c.args.self.now c.args.number c.binary_search_by_key.result
    (ap shared_groups c.deref.ensures.value ∙ c.self.view_is) (subst AreGroups c.self.view_is c.self.invariant) c.binary_search_by_key.ensures.bound
    (c.binary_search_by_key.ensures.position (λ group. group.0) (answers_always _ _ _ (λ f a r g called. search rules)))

pub returns-clause-gap : goal.returns-clause-gap
returns-clause-gap c =
    search_gap c.deref.result.now c.args.self.now c.args.number c.binary_search_by_key.result
    (ap shared_groups c.deref.ensures.value ∙ c.self.view_is) (subst AreGroups c.self.view_is c.self.invariant) c.binary_search_by_key.ensures.bound
    (c.binary_search_by_key.ensures.position (λ group. group.0) (answers_always _ _ _ (λ f a r g called. search rules)))
