use Rattle.std.proofs.Common.{◌≡◌, ◌∙◌, ◌<◌, ◌++◌, ◌∷◌, [], ℕ, List, true, sym, subst, length, map, get_or, set}
use Rattle.cdcl_core.specs.Places.{is_among, places_of, AreKept}
use Rattle.cdcl_core.proofs.Noting.{kept_on, kept_put, noted_put, put_view, same_view}
use Rattle.cdcl_core.proofs.clause_list.Places.put.Goals as goal

pub returns-in_err-push-clause-kept : goal.returns-in_err-push-clause-kept
returns-in_err-push-clause-kept c =
    subst (λ (lists : List (List ℕ)). AreKept c.args.self.now lists)
    (sym c.self.view_is ∙ sym (same_view c.self.inside.lists.items (λ v. v.items) c.index-index.result c.index_mut.result.now c.push.new.self c.index_mut.ensures.value c.in_err-push.ensures.items))
    c.in_ok-reach.ensures.kept

pub returns-clause-noted : goal.returns-clause-noted
returns-clause-noted c =
    let lists : List (List ℕ) = map (λ v. v.items) c.self.inside.lists.items in
    let within : c.index-index.result < length lists = subst (λ (ls : List (List ℕ)). c.index-index.result < length ls) (sym c.self.view_is) c.in_ok-reach.ensures.there in
    let made = put_view c.self.inside.lists.items (λ v. v.items) c.index-index.result c.args.place c.index_mut.result.now c.push.new.self within c.index_mut.ensures.value c.in_ok-push.ensures.items in
    subst (λ (ls : List (List ℕ)). is_among (places_of ls c.args.literal) c.args.place ≡ true) (sym made)
    (subst (λ j. is_among (get_or (set lists c.index-index.result (get_or lists c.index-index.result [] ++ c.args.place ∷ [])) j []) c.args.place ≡ true) c.index-index.ensures (noted_put lists c.index-index.result c.args.place within))

pub returns-clause-kept : goal.returns-clause-kept
returns-clause-kept c =
    let lists : List (List ℕ) = map (λ v. v.items) c.self.inside.lists.items in
    let within : c.index-index.result < length lists = subst (λ (ls : List (List ℕ)). c.index-index.result < length ls) (sym c.self.view_is) c.in_ok-reach.ensures.there in
    let made = put_view c.self.inside.lists.items (λ v. v.items) c.index-index.result c.args.place c.index_mut.result.now c.push.new.self within c.index_mut.ensures.value c.in_ok-push.ensures.items in
    let reached : AreKept c.args.self.now lists = subst (λ (ls : List (List ℕ)). AreKept c.args.self.now ls) (sym c.self.view_is) c.in_ok-reach.ensures.kept in
    subst (λ (ls : List (List ℕ)). AreKept c.args.self.now ls) (sym made)
    (kept_on c.args.self.now lists _ reached (kept_put lists c.index-index.result c.args.place within))
