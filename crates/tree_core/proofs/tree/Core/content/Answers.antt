use Rattle.std.proofs.Common.{◌≡◌, ◌↔◌, ◌<◌, None, Some, IfSome, IsNone, length, option_copied, sym, ◌∙◌, subst}
use Rattle.tree_core.specs.declared.node.Status.TheVariants.{Parted}
use Rattle.tree_core.specs.Stories.{Story, status, content}
use Rattle.tree_core.specs.Cores.{CoreValue, if_leaf, unworked}
use Rattle.tree_core.proofs.Letting.{content_there, none_parted, unworked_found}
use Rattle.tree_core.proofs.tree.Core.content.Goals as goal

pub returns-in-None : goal.returns-in-None
returns-in-None g c = let R : Type 0 = g.row.R.Denot in let i = c.self.inside in let s : Story R = record { nodes = i.shelves.nodes; events = i.events.items } in let m = c.args.node in
    let there : m < length s.nodes = subst (λ (k : CoreValue R). m < length k.story.nodes) (sym c.self.view_is) c.requires.there in
    let is : option_copied c.unworked.result ≡ unworked s m = c.self.invariant.0.holds m (option_copied c.unworked.result) c.unworked.ensures in
    let bare : None ≡ if_leaf (status s m) (content s m) = c.in-None.ensures
    ∙ (λ j. let t : Story R = record { nodes = i.shelves.nodes; events = c.deref.ensures.value j } in if_leaf (status t m) (content t m)) in
    let has = content_there s m there in record {
      value = subst (λ (k : CoreValue R). IfSome c.unworked.result (λ x. content k.story m ≡ Some x.now)) c.self.view_is (unworked_found (status s m) (content s m) c.unworked.result is);
      none = subst (λ (k : CoreValue R). IsNone c.unworked.result ↔ (status k.story m ≡ Parted)) c.self.view_is (none_parted (status s m) (content s m) has.0 c.unworked.result has.1 bare is);
    }
