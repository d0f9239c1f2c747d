use Rattle.std.proofs.Common.{◌∙◌, ap, sym}
use Rattle.std.proofs.lemmas.Slice.Eq.{bytes_eq-Decides}
use Rattle.replay_core.proofs.Alike.{paths_decide}
use Rattle.replay_core.proofs.replays.leaves_alike.Goals as goal

pub returns-then-eq-clause-yes : goal.returns-then-eq-clause-yes
returns-then-eq-clause-yes c = λ yes. record {
  path = sym c.as_slice.ensures.value ∙ (paths_decide _ _ c.eq.result c.eq.ensures).0 c.if-eq.true ∙ c.as_slice-2.ensures.value ∙ ap (λ t. t.path) c.test.view_is;
  output = sym c.as_slice-then-eq.ensures.value ∙ (bytes_eq-Decides _ _).0 (sym c.eq-then-eq.ensures ∙ yes) ∙ c.as_slice-then-eq-2.ensures ∙ ap (λ t. t.output) c.test.view_is;
}

pub returns-else-eq-clause-no : goal.returns-else-eq-clause-no
returns-else-eq-clause-no c = λ is alike.
    let same = (paths_decide _ _ c.eq.result c.eq.ensures).1 (c.as_slice.ensures.value ∙ alike.path ∙ sym (ap (λ t. t.path) c.test.view_is) ∙ sym c.as_slice-2.ensures.value) in
    cc
