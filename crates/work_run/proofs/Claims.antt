-- Claims of workers that share a tree.
use Rattle.std.proofs.Common.{◌≡◌, ℕ, zero, suc, ◌+◌, ◌<◌, Bool, true, false, Option, Some, None, List, ◌++◌, length, sym, refl, ap, ◌∙◌}
use Rattle.std.proofs.lemmas.Bool.{false≢true}
use Rattle.tree_core.specs.Covers.{count_below}
use Rattle.tree_core.specs.Cores.{held_count, is_held}
use Rattle.tree_core.specs.Replays.{Replays}
use Rattle.tree_core.specs.Stories.{IsClaimBy, Story, content, last_on, status}
use Rattle.tree_core.specs.declared.event.Event.{Event}
use Rattle.tree_core.specs.Nodes.{Node}
use Rattle.tree_core.specs.declared.node.Status.{Status}
use Rattle.tree_core.specs.declared.node.Status.TheVariants.{Free, Held, Parted, Leaf}
use Rattle.tree_core.proofs.Counting.{count_same}
use Rattle.tree_core.proofs.Histories.{to_claim}
use Rattle.tree_core.proofs.Surviving.{survives}
use Rattle.std.specs.List.{slice_get}
use Rattle.work_run.specs.Turns.{are_turns, is_claim}
use Rattle.work_run.proofs.Numbers.{events_by, last-own, only_others}
use Rattle.work_run.proofs.Turning.{turns_end}

none_below : (n : ℕ) → count_below (λ k. false) n ≡ 0
none_below zero = refl
none_below (suc n) = ap (λ k. k + 0) (none_below n)

module _ {R : Type 0} where
  -- a claim survives the turns of others, whatever they did: the worker's own events stay
  pub stays_held : (covers : R → List ℕ → Bool) (by_nodes : R → Bool) (most : ℕ) (s t : Story R) (nodes : List (Node R))
      (events : List (Event R ℕ)) (m w : ℕ) → Replays covers by_nodes most t → t.nodes ≡ s.nodes ++ nodes →
      t.events ≡ s.events ++ events → events_by w t.events ≡ events_by w s.events →
      m < length s.nodes → status s m ≡ Held w →
      (status t m ≡ Held w) × (content t m ≡ content s m)
  stays_held covers by_nodes most s t nodes events m w replays grew came same there held =
      survives covers by_nodes most s t nodes events m w replays grew came
      (only_others w s.events events (ap (events_by w) (sym came) ∙ same)) there held

  -- where each worker's events are turns of work, nobody holds a node
  pub held_by_none : (s : Story R) → ((w : ℕ) → are_turns (events_by w s.events) ≡ true) →
      (m w : ℕ) → status s m ≡ Held w → ⊥
  held_by_none s turns m w held =
      by_last (last_on m s.events) refl (to_claim (slice_get s.nodes m) (last_on m s.events) w held)
    where
      by_last : (o : Option (Event R ℕ)) → last_on m s.events ≡ o → IsClaimBy w o → ⊥
      by_last None at claim = absurd claim
      by_last (Some e) at claim =
          let mine : last_on m (events_by w s.events) ≡ Some e =
          last-own w m s.events e at claim.1 in
          let ended : is_claim e.deed ≡ false =
          turns_end m (events_by w s.events) (turns w) e mine in
          false≢true (sym ended ∙ ap is_claim claim.0)

  pub none_held : (s : Story R) → ((w : ℕ) → are_turns (events_by w s.events) ≡ true) →
      held_count s ≡ 0
  none_held s turns =
      count_same (λ k. is_held (status s k)) (λ k. false) (length s.nodes)
      (λ k lt. free (status s k) (held_by_none s turns k)) ∙ none_below (length s.nodes)
    where
      free : (st : Status) → ((w : ℕ) → st ≡ Held w → ⊥) → is_held st ≡ false
      free Free never = refl
      free (Held w) never = absurd (never w refl)
      free Parted never = refl
      free Leaf never = refl
