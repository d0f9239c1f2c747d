-- A worker's claim of a free node, and what it enters behind that.
use Rattle.std.proofs.Common.{◌≡◌, ℕ, ◌+◌, ◌<◌, length, refl, ap, ◌∙◌, subst, arith}
use Rattle.tree_core.specs.Cores.{held_count}
use Rattle.tree_core.specs.Stories.{Story, status}
use Rattle.tree_core.specs.declared.node.Status.TheVariants.{Free}
use Rattle.fork_spec.specs.Histories.{releases_by}
use Rattle.fork_tree.specs.Calls.{IsClaim, claim_event}
use Rattle.fork_tree.specs.Drains.{GrowsBy}
use Rattle.tree_core.specs.Replays.{with_event}
use Rattle.fork_tree.specs.declared.content.Content.{Content}
use Rattle.fork_tree.specs.declared.tree.Claim.{Claim}
use Rattle.fork_tree.proofs.Entering.{grows-both, grows-none, grows-one, held-more}
use Rattle.fork_tree.proofs.Releases.{releases_kept, releases_same}
use Rattle.fork_tree.proofs.Standings.{AreThere}

module _ {S L : Type 0} where
  -- the answer of a claim, by its case
  pub claim_at : (well : S → Type 0) (s t : Story (Content S L)) (by : ℕ) (answer at : Claim S) → answer ≡ at →
      IsClaim well s by answer t → IsClaim well s by at t
  claim_at well s t by answer at is claim = subst (λ (x : Claim S). IsClaim well s by x t) is claim

  -- from the first story, which is the second as well, to the third by a claim
  module _ (r s t : Story (Content S L)) (by m : ℕ) (same : s ≡ r) (is : t ≡ with_event s (claim_event by m)) where
    -- once it is ended, no node is held
    pub held-none : (u : Story (Content S L)) → AreThere s → m < length s.nodes → status s m ≡ Free →
        held_count r ≡ 0 → held_count u + 1 ≡ held_count t → held_count u ≡ 0
    held-none u there lt free none less =
        let more : held_count t ≡ held_count s + 1 = held-more s t (claim_event by m) is there lt free refl refl refl in
        balance (held_count u) (held_count t) (held_count s) (held_count r) less more (ap held_count same) none
      where
        balance : (u t s r : ℕ) → u + 1 ≡ t → t ≡ s + 1 → s ≡ r → r ≡ 0 → u ≡ 0
        balance u t s r x y z w = omega arith

    pub grows-behind : (u : Story (Content S L)) → GrowsBy by t u → GrowsBy by r u
    grows-behind u more = grows-both by r t u
        (grows-both by r s t (grows-none by r s same) (grows-one by s t (claim_event by m) is refl)) more

    pub none-given_up : (k : ℕ) → releases_by k t.events ≡ releases_by k r.events
    none-given_up k = releases_kept s t (claim_event by m) is refl k ∙ releases_same r s same k
