-- What a tree keeps when an event was noted.
use Rattle.std.proofs.Common.{◌≡◌, ℕ, zero, suc, ◌+◌, ◌^◌, ◌<◌, ◌≤◌, ◌&&◌, Bool, true, false, nat_le, nat_lt, IsTrue, IsFalse, Option, Some, None, List, [], ◌∷◌, ◌++◌, length, map, set, sym, refl, ap, ◌∙◌, subst, arith}
use Rattle.std.specs.Prelude.{slice_get}
use Rattle.std.specs.Global.{Vec}
use Rattle.std.proofs.lemmas.Bool.Decides.{nat_tests}
use Rattle.std.proofs.lemmas.List.{append-nil}
use Rattle.tree_core.specs.declared.cause.Cause.{Cause}
use Rattle.tree_core.specs.declared.cause.Cause.TheVariants.{Conflicts, Nodes, Steps, Targets}
use Rattle.tree_core.specs.declared.event.Kid.{Kid}
use Rattle.tree_core.specs.declared.node.Status.{Status}
use Rattle.tree_core.specs.declared.node.Status.TheVariants.{Free, Held}
use Rattle.tree_core.specs.Orders.{Candidate, is_named}
use Rattle.tree_core.specs.Stories.{Story, status, content, left_by}
use Rattle.tree_core.specs.Replays.{allows, is_allowed, is_early, is_free, is_full, is_held_by, kids_of, may_come, with_event, opening, Replays}
use Rattle.tree_core.proofs.Guards.{allowed-may, may-all}
use Rattle.tree_core.proofs.Histories.{all_there}
use Rattle.fork_spec.specs.Partings.{Place}
use Rattle.fork_spec.specs.Walks.{candidate, is_by_nodes, is_end_cut, root, side_births}
use Rattle.fork_tree.specs.NodesApart.{IsBelow, KeepsApart}
use Rattle.fork_tree.specs.Written.{IsInForm, written_now}
use Rattle.fork_tree.specs.Candidates.{AreCandidates, AreShallow, IsInTurn, kid_candidate}
use Rattle.fork_tree.specs.Calls.{IsEndFit, IsSplitFit, MayCut, claim_event, cut_event, finish_event, release_event, split_event}
use Rattle.fork_tree.specs.Contents.{cut_in, place_in}
use Rattle.fork_tree.specs.Nodes.{AllHold, HasState, HoldsFor, IsLeafRight, StateIs}
use Rattle.fork_tree.specs.Trees.{FollowsRules, IsWholeTree, choices_at, covers_at}
use Rattle.fork_tree.specs.Works.{Rules, nodes_at}
use Rattle.fork_tree.specs.declared.content.Content.{Content}
use Rattle.fork_tree.specs.declared.content.Content.TheVariants.{Open, Shut}
use Rattle.fork_tree.proofs.Apart.{apart-noted, apart-opening}
use Rattle.fork_tree.proofs.Walked.{candidates-noted, nodes-opening, walked-noted, walked-opening}
use Rattle.fork_tree.proofs.Candidates.{seen-at}
use Rattle.fork_tree.proofs.Changing.{changed}
use Rattle.fork_tree.proofs.Shallow.{set-here, set-same, shallow-changed, sides-of-kids}
use Rattle.fork_tree.proofs.Standings.{AreThere, Coming, length-noted}
use Rattle.fork_tree.proofs.Holding.{DeedHolds, holds-noted}
use Rattle.fork_tree.proofs.Allowing.{allowed-claim, held-allows}

module _ {S L : Type 0} where
  -- there is something where there is a state
  pub some_content : (such : S → Type 0) (c : Option (Content S L)) → HasState such c →
      (x : Content S L) × (c ≡ Some x)
  some_content such (Some x) h = (x, refl)
  some_content such None h = absurd h

  pub any_state : (such : S → Type 0) (c : Option (Content S L)) → HasState such c →
      HasState (λ (x : S). Unit {0}) c
  any_state such (Some (Open a)) h = tt
  any_state such (Some (Shut l)) h = absurd h
  any_state such None h = absurd h

  pub such_state : (such : S → Type 0) (c : Option (Content S L)) (x : S) → HasState such c →
      StateIs c x → such x
  such_state such (Some (Open a)) x h is = subst such is h
  such_state such (Some (Shut l)) x h is = absurd h
  such_state such None x h is = absurd h

module _ {S L : Type 0} (rules : Rules S L) (state_place : S → Place) (leaf_place : L → Place) where
  -- whether a content is a leaf that was cut for want of nodes
  abbrev pub by_nodes : Content S L → Bool
  by_nodes c = is_by_nodes (place_in state_place leaf_place c).cut

  pub whole-by : (most : ℕ) (s : Story (Content S L)) → FollowsRules rules state_place leaf_place s → most ≡ rules.nodes →
      Replays (covers_at state_place leaf_place) by_nodes most s → IsWholeTree rules state_place leaf_place s
  whole-by most s follows same replays = record {
    follows = follows;
    replays = subst (λ n. Replays (covers_at state_place leaf_place) by_nodes n s) same replays;
  }

  -- the node of each event of a whole tree is there
  pub whole-there : (s : Story (Content S L)) → IsWholeTree rules state_place leaf_place s → AreThere s
  whole-there s whole = all_there (covers_at state_place leaf_place) by_nodes rules.nodes s whole.replays

  follows-noted : (s : Story (Content S L)) (e : Coming (Content S L)) (r : Content S L) →
      FollowsRules rules state_place leaf_place s → AreThere s → e.node < length s.nodes →
      content s e.node ≡ Some r → IsTrue (may_come by_nodes rules.nodes s e) →
      IsInForm (choices_at state_place leaf_place) (cut_in state_place leaf_place)
      rules.targets r e.deed →
      IsInTurn (choices_at state_place leaf_place) (cut_in state_place leaf_place)
      rules.order s e.node e.deed →
      KeepsApart (place_in state_place leaf_place) rules.decides r e.deed →
      DeedHolds rules state_place leaf_place (length s.nodes) e.deed →
      length s.nodes + length (kids_of e.deed) ≤ rules.nodes + rules.targets →
      FollowsRules rules state_place leaf_place (with_event s e)
  follows-noted s e r follows named there is comes form turn keeps new few =
      let may : IsTrue (is_allowed s e) = allowed-may by_nodes rules.nodes s e comes in record {
        holds = holds-noted rules state_place leaf_place s e follows.holds follows.walked.counted
            follows.walked.written named there may new;
        walked = walked-noted (choices_at state_place leaf_place) (cut_in state_place leaf_place)
            rules.targets rules.nodes rules.order s e r named there is comes form turn follows.walked;
        apart = apart-noted (place_in state_place leaf_place) rules.decides s e r named there is may
            keeps follows.apart;
        few = subst (λ (k : ℕ). k ≤ rules.nodes + rules.targets) (sym (length-noted s e)) few;
        small = follows.small;
      }

  -- what the fields of a tree keep
  abbrev pub IsTended : Story (Content S L) → List Candidate → Type 0
  IsTended s all =
      FollowsRules rules state_place leaf_place s
      × AreCandidates (choices_at state_place leaf_place) (cut_in state_place leaf_place) s all
      × AreShallow all

  -- a free node has a state, which is well
  pub free-state : (s : Story (Content S L)) (m : ℕ) → FollowsRules rules state_place leaf_place s →
      m < length s.nodes → status s m ≡ Free → HasState rules.IsWell (content s m)
  free-state s m follows there free =
      subst (λ (st : Status). HoldsFor rules.IsWell (IsLeafRight rules state_place leaf_place s m) st (content s m))
      free (follows.holds m there)

  held-state : (s : Story (Content S L)) (m by : ℕ) → FollowsRules rules state_place leaf_place s →
      m < length s.nodes → status s m ≡ Held by → HasState rules.IsWell (content s m)
  held-state s m by follows there held =
      subst (λ (st : Status). HoldsFor rules.IsWell (IsLeafRight rules state_place leaf_place s m) st (content s m)) held
      (follows.holds m there)

  -- how many choices lead to a content
  abbrev depth_of : Content S L → ℕ
  depth_of r = length (choices_at state_place leaf_place r)

  -- an event that may come, is in form and in turn
  tended-noted : (s t : Story (Content S L)) (e : Coming (Content S L)) (r : Content S L)
      (all more : List Candidate) →
      IsTended s all → t ≡ with_event s e → AreThere s → e.node < length s.nodes →
      content s e.node ≡ Some r → IsTrue (may_come by_nodes rules.nodes s e) →
      IsInForm (choices_at state_place leaf_place) (cut_in state_place leaf_place)
      rules.targets r e.deed →
      IsInTurn (choices_at state_place leaf_place) (cut_in state_place leaf_place)
      rules.order s e.node e.deed →
      KeepsApart (place_in state_place leaf_place) rules.decides r e.deed →
      DeedHolds rules state_place leaf_place (length s.nodes) e.deed →
      length s.nodes + length (kids_of e.deed) ≤ rules.nodes + rules.targets →
      more ≡ changed all e.node
      (record { depth = depth_of r; is_free = is_free (left_by e.by (written_now (cut_in state_place leaf_place) (length s.nodes) e.deed)) })
      (map candidate (side_births (choices_at state_place leaf_place r) (written_now (cut_in state_place leaf_place) (length s.nodes) e.deed))) →
      IsTended t more
  tended-noted s t e r all more tended is named there old comes form turn keeps new few lists =
      let choices = choices_at state_place leaf_place in
      let cut = cut_in state_place leaf_place in
      let now = candidates-noted choices cut rules.targets rules.nodes rules.order s e r named there old comes form all tended.1 in
      subst (λ (x : Story (Content S L)). IsTended x more) (sym is) (
        follows-noted s e r tended.0 named there old comes form turn keeps new few,
        subst (AreCandidates choices cut (with_event s e)) (sym lists) now,
        subst AreShallow (sym lists) (shallow-changed all e.node (choices r)
            (is_free (left_by e.by (written_now cut (length s.nodes) e.deed)))
            (is_free (status s e.node)) (written_now cut (length s.nodes) e.deed)
            (seen-at choices cut s all e.node r tended.1 old) tended.2),
      )

  -- a claim takes its node from those that are free
  pub tended-claim : (s t : Story (Content S L)) (by m : ℕ) (c : Candidate) (all more : List Candidate) →
      IsTended s all → t ≡ with_event s (claim_event by m) → AreThere s →
      m < length s.nodes → status s m ≡ Free → slice_get all m ≡ Some c →
      IsTrue (is_named rules.order (length s.events) all m) →
      more ≡ set all m (record { depth = c.depth; is_free = false }) → IsTended t more
  tended-claim s t by m c all more tended is named there free at next lists =
      let e : Coming (Content S L) = claim_event by m in
      let may : IsTrue (is_allowed s e) = allowed-claim s e refl free in
      let comes : IsTrue (may_come by_nodes rules.nodes s e) = may-all by_nodes rules.nodes s e may refl refl in
      let old = some_content rules.IsWell (content s m) (free-state s m tended.0 there free) in
      tended-noted s t e old.0 all more tended is named there old.1 comes tt
      (record { all = all; are = tended.1; named = next }) tt tt
      (as_few (length s.nodes) (rules.nodes + rules.targets) tended.0.few)
      (lists ∙ set-here all m c (depth_of old.0) false (is_free (status s m)) at
      (seen-at (choices_at state_place leaf_place) (cut_in state_place leaf_place) s all m old.0 tended.1 old.1))
    where
      as_few : (n most : ℕ) → n ≤ most → n + 0 ≤ most
      as_few n most le = omega arith

  -- an end of a claim
  tended-end : (s t : Story (Content S L)) (e : Coming (Content S L)) (r : Content S L)
      (all more : List Candidate) →
      IsTended s all → t ≡ with_event s e → AreThere s → e.node < length s.nodes →
      content s e.node ≡ Some r → status s e.node ≡ Held e.by →
      ((st : Status) (by : ℕ) → allows st by e.deed ≡ is_held_by by st) →
      IsFalse (is_full rules.nodes (length s.nodes) e.deed) →
      IsFalse (is_early by_nodes rules.nodes (length s.nodes) e.deed) →
      IsInForm (choices_at state_place leaf_place) (cut_in state_place leaf_place)
      rules.targets r e.deed →
      IsInTurn (choices_at state_place leaf_place) (cut_in state_place leaf_place)
      rules.order s e.node e.deed →
      KeepsApart (place_in state_place leaf_place) rules.decides r e.deed →
      DeedHolds rules state_place leaf_place (length s.nodes) e.deed →
      length s.nodes + length (kids_of e.deed) ≤ rules.nodes + rules.targets →
      more ≡ changed all e.node
      (record { depth = depth_of r; is_free = is_free (left_by e.by (written_now (cut_in state_place leaf_place) (length s.nodes) e.deed)) })
      (map candidate (side_births (choices_at state_place leaf_place r) (written_now (cut_in state_place leaf_place) (length s.nodes) e.deed))) →
      IsTended t more
  tended-end s t e r all more tended is named there old held allow not_full not_early form turn keeps new few lists =
      let may : IsTrue (is_allowed s e) = held-allows s e held allow in
      let comes : IsTrue (may_come by_nodes rules.nodes s e) = may-all by_nodes rules.nodes s e may not_full not_early in
      tended-noted s t e r all more tended is named there old comes form turn keeps new few lists

  -- a held node is listed as one that isn't free
  seen-held : (s : Story (Content S L)) (m by : ℕ) (r : Content S L) (all : List Candidate) →
      IsTended s all → content s m ≡ Some r → status s m ≡ Held by →
      slice_get all m ≡ Some (record { depth = depth_of r; is_free = false })
  seen-held s m by r all tended old held =
      seen-at (choices_at state_place leaf_place) (cut_in state_place leaf_place) s all m r tended.1 old
      ∙ ap (λ (st : Status). Some (record { depth = depth_of r; is_free = is_free st })) held

  -- a leaf is under what it comes in the place of
  leaf-under : (cut : Option Cause) (s : Story (Content S L)) (by node : ℕ) (leaf : L) →
      (fit : IsEndFit rules state_place leaf_place cut s by node leaf) →
      IsBelow (leaf_place leaf) (place_in state_place leaf_place fit.old)
  leaf-under cut s by node leaf fit = record {
    more = [];
    choices = fit.same_choices ∙ sym (append-nil (choices_at state_place leaf_place fit.old));
    within = λ input is. sym (fit.same_cover input) ∙ is;
  }

  -- no kids
  no_more : (n most : ℕ) → n ≤ most → n + 0 ≤ most
  no_more n most le = omega arith

  pub tended-finish : (s t : Story (Content S L)) (by node : ℕ) (leaf : L) (all : List Candidate) →
      IsTended s all → t ≡ with_event s (finish_event by node leaf) → AreThere s →
      IsEndFit rules state_place leaf_place None s by node leaf → IsTended t all
  tended-finish s t by node leaf all tended is named fit =
      let e : Coming (Content S L) = finish_event by node leaf in
      tended-end s t e fit.old all all tended is named fit.there fit.is_old fit.held
      (λ st by. refl) refl refl
      (fit.same_choices, fit.cause) tt (leaf-under None s by node leaf fit) fit.right
      (no_more (length s.nodes) (rules.nodes + rules.targets) tended.0.few)
      (set-same all node (record { depth = depth_of fit.old; is_free = false }) (seen-held s node by fit.old all tended fit.is_old fit.held))

  -- a cut for this cause is an end, and not early
  end_cut : (cause : Cause) (most n : ℕ) → MayCut most n cause → IsTrue (is_end_cut (Some cause))
  end_cut Steps most n may = refl
  end_cut Targets most n may = absurd may
  end_cut Conflicts most n may = absurd may
  end_cut Nodes most n may = refl

  pub in_time : (cause : Cause) (cut : Option Cause) (most n : ℕ) → cut ≡ Some cause →
      MayCut most n cause → IsFalse (is_by_nodes cut && nat_lt n most)
  in_time cause cut most n is may =
      ap (λ c. is_by_nodes c && nat_lt n most) is ∙ for_cause cause may
    where
      for_cause : (c : Cause) → MayCut most n c → IsFalse (is_by_nodes (Some c) && nat_lt n most)
      for_cause Steps may = refl
      for_cause Targets may = refl
      for_cause Conflicts may = refl
      for_cause Nodes may = grind (arith, nat_tests)

  counted_for : (cause : Cause) (cut : Option Cause) (n : ℕ) (leaf : L) → cut ≡ Some cause →
      rules.IsRight [] (nodes_at (Some cause) n) leaf → rules.IsRight [] (nodes_at cut n) leaf
  counted_for cause cut n leaf is right = subst (λ c. rules.IsRight [] (nodes_at c n) leaf) (sym is) right

  pub tended-cut : (cause : Cause) (s t : Story (Content S L)) (by node : ℕ) (leaf : L)
      (all : List Candidate) →
      IsTended s all → t ≡ with_event s (cut_event by node leaf) → AreThere s →
      IsEndFit rules state_place leaf_place (Some cause) s by node leaf →
      MayCut rules.nodes (length s.nodes) cause → IsTended t all
  tended-cut cause s t by node leaf all tended is named fit may =
      let e : Coming (Content S L) = cut_event by node leaf in
      tended-end s t e fit.old all all tended is named fit.there fit.is_old fit.held
      (λ st by. refl) refl
      (in_time cause (leaf_place leaf).cut rules.nodes (length s.nodes) fit.cause may)
      (fit.same_choices, ap is_end_cut fit.cause ∙ end_cut cause rules.nodes (length s.nodes) may) tt
      (leaf-under (Some cause) s by node leaf fit)
      (counted_for cause (leaf_place leaf).cut (length s.nodes) leaf fit.cause fit.right)
      (no_more (length s.nodes) (rules.nodes + rules.targets) tended.0.few)
      (set-same all node (record { depth = depth_of fit.old; is_free = false }) (seen-held s node by fit.old all tended fit.is_old fit.held))

  -- a release frees its node again
  pub tended-release : (s t : Story (Content S L)) (by node : ℕ) (c : Candidate) (all more : List Candidate) →
      IsTended s all → t ≡ with_event s (release_event by node) → AreThere s →
      node < length s.nodes → status s node ≡ Held by → slice_get all node ≡ Some c →
      more ≡ set all node (record { depth = c.depth; is_free = true }) → IsTended t more
  tended-release s t by node c all more tended is named there held at lists =
      let e : Coming (Content S L) = release_event by node in
      let old =
      some_content rules.IsWell (content s node) (held-state s node by tended.0 there held) in
      tended-end s t e old.0 all more tended is named there old.1 held
      (λ st by. refl) refl refl tt tt tt tt (no_more (length s.nodes) (rules.nodes + rules.targets) tended.0.few)
      (lists ∙ set-here all node c (depth_of old.0) true (is_free (status s node)) at
      (seen-at (choices_at state_place leaf_place) (cut_in state_place leaf_place) s all node old.0 tended.1 old.1))

  -- a split lists its kids behind the others
  pub tended-split : (s t : Story (Content S L)) (by node : ℕ) (kids : Vec (Kid (Content S L)))
      (c : Candidate) (all more : List Candidate) →
      IsTended s all → t ≡ with_event s (split_event by node kids) → AreThere s →
      IsSplitFit rules state_place leaf_place s by node kids → slice_get all node ≡ Some c →
      more ≡ all ++ map (kid_candidate (c.depth + 1)) kids.items → IsTended t more
  tended-split s t by node kids c all more tended is named fit at lists =
      let e : Coming (Content S L) = split_event by node kids in
      let choices = choices_at state_place leaf_place in
      let cut = cut_in state_place leaf_place in
      let held = seen-held s node by fit.old all tended fit.is_old fit.held in
      tended-end s t e fit.old all more tended is named fit.there fit.is_old fit.held
      (λ st by. refl) (room (length s.nodes) rules.nodes fit.not_full) refl
      fit.in_form tt fit.apart fit.parts
      (few (length s.nodes) rules.nodes (length kids.items) rules.targets fit.not_full fit.few)
      (lists ∙ sides-of-kids choices cut fit.old all node c kids.items at held fit.in_form.1)
    where
      room : (n most : ℕ) → n < most → nat_le most n ≡ false
      room n most lt = grind (arith, nat_tests)

      few : (n most kids targets : ℕ) → n < most → kids ≤ targets + 1 → n + kids ≤ most + targets
      few n most kids targets lt le = omega arith

  -- a tree of one node, which is free
  follows-opening : (c : Content S L) → HasState rules.IsWell (Some c) →
      choices_at state_place leaf_place c ≡ [] → 1 ≤ rules.nodes →
      rules.nodes + rules.targets < 2 ^ 32 →
      FollowsRules rules state_place leaf_place (opening c false)
  follows-opening c well none some small = record {
    holds = at_root;
    walked = walked-opening (choices_at state_place leaf_place) (cut_in state_place leaf_place)
        rules.targets rules.nodes rules.order c none;
    apart = apart-opening (place_in state_place leaf_place) rules.decides c;
    few = one (rules.nodes) rules.targets some;
    small = small;
  }
    where
      one : (most targets : ℕ) → 1 ≤ most → 1 ≤ most + targets
      one most targets le = omega arith

      at_root : AllHold rules state_place leaf_place (opening c false)
      at_root zero lt = well
      at_root (suc m) lt = absurd (omega arith)

  pub tended-opening : (c : Content S L) (s : Story (Content S L)) (all : List Candidate) →
      s ≡ opening c false → all ≡ record { depth = 0; is_free = true } ∷ [] → HasState rules.IsWell (Some c) →
      choices_at state_place leaf_place c ≡ [] → 1 ≤ rules.nodes →
      rules.nodes + rules.targets < 2 ^ 32 → IsTended s all
  tended-opening c s all is lists well none some small =
      subst (λ (x : Story (Content S L)). IsTended x all) (sym is) (
        follows-opening c well none some small,
        record {
          nodes = root ∷ [];
          same = nodes-opening (choices_at state_place leaf_place) (cut_in state_place leaf_place)
              rules.targets rules.nodes rules.order c none;
          seen = lists;
        },
        subst AreShallow (sym lists) shallow,
      )
    where
      shallow : AreShallow (record { depth = 0; is_free = true } ∷ [])
      shallow zero x at = at_root (record { depth = 0; is_free = true }) x at refl
        where
          at_root : (a b : Candidate) → Some a ≡ Some b → a.depth ≡ 0 → b.depth ≤ 0
          at_root a b is none = subst (λ n. n ≤ 0) (sym none ∙ ap (depth_in a) is) (omega arith)
            where
              depth_in : Candidate → Option Candidate → ℕ
              depth_in d None = d.depth
              depth_in d (Some y) = y.depth
      shallow (suc m) x at = cc
