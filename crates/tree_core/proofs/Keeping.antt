-- What a core's fields keep, when it opens and when an event is noted.
use Rattle.std.proofs.Common.{◌≡◌, ◌≢◌, ℕ, zero, suc, ◌+◌, ◌-◌, ◌<◌, ◌≤◌, ◌&&◌, eqb, Bool, true, false, cond, IsTrue, Option, Some, None, List, [], ◌∷◌, ◌++◌, map, length, set, sym, refl, ap, ◌∙◌, subst, arith, eq-eqb, ne_eqb, length-append, length-set}
use mathlib.Core.Logic.{dite}
use native.Mathlib.Decide.{ℕ_discrete, dec_le}
use Rattle.std.proofs.lemmas.List.{length-map}
use Rattle.std.proofs.lemmas.List.Elements.{All-push}
use Rattle.std.proofs.lemmas.Option.{slice_get_within}
use Rattle.std.specs.List.{All, slice_get}
use Rattle.std.specs.Global.{Vec}
use Rattle.tree_core.specs.declared.event.Event.{Event}
use Rattle.tree_core.specs.declared.event.Kid.{Kid}
use Rattle.tree_core.specs.declared.node.Status.TheVariants.{Free, Leaf}
use Rattle.tree_core.specs.Stories.{Story, status, last_on}
use Rattle.tree_core.specs.Covers.{one_if, is_live}
use Rattle.tree_core.proofs.Guards.{allowed-may}
use Rattle.tree_core.specs.Replays.{is_allowed, may_come, IsFit, births, deed_kept, kids_of, kept, with_event, node_of, noted_all, AllMayCome, Replays, opening}
use Rattle.tree_core.specs.Cores.{IsCore, IsLast, is_held, held_count, let_go, takes, ends, unworked, unworked_of}
use Rattle.tree_core.proofs.Counting.{count_at}
use Rattle.tree_core.proofs.Places.{get_set, get_before, get_behind, get_last, last_on-push}
use Rattle.tree_core.proofs.Standing.{kid_unnamed}
use Rattle.tree_core.proofs.Letting.{born_unworked, holds-noted, length-let_go}
use Rattle.tree_core.proofs.Sharing.{partition-noted, held_count-noted, ends-before}

module _ {R : Type 0} (covers : R → List ℕ → Bool) (by_nodes : R → Bool) (most : ℕ) where
  noted_all-push : (s : Story R) (es : List (Event R (Vec (Kid R)))) (e : Event R (Vec (Kid R))) → noted_all s (es ++ e ∷ []) ≡ with_event (noted_all s es) e
  noted_all-push s [] e = refl
  noted_all-push s (x ∷ es) e = noted_all-push (with_event s x) es e

  may_come_more : (s : Story R) (es : List (Event R (Vec (Kid R)))) (e : Event R (Vec (Kid R))) → AllMayCome covers by_nodes most s es → IsFit covers (noted_all s es) e → IsTrue (may_come by_nodes most (noted_all s es) e) → AllMayCome covers by_nodes most s (es ++ e ∷ [])
  may_come_more s [] e all fit may = (fit, may, tt)
  may_come_more s (x ∷ es) e all fit may = (all.0, all.1, may_come_more (with_event s x) es e all.2 fit may)

  replays-noted : (s : Story R) (e : Event R (Vec (Kid R))) → Replays covers by_nodes most s → IsFit covers s e → IsTrue (may_come by_nodes most s e) → Replays covers by_nodes most (with_event s e)
  replays-noted s e r fit may = let first : Story R = opening r.0 r.1 in let is : s ≡ noted_all first r.2 = r.4 in (
    r.0,
    r.1,
    r.2 ++ e ∷ [],
    may_come_more first r.2 e r.3 (subst (λ (t : Story R). IsFit covers t e) is fit) (subst (λ (t : Story R). IsTrue (may_come by_nodes most t e)) is may),
    ap (λ (t : Story R). with_event t e) is ∙ sym (noted_all-push first r.2 e),
  )

module _ {R : Type 0} where
  long-noted : (s : Story R) (e : Event R (Vec (Kid R))) → length (with_event s e).nodes ≡ length s.nodes + length (kids_of e.deed)
  long-noted s e = length-append s.nodes (births e.node e.deed) ∙ ap (λ k. length s.nodes + k) (length-map (kids_of e.deed) (node_of e.node))

  wide-noted : (s : Story R) (e : Event R (Vec (Kid R))) (contents : List (Option R)) → length contents ≡ length s.nodes
      → length (let_go (deed_kept e.deed) e.node (contents ++ map (λ (kid : Kid R). unworked_of kid.is_leaf kid.content) (kids_of e.deed))) ≡ length (with_event s e).nodes
  wide-noted s e contents wide = let own : Kid R → Option R = λ kid. unworked_of kid.is_leaf kid.content in
      length-let_go (deed_kept e.deed) e.node (contents ++ map own (kids_of e.deed)) ∙ (length-append contents (map own (kids_of e.deed)) ∙ ((λ i. wide i + length-map (kids_of e.deed) own i) ∙ sym (long-noted s e)))

  named-noted : (s : Story R) (e : Event R (Vec (Kid R))) → All (λ (x : Event R ℕ). x.node < length s.nodes) s.events → e.node < length s.nodes → All (λ (x : Event R ℕ). x.node < length (with_event s e).nodes) (with_event s e).events
  named-noted s e named there = let long = long-noted s e in
      All-push (λ (x : Event R ℕ). x.node < length (with_event s e).nodes) s.events (kept e) (λ k d lt. let low = named k d lt in omega arith) (omega arith)

  last_stays : (s : Story R) (e : Event R (Vec (Kid R))) (k : ℕ) (o : Option ℕ) → eqb e.node k ≡ false → IsLast s k o → IsLast (with_event s e) k o
  last_stays s e k None apart l = last_on-push k s.events (kept e) ∙ (ap (λ b. cond b (Some (kept e)) (last_on k s.events)) apart ∙ l)
  last_stays s e k (Some j) apart l = (l.0, get_before s.events (kept e ∷ []) j (slice_get_within s.events j l.0 l.1) ∙ l.1, last_on-push k s.events (kept e) ∙ (ap (λ b. cond b (Some (kept e)) (last_on k s.events)) apart ∙ l.2))

  none_at : (kids : List (Kid R)) (i : ℕ) (o : Option ℕ) → slice_get (map (λ _. None) kids) i ≡ Some o → o ≡ None
  none_at [] i o at = cc
  none_at (kid ∷ kids) zero o at = cc
  none_at (kid ∷ kids) (suc i) o at = none_at kids i o at

  last-noted : (s : Story R) (e : Event R (Vec (Kid R))) (latest : List (Option ℕ)) → ((k : ℕ) (o : Option ℕ) → slice_get latest k ≡ Some o → IsLast s k o) → length latest ≡ length s.nodes
      → All (λ (x : Event R ℕ). x.node < length s.nodes) s.events → e.node < length s.nodes
      → (k : ℕ) (o : Option ℕ) → slice_get (set (latest ++ map (λ _. None) (kids_of e.deed)) e.node (Some (length s.events))) k ≡ Some o → IsLast (with_event s e) k o
  last-noted s e latest last long named there k o at =
      let n : ℕ = length s.nodes in let m : ℕ = e.node in let nones : List (Option ℕ) = map (λ _. None) (kids_of e.deed) in let new : Option ℕ = Some (length s.events) in
      let both : length (latest ++ nones) ≡ length latest + length nones = length-append latest nones in
      let put : slice_get (set (latest ++ nones) m new) k ≡ cond (eqb m k) (Some new) (slice_get (latest ++ nones) k) = get_set (latest ++ nones) m k new (omega arith) in
      let at' : cond (eqb m k) (Some new) (slice_get (latest ++ nones) k) ≡ Some o = sym put ∙ at in
      dite (ℕ_discrete m k)
      (λ is. let yes : eqb m k ≡ true = eq-eqb m k is in let same : Some new ≡ Some o = sym (ap (λ b. cond b (Some new) (slice_get (latest ++ nones) k)) yes) ∙ at' in let same' : new ≡ o = cc in
      subst (λ (p : Option ℕ). IsLast (with_event s e) k p) same' (kept e, get_last s.events (kept e), last_on-push k s.events (kept e) ∙ ap (λ b. cond b (Some (kept e)) (last_on k s.events)) yes))
      (λ ne. let apart : eqb m k ≡ false = ne_eqb m k ne in let old : slice_get (latest ++ nones) k ≡ Some o = sym (ap (λ b. cond b (Some new) (slice_get (latest ++ nones) k)) apart) ∙ at' in
      dite (dec_le n k)
      (λ le. let split : length latest + (k - n) ≡ k = omega arith in let split' : n + (k - n) ≡ k = omega arith in
      let is : o ≡ None = none_at (kids_of e.deed) (k - n) o (sym (get_behind latest nones (k - n)) ∙ (ap (slice_get (latest ++ nones)) split ∙ old)) in
      subst (λ (p : Option ℕ). IsLast (with_event s e) k p) (sym is) (subst (λ (j : ℕ). last_on j (s.events ++ kept e ∷ []) ≡ None) split' (kid_unnamed s e (k - n) named there)))
      (λ not. let low : k < length latest = subst (λ (j : ℕ). k < j) (sym long) (Rattle.std.proofs.Common.lt_of_not-le not) in
      last_stays s e k o apart (last k o (sym (get_before latest nones k low) ∙ old))))

module _ {R : Type 0} (covers : R → List ℕ → Bool) (by_nodes : R → Bool) (most : ℕ) where
  pub core-noted : (s : Story R) (latest : List (Option ℕ)) (contents : List (Option R)) (held more : ℕ) (e : Event R (Vec (Kid R))) → IsCore covers by_nodes most s latest contents held → IsFit covers s e → IsTrue (may_come by_nodes most s e) → more + ends e.deed ≡ held + takes e.deed
      → IsCore covers by_nodes most (with_event s e) (set (latest ++ map (λ _. None) (kids_of e.deed)) e.node (Some (length s.events)))
      (let_go (deed_kept e.deed) e.node (contents ++ map (λ (kid : Kid R). unworked_of kid.is_leaf kid.content) (kids_of e.deed))) more
  core-noted s latest contents held more e t fit may counts = record {
    replays = replays-noted covers by_nodes most s e t.replays fit may;
    partition = partition-noted covers s e t.partition t.named fit (allowed-may by_nodes most s e may);
    named = named-noted s e t.named fit.0;
    long = length-set (latest ++ map (λ _. None) (kids_of e.deed)) e.node (Some (length s.events)) ∙ (length-append latest (map (λ _. None) (kids_of e.deed)) ∙ ((λ i. t.long i + length-map {B = Option ℕ} (kids_of e.deed) (λ _. None) i) ∙ sym (long-noted s e)));
    last = last-noted s e latest t.last t.long t.named fit.0;
    wide = wide-noted s e contents t.wide;
    holds = holds-noted s e contents t.holds t.wide t.named fit.0 (allowed-may by_nodes most s e may);
    counted = balanced more (ends e.deed) held (takes e.deed) (held_count (with_event s e)) (held_count s) counts (held_count-noted s e t.named fit.0 (allowed-may by_nodes most s e may)) t.counted;
  }
    where
      balanced : (more d held t after before : ℕ) → more + d ≡ held + t → after + d ≡ before + t → held ≡ before → more ≡ after
      balanced more d held t after before x y z = omega arith

  -- a node that a worker gives back is held
  pub ends-held : (s : Story R) (latest : List (Option ℕ)) (contents : List (Option R)) (held : ℕ) (e : Event R (Vec (Kid R))) → IsCore covers by_nodes most s latest contents held → e.node < length s.nodes → IsTrue (is_allowed s e) → ends e.deed ≤ held
  ends-held s latest contents held e t there may = subst (λ (k : ℕ). ends e.deed ≤ k) (sym t.counted)
      (subst (λ (k : ℕ). k ≤ held_count s) (ends-before (status s e.node) e.by e.deed may) (count_at (λ m. is_held (status s m)) (length s.nodes) e.node there))

  birth_shared : (input : List ℕ) (root : R) (is_leaf : Bool) → 0 + one_if (is_live (cond is_leaf Leaf Free) && covers root input) ≡ one_if (covers root input)
  birth_shared input root true = zero_left (one_if (covers root input))
    where
      zero_left : (a : ℕ) → 0 + a ≡ a
      zero_left a = omega arith
  birth_shared input root false = zero_left (one_if (covers root input))
    where
      zero_left : (a : ℕ) → 0 + a ≡ a
      zero_left a = omega arith

  none_held : (is_leaf : Bool) → 0 ≡ 0 + one_if (is_held (cond is_leaf Leaf Free))
  none_held true = refl
  none_held false = refl

  no_last : (root : R) (is_leaf : Bool) (m : ℕ) (o : Option ℕ) → slice_get (None ∷ []) m ≡ Some o → IsLast (opening root is_leaf) m o
  no_last root is_leaf zero None at = refl
  no_last root is_leaf zero (Some k) at = cc
  no_last root is_leaf (suc m) o at = cc

  first_content : (root : R) (is_leaf : Bool) (m : ℕ) (o : Option R) → slice_get (unworked_of is_leaf root ∷ []) m ≡ Some o → o ≡ unworked (opening root is_leaf) m
  first_content root is_leaf zero o at = let is : unworked_of is_leaf root ≡ o = cc in sym is ∙ born_unworked is_leaf root
  first_content root is_leaf (suc m) o at = cc

  pub core-opened : (root : R) (is_leaf : Bool) → IsCore covers by_nodes most (opening root is_leaf) (None ∷ []) (unworked_of is_leaf root ∷ []) 0
  core-opened root is_leaf = record {
    replays = (root, is_leaf, [], tt, refl);
    partition = λ input. birth_shared input root is_leaf;
    named = λ k d lt. absurd (omega arith);
    long = refl;
    last = no_last root is_leaf;
    wide = refl;
    holds = first_content root is_leaf;
    counted = none_held is_leaf;
  }
