-- Nodes of a story that have no kids stay apart where one event more is noted.
use Rattle.std.proofs.Common.{◌≡◌, ◌≢◌, ℕ, ◌+◌, ◌-◌, ◌<◌, ◌≤◌, true, false, cond, eqb, inl, inr, ◌⊎◌, IsTrue, List, [], ◌∷◌, ◌++◌, Option, Some, None, length, option_map, refl, sym, ap, subst, ◌∙◌, arith, eq-eqb, ne_eqb}
use mathlib.Core.Logic.{dite}
use native.Mathlib.Decide.{ℕ_discrete}
use Rattle.std.specs.Prelude.{All, slice_get}
use Rattle.std.specs.Global.{Vec}
use Rattle.std.proofs.lemmas.Bool.{cases_lt}
use Rattle.std.proofs.lemmas.List.{append-nil, append_assoc}
use Rattle.std.proofs.lemmas.Option.{get_or_from_slice_get, slice_get_within}
use Rattle.fork_spec.specs.Decisions.{Decision}
use Rattle.tree_core.specs.Covers.{is_live}
use Rattle.tree_core.specs.declared.choice.Choice.{Choice}
use Rattle.tree_core.specs.declared.event.Event.{Event}
use Rattle.tree_core.specs.declared.event.Deed.{Deed}
use Rattle.tree_core.specs.declared.event.Deed.TheVariants.{Claim, Split, Finish, Cut, Release}
use Rattle.tree_core.specs.declared.event.Kid.{Kid}
use Rattle.tree_core.specs.declared.node.Status.{Status}
use Rattle.tree_core.specs.declared.node.Status.TheVariants.{Free, Held, Parted, Leaf}
use Rattle.tree_core.specs.Replays.{allows, deed_kept, is_allowed, kids_of, with_event, opening}
use Rattle.tree_core.specs.Stories.{Story, content, content_by, last_on, left_by, status}
use Rattle.tree_core.specs.Stories as stories
use Rattle.tree_core.proofs.Standing.{content-kid, content-noted, open_content, status-noted}
use Rattle.fork_spec.specs.Partings.{ArePlacesApart, Place}
use Rattle.fork_tree.specs.NodesApart.{AreKidsApart, AreNodesApart, IsBelow, KeepsApart}
use Rattle.fork_tree.proofs.Walked.{no_kid_content, none_is_some, same_held}

-- what is under one of two places that are apart is apart from the other
longer : (front back more cs : List Choice) (c : Choice) → cs ≡ front ++ c ∷ back → cs ++ more ≡ front ++ c ∷ (back ++ more)
longer front back more cs c is = ap (λ l. l ++ more) is ∙ append_assoc front (c ∷ back) more

under_left : (decides : List ℕ → List Decision) (p q low : Place) → ArePlacesApart decides p q → IsBelow low p → ArePlacesApart decides low q
under_left decides p q low apart under = record {
  c = apart.c;
  d = apart.d;
  first = record {
    front = apart.first.front;
    one_back = apart.first.one_back ++ under.more;
    other_back = apart.first.other_back;
    one = under.choices ∙ longer apart.first.front apart.first.one_back under.more p.choices apart.c apart.first.one;
    other = apart.first.other;
    differ = apart.first.differ;
  };
  part = λ a b covered other. apart.part a b (under.within a covered) other;
}

under_right : (decides : List ℕ → List Decision) (p q low : Place) → ArePlacesApart decides p q → IsBelow low q → ArePlacesApart decides p low
under_right decides p q low apart under = record {
  c = apart.c;
  d = apart.d;
  first = record {
    front = apart.first.front;
    one_back = apart.first.one_back;
    other_back = apart.first.other_back ++ under.more;
    one = apart.first.one;
    other = under.choices ∙ longer apart.first.front apart.first.other_back under.more q.choices apart.d apart.first.other;
    differ = apart.first.differ;
  };
  part = λ a b covered other. apart.part a b covered (under.within b other);
}

under_itself : (p : Place) → IsBelow p p
under_itself p = record { more = []; choices = sym (append-nil p.choices); within = λ input covered. covered }

module _ {R : Type 0} (place : R → Place) (decides : List ℕ → List Decision) where
  live_before : (st : Status) (by : ℕ) (d : Deed R (Vec (Kid R))) → IsTrue (allows st by d) → is_live st ≡ true
  live_before Free by d may = refl
  live_before (Held w) by d may = refl
  live_before Leaf by d may = refl
  live_before Parted by Claim may = may
  live_before Parted by (Split kids) may = may
  live_before Parted by (Finish leaf) may = may
  live_before Parted by (Cut leaf) may = may
  live_before Parted by Release may = may

  no_kids : (by : ℕ) (d : Deed R (Vec (Kid R))) → is_live (left_by by (deed_kept d)) ≡ true → kids_of d ≡ []
  no_kids by Claim live = refl
  no_kids by (Split kids) live = cc
  no_kids by (Finish leaf) live = refl
  no_kids by (Cut leaf) live = refl
  no_kids by Release live = refl

  left_under : (r q : R) (d : Deed R (Vec (Kid R))) → KeepsApart place decides r d → content_by (Some r) (deed_kept d) ≡ Some q → IsBelow (place q) (place r)
  left_under r q Claim keeps e = subst (λ x. IsBelow (place x) (place r)) (same_held r q e) (under_itself (place r))
  left_under r q (Split kids) keeps e = subst (λ x. IsBelow (place x) (place r)) (same_held r q e) (under_itself (place r))
  left_under r q (Finish leaf) keeps e = subst (λ x. IsBelow (place x) (place r)) (same_held leaf q e) keeps
  left_under r q (Cut leaf) keeps e = subst (λ x. IsBelow (place x) (place r)) (same_held leaf q e) keeps
  left_under r q Release keeps e = subst (λ x. IsBelow (place x) (place r)) (same_held r q e) (under_itself (place r))

  kid_under : (r : R) (d : Deed R (Vec (Kid R))) (i : ℕ) (kid : Kid R) → KeepsApart place decides r d → slice_get (kids_of d) i ≡ Some kid → IsBelow (place kid.content) (place r)
  kid_under r Claim i kid keeps at = absurd (none_is_some kid at)
  kid_under r (Split kids) i kid (under, apart) at =
      subst (λ (k : Kid R). IsBelow (place k.content) (place r)) (get_or_from_slice_get kids.items i kid kid at) (under i kid (slice_get_within kids.items i kid at))
  kid_under r (Finish leaf) i kid keeps at = absurd (none_is_some kid at)
  kid_under r (Cut leaf) i kid keeps at = absurd (none_is_some kid at)
  kid_under r Release i kid keeps at = absurd (none_is_some kid at)

  kids_apart : (r : R) (d : Deed R (Vec (Kid R))) → KeepsApart place decides r d → AreKidsApart place decides (kids_of d)
  kids_apart r Claim keeps = λ i j a b ne at other. absurd (none_is_some a at)
  kids_apart r (Split kids) (under, apart) = apart
  kids_apart r (Finish leaf) keeps = λ i j a b ne at other. absurd (none_is_some a at)
  kids_apart r (Cut leaf) keeps = λ i j a b ne at other. absurd (none_is_some a at)
  kids_apart r Release keeps = λ i j a b ne at other. absurd (none_is_some a at)

  module _ (s : Story R) (e : Event R (Vec (Kid R))) (r : R) (named : All (λ (x : Event R ℕ). x.node < length s.nodes) s.events) (there : e.node < length s.nodes)
      (is : content s e.node ≡ Some r) (may : IsTrue (is_allowed s e)) (keeps : KeepsApart place decides r e.deed) where
    live_there : is_live (status s e.node) ≡ true
    live_there = live_before (status s e.node) e.by e.deed may

    -- where a live node of the story comes from: it was there, and the event isn't of it; it is the event's own node; or it is a kid
    record WasThere (m : ℕ) (q : R) : Type 0 where
      within : m < length s.nodes
      other : e.node ≢ m
      live : is_live (status s m) ≡ true
      had : content s m ≡ Some q

    record IsItself (m : ℕ) (q : R) : Type 0 where
      same : e.node ≡ m
      under : IsBelow (place q) (place r)
      childless : kids_of e.deed ≡ []

    record IsBorn (m : ℕ) (q : R) : Type 0 where
      i : ℕ
      kid : Kid R
      at : slice_get (kids_of e.deed) i ≡ Some kid
      number : length s.nodes + i ≡ m
      has : kid.content ≡ q

    abbrev Comes : ℕ → R → Type 0
    Comes m q = WasThere m q ⊎ IsItself m q ⊎ IsBorn m q

    was_there : (m : ℕ) (q : R) → m < length s.nodes → e.node ≢ m → is_live (status (with_event s e) m) ≡ true → content (with_event s e) m ≡ Some q → WasThere m q
    was_there m q lt ne live has = record {
      within = lt;
      other = ne;
      live = ap is_live (sym (status-noted s e m lt ∙ ap (λ b. cond b (left_by e.by (deed_kept e.deed)) (status s m)) miss)) ∙ live;
      had = sym (content-noted s e m lt ∙ ap (λ b. cond b (content_by (option_map (λ n. n.content) (slice_get s.nodes m)) (deed_kept e.deed)) (content s m)) miss) ∙ has;
    }
      where
        miss : eqb e.node m ≡ false
        miss = ne_eqb e.node m ne

    is_itself : (q : R) → is_live (status (with_event s e) e.node) ≡ true → content (with_event s e) e.node ≡ Some q → IsItself e.node q
    is_itself q live has = record {
      same = refl;
      under = left_under r q e.deed keeps
          (ap (λ o. content_by o (deed_kept e.deed)) (sym birth)
          ∙ sym (content-noted s e e.node there ∙ ap (λ b. cond b (content_by (option_map (λ n. n.content) (slice_get s.nodes e.node)) (deed_kept e.deed)) (content s e.node)) hit)
          ∙ has);
      childless = no_kids e.by e.deed (ap is_live (sym (status-noted s e e.node there ∙ ap (λ b. cond b (left_by e.by (deed_kept e.deed)) (status s e.node)) hit)) ∙ live);
    }
      where
        hit : eqb e.node e.node ≡ true
        hit = eq-eqb e.node e.node refl

        birth : option_map (λ n. n.content) (slice_get s.nodes e.node) ≡ Some r
        birth = sym (open_content (option_map (λ n. n.content) (slice_get s.nodes e.node)) (stories.born_as (slice_get s.nodes e.node)) (last_on e.node s.events) e.by e.deed may) ∙ is

    is_born : (i : ℕ) (q : R) → content (with_event s e) (length s.nodes + i) ≡ Some q → (o : Option (Kid R)) → slice_get (kids_of e.deed) i ≡ o → IsBorn (length s.nodes + i) q
    is_born i q has None at = absurd (none_is_some q (sym (no_kid_content s e i named there at) ∙ has))
    is_born i q has (Some kid) at = record {
      i = i;
      kid = kid;
      at = at;
      number = refl;
      has = same_held kid.content q (sym (content-kid s e i kid named there at) ∙ has);
    }

    abbrev ComesThere : R → ℕ → Type 0
    ComesThere q m = is_live (status (with_event s e) m) ≡ true → content (with_event s e) m ≡ Some q → Comes m q

    comes : (m : ℕ) (q : R) → is_live (status (with_event s e) m) ≡ true → content (with_event s e) m ≡ Some q → Comes m q
    comes m q live has = by_place (cases_lt m (length s.nodes))
      where
        by_place : (m < length s.nodes) ⊎ (length s.nodes ≤ m) → Comes m q
        by_place (inl lt) = dite (ℕ_discrete e.node m)
            (λ hit. subst (ComesThere q) hit (λ l h. inr (inl (is_itself q l h))) live has)
            (λ miss. inl (was_there m q lt miss live has))
        by_place (inr ge) = let i : ℕ = m - length s.nodes in let sum : length s.nodes + i ≡ m = omega (arith, ge) in
            subst (ComesThere q) sum (λ l h. inr (inr (is_born i q h (slice_get (kids_of e.deed) i) refl))) live has

    no_kid_of_none : (kids : List (Kid R)) (i : ℕ) (kid : Kid R) → kids ≡ [] → slice_get kids i ≡ Some kid → ⊥
    no_kid_of_none kids i kid none at = none_is_some kid (ap (λ ks. slice_get ks i) (sym none) ∙ at)

    born_under : (m : ℕ) (q : R) → IsBorn m q → IsBelow (place q) (place r)
    born_under m q b = subst (λ x. IsBelow (place x) (place r)) b.has (kid_under r e.deed b.i b.kid keeps b.at)

    pub apart-noted : AreNodesApart place decides s → AreNodesApart place decides (with_event s e)
    apart-noted old m k a b ne mlt klt mlive klive mhas khas = by_cases (comes m a mlive mhas) (comes k b klive khas)
      where
        from_left : WasThere m a → IsBelow (place b) (place r) → ArePlacesApart decides (place a) (place b)
        from_left w under = under_right decides (place a) (place r) (place b) (old m e.node a r (λ is. w.other (sym is)) w.within there w.live live_there w.had is) under

        from_right : IsBelow (place a) (place r) → WasThere k b → ArePlacesApart decides (place a) (place b)
        from_right under w = under_left decides (place r) (place b) (place a) (old e.node k r b w.other there w.within live_there w.live is w.had) under

        both_born : IsBorn m a → IsBorn k b → ArePlacesApart decides (place a) (place b)
        both_born x y = subst (λ q. ArePlacesApart decides (place q) (place b)) x.has
            (subst (λ q. ArePlacesApart decides (place x.kid.content) (place q)) y.has
            (kids_apart r e.deed keeps x.i y.i x.kid y.kid (λ same. ne (sym x.number ∙ ap (λ i. length s.nodes + i) same ∙ y.number)) x.at y.at))

        by_cases : Comes m a → Comes k b → ArePlacesApart decides (place a) (place b)
        by_cases (inl x) (inl y) = old m k a b ne x.within y.within x.live y.live x.had y.had
        by_cases (inl x) (inr (inl y)) = from_left x y.under
        by_cases (inl x) (inr (inr y)) = from_left x (born_under k b y)
        by_cases (inr (inl x)) (inl y) = from_right x.under y
        by_cases (inr (inl x)) (inr (inl y)) = absurd (ne (sym x.same ∙ y.same))
        by_cases (inr (inl x)) (inr (inr y)) = absurd (no_kid_of_none (kids_of e.deed) y.i y.kid x.childless y.at)
        by_cases (inr (inr x)) (inl y) = from_right (born_under m a x) y
        by_cases (inr (inr x)) (inr (inl y)) = absurd (no_kid_of_none (kids_of e.deed) x.i x.kid y.childless x.at)
        by_cases (inr (inr x)) (inr (inr y)) = both_born x y

  -- the root alone
  pub apart-opening : (root_content : R) → AreNodesApart place decides (opening root_content false)
  apart-opening root_content m k a b ne mlt klt mlive klive mhas khas = absurd (ne (omega (arith, mlt, klt)))
