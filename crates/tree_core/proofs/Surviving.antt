-- A claim survives what other workers do.
use Rattle.std.proofs.Common.{◌≡◌, ◌≢◌, ℕ, ◌+◌, ◌≤◌, ◌<◌, eqb, Bool, false, cond, IsTrue, Some, List, [], ◌∷◌, ◌++◌, map, length, option_map, sym, refl, ap, ◌∙◌, subst, arith, ne_eqb, append_assoc, length-append}
use mathlib.Core.Logic.{dite}
use native.Mathlib.Decide.{ℕ_discrete}
use Rattle.std.specs.List.{All, slice_get}
use Rattle.std.specs.Global.{Vec}
use Rattle.std.proofs.lemmas.Bool.{eqb-true}
use Rattle.std.proofs.lemmas.List.{append-nil}
use Rattle.std.proofs.lemmas.List.Elements.{All-head, All-tail}
use Rattle.tree_core.specs.declared.event.Event.{Event}
use Rattle.tree_core.specs.declared.event.Deed.{Deed}
use Rattle.tree_core.specs.declared.event.Deed.TheVariants.{Claim, Split, Finish, Cut, Release}
use Rattle.tree_core.specs.declared.event.Kid.{Kid}
use Rattle.tree_core.specs.Nodes.{Node}
use Rattle.tree_core.specs.declared.node.Status.{Status}
use Rattle.tree_core.specs.declared.node.Status.TheVariants.{Held}
use Rattle.tree_core.specs.Stories.{Story, status, content, status_by, content_after, born_as, last_on, IsClaimBy}
use Rattle.tree_core.specs.Replays.{allows, is_allowed, kept, with_event, noted_all, AllMayCome, Replays, opening}
use Rattle.tree_core.proofs.Guards.{allowed-may}
use Rattle.tree_core.proofs.Places.{get_before, last_on-push}
use Rattle.tree_core.proofs.Histories.{from_claim, to_claim}

-- lists that begin with equally long parts have the same parts
same_parts : {X : Type 0} (fs bs xs ys : List X) → length fs ≡ length xs → fs ++ bs ≡ xs ++ ys → (fs ≡ xs) × (bs ≡ ys)
same_parts [] bs [] ys long is = (refl, is)
same_parts [] bs (x ∷ xs) ys long is = absurd (omega arith)
same_parts (a ∷ fs) bs [] ys long is = absurd (omega arith)
same_parts (a ∷ fs) bs (x ∷ xs) ys long is = let heads : a ≡ x = cc in let tails : fs ++ bs ≡ xs ++ ys = cc in let rest = same_parts fs bs xs ys (omega arith) tails in
    ((λ i. heads i ∷ rest.0 i), rest.1)

module _ {R : Type 0} where
  barred : (by w : ℕ) (d : Deed R (Vec (Kid R))) → by ≢ w → IsTrue (allows (Held w) by d) → ⊥
  barred by w Claim ne may = cc
  barred by w (Split kids) ne may = ne (sym (eqb-true w by may))
  barred by w (Finish r) ne may = ne (sym (eqb-true w by may))
  barred by w (Cut r) ne may = ne (sym (eqb-true w by may))
  barred by w Release ne may = ne (sym (eqb-true w by may))

  -- an event of another worker that was allowed names another node
  names_another : (s : Story R) (e : Event R (Vec (Kid R))) (m w : ℕ) → IsClaimBy w (last_on m s.events) → e.by ≢ w → IsTrue (is_allowed s e) → eqb e.node m ≡ false
  names_another s e m w claim ne may = ne_eqb e.node m (λ is.
      let held : status s m ≡ Held w = from_claim (born_as (slice_get s.nodes m)) (last_on m s.events) w claim in
      let held' : status s e.node ≡ Held w = ap (status s) is ∙ held in
      barred e.by w e.deed ne (ap (λ (x : Status). allows x e.by e.deed) (sym held') ∙ may))

  events-noted_all : (s : Story R) (es : List (Event R (Vec (Kid R)))) → (noted_all s es).events ≡ s.events ++ map kept es
  events-noted_all s [] = sym (append-nil s.events)
  events-noted_all s (e ∷ es) = events-noted_all (with_event s e) es ∙ append_assoc s.events (kept e ∷ []) (map kept es)

module _ {R : Type 0} (covers : R → List ℕ → Bool) (by_nodes : R → Bool) (most : ℕ) where
  last_kept : (s : Story R) (es : List (Event R (Vec (Kid R)))) (m w : ℕ) → AllMayCome covers by_nodes most s es → All (λ (x : Event R ℕ). x.by ≢ w) (map kept es) → IsClaimBy w (last_on m s.events) → last_on m (noted_all s es).events ≡ last_on m s.events
  last_kept s [] m w all others claim = refl
  last_kept s (e ∷ es) m w all others claim =
      let away : eqb e.node m ≡ false = names_another s e m w claim (All-head (λ (x : Event R ℕ). x.by ≢ w) (kept e) (map kept es) others) (allowed-may by_nodes most s e all.1) in
      let one : last_on m (with_event s e).events ≡ last_on m s.events = last_on-push m s.events (kept e) ∙ ap (λ b. cond b (Some (kept e)) (last_on m s.events)) away in
      last_kept (with_event s e) es m w all.2 (All-tail (λ (x : Event R ℕ). x.by ≢ w) (kept e) (map kept es) others) (subst (IsClaimBy w) (sym one) claim) ∙ one

  -- the story when the first events had come
  record WasAt (t : Story R) (xs more : List (Event R ℕ)) : Type 0 where
    story : Story R
    rest : List (Event R (Vec (Kid R)))
    may : AllMayCome covers by_nodes most story rest
    had : story.events ≡ xs
    came : map kept rest ≡ more
    made : t ≡ noted_all story rest

  was_at : (s : Story R) (es : List (Event R (Vec (Kid R)))) (xs more : List (Event R ℕ)) → AllMayCome covers by_nodes most s es → s.events ++ map kept es ≡ xs ++ more → length s.events ≤ length xs → WasAt (noted_all s es) xs more
  was_at s [] xs more all is le = let sums : length (s.events ++ []) ≡ length (xs ++ more) = ap length is in let left : length (s.events ++ []) ≡ length s.events + 0 = length-append s.events [] in
      let right : length (xs ++ more) ≡ length xs + length more = length-append xs more in
      let parts = same_parts s.events [] xs more (omega arith) is in record { story = s; rest = []; may = tt; had = parts.0; came = parts.1; made = refl }
  was_at s (e ∷ es) xs more all is le = dite (ℕ_discrete (length s.events) (length xs))
      (λ same. let parts = same_parts s.events (map kept (e ∷ es)) xs more same is in record { story = s; rest = e ∷ es; may = all; had = parts.0; came = parts.1; made = refl })
      (λ ne. was_at (with_event s e) es xs more all.2 (append_assoc s.events (kept e ∷ []) (map kept es) ∙ is) (let long : length (s.events ++ kept e ∷ []) ≡ length s.events + 1 = length-append s.events (kept e ∷ []) in omega arith))

  pub survives : (s t : Story R) (nodes : List (Node R)) (events : List (Event R ℕ)) (m w : ℕ) → Replays covers by_nodes most t → t.nodes ≡ s.nodes ++ nodes → t.events ≡ s.events ++ events → All (λ (x : Event R ℕ). x.by ≢ w) events
      → m < length s.nodes → status s m ≡ Held w → (status t m ≡ Held w) × (content t m ≡ content s m)
  survives s t nodes events m w r grew came others there held =
      let first : Story R = opening r.0 r.1 in let is : t ≡ noted_all first r.2 = r.4 in
      let all : map kept r.2 ≡ s.events ++ events = sym (ap (λ (x : Story R). x.events) is ∙ events-noted_all first r.2) ∙ came in
      let was : WasAt (noted_all first r.2) s.events events = was_at first r.2 s.events events r.3 all (omega arith) in
      let claim : IsClaimBy w (last_on m s.events) = to_claim (slice_get s.nodes m) (last_on m s.events) w held in
      let stays : last_on m (noted_all was.story was.rest).events ≡ last_on m was.story.events = last_kept was.story was.rest m w was.may (subst (All (λ (x : Event R ℕ). x.by ≢ w)) (sym was.came) others) (subst (λ (l : List (Event R ℕ)). IsClaimBy w (last_on m l)) (sym was.had) claim) in
      let last : last_on m t.events ≡ last_on m s.events = ap (λ (x : Story R). last_on m x.events) (is ∙ was.made) ∙ (stays ∙ ap (last_on m) was.had) in
      let same : slice_get t.nodes m ≡ slice_get s.nodes m = ap (λ (l : List (Node R)). slice_get l m) grew ∙ get_before s.nodes nodes m there in (
        (λ i. status_by (born_as (same i)) (last i)) ∙ held,
        (λ i. content_after (option_map (λ n. n.content) (same i)) (last i)),
      )
