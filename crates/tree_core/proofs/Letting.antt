-- What a node holds is kept while it's free or held, and let go as it's parted or becomes a leaf.
use Rattle.std.proofs.Common.{◌≡◌, ◌↔◌, ℕ, zero, suc, ◌+◌, ◌-◌, ◌<◌, ◌≤◌, eqb, Bool, true, false, cond, IsTrue, Option, Some, None, IfSome, IsNone, List, [], ◌∷◌, ◌++◌, map, length, option_map, sym, refl, ap, ◌∙◌, subst, arith, eq-eqb, ne_eqb, length-append, length-set}
use mathlib.Core.Logic.{dite}
use native.Mathlib.Decide.{ℕ_discrete, dec_le}
use Rattle.std.specs.Borrow.{Bor}
use Rattle.std.specs.Option.{option_copied}
use Rattle.std.specs.List.{All, slice_get}
use Rattle.std.specs.Global.{Vec}
use Rattle.tree_core.specs.declared.event.Event.{Event}
use Rattle.tree_core.specs.declared.event.Deed.{Deed}
use Rattle.tree_core.specs.declared.event.Deed.TheVariants.{Claim, Split, Finish, Cut, Release}
use Rattle.tree_core.specs.declared.event.Kid.{Kid}
use Rattle.tree_core.specs.Nodes.{Node}
use Rattle.tree_core.specs.declared.node.Status.{Status}
use Rattle.tree_core.specs.declared.node.Status.TheVariants.{Free, Held, Parted, Leaf}
use Rattle.tree_core.specs.Stories.{Story, status, content, content_by, content_after, left_by, born_as, last_on}
use Rattle.tree_core.specs.Replays.{allows, is_allowed, kids_of, deed_kept, with_event}
use Rattle.tree_core.specs.Cores.{if_leaf, if_unworked, let_go, unworked, unworked_of}
use Rattle.tree_core.proofs.Places.{get_set, get_before, get_behind}
use Rattle.tree_core.proofs.Standing.{status-noted, content-noted, status-kid, content-kid, open_content}

module _ {R : Type 0} where
  pub length-let_go : (d : Deed R ℕ) (m : ℕ) (xs : List (Option R)) → length (let_go d m xs) ≡ length xs
  length-let_go Claim m xs = refl
  length-let_go (Split k) m xs = length-set xs m None
  length-let_go (Finish r) m xs = length-set xs m None
  length-let_go (Cut r) m xs = length-set xs m None
  length-let_go Release m xs = refl

  set_other : (m k : ℕ) (xs : List (Option R)) → m < length xs → eqb m k ≡ false → slice_get (Rattle.std.proofs.Common.set xs m None) k ≡ slice_get xs k
  set_other m k xs lt apart = get_set xs m k None lt ∙ ap (λ b. cond b (Some None) (slice_get xs k)) apart

  let_go-other : (d : Deed R ℕ) (m k : ℕ) (xs : List (Option R)) → m < length xs → eqb m k ≡ false → slice_get (let_go d m xs) k ≡ slice_get xs k
  let_go-other Claim m k xs lt apart = refl
  let_go-other (Split j) m k xs lt apart = set_other m k xs lt apart
  let_go-other (Finish r) m k xs lt apart = set_other m k xs lt apart
  let_go-other (Cut r) m k xs lt apart = set_other m k xs lt apart
  let_go-other Release m k xs lt apart = refl

  set_own : (m : ℕ) (xs : List (Option R)) (o : Option R) → m < length xs → slice_get (Rattle.std.proofs.Common.set xs m None) m ≡ Some o → o ≡ None
  set_own m xs o lt at = let put : slice_get (Rattle.std.proofs.Common.set xs m None) m ≡ Some None = get_set xs m m None lt ∙ ap (λ b. cond b (Some None) (slice_get xs m)) (eq-eqb m m refl) in cc

  -- what the deed leaves of what its own node held
  let_go-own : (st : Status) (by : ℕ) (d : Deed R (Vec (Kid R))) (old birth : Option R) (m : ℕ) (xs : List (Option R)) (o : Option R) → m < length xs → IsTrue (allows st by d) → old ≡ birth
      → (slice_get xs m ≡ Some o → o ≡ if_unworked st old) → slice_get (let_go (deed_kept d) m xs) m ≡ Some o → o ≡ if_unworked (left_by by (deed_kept d)) (content_by birth (deed_kept d))
  let_go-own Free by Claim old birth m xs o lt may same had at = had at ∙ same
  let_go-own (Held w) by Claim old birth m xs o lt may same had at = cc
  let_go-own Parted by Claim old birth m xs o lt may same had at = cc
  let_go-own Leaf by Claim old birth m xs o lt may same had at = cc
  let_go-own st by (Split kids) old birth m xs o lt may same had at = set_own m xs o lt at
  let_go-own st by (Finish r) old birth m xs o lt may same had at = set_own m xs o lt at
  let_go-own st by (Cut r) old birth m xs o lt may same had at = set_own m xs o lt at
  let_go-own Free by Release old birth m xs o lt may same had at = cc
  let_go-own (Held w) by Release old birth m xs o lt may same had at = had at ∙ same
  let_go-own Parted by Release old birth m xs o lt may same had at = cc
  let_go-own Leaf by Release old birth m xs o lt may same had at = cc

  pub born_unworked : (is_leaf : Bool) (r : R) → unworked_of is_leaf r ≡ if_unworked (cond is_leaf Leaf Free) (Some r)
  born_unworked true r = refl
  born_unworked false r = refl

  kid_behind : (kids : List (Kid R)) (i : ℕ) (o : Option R) → slice_get (map (λ (kid : Kid R). unworked_of kid.is_leaf kid.content) kids) i ≡ Some o → (kid : Kid R) × (slice_get kids i ≡ Some kid) × (unworked_of kid.is_leaf kid.content ≡ o)
  kid_behind [] i o at = cc
  kid_behind (kid ∷ kids) zero o at = (kid, refl, cc)
  kid_behind (kid ∷ kids) (suc i) o at = kid_behind kids i o at

  kid-noted : (s : Story R) (e : Event R (Vec (Kid R))) (i : ℕ) (kid : Kid R) → All (λ (x : Event R ℕ). x.node < length s.nodes) s.events → e.node < length s.nodes → slice_get (kids_of e.deed) i ≡ Some kid
      → unworked_of kid.is_leaf kid.content ≡ unworked (with_event s e) (length s.nodes + i)
  kid-noted s e i kid named there at = born_unworked kid.is_leaf kid.content ∙ (λ j. if_unworked (sym (status-kid s e i kid named there at) j) (sym (content-kid s e i kid named there at) j))

  other-noted : (s : Story R) (e : Event R (Vec (Kid R))) (k : ℕ) → k < length s.nodes → eqb e.node k ≡ false → unworked s k ≡ unworked (with_event s e) k
  other-noted s e k lt apart = let d : Deed R ℕ = deed_kept e.deed in let birth : Option R = option_map (λ (x : Node R). x.content) (slice_get s.nodes k) in
      let st : status (with_event s e) k ≡ status s k = status-noted s e k lt ∙ ap (λ b. cond b (left_by e.by d) (status s k)) apart in
      let co : content (with_event s e) k ≡ content s k = content-noted s e k lt ∙ ap (λ b. cond b (content_by birth d) (content s k)) apart in
      λ j. if_unworked (sym st j) (sym co j)

  own-noted : (s : Story R) (e : Event R (Vec (Kid R))) (xs : List (Option R)) (o : Option R) → e.node < length s.nodes → e.node < length xs → IsTrue (is_allowed s e) → (slice_get xs e.node ≡ Some o → o ≡ unworked s e.node)
      → slice_get (let_go (deed_kept e.deed) e.node xs) e.node ≡ Some o → o ≡ unworked (with_event s e) e.node
  own-noted s e xs o there within may had at = let m : ℕ = e.node in let d : Deed R ℕ = deed_kept e.deed in let yes : eqb m m ≡ true = eq-eqb m m refl in
      let birth : Option R = option_map (λ (x : Node R). x.content) (slice_get s.nodes m) in
      let unended : content s m ≡ birth = open_content birth (born_as (slice_get s.nodes m)) (last_on m s.events) e.by e.deed may in
      let st : status (with_event s e) m ≡ left_by e.by d = status-noted s e m there ∙ ap (λ b. cond b (left_by e.by d) (status s m)) yes in
      let co : content (with_event s e) m ≡ content_by birth d = content-noted s e m there ∙ ap (λ b. cond b (content_by birth d) (content s m)) yes in
      let_go-own (status s m) e.by e.deed (content s m) birth m xs o within may unended had at ∙ (λ j. if_unworked (sym st j) (sym co j))

  pub holds-noted : (s : Story R) (e : Event R (Vec (Kid R))) (contents : List (Option R)) → ((k : ℕ) (o : Option R) → slice_get contents k ≡ Some o → o ≡ unworked s k) → length contents ≡ length s.nodes
      → All (λ (x : Event R ℕ). x.node < length s.nodes) s.events → e.node < length s.nodes → IsTrue (is_allowed s e)
      → (k : ℕ) (o : Option R) → slice_get (let_go (deed_kept e.deed) e.node (contents ++ map (λ (kid : Kid R). unworked_of kid.is_leaf kid.content) (kids_of e.deed))) k ≡ Some o → o ≡ unworked (with_event s e) k
  holds-noted s e contents holds wide named there may k o at = let m : ℕ = e.node in
      dite (ℕ_discrete m k)
      (λ is. subst (λ (j : ℕ). o ≡ unworked (with_event s e) j) is
      (own-noted s e all o there within may (λ got. holds m o (sym (get_before contents more m low) ∙ got)) (subst (λ (j : ℕ). slice_get (let_go (deed_kept e.deed) m all) j ≡ Some o) (sym is) at)))
      (λ ne. let apart : eqb m k ≡ false = ne_eqb m k ne in elsewhere apart (sym (let_go-other (deed_kept e.deed) m k all within apart) ∙ at))
    where
      more : List (Option R)
      more = map (λ (kid : Kid R). unworked_of kid.is_leaf kid.content) (kids_of e.deed)

      all : List (Option R)
      all = contents ++ more

      low : e.node < length contents
      low = subst (λ (j : ℕ). e.node < j) (sym wide) there

      within : e.node < length all
      within = let both : length (contents ++ more) ≡ length contents + length more = length-append contents more in omega (arith, low)

      behind : length s.nodes ≤ k → slice_get all k ≡ Some o → o ≡ unworked (with_event s e) k
      behind le old = let i : ℕ = k - length s.nodes in let split : length s.nodes + (k - length s.nodes) ≡ k = omega arith in
          let found = kid_behind (kids_of e.deed) i o (sym (get_behind contents more i) ∙ (ap (λ (j : ℕ). slice_get all (j + i)) wide ∙ (ap (slice_get all) split ∙ old))) in
          subst (λ (j : ℕ). o ≡ unworked (with_event s e) j) split (sym found.2 ∙ kid-noted s e i found.0 named there found.1)

      elsewhere : eqb e.node k ≡ false → slice_get all k ≡ Some o → o ≡ unworked (with_event s e) k
      elsewhere apart old = dite (dec_le (length s.nodes) k)
          (λ le. behind le old)
          (λ not. let lt : k < length s.nodes = Rattle.std.proofs.Common.lt_of_not-le not in
          holds k o (sym (get_before contents more k (subst (λ (j : ℕ). k < j) (sym wide) lt)) ∙ old) ∙ other-noted s e k lt apart)

  -- each node holds something
  node_there : (nodes : List (Node R)) (m : ℕ) → m < length nodes → (n : Node R) × (slice_get nodes m ≡ Some n)
  node_there [] m lt = absurd (omega arith)
  node_there (n ∷ nodes) zero lt = (n, refl)
  node_there (n ∷ nodes) (suc m) lt = node_there nodes m (omega arith)

  by_last : (birth : R) (o : Option (Event R ℕ)) → (r : R) × (content_after (Some birth) o ≡ Some r)
  by_last birth None = (birth, refl)
  by_last birth (Some e) = by_deed e.deed
    where
      by_deed : (d : Deed R ℕ) → (r : R) × (content_by (Some birth) d ≡ Some r)
      by_deed Claim = (birth, refl)
      by_deed (Split k) = (birth, refl)
      by_deed (Finish r) = (r, refl)
      by_deed (Cut r) = (r, refl)
      by_deed Release = (birth, refl)

  pub content_there : (s : Story R) (m : ℕ) → m < length s.nodes → (r : R) × (content s m ≡ Some r)
  content_there s m there = let n = node_there s.nodes m there in let last = by_last n.0.content (last_on m s.events) in
      (last.0, ap (λ (o : Option (Node R)). content_after (option_map (λ x. x.content) o) (last_on m s.events)) n.1 ∙ last.1)

  -- what is found of a leaf
  pub leaf_found : (st : Status) (c : Option R) (r : R) → Some r ≡ if_leaf st c → c ≡ Some r
  leaf_found Free c r is = cc
  leaf_found (Held w) c r is = cc
  leaf_found Parted c r is = cc
  leaf_found Leaf c r is = sym is

  pub leaf_unparted : (st : Status) (c : Option R) (r : R) → Some r ≡ if_leaf st c → st ≡ Parted → false ≡ true
  leaf_unparted Free c r is parted = cc
  leaf_unparted (Held w) c r is parted = cc
  leaf_unparted Parted c r is parted = cc
  leaf_unparted Leaf c r is parted = cc

  -- what is found where there is no leaf
  pub unworked_found : (st : Status) (c : Option R) (o : Option (Bor R)) → option_copied o ≡ if_unworked st c → IfSome o (λ (r : Bor R). c ≡ Some r.now)
  unworked_found st c None is = tt
  unworked_found Free c (Some r) is = sym is
  unworked_found (Held w) c (Some r) is = sym is
  unworked_found Parted c (Some r) is = cc
  unworked_found Leaf c (Some r) is = cc

  pub none_parted : (st : Status) (c : Option R) (r : R) (o : Option (Bor R)) → c ≡ Some r → None ≡ if_leaf st c → option_copied o ≡ if_unworked st c → IsNone o ↔ (st ≡ Parted)
  none_parted Free c r None has leaf is = cc
  none_parted (Held w) c r None has leaf is = cc
  none_parted Parted c r None has leaf is = (λ _. refl, λ _. refl)
  none_parted Leaf c r None has leaf is = cc
  none_parted Free c r (Some x) has leaf is = (λ none. cc, λ parted. cc)
  none_parted (Held w) c r (Some x) has leaf is = (λ none. cc, λ parted. cc)
  none_parted Parted c r (Some x) has leaf is = cc
  none_parted Leaf c r (Some x) has leaf is = cc
