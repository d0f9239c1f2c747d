-- What free nodes weigh when an event was noted, and that what a state is parted into weighs less than it.
use Rattle.std.proofs.Common.{◌≡◌, ◌≢◌, ℕ, zero, suc, ◌+◌, ◌*◌, ◌^◌, ◌<◌, ◌≤◌, Bool, cond, IsTrue, Option, Some, None, List, [], ◌∷◌, length, sym, refl, ap, ◌∙◌, subst, arith}
use mathlib.Core.Logic.{dite}
use native.Mathlib.Decide.{ℕ_discrete}
use Rattle.std.specs.List.{All, slice_get, sum_by}
use Rattle.std.specs.Global.{Vec}
use Rattle.std.specs.Arc.{arc_value}
use Rattle.std.proofs.Math.Nat.{one-le-pow, pow-le-pow_right, pow-suc}
use Rattle.std.proofs.lemmas.List.Sums.{sum_by-cons, sum_by-le}
use Rattle.std.proofs.lemmas.List.Elements.{All-weaker}
use Rattle.tree_core.specs.declared.choice.Choice.{Choice}
use Rattle.tree_core.specs.declared.event.Deed.{Deed}
use Rattle.tree_core.specs.declared.event.Deed.TheVariants.{Claim}
use Rattle.tree_core.specs.declared.event.Kid.{Kid}
use Rattle.tree_core.specs.declared.node.Status.{Status}
use Rattle.tree_core.specs.declared.node.Status.TheVariants.{Free, Held, Leaf}
use Rattle.tree_core.specs.Stories.{Story, status, content, left_by, content_by}
use Rattle.tree_core.specs.Replays.{is_allowed, kids_of, deed_kept, with_event}
use Rattle.tree_core.proofs.Standing.{status-kid, content-kid}
use Rattle.fork_spec.specs.Partings.{Place}
use Rattle.fork_tree.specs.Nodes.{StateIs}
use Rattle.fork_tree.specs.Works.{IsPart, Rules}
use Rattle.fork_tree.specs.Drains.{sum_below, weight, heft, fuel}
use Rattle.fork_tree.specs.declared.content.Content.{Content}
use Rattle.fork_tree.specs.declared.content.Content.TheVariants.{Open, Shut}
use Rattle.fork_tree.proofs.Standings.{AreThere, Coming, content-here, content-other, length-noted, status-here, status-other}

pub sum_same : (p q : ℕ → ℕ) (n : ℕ) → ((k : ℕ) → k < n → p k ≡ q k) → sum_below p n ≡ sum_below q n
sum_same p q zero same = refl
sum_same p q (suc n) same =
    let before : sum_below p n ≡ sum_below q n = sum_same p q n (λ k lt. same k (omega arith)) in
    let last : p n ≡ q n = same n (omega arith) in λ i. before i + last i

-- one place changes
pub sum_change : (p q : ℕ → ℕ) (n m : ℕ) → m < n → ((k : ℕ) → k < n → k ≢ m → p k ≡ q k) →
    sum_below p n + q m ≡ sum_below q n + p m
sum_change p q zero m lt same = absurd (omega arith)
sum_change p q (suc n) m lt same = dite (ℕ_discrete n m)
    (λ e. let below : sum_below p n ≡ sum_below q n = sum_same p q n
    (λ k low. same k (omega arith) (λ is. omega arith)) in
    turned (sum_below p n) (sum_below q n) (p m) (q m) (p n) (q n) below (ap p e) (ap q e))
    (λ ne. let before : sum_below p n + q m ≡ sum_below q n + p m = sum_change p q n m (omega arith)
    (λ k low. same k (omega arith)) in
    kept (sum_below p n) (sum_below q n) (p m) (q m) (p n) (q n) before (same n (omega arith) ne))
  where
    turned : (a b pm qm pn qn : ℕ) → a ≡ b → pn ≡ pm → qn ≡ qm → (a + pn) + qm ≡ (b + qn) + pm
    turned a b pm qm pn qn x y z = omega arith

    kept : (a b pm qm pn qn : ℕ) → a + qm ≡ b + pm → pn ≡ qn → (a + pn) + qm ≡ (b + qn) + pm
    kept a b pm qm pn qn x y = omega arith

-- the places from n on are those of a list
pub sum_more : {X : Type 0} (p : ℕ → ℕ) (f : X → ℕ) (n : ℕ) (xs : List X) →
    ((i : ℕ) (x : X) → slice_get xs i ≡ Some x → p (n + i) ≡ f x) →
    sum_below p (n + length xs) ≡ sum_below p n + sum_by f xs
sum_more p f n [] same =
    let here : n + 0 ≡ n = omega arith in ap (sum_below p) here ∙ zero_right (sum_below p n)
  where
    zero_right : (a : ℕ) → a ≡ a + 0
    zero_right a = omega arith
sum_more {X} p f n (x ∷ xs) same = let here : n ≡ n + 0 = omega arith in
    let later : sum_below p (suc n + length xs) ≡ sum_below p (suc n) + sum_by f xs =
    sum_more p f (suc n) xs (λ i y at. ap p (move n i) ∙ same (suc i) y at) in
    let first : p n ≡ f x = ap p here ∙ same 0 x refl in
    ap (sum_below p) (sym (move n (length xs)))
    ∙ (later ∙ joined (sum_below p n) (p n) (f x) (sum_by f xs) (sum_by f (x ∷ xs)) first
    (sum_by-cons f x xs))
  where
    move : (a b : ℕ) → suc a + b ≡ a + suc b
    move a b = omega arith

    joined : (a b c d e : ℕ) → b ≡ c → e ≡ c + d → (a + b) + d ≡ a + e
    joined a b c d e x y = omega arith

-- what a kid weighs
abbrev pub kid_heft : {S L : Type 0} → Rules S L → Kid (Content S L) → ℕ
kid_heft rules kid = heft rules (cond kid.is_leaf Leaf Free) (Some kid.content)

module _ {S L : Type 0} (rules : Rules S L) where
  -- an event: what it leaves of its node, and its kids, stand for what the node weighed
  pub fuel-noted : (s : Story (Content S L)) (e : Coming (Content S L)) → AreThere s →
      e.node < length s.nodes → IsTrue (is_allowed s e) →
      fuel rules (with_event s e) + heft rules (status s e.node) (content s e.node) ≡ fuel rules s + heft
      rules (left_by e.by (deed_kept e.deed)) (content_by (content s e.node) (deed_kept e.deed))
      + sum_by (kid_heft rules) (kids_of e.deed)
  fuel-noted s e named there may =
      let n : ℕ = length s.nodes in
      let m : ℕ = e.node in
      let kids : List (Kid (Content S L)) = kids_of e.deed in
      let p : ℕ → ℕ = λ k. heft rules (status s k) (content s k) in
      let q : ℕ → ℕ = λ k. heft rules (status (with_event s e) k) (content (with_event s e) k) in
      let kids_weigh : (i : ℕ) (kid : Kid (Content S L)) → slice_get kids i ≡ Some kid →
      q (n + i) ≡ kid_heft rules kid =
      λ i kid at. λ j. heft rules (status-kid s e i kid named there at j)
      (content-kid s e i kid named there at j) in
      let others : (k : ℕ) → k < n → k ≢ m → p k ≡ q k =
      λ k lt ne. let other : m ≢ k = λ is. ne (sym is) in
      λ j. heft rules (sym (status-other s e k lt other) j)
      (sym (content-other s e k lt other) j) in
      let after_it : q m ≡ heft rules (left_by e.by (deed_kept e.deed))
      (content_by (content s m) (deed_kept e.deed)) =
      λ j. heft rules (status-here s e there j) (content-here s e there may j) in
      let change : sum_below p n + q m ≡ sum_below q n + p m = sum_change p q n m there others in
      let all : fuel rules (with_event s e) ≡ sum_below q n + sum_by (kid_heft rules) kids =
      ap (sum_below q) (length-noted s e) ∙ sum_more q (kid_heft rules) n kids kids_weigh in
      added (fuel rules (with_event s e)) (sum_below q n) (sum_below p n) (p m) (q m)
      (heft rules (left_by e.by (deed_kept e.deed))
      (content_by (content s m) (deed_kept e.deed))) (sum_by (kid_heft rules) kids) all change
      after_it
    where
      added : (f b a pm qm h k : ℕ) → f ≡ b + k → a + qm ≡ b + pm → qm ≡ h → f + pm ≡ a + h + k
      added f b a pm qm h k x y z = omega arith

  weight-state : (c : Option (Content S L)) (x : S) → StateIs c x →
      weight rules c ≡ (rules.targets + 2) ^ rules.left x
  weight-state (Some (Open a)) x is = ap (λ (y : S). (rules.targets + 2) ^ rules.left y) is
  weight-state (Some (Shut l)) x is = absurd is
  weight-state None x is = absurd is

  -- a claim takes out what its node weighs
  pub fuel-claim : (s : Story (Content S L)) (e : Coming (Content S L)) (x : S) → AreThere s →
      e.node < length s.nodes → IsTrue (is_allowed s e) → e.deed ≡ Claim → status s e.node ≡ Free →
      StateIs (content s e.node) x →
      fuel rules (with_event s e) + (rules.targets + 2) ^ rules.left x ≡ fuel rules s
  fuel-claim s e x named there may claims free state =
      let all = fuel-noted s e named there may in
      let was : heft rules (status s e.node) (content s e.node) ≡ (rules.targets + 2) ^ rules.left
      x =
      ap (λ (st : Status). heft rules st (content s e.node)) free
      ∙ weight-state (content s e.node) x state in
      let now : heft rules (left_by e.by (deed_kept e.deed))
      (content_by (content s e.node) (deed_kept e.deed)) ≡ 0 =
      ap (λ (d : Deed (Content S L) (Vec (Kid (Content S L)))). heft rules
      (left_by e.by (deed_kept d)) (content_by (content s e.node) (deed_kept d))) claims in
      let none : sum_by (kid_heft rules) (kids_of e.deed) ≡ 0 =
      ap (λ (d : Deed (Content S L) (Vec (Kid (Content S L)))). sum_by (kid_heft rules)
      (kids_of d)) claims in
      added (fuel rules (with_event s e)) _ (fuel rules s) _ _ ((rules.targets + 2) ^ rules.left x) all
      was now none
    where
      added : (f p a h k b : ℕ) → f + p ≡ a + h + k → p ≡ b → h ≡ 0 → k ≡ 0 → f + b ≡ a
      added f p a h k b x y z w = omega arith

  -- an end of a claim that frees nothing adds what its kids weigh
  pub fuel-end : (s : Story (Content S L)) (e : Coming (Content S L)) → AreThere s →
      e.node < length s.nodes → IsTrue (is_allowed s e) → status s e.node ≡ Held e.by →
      heft rules (left_by e.by (deed_kept e.deed))
      (content_by (content s e.node) (deed_kept e.deed)) ≡ 0 →
      fuel rules (with_event s e) ≡ fuel rules s + sum_by (kid_heft rules) (kids_of e.deed)
  fuel-end s e named there may held now =
      let all = fuel-noted s e named there may in
      let was : heft rules (status s e.node) (content s e.node) ≡ 0 =
      ap (λ (st : Status). heft rules st (content s e.node)) held in
      added (fuel rules (with_event s e)) _ (fuel rules s) _ (sum_by (kid_heft rules) (kids_of e.deed))
      all was now
    where
      added : (f p a h k : ℕ) → f + p ≡ a + h + k → p ≡ 0 → h ≡ 0 → f ≡ a + k
      added f p a h k x y z = omega arith

module _ {S L : Type 0} (rules : Rules S L) (leaf_place : L → Place) where
  -- a part with less left than a bound weighs at most the power below it
  part_light : (l : ℕ) (choices : List Choice) (kid : Kid (Content S L)) (c : Content S L) →
      IsPart rules leaf_place (suc l) choices kid c →
      heft rules (cond kid.is_leaf Leaf Free) (Some c) ≤ (rules.targets + 2) ^ l
  part_light l choices kid (Open a) part =
      subst (λ (b : Bool). heft rules (cond b Leaf Free) (Some (Open a)) ≤ (rules.targets + 2) ^ l)
      (sym part.0)
      (pow-le-pow_right {n = rules.targets + 2} (omega arith) {i = rules.left (arc_value a)} {j = l}
      (below (rules.left (arc_value a)) l part.2))
    where
      below : (a b : ℕ) → a < suc b → a ≤ b
      below a b lt = omega arith
  part_light l choices kid (Shut d) part =
      subst (λ (b : Bool). heft rules (cond b Leaf Free) (Some (Shut d)) ≤ (rules.targets + 2) ^ l)
      (sym part.0) (omega arith)

  part_none : (choices : List Choice) (kid : Kid (Content S L)) (c : Content S L) →
      IsPart rules leaf_place 0 choices kid c → heft rules (cond kid.is_leaf Leaf Free) (Some c) ≤ 0
  part_none choices kid (Open a) part = absurd (never (rules.left (arc_value a)) part.2)
    where
      never : (n : ℕ) → n < 0 → ⊥
      never n lt = omega arith
  part_none choices kid (Shut d) part =
      subst (λ (b : Bool). heft rules (cond b Leaf Free) (Some (Shut d)) ≤ 0) (sym part.0)
      (omega arith)

  abbrev PartOf : ℕ → List Choice → Kid (Content S L) → Type 0
  PartOf l choices kid = IsPart rules leaf_place l choices kid kid.content

  -- kids weigh less than what they came from
  pub kids_light : (l : ℕ) (choices : List Choice) (kids : List (Kid (Content S L))) →
      All (λ (kid : Kid (Content S L)). IsPart rules leaf_place l choices kid kid.content) kids →
      length kids ≤ rules.targets + 1 → sum_by (kid_heft rules) kids < (rules.targets + 2) ^ l
  kids_light zero choices kids parts few =
      let all : sum_by (kid_heft rules) kids ≤ length kids * 0 = sum_by-le (kid_heft rules) 0 kids
      (All-weaker (PartOf 0 choices) (λ (kid : Kid (Content S L)). kid_heft rules kid ≤ 0)
      (λ kid part. part_none choices kid kid.content part) kids parts) in
      below (sum_by (kid_heft rules) kids) (length kids) ((rules.targets + 2) ^ 0) all
      (one-le-pow 0 (rules.targets + 2) (omega arith))
    where
      below : (s k p : ℕ) → s ≤ k * 0 → 1 ≤ p → s < p
      below s k p x y = omega arith
  kids_light (suc l) choices kids parts few =
      let all : sum_by (kid_heft rules) kids ≤ length kids * (rules.targets + 2) ^ l = sum_by-le
      (kid_heft rules) ((rules.targets + 2) ^ l) kids
      (All-weaker (PartOf (suc l) choices)
      (λ (kid : Kid (Content S L)). kid_heft rules kid ≤ (rules.targets + 2) ^ l)
      (λ kid part. part_light l choices kid kid.content part) kids parts) in
      let one : 1 ≤ (rules.targets + 2) ^ l = one-le-pow l (rules.targets + 2) (omega arith) in
      subst (λ (p : ℕ). sum_by (kid_heft rules) kids < p) (sym (pow-suc (rules.targets + 2) l))
      (below (sum_by (kid_heft rules) kids) (length kids) rules.targets
      ((rules.targets + 2) ^ l) all one few)
    where
      below : (s k w p : ℕ) → s ≤ k * p → 1 ≤ p → k ≤ w + 1 → s < p * (w + 2)
      below s k w p x y z =
          let most : k * p ≤ (w + 1) * p = Rattle.std.proofs.Math.Nat.mul-le-mul_right p z in
          let open' : (w + 1) * p + p ≡ p * (w + 2) = spread w p in omega arith
        where
          spread : (w p : ℕ) → (w + 1) * p + p ≡ p * (w + 2)
          spread w p = grind arith
