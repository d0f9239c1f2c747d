-- What an end of a claim does to a tree.
use Rattle.std.proofs.Common.{◌≡◌, ℕ, ◌+◌, ◌^◌, ◌<◌, ◌≤◌, ◌++◌, ◌∷◌, List, [], length, sym, refl, ap, ◌∙◌, subst, arith, append_assoc, Option}
use Rattle.std.specs.Prelude.{Result, Ok, Err, OnErr}
use Rattle.std.specs.List.{All, sum_by}
use Rattle.std.proofs.Math.Nat.{one-le-pow}
use Rattle.std.proofs.lemmas.List.{append-nil}
use Rattle.std.proofs.lemmas.List.Elements.{All-append, All-nil}
use Rattle.tree_core.specs.declared.choice.Choice.{Choice}
use Rattle.tree_core.specs.declared.event.Event.{Event}
use Rattle.tree_core.specs.declared.event.Deed.TheVariants.{Claim}
use Rattle.tree_core.specs.declared.event.Kid.{Kid}
use Rattle.tree_core.specs.Nodes.{Node}
use Rattle.tree_core.specs.declared.node.Status.{Status}
use Rattle.tree_core.specs.declared.node.Status.TheVariants.{Free, Held}
use Rattle.tree_core.specs.Stories.{Story, status, content, left_by, content_by}
use Rattle.fork_tree.specs.Calls.{claim_event}
use Rattle.tree_core.specs.Replays.{allows, is_held_by, births, kids_of, deed_kept, kept, with_event}
use Rattle.tree_core.specs.Cores.{held_count, takes, ends}
use Rattle.tree_core.proofs.Sharing.{held_count-noted}
use Rattle.fork_spec.specs.Partings.{Place}
use Rattle.fork_tree.specs.Nodes.{StateIs}
use Rattle.fork_tree.specs.Works.{IsPart, Rules}
use Rattle.fork_tree.specs.Drains.{heft, fuel, GrowsBy}
use Rattle.fork_tree.specs.declared.content.Content.{Content}
use Rattle.fork_tree.proofs.Standings.{AreThere, Coming, content-here, status-here}
use Rattle.fork_tree.proofs.Allowing.{held-allows, allowed-claim}
use Rattle.fork_tree.proofs.Fuel.{kid_heft, fuel-end, fuel-claim, kids_light}

-- what holds in any case holds where there is an error
pub on_err : {T E P : Type 0} (r : Result T E) → P → OnErr r P
on_err (Ok x) p = _
on_err (Err e) p = p

module _ {R : Type 0} where
  -- one node less is held
  pub held-less : (s t : Story R) (e : Coming R) → t ≡ with_event s e → AreThere s →
      e.node < length s.nodes → status s e.node ≡ Held e.by →
      ((st : Status) (by : ℕ) → allows st by e.deed ≡ is_held_by by st) → ends e.deed ≡ 1 →
      takes e.deed ≡ 0 → held_count t + 1 ≡ held_count s
  held-less s t e is named there held allow one zero =
      subst (λ (x : Story R). held_count x + 1 ≡ held_count s) (sym is)
      (balance (held_count (with_event s e)) (held_count s) (ends e.deed) (takes e.deed)
      (held_count-noted s e named there (held-allows s e held allow)) one zero)
    where
      balance : (a b d t : ℕ) → a + d ≡ b + t → d ≡ 1 → t ≡ 0 → a + 1 ≡ b
      balance a b d t x y z = omega arith

  -- one node more is held
  pub held-more : (s t : Story R) (e : Coming R) → t ≡ with_event s e → AreThere s →
      e.node < length s.nodes → status s e.node ≡ Free → e.deed ≡ Claim → ends e.deed ≡ 0 →
      takes e.deed ≡ 1 → held_count t ≡ held_count s + 1
  held-more s t e is named there free claims zero one =
      subst (λ (x : Story R). held_count x ≡ held_count s + 1) (sym is)
      (balance (held_count (with_event s e)) (held_count s) (ends e.deed) (takes e.deed)
      (held_count-noted s e named there (allowed-claim s e claims free)) zero one)
    where
      balance : (a b d t : ℕ) → a + d ≡ b + t → d ≡ 0 → t ≡ 1 → a ≡ b + 1
      balance a b d t x y z = omega arith

  pub grows-none : (by : ℕ) (s t : Story R) → t ≡ s → GrowsBy by s t
  grows-none by s t is = (
    [],
    [],
    ap (λ (x : Story R). x.nodes) is
        ∙ sym (append-nil s.nodes),
    ap (λ (x : Story R). x.events) is
        ∙ sym (append-nil s.events),
    All-nil (λ (e : Event R ℕ). e.by ≡ by),
  )

  pub grows-one : (by : ℕ) (s t : Story R) (e : Coming R) → t ≡ with_event s e → e.by ≡ by →
      GrowsBy by s t
  grows-one by s t e is own = (
    births e.node e.deed,
    kept e ∷ [],
    ap (λ (x : Story R). x.nodes) is,
    ap
        (λ (x : Story R). x.events) is,
    Rattle.std.proofs.lemmas.List.Elements.All-cons
        (λ (x : Event R ℕ). x.by ≡ by) (kept e) [] own (All-nil (λ (x : Event R ℕ). x.by ≡ by)),
  )

  pub grows-both : (by : ℕ) (s t u : Story R) → GrowsBy by s t → GrowsBy by t u → GrowsBy by s u
  grows-both by s t u a b = (
    a.0 ++ b.0,
    a.1 ++ b.1,
    b.2 ∙ (ap (λ (l : List (Node R)). l ++ b.0) a.2 ∙ append_assoc s.nodes a.0 b.0),
    b.3 ∙ (ap (λ (l : List (Event R ℕ)). l ++ b.1) a.3 ∙ append_assoc s.events a.1 b.1),
    All-append (λ (e : Event R ℕ). e.by ≡ by) a.1 b.1 a.4 b.4,
  )

module _ {S L : Type 0} (rules : Rules S L) where
  -- a leaf adds no weight
  pub leaf-less : (s t : Story (Content S L)) (e : Coming (Content S L)) (x : S) → t ≡ with_event s e →
      AreThere s → e.node < length s.nodes → status s e.node ≡ Held e.by →
      ((st : Status) (by : ℕ) → allows st by e.deed ≡ is_held_by by st) →
      heft rules (left_by e.by (deed_kept e.deed))
      (content_by (content s e.node) (deed_kept e.deed)) ≡ 0 →
      kids_of e.deed ≡ [] → fuel rules t < fuel rules s + (rules.targets + 2) ^ rules.left x
  leaf-less s t e x is named there held allow now none =
      let all = fuel-end rules s e named there (held-allows s e held allow) held now in
      let kids : sum_by (kid_heft rules) (kids_of e.deed) ≡ 0 = ap (sum_by (kid_heft rules)) none in
      subst (λ (y : Story (Content S L)). fuel rules y < fuel rules s + (rules.targets + 2) ^
      rules.left x) (sym is)
      (below (fuel rules (with_event s e)) (fuel rules s) (sum_by (kid_heft rules) (kids_of e.deed))
      ((rules.targets + 2) ^ rules.left x) all kids
      (one-le-pow (rules.left x) (rules.targets + 2) (omega arith)))
    where
      below : (f a k p : ℕ) → f ≡ a + k → k ≡ 0 → 1 ≤ p → f < a + p
      below f a k p x y z = omega arith

  -- kids add less than what they came from
  pub kids-less : (leaf_place : L → Place) (choices : List Choice) (s t : Story (Content S L)) (e : Coming (Content S L))
      (x : S) →
      t ≡ with_event s e → AreThere s → e.node < length s.nodes → status s e.node ≡ Held e.by →
      ((st : Status) (by : ℕ) → allows st by e.deed ≡ is_held_by by st) →
      heft rules (left_by e.by (deed_kept e.deed))
      (content_by (content s e.node) (deed_kept e.deed)) ≡ 0 →
      All (λ (kid : Kid (Content S L)). IsPart rules leaf_place (rules.left x) choices kid kid.content)
      (kids_of e.deed) →
      length (kids_of e.deed) ≤ rules.targets + 1 →
      fuel rules t < fuel rules s + (rules.targets + 2) ^ rules.left x
  kids-less leaf_place choices s t e x is named there held allow now parts few =
      let all = fuel-end rules s e named there (held-allows s e held allow) held now in
      subst (λ (y : Story (Content S L)). fuel rules y < fuel rules s + (rules.targets + 2) ^
      rules.left x) (sym is)
      (below (fuel rules (with_event s e)) (fuel rules s) (sum_by (kid_heft rules) (kids_of e.deed))
      ((rules.targets + 2) ^ rules.left x) all
      (kids_light rules leaf_place (rules.left x) choices (kids_of e.deed) parts few))
    where
      below : (f a k p : ℕ) → f ≡ a + k → k < p → f < a + p
      below f a k p x y = omega arith

module _ {S L : Type 0} where
  -- a node that was claimed
  pub claimed-status : (s t : Story (Content S L)) (by m : ℕ) → t ≡ with_event s (claim_event by m) →
      m < length s.nodes → status t m ≡ Held by
  claimed-status s t by m is lt =
      ap (λ (x : Story (Content S L)). status x m) is ∙ status-here s (claim_event by m) lt

  pub claimed-state : (s t : Story (Content S L)) (by m : ℕ) (x : S) →
      t ≡ with_event s (claim_event by m) → m < length s.nodes → status s m ≡ Free →
      StateIs (content s m) x → StateIs (content t m) x
  claimed-state s t by m x is lt free state =
      let e : Coming (Content S L) = claim_event by m in
      let same : content t m ≡ content s m =
      ap (λ (y : Story (Content S L)). content y m) is
      ∙ content-here s e lt (allowed-claim s e refl free) in
      subst (λ (o : Option (Content S L)). StateIs o x) (sym same) state

  -- a claim, and what is entered for it, take weight away
  pub round-less : (rules : Rules S L) (s t u : Story (Content S L)) (by m : ℕ) (x : S) →
      t ≡ with_event s (claim_event by m) → AreThere s → m < length s.nodes → status s m ≡ Free →
      StateIs (content s m) x → fuel rules u < fuel rules t + (rules.targets + 2) ^ rules.left x →
      fuel rules u < fuel rules s
  round-less rules s t u by m x is named lt free state less =
      let e : Coming (Content S L) = claim_event by m in
      let out : fuel rules (with_event s e) + (rules.targets + 2) ^ rules.left x ≡ fuel rules s =
      fuel-claim rules s e x named lt (allowed-claim s e refl free) refl free state in
      let same : fuel rules t ≡ fuel rules (with_event s e) = ap (fuel rules) is in
      chained (fuel rules u) (fuel rules t) (fuel rules (with_event s e)) (fuel rules s)
      ((rules.targets + 2) ^ rules.left x) less same out
    where
      chained : (u t n s p : ℕ) → u < t + p → t ≡ n → n + p ≡ s → u < s
      chained u t n s p x y z = omega arith
