-- An event that may come keeps the partition, and how many nodes are held.
use Rattle.std.proofs.Common.{◌≡◌, ◌≢◌, ℕ, ◌+◌, ◌<◌, ◌&&◌, eqb, Bool, true, false, cond, IsTrue, Option, List, length, option_map, sym, refl, ap, ◌∙◌, arith, eq-eqb, ne_eqb, length-append}
use Rattle.std.proofs.lemmas.List.{length-map}
use Rattle.std.specs.List.{All, slice_get, count_by}
use Rattle.std.specs.Global.{Vec}
use Rattle.tree_core.specs.declared.event.Event.{Event}
use Rattle.tree_core.specs.declared.event.Deed.{Deed}
use Rattle.tree_core.specs.declared.event.Deed.TheVariants.{Claim, Split, Finish, Cut, Release}
use Rattle.tree_core.specs.declared.event.Kid.{Kid}
use Rattle.tree_core.specs.Nodes.{Node}
use Rattle.tree_core.specs.declared.node.Status.{Status}
use Rattle.tree_core.specs.declared.node.Status.TheVariants.{Free, Held, Parted, Leaf}
use Rattle.tree_core.specs.Stories.{Story, status, content, content_by, left_by, born_as, last_on}
use Rattle.tree_core.specs.Covers.{one_if, count_below, covered, node_covers, is_live, Partition, root_content}
use Rattle.tree_core.specs.Replays.{allows, is_allowed, IsSound, IsFit, births, kids_of, deed_kept, with_event, node_of}
use Rattle.tree_core.specs.Cores.{is_held, held_count, takes, ends}
use Rattle.tree_core.proofs.Counting.{count_change, count_more, count_by-none}
use Rattle.tree_core.proofs.Places.{get_before}
use Rattle.tree_core.proofs.Standing.{status-noted, content-noted, status-kid, content-kid, open_content}

zero_right : (a : ℕ) → a ≡ a + 0
zero_right a = omega arith

zero_left : (a : ℕ) → 0 + a ≡ a
zero_left a = omega arith

module _ {R : Type 0} (covers : R → List ℕ → Bool) (input : List ℕ) where
  covers_kid : Kid R → Bool
  covers_kid kid = covers kid.content input

  -- what stood in the node's place before is shared out by the node and its kids
  pub shares : (st : Status) (by : ℕ) (d : Deed R (Vec (Kid R))) (old birth : Option R) → old ≡ birth → IsTrue (allows st by d) → IsSound covers old d
      → one_if (is_live st && covered covers old input) ≡ one_if (is_live (left_by by (deed_kept d)) && covered covers (content_by birth (deed_kept d)) input) + count_by (λ (kid : Kid R). covers kid.content input) (kids_of d)
  shares Free by Claim old birth same may sound = ap (λ o. one_if (covered covers o input)) same ∙ zero_right (one_if (covered covers birth input))
  shares (Held w) by Claim old birth same may sound = cc
  shares Parted by Claim old birth same may sound = cc
  shares Leaf by Claim old birth same may sound = cc
  shares Free by (Split kids) old birth same may sound = cc
  shares (Held w) by (Split kids) old birth same may sound = sym (zero_left (count_by (λ (kid : Kid R). covers kid.content input) kids.items) ∙ sound input)
  shares Parted by (Split kids) old birth same may sound = cc
  shares Leaf by (Split kids) old birth same may sound = cc
  shares Free by (Finish r) old birth same may sound = cc
  shares (Held w) by (Finish r) old birth same may sound = sym (ap one_if (sound input)) ∙ zero_right (one_if (covers r input))
  shares Parted by (Finish r) old birth same may sound = cc
  shares Leaf by (Finish r) old birth same may sound = cc
  shares Free by (Cut r) old birth same may sound = cc
  shares (Held w) by (Cut r) old birth same may sound = sym (ap one_if (sound input)) ∙ zero_right (one_if (covers r input))
  shares Parted by (Cut r) old birth same may sound = cc
  shares Leaf by (Cut r) old birth same may sound = cc
  shares Free by Release old birth same may sound = cc
  shares (Held w) by Release old birth same may sound = ap (λ o. one_if (covered covers o input)) same ∙ zero_right (one_if (covered covers birth input))
  shares Parted by Release old birth same may sound = cc
  shares Leaf by Release old birth same may sound = cc

  live_birth : (b : Bool) (x : Bool) → (is_live (cond b Leaf Free) && x) ≡ x
  live_birth true x = refl
  live_birth false x = refl

module _ {R : Type 0} (covers : R → List ℕ → Bool) where
  pub partition-noted : (s : Story R) (e : Event R (Vec (Kid R))) → Partition covers s → All (λ (x : Event R ℕ). x.node < length s.nodes) s.events → IsFit covers s e → IsTrue (is_allowed s e) → Partition covers (with_event s e)
  partition-noted s e parts named fit may = λ input.
      let n : ℕ = length s.nodes in let m : ℕ = e.node in let kids : List (Kid R) = kids_of e.deed in let there : m < n = fit.0 in
      let p : ℕ → Bool = node_covers covers s input in let q : ℕ → Bool = node_covers covers (with_event s e) input in
      let f : Kid R → Bool = λ kid. covers kid.content input in
      let birth : Option R = option_map (λ (x : Node R). x.content) (slice_get s.nodes m) in
      let unended : content s m ≡ birth = open_content birth (born_as (slice_get s.nodes m)) (last_on m s.events) e.by e.deed may in
      let behind : count_below q (n + length kids) ≡ count_below q n + count_by f kids =
      count_more q f n kids (λ i kid at. (λ k. is_live (status-kid s e i kid named there at k) && covered covers (content-kid s e i kid named there at k) input) ∙ live_birth covers input kid.is_leaf (covers kid.content input)) in
      let others : (k : ℕ) → k < n → k ≢ m → p k ≡ q k = λ k lt ne. let apart : eqb m k ≡ false = ne_eqb m k (λ is. ne (sym is)) in
      let st : status (with_event s e) k ≡ status s k = status-noted s e k lt ∙ ap (λ b. cond b (left_by e.by (deed_kept e.deed)) (status s k)) apart in
      let co : content (with_event s e) k ≡ content s k = content-noted s e k lt ∙ ap (λ b. cond b (content_by (option_map (λ (x : Node R). x.content) (slice_get s.nodes k)) (deed_kept e.deed)) (content s k)) apart in
      λ j. is_live (sym st j) && covered covers (sym co j) input in
      let yes : eqb m m ≡ true = eq-eqb m m refl in
      let st : status (with_event s e) m ≡ left_by e.by (deed_kept e.deed) = status-noted s e m there ∙ ap (λ b. cond b (left_by e.by (deed_kept e.deed)) (status s m)) yes in
      let co : content (with_event s e) m ≡ content_by birth (deed_kept e.deed) = content-noted s e m there ∙ ap (λ b. cond b (content_by birth (deed_kept e.deed)) (content s m)) yes in
      let after_it : q m ≡ (is_live (left_by e.by (deed_kept e.deed)) && covered covers (content_by birth (deed_kept e.deed)) input) = λ j. is_live (st j) && covered covers (co j) input in
      let here : one_if (p m) ≡ one_if (q m) + count_by f kids = shares covers input (status s m) e.by e.deed (content s m) birth unended may fit.1 ∙ ap (λ b. one_if b + count_by f kids) (sym after_it) in
      let change : count_below p n + one_if (q m) ≡ count_below q n + one_if (p m) = count_change p q n m there others in
      let long : length (with_event s e).nodes ≡ n + length kids = length-append s.nodes (births m e.deed) ∙ ap (λ k. n + k) (length-map kids (node_of m)) in
      let sums : count_below q n + count_by f kids ≡ count_below p n = added (count_below p n) (count_below q n) (one_if (p m)) (one_if (q m)) (count_by f kids) change here in
      let root : root_content s ≡ root_content (with_event s e) = ap (option_map (λ (x : Node R). x.content)) (sym (get_before s.nodes (births m e.deed) 0 (omega arith))) in
      ap (count_below q) long ∙ (behind ∙ (sums ∙ (parts input ∙ ap (λ o. one_if (covered covers o input)) root)))
    where
      added : (a b pm qm k : ℕ) → a + qm ≡ b + pm → pm ≡ qm + k → b + k ≡ a
      added a b pm qm k x y = omega arith

takes-left : {R : Type 0} (by : ℕ) (d : Deed R (Vec (Kid R))) → one_if (is_held (left_by by (deed_kept d))) ≡ takes d
takes-left by Claim = refl
takes-left by (Split kids) = refl
takes-left by (Finish r) = refl
takes-left by (Cut r) = refl
takes-left by Release = refl

pub ends-before : {R : Type 0} (st : Status) (by : ℕ) (d : Deed R (Vec (Kid R))) → IsTrue (allows st by d) → one_if (is_held st) ≡ ends d
ends-before Free by Claim may = refl
ends-before (Held w) by Claim may = cc
ends-before Parted by Claim may = cc
ends-before Leaf by Claim may = cc
ends-before Free by (Split kids) may = cc
ends-before (Held w) by (Split kids) may = refl
ends-before Parted by (Split kids) may = cc
ends-before Leaf by (Split kids) may = cc
ends-before Free by (Finish r) may = cc
ends-before (Held w) by (Finish r) may = refl
ends-before Parted by (Finish r) may = cc
ends-before Leaf by (Finish r) may = cc
ends-before Free by (Cut r) may = cc
ends-before (Held w) by (Cut r) may = refl
ends-before Parted by (Cut r) may = cc
ends-before Leaf by (Cut r) may = cc
ends-before Free by Release may = cc
ends-before (Held w) by Release may = refl
ends-before Parted by Release may = cc
ends-before Leaf by Release may = cc

light : (b : Bool) → is_held (cond b Leaf Free) ≡ false
light true = refl
light false = refl

module _ {R : Type 0} where
  pub held_count-noted : (s : Story R) (e : Event R (Vec (Kid R))) → All (λ (x : Event R ℕ). x.node < length s.nodes) s.events → e.node < length s.nodes → IsTrue (is_allowed s e) → held_count (with_event s e) + ends e.deed ≡ held_count s + takes e.deed
  held_count-noted s e named there may =
      let n : ℕ = length s.nodes in let m : ℕ = e.node in let kids : List (Kid R) = kids_of e.deed in
      let p : ℕ → Bool = λ k. is_held (status s k) in let q : ℕ → Bool = λ k. is_held (status (with_event s e) k) in let none : Kid R → Bool = λ kid. false in
      let behind : count_below q (n + length kids) ≡ count_below q n + count_by none kids = count_more q none n kids (λ i kid at. ap is_held (status-kid s e i kid named there at) ∙ light kid.is_leaf) in
      let others : (k : ℕ) → k < n → k ≢ m → p k ≡ q k = λ k lt ne. let apart : eqb m k ≡ false = ne_eqb m k (λ is. ne (sym is)) in
      ap is_held (sym (status-noted s e k lt ∙ ap (λ b. cond b (left_by e.by (deed_kept e.deed)) (status s k)) apart)) in
      let yes : eqb m m ≡ true = eq-eqb m m refl in
      let taken : one_if (q m) ≡ takes e.deed = ap (λ x. one_if (is_held x)) (status-noted s e m there ∙ ap (λ b. cond b (left_by e.by (deed_kept e.deed)) (status s m)) yes) ∙ takes-left e.by e.deed in
      let ended : one_if (p m) ≡ ends e.deed = ends-before (status s m) e.by e.deed may in
      let change : count_below p n + one_if (q m) ≡ count_below q n + one_if (p m) = count_change p q n m there others in
      let long : length (with_event s e).nodes ≡ n + length kids = length-append s.nodes (births m e.deed) ∙ ap (λ k. n + k) (length-map kids (node_of m)) in
      let all : held_count (with_event s e) ≡ count_below q n + count_by none kids = ap (count_below q) long ∙ behind in
      added (count_below p n) (count_below q n) (one_if (p m)) (one_if (q m)) (takes e.deed) (ends e.deed) (count_by none kids) (held_count (with_event s e)) change taken ended (count_by-none none kids (λ kid. refl)) all
    where
      added : (a b pm qm t d k h : ℕ) → a + qm ≡ b + pm → qm ≡ t → pm ≡ d → k ≡ 0 → h ≡ b + k → h + d ≡ a + t
      added a b pm qm t d k h x y z w v = omega arith
