-- The numbers of leaves, and leaves by rank.
use Rattle.std.proofs.Common.{◌≡◌, ◌≢◌, ℕ, zero, suc, ◌+◌, ◌<◌, ◌≤◌, Bool, true, false, inl, inr, ◌⊎◌, List, [], ◌∷◌, ◌++◌, Some, if◌then◌else◌, length, map, option_map, slice_index_or, take, refl, sym, ap, subst, ◌∙◌, arith}
use Rattle.std.specs.Prelude.{All, slice_get}
use Rattle.std.specs.List.Sorted.{IsPermutation}
use Rattle.std.proofs.lemmas.Bool.{cases_lt}
use Rattle.std.proofs.lemmas.List.{append-nil, map-append}
use Rattle.std.proofs.lemmas.List.Elements.{All-nil, All-cons, All-append}
use Rattle.std.proofs.lemmas.Option.{get_or_from_slice_get, slice_get-get_or, slice_get-map, slice_get_within}
use Rattle.tree_core.specs.Choices.{precedes}
use Rattle.tree_core.specs.Covers.{is_live}
use Rattle.tree_core.specs.Stories.{Story, status}
use Rattle.tree_core.specs.declared.choice.Choice.{Choice}
use Rattle.tree_core.specs.declared.node.Status.{Status}
use Rattle.tree_core.specs.declared.node.Status.TheVariants.{Free, Held, Parted, Leaf as IsLeaf}
use Rattle.fork_spec.specs.Histories.{is_leaf_status}
use Rattle.fork_spec.specs.Partings.{ArePlacesApart, FirstDiffer, Place}
use Rattle.fork_tree.specs.NodesApart.{AreNodesApart}
use Rattle.fork_spec.specs.Parts.{Part}
use Rattle.fork_spec.specs.Decisions.{Decision}
use Rattle.fork_tree.specs.Contents.{place_in}
use Rattle.fork_tree.specs.declared.content.Content.{Content}
use Rattle.fork_tree.specs.declared.content.Content.TheVariants.{Shut}
use Rattle.report_text.specs.Entries.{AreByRank, ChoicesLead, IsLeafAt, IsPlacedByPart, leaf_numbers, numbers_where}
use Rattle.report_text.specs.Ranking.{AllDiffer, AreInOrder}
use Rattle.report_text.specs.declared.leaves.LeafAt.{LeafAt}
use Rattle.report_text.specs.declared.ranking.RankedLeaf.{RankedLeaf}
use Rattle.report_text.proofs.Claimed.{mapped_at, none_is_some, same_held, same_shut}

pub item_of : {X : Type 0} (P : X → Type 0) (xs : List X) (i : ℕ) (x : X) → All P xs → slice_get xs i ≡ Some x → P x
item_of P xs i x all at = subst P (get_or_from_slice_get xs i x x at) (all i x (slice_get_within xs i x at))

-- one number more
pub next_number : (p : ℕ → Bool) (n : ℕ) → numbers_where p (n + 1) ≡ numbers_where p n ++ (if p n then n ∷ [] else [])
unfolding numbers_where
next_number p n = ap (numbers_where p) (one n)
  where
    one : (k : ℕ) → k + 1 ≡ suc k
    one k = omega arith

pub none_yet : (p : ℕ → Bool) → numbers_where p 0 ≡ []
unfolding numbers_where
none_yet p = refl

pub number_pushed : (p : ℕ → Bool) (n : ℕ) (old new : List ℕ) → old ≡ numbers_where p n → p n ≡ true → new ≡ old ++ n ∷ [] → new ≡ numbers_where p (n + 1)
number_pushed p n old new is holds e = e ∙ ap (λ xs. xs ++ n ∷ []) is ∙ ap (λ b. numbers_where p n ++ (if b then n ∷ [] else [])) (sym holds) ∙ sym (next_number p n)

pub number_kept : (p : ℕ → Bool) (n : ℕ) (old new : List ℕ) → old ≡ numbers_where p n → p n ≡ false → new ≡ old → new ≡ numbers_where p (n + 1)
number_kept p n old new is fails e = e ∙ is ∙ sym (append-nil (numbers_where p n)) ∙ ap (λ b. numbers_where p n ++ (if b then n ∷ [] else [])) (sym fails) ∙ sym (next_number p n)

last_item : {X : Type 0} (xs : List X) (y : X) (i : ℕ) (x : X) → slice_get (xs ++ y ∷ []) i ≡ Some x → (slice_get xs i ≡ Some x) ⊎ ((i ≡ length xs) × (y ≡ x))
last_item [] y zero x at = inr (refl, same_held y x at)
last_item [] y (suc i) x at = absurd (none_is_some x at)
last_item (z ∷ xs) y zero x at = inl at
last_item (z ∷ xs) y (suc i) x at = further (last_item xs y i x at)
  where
    further : (slice_get xs i ≡ Some x) ⊎ ((i ≡ length xs) × (y ≡ x)) → (slice_get (z ∷ xs) (suc i) ≡ Some x) ⊎ ((suc i ≡ length (z ∷ xs)) × (y ≡ x))
    further (inl there) = inl there
    further (inr (is, same)) = inr (ap suc is, same)

-- each of the numbers is below, and it holds of it
pub number_is : (p : ℕ → Bool) (n i x : ℕ) → slice_get (numbers_where p n) i ≡ Some x → (x < n) × (p x ≡ true)
unfolding numbers_where
number_is p zero i x at = absurd (none_is_some x at)
number_is p (suc n) i x at = by_test (p n) refl at (number_is p n i x)
  where
    further : (x < n) × (p x ≡ true) → (x < suc n) × (p x ≡ true)
    further (lt, holds) = (omega (arith, lt), holds)

    by_last : p n ≡ true → ((slice_get (numbers_where p n) i ≡ Some x) ⊎ ((i ≡ length (numbers_where p n)) × (n ≡ x))) → (slice_get (numbers_where p n) i ≡ Some x → (x < n) × (p x ≡ true)) → (x < suc n) × (p x ≡ true)
    by_last holds (inl there) before = further (before there)
    by_last holds (inr (is, same)) before = (omega (arith, same), ap p (sym same) ∙ holds)

    by_test : (b : Bool) → p n ≡ b → slice_get (numbers_where p n ++ (if b then n ∷ [] else [])) i ≡ Some x → (slice_get (numbers_where p n) i ≡ Some x → (x < n) × (p x ≡ true)) → (x < suc n) × (p x ≡ true)
    by_test true holds there before = by_last holds (last_item (numbers_where p n) n i x there) before
    by_test false holds there before = further (before (ap (λ xs. slice_get xs i) (sym (append-nil (numbers_where p n))) ∙ there))

-- no two of them are the same
later_number : (p : ℕ → Bool) (n i j x y : ℕ) → i < j → slice_get (numbers_where p n) i ≡ Some x → slice_get (numbers_where p n) j ≡ Some y → x < y
unfolding numbers_where
later_number p zero i j x y lt at other = absurd (none_is_some x at)
later_number p (suc n) i j x y lt at other = by_test (p n) at other (later_number p n i j x y lt) (number_is p n i x)
  where
    by_last : ((slice_get (numbers_where p n) i ≡ Some x) ⊎ ((i ≡ length (numbers_where p n)) × (n ≡ x))) → ((slice_get (numbers_where p n) j ≡ Some y) ⊎ ((j ≡ length (numbers_where p n)) × (n ≡ y)))
        → (slice_get (numbers_where p n) i ≡ Some x → slice_get (numbers_where p n) j ≡ Some y → x < y) → (slice_get (numbers_where p n) i ≡ Some x → (x < n) × (p x ≡ true)) → x < y
    by_last (inl a) (inl b) before low = before a b
    by_last (inl a) (inr (b, same)) before low = let l : (x < n) × (p x ≡ true) = low a in omega (arith, l.0, same)
    by_last (inr (a, same)) (inl b) before low = absurd (omega (arith, a, lt, slice_get_within (numbers_where p n) j y b))
    by_last (inr (a, same)) (inr (b, too)) before low = absurd (omega (arith, a, b, lt))

    by_test : (b : Bool) → slice_get (numbers_where p n ++ (if b then n ∷ [] else [])) i ≡ Some x → slice_get (numbers_where p n ++ (if b then n ∷ [] else [])) j ≡ Some y
        → (slice_get (numbers_where p n) i ≡ Some x → slice_get (numbers_where p n) j ≡ Some y → x < y) → (slice_get (numbers_where p n) i ≡ Some x → (x < n) × (p x ≡ true)) → x < y
    by_test true a b before low = by_last (last_item (numbers_where p n) n i x a) (last_item (numbers_where p n) n j y b) before low
    by_test false a b before low = before (ap (λ xs. slice_get xs i) (sym (append-nil (numbers_where p n))) ∙ a) (ap (λ xs. slice_get xs j) (sym (append-nil (numbers_where p n))) ∙ b)

numbers_differ : (p : ℕ → Bool) (n i j x y : ℕ) → i ≢ j → slice_get (numbers_where p n) i ≡ Some x → slice_get (numbers_where p n) j ≡ Some y → x ≢ y
numbers_differ p n i j x y ne at other same = by_order (cases_lt i j)
  where
    by_order : (i < j) ⊎ (j ≤ i) → ⊥
    by_order (inl lt) = let up : x < y = later_number p n i j x y lt at other in omega (arith, up, same)
    by_order (inr le) = let up : y < x = later_number p n j i y x (omega (arith, le, ne)) other at in omega (arith, up, same)

pub leaf_status : (st : Status) → is_leaf_status st ≡ true → st ≡ IsLeaf
leaf_status Free is = cc
leaf_status (Held by) is = cc
leaf_status Parted is = cc
leaf_status IsLeaf is = refl

-- the number of a leaf
pub number_of_leaf : {R : Type 0} (s : Story R) (i m : ℕ) → slice_get (leaf_numbers s) i ≡ Some m → (m < length s.nodes) × (status s m ≡ IsLeaf)
number_of_leaf s i m at = let is : (m < length s.nodes) × (is_leaf_status (status s m) ≡ true) = number_is (λ k. is_leaf_status (status s k)) (length s.nodes) i m at in
    (is.0, leaf_status (status s m) is.1)

pub leaf_here : {R : Type 0} (s : Story R) (numbers : List ℕ) (i : ℕ) → numbers ≡ leaf_numbers s → i < length numbers → (slice_index_or numbers i 0 < length s.nodes) × (status s (slice_index_or numbers i 0) ≡ IsLeaf)
leaf_here s numbers i is lt = number_of_leaf s i (slice_index_or numbers i 0) (ap (λ ns. slice_get ns i) (sym is) ∙ slice_get-get_or numbers i 0 lt)

one_more : (xs : List ℕ) (i : ℕ) → i < length xs → take (i + 1) xs ≡ take i xs ++ slice_index_or xs i 0 ∷ []
one_more [] i lt = absurd (omega (arith, lt))
one_more (x ∷ xs) zero lt = refl
one_more (x ∷ xs) (suc i) lt = ap (λ n. take n (x ∷ xs)) (turn i) ∙ ap (λ ys. x ∷ ys) (one_more xs i (omega (arith, lt)))
  where
    turn : (k : ℕ) → suc k + 1 ≡ suc (k + 1)
    turn k = omega arith

pub mapped_at_place : {X : Type 0} (f : X → ℕ) (xs : List X) (i : ℕ) (d : X) → i < length xs → slice_index_or (map f xs) i 0 ≡ f (slice_index_or xs i d)
mapped_at_place f xs i d lt = get_or_from_slice_get (map f xs) i (f (slice_index_or xs i d)) 0 (slice_get-map f xs i ∙ ap (option_map f) (slice_get-get_or xs i d lt))

-- one item more of a list that is seen by a number of each
pub mapped_next : {X : Type 0} (f : X → ℕ) (numbers : List ℕ) (i : ℕ) (old new : List X) (x : X) → map f old ≡ take i numbers → new ≡ old ++ x ∷ [] → i < length numbers → f x ≡ slice_index_or numbers i 0 → map f new ≡ take (i + 1) numbers
mapped_next f numbers i old new x is pushed lt same =
    ap (map f) pushed ∙ map-append f old (x ∷ []) ∙ (λ k. is k ++ same k ∷ []) ∙ sym (one_more numbers i lt)

-- a list that fills its place again
pub all_taken : {X : Type 0} (n : ℕ) (xs more : List X) → length xs ≡ n → take n (xs ++ more) ≡ xs
all_taken {X} n xs more is = ap (λ k. take k (xs ++ more)) (sym is) ∙ whole xs
  where
    whole : (ys : List X) → take (length ys) (ys ++ more) ≡ ys
    whole [] = refl
    whole (y ∷ ys) = ap (λ zs. y ∷ zs) (whole ys)

pub all_pushed : {X : Type 0} (P : X → Type 0) (old new : List X) (x : X) → All P old → P x → new ≡ old ++ x ∷ [] → All P new
all_pushed P old new x all holds pushed = subst (All P) (sym pushed) (All-append P old (x ∷ []) all (All-cons P x [] holds (All-nil P)))

pub lead_here : {S L : Type 0} (part_of : L → Part) (s : Story (Content S L)) (ranked : List RankedLeaf) (i : ℕ) (d : RankedLeaf) → All (ChoicesLead part_of s) ranked → i < length ranked
    → (part : Part) × IsLeafAt part_of s (slice_index_or ranked i d).node part
lead_here part_of s ranked i d lead lt = let there : ChoicesLead part_of s (slice_index_or ranked i d) = lead i d lt in (there.part, there.at)

pub in_order_at : (lists : List (List Choice)) (i j : ℕ) (cs ds : List Choice) → AreInOrder lists → i < j → slice_get lists i ≡ Some cs → slice_get lists j ≡ Some ds → precedes cs ds ≡ true
in_order_at [] i j cs ds ordered lt at other = absurd (none_is_some cs at)
in_order_at (l ∷ lists) zero zero cs ds ordered lt at other = absurd (omega (arith, lt))
in_order_at (l ∷ lists) zero (suc j) cs ds (later, ordered) lt at other = subst (λ xs. precedes xs ds ≡ true) (same_held l cs at) (item_of (λ xs. precedes l xs ≡ true) lists j ds later other)
in_order_at (l ∷ lists) (suc i) zero cs ds ordered lt at other = absurd (omega (arith, lt))
in_order_at (l ∷ lists) (suc i) (suc j) cs ds (later, ordered) lt at other = in_order_at lists i j cs ds ordered (omega (arith, lt)) at other

module _ {S L : Type 0} (part_of : L → Part) (state_place : S → Place) (leaf_place : L → Place) (s : Story (Content S L)) where
  -- at one node is one leaf
  pub one_part : (m : ℕ) (a b : Part) → IsLeafAt part_of s m a → IsLeafAt part_of s m b → a ≡ b
  one_part m a b at other = sym at.same ∙ ap part_of (same_shut {S = S} at.leaf other.leaf (same_held (Shut at.leaf) (Shut other.leaf) (sym at.held ∙ other.held))) ∙ other.same

  -- leaves' choices differ somewhere
  pub all_differ : (decides : List ℕ → List Decision) (ranked : List RankedLeaf) → IsPlacedByPart part_of leaf_place → AreNodesApart (place_in state_place leaf_place) decides s
      → map (λ (r : RankedLeaf). r.node) ranked ≡ leaf_numbers s → All (ChoicesLead part_of s) ranked → AllDiffer (map (λ (r : RankedLeaf). r.choices.now) ranked)
  all_differ decides ranked placed apart nodes lead i j cs ds ne at other =
      (parted.c, parted.d, subst (λ xs. FirstDiffer xs ds parted.c parted.d) (choices_are a.0 x ∙ a.2) (subst (λ xs. FirstDiffer (leaf_place x.at.leaf).choices xs parted.c parted.d) (choices_are b.0 y ∙ b.2) parted.first))
    where
      a : (r : RankedLeaf) × (slice_get ranked i ≡ Some r) × (r.choices.now ≡ cs)
      a = mapped_at (λ (r : RankedLeaf). r.choices.now) ranked i cs at

      b : (r : RankedLeaf) × (slice_get ranked j ≡ Some r) × (r.choices.now ≡ ds)
      b = mapped_at (λ (r : RankedLeaf). r.choices.now) ranked j ds other

      x : ChoicesLead part_of s a.0
      x = item_of (ChoicesLead part_of s) ranked i a.0 lead a.1

      y : ChoicesLead part_of s b.0
      y = item_of (ChoicesLead part_of s) ranked j b.0 lead b.1

      number_at : (k : ℕ) (r : RankedLeaf) → slice_get ranked k ≡ Some r → slice_get (leaf_numbers s) k ≡ Some r.node
      number_at k r there = ap (λ ns. slice_get ns k) (sym nodes) ∙ slice_get-map (λ (q : RankedLeaf). q.node) ranked k ∙ ap (option_map (λ (q : RankedLeaf). q.node)) there

      choices_are : (r : RankedLeaf) (l : ChoicesLead part_of s r) → (leaf_place l.at.leaf).choices ≡ r.choices.now
      choices_are r l = ap (λ (p : Place). p.choices) (placed l.at.leaf) ∙ ap (λ (p : Part). p.leaf.choices) l.at.same ∙ sym l.same

      parted : ArePlacesApart decides (leaf_place x.at.leaf) (leaf_place y.at.leaf)
      parted = apart a.0.node b.0.node (Shut x.at.leaf) (Shut y.at.leaf)
          (numbers_differ (λ k. is_leaf_status (status s k)) (length s.nodes) i j a.0.node b.0.node ne (number_at i a.0 a.1) (number_at j b.0 b.1))
          x.at.within y.at.within (ap is_live x.at.is_leaf) (ap is_live y.at.is_leaf) x.at.held y.at.held

  -- leaves in the order that their choices were put in
  pub are_by_rank : (ranked : List RankedLeaf) (leaves : List LeafAt) → IsPermutation (leaf_numbers s) (map (λ (r : RankedLeaf). r.node) ranked) → All (ChoicesLead part_of s) ranked
      → AreInOrder (map (λ (r : RankedLeaf). r.choices.now) ranked) → map (λ (l : LeafAt). l.node) leaves ≡ map (λ (r : RankedLeaf). r.node) ranked → All (λ (l : LeafAt). IsLeafAt part_of s l.node l.part.now) leaves
      → AreByRank part_of s leaves
  are_by_rank ranked leaves perm lead ordered nodes each = record {
    each = λ rank l at. item_of (λ (k : LeafAt). IsLeafAt part_of s k.node k.part.now) leaves rank l each at;
    all = subst (IsPermutation (leaf_numbers s)) (sym nodes) perm;
    ranked = λ i j l k lt at other.
        let a : (r : RankedLeaf) × (slice_get ranked i ≡ Some r) × (r.node ≡ l.node) = ranked_at i l at in
        let b : (r : RankedLeaf) × (slice_get ranked j ≡ Some r) × (r.node ≡ k.node) = ranked_at j k other in
        subst (λ cs. precedes cs k.part.now.leaf.choices ≡ true) (choices_at i l a.0 at a.1 a.2)
        (subst (λ cs. precedes a.0.choices.now cs ≡ true) (choices_at j k b.0 other b.1 b.2)
        (in_order_at (map (λ (r : RankedLeaf). r.choices.now) ranked) i j a.0.choices.now b.0.choices.now ordered lt (list_at i a.0 a.1) (list_at j b.0 b.1)));
  }
    where
      ranked_at : (i : ℕ) (l : LeafAt) → slice_get leaves i ≡ Some l → (r : RankedLeaf) × (slice_get ranked i ≡ Some r) × (r.node ≡ l.node)
      ranked_at i l at = mapped_at (λ (r : RankedLeaf). r.node) ranked i l.node
          (ap (λ ns. slice_get ns i) (sym nodes) ∙ slice_get-map (λ (k : LeafAt). k.node) leaves i ∙ ap (option_map (λ (k : LeafAt). k.node)) at)

      list_at : (i : ℕ) (r : RankedLeaf) → slice_get ranked i ≡ Some r → slice_get (map (λ (q : RankedLeaf). q.choices.now) ranked) i ≡ Some r.choices.now
      list_at i r at = slice_get-map (λ (q : RankedLeaf). q.choices.now) ranked i ∙ ap (option_map (λ (q : RankedLeaf). q.choices.now)) at

      choices_at : (i : ℕ) (l : LeafAt) (r : RankedLeaf) → slice_get leaves i ≡ Some l → slice_get ranked i ≡ Some r → r.node ≡ l.node → r.choices.now ≡ l.part.now.leaf.choices
      choices_at i l r at there same =
          let x : ChoicesLead part_of s r = item_of (ChoicesLead part_of s) ranked i r lead there in
          let y : IsLeafAt part_of s l.node l.part.now = item_of (λ (k : LeafAt). IsLeafAt part_of s k.node k.part.now) leaves i l each at in
          x.same ∙ ap (λ (p : Part). p.leaf.choices) (one_part l.node x.part l.part.now (subst (λ m. IsLeafAt part_of s m x.part) same x.at) y)
