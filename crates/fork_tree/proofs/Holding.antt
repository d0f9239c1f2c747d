-- What nodes hold when an event was noted.
use Rattle.std.proofs.Common.{◌≡◌, ◌≢◌, ℕ, zero, suc, ◌+◌, ◌-◌, ◌<◌, cond, IsTrue, Option, Some, None, List, [], ◌∷◌, ◌++◌, length, map, take, sym, refl, ap, ◌∙◌, subst, arith, lt_of_not-le}
use mathlib.Core.Logic.{dite}
use native.Mathlib.Decide.{ℕ_discrete, dec_le}
use Rattle.std.specs.List.{All, slice_get}
use Rattle.std.specs.Global.{Vec}
use Rattle.std.proofs.lemmas.List.{length-map}
use Rattle.std.proofs.lemmas.Option.{slice_get_within, get_or_from_slice_get}
use Rattle.tree_core.specs.declared.cause.Cause.{Cause}
use Rattle.tree_core.specs.declared.cause.Cause.TheVariants.{Conflicts, Nodes, Steps, Targets}
use Rattle.tree_core.specs.declared.choice.Choice.{Choice}
use Rattle.tree_core.specs.declared.event.Deed.{Deed}
use Rattle.tree_core.specs.declared.event.Deed.TheVariants.{Claim, Split, Finish, Cut, Release}
use Rattle.tree_core.specs.declared.event.Kid.{Kid}
use Rattle.tree_core.specs.declared.node.Status.{Status}
use Rattle.tree_core.specs.declared.node.Status.TheVariants.{Free, Held, Parted, Leaf}
use Rattle.tree_core.specs.Stories.{Story, status, content, left_by, content_by}
use Rattle.tree_core.specs.Replays.{allows, is_allowed, kids_of, deed_kept, with_event}
use Rattle.tree_core.proofs.Places.{get_before, get_last}
use Rattle.tree_core.proofs.Standing.{status-kid, content-kid}
use Rattle.fork_spec.specs.Histories.{IsOwnCut, IsOwnSplit, IsSideOf, node_count}
use Rattle.fork_spec.specs.Partings.{Place}
use Rattle.fork_spec.specs.Walks.{Line, Side}
use Rattle.fork_tree.specs.Written.{lines_of, nodes_after, side_of_kid}
use Rattle.fork_tree.specs.Contents.{choices_in, cut_in}
use Rattle.fork_tree.specs.Nodes.{AllHold, HasLeaf, HoldsFor, IsRightAt}
use Rattle.fork_tree.specs.Works.{Rules, nodes_at}
use Rattle.fork_tree.specs.declared.content.Content.{Content}
use Rattle.fork_tree.specs.declared.content.Content.TheVariants.{Open, Shut}
use Rattle.fork_tree.proofs.Lines.{line_now, lines-noted}
use Rattle.fork_tree.proofs.Standings.{AreThere, Coming, content-here, content-other, length-noted, status-here, status-other}
use Rattle.fork_tree.proofs.Changing.{get_some}

pub all_get : {X : Type 0} (P : X → Type 0) (xs : List X) (i : ℕ) (x : X) → All P xs →
    slice_get xs i ≡ Some x → P x
all_get P xs i x all at =
    subst P (get_or_from_slice_get xs i x x at) (all i x (slice_get_within xs i x at))

-- lines grow at their end, where no split is lost
own-later : (lines more : List Line) (m : ℕ) (sides : List Choice) → IsOwnSplit lines m sides →
    IsOwnSplit (lines ++ more) m sides
own-later lines more m [] own = tt
own-later lines more m (c ∷ cs) own = let parted = own.parted in record {
  first = own.first;
  parted = record {
    place = parted.place;
    line = parted.line;
    there = get_before lines more parted.place
        (slice_get_within lines parted.place parted.line parted.there) ∙ parted.there;
    splits = parted.splits;
  };
  not_before = own.not_before;
  not_behind = own.not_behind;
}

take_first : {X : Type 0} (xs ys : List X) → take (length xs) (xs ++ ys) ≡ xs
take_first [] ys = refl
take_first (x ∷ xs) ys = ap (λ zs. x ∷ zs) (take_first xs ys)

take_early : {X : Type 0} (xs ys : List X) (k : ℕ) → k < length xs → take k (xs ++ ys) ≡ take k xs
take_early xs ys zero lt = refl
take_early [] ys (suc k) lt = absurd (omega arith)
take_early (x ∷ xs) ys (suc k) lt = ap (λ zs. x ∷ zs) (take_early xs ys k (omega arith))

-- nor is a cut
cut-later : (lines more : List Line) (m : ℕ) (nodes : Option ℕ) → IsOwnCut lines m nodes →
    IsOwnCut (lines ++ more) m nodes
cut-later lines more m None own = tt
cut-later lines more m (Some count) own =
    let within = slice_get_within lines own.place own.line own.there in record {
      place = own.place;
      line = own.line;
      there = get_before lines more own.place within ∙ own.there;
      of_node = own.of_node;
      by_nodes = own.by_nodes;
      counted = ap node_count (take_early lines more own.place within) ∙ own.counted;
    }

own_is : (lines : List Line) (m : ℕ) (sides : List Choice) → IsSideOf lines m sides →
    IsOwnSplit lines m sides
own_is lines m [] side = tt
own_is lines m (c ∷ cs) side = side

module _ {R : Type 0} (cut : R → Option Cause) where
  sides_choices : (kids : List (Kid R)) →
      map (λ (side : Side). side.choice) (map (side_of_kid cut) kids) ≡ choices_in kids
  sides_choices [] = refl
  sides_choices (kid ∷ kids) = ap (λ cs. kid.choice ∷ cs) (sides_choices kids)

  -- kids are sides of the split that is noted last
  own-now : (lines : List Line) (by node n i : ℕ) (kids : Vec (Kid R)) → i < length kids.items →
      IsOwnSplit (lines ++ line_now cut n (record { by = by; node = node; deed = Split kids }) ∷ [])
      (n + i) (choices_in kids.items)
  own-now lines by node n i kids lt =
      let line : Line = line_now cut n (record { by = by; node = node; deed = Split kids }) in
      let as_many : length (choices_in kids.items) ≡ length kids.items =
      length-map kids.items (λ (kid : Kid R). kid.choice) in
      own_is (lines ++ line ∷ []) (n + i) (choices_in kids.items) (record {
        first = n;
        parted = record {
          place = length lines;
          line = line;
          there = get_last lines line;
          splits = (refl, sides_choices kids.items);
        };
        not_before = omega arith;
        not_behind = omega (arith, as_many, lt);
      })

module _ {S L : Type 0} where
  holds-map : (well : S → Type 0) (right other : L → Type 0) → ((l : L) → right l → other l) →
      (st : Status) (c : Option (Content S L)) → HoldsFor well right st c → HoldsFor well other st c
  holds-map well right other goes Free c h = h
  holds-map well right other goes (Held by) c h = h
  holds-map well right other goes Parted c h = h
  holds-map well right other goes Leaf (Some (Shut l)) h = goes l h
  holds-map well right other goes Leaf (Some (Open a)) h = absurd h
  holds-map well right other goes Leaf None h = absurd h

module _ {S L : Type 0} (rules : Rules S L) (state_place : S → Place) (leaf_place : L → Place) where
  -- what a deed hands in, where there are so many nodes, is well, or right as what it is
  abbrev pub DeedHolds : ℕ → Deed (Content S L) (Vec (Kid (Content S L))) → Type 0
  DeedHolds n (Split kids) =
      All (λ (kid : Kid (Content S L)). HoldsFor rules.IsWell
      (rules.IsRight (choices_in kids.items) None) (cond kid.is_leaf Leaf Free) (Some kid.content))
      kids.items
  DeedHolds n (Finish c) = HasLeaf (rules.IsRight [] None) (Some c)
  DeedHolds n (Cut c) =
      HasLeaf (λ l. rules.IsRight [] (nodes_at (leaf_place l).cut n) l) (Some c)
  DeedHolds n _ = Unit {0}

  abbrev HoldsIn : List Line → Story (Content S L) → ℕ → Type 0
  HoldsIn lines s m = HoldsFor rules.IsWell (IsRightAt rules lines m) (status s m) (content s m)

  alone : (lines : List Line) (m : ℕ) (c : Option (Content S L)) →
      HasLeaf (rules.IsRight [] None) c → HasLeaf (IsRightAt rules lines m) c
  alone lines m c h =
      holds-map rules.IsWell (rules.IsRight [] None) (IsRightAt rules lines m)
      (λ l right. record { sides = []; own = tt; nodes = None; own_cut = tt; right = right }) Leaf c h

  -- a leaf that was cut by the line that is written last
  cut_here : (lines : List Line) (by m n : ℕ) (l : L) → node_count lines ≡ n →
      IsOwnCut (lines ++ line_now (cut_in state_place leaf_place) n
      (record { by = by; node = m; deed = Cut (Shut l) }) ∷ []) m (nodes_at (leaf_place l).cut n)
  cut_here lines by m n l counted = for_cause (leaf_place l).cut refl
    where
      line : Line
      line = line_now (cut_in state_place leaf_place) n (record { by = by; node = m; deed = Cut (Shut l) })

      for_cause : (cause : Option Cause) → (leaf_place l).cut ≡ cause →
          IsOwnCut (lines ++ line ∷ []) m (nodes_at cause n)
      for_cause None is = tt
      for_cause (Some Steps) is = tt
      for_cause (Some Targets) is = tt
      for_cause (Some Conflicts) is = tt
      for_cause (Some Nodes) is = record {
        place = length lines;
        line = line;
        there = get_last lines line;
        of_node = refl;
        by_nodes = ap (λ (cause : Option Cause). Cut cause) is;
        counted = ap node_count (take_first lines (line ∷ [])) ∙ counted;
      }

  cut_alone : (lines : List Line) (by m n : ℕ) (c : Content S L) → node_count lines ≡ n →
      HasLeaf (λ l. rules.IsRight [] (nodes_at (leaf_place l).cut n) l) (Some c) →
      HasLeaf (IsRightAt rules (lines ++ line_now (cut_in state_place leaf_place) n
      (record { by = by; node = m; deed = Cut c }) ∷ []) m) (Some c)
  cut_alone lines by m n (Shut l) counted right = record {
    sides = [];
    own = tt;
    nodes = nodes_at (leaf_place l).cut n;
    own_cut = cut_here lines by m n l counted;
    right = right;
  }
  cut_alone lines by m n (Open a) counted right = absurd right

  -- what the node holds when the deed is done
  holds_here : (lines : List Line) (m n : ℕ) (st : Status) (by : ℕ)
      (d : Deed (Content S L) (Vec (Kid (Content S L)))) (old : Option (Content S L)) →
      IsTrue (allows st by d) →
      HoldsFor rules.IsWell (IsRightAt rules (lines ++ line_now (cut_in state_place leaf_place) n
      (record { by = by; node = m; deed = d }) ∷ []) m) st old →
      DeedHolds n d → node_count lines ≡ n →
      HoldsFor rules.IsWell (IsRightAt rules (lines ++ line_now (cut_in state_place leaf_place) n
      (record { by = by; node = m; deed = d }) ∷ []) m) (left_by by (deed_kept d))
      (content_by old (deed_kept d))
  holds_here lines m n Free by Claim old may h new counted = h
  holds_here lines m n (Held w) by Claim old may h new counted = cc
  holds_here lines m n Parted by Claim old may h new counted = cc
  holds_here lines m n Leaf by Claim old may h new counted = cc
  holds_here lines m n st by (Split kids) old may h new counted = tt
  holds_here lines m n st by (Finish c) old may h new counted = alone (lines ++ line_now (cut_in state_place leaf_place) n (record { by = by; node = m; deed = Finish c }) ∷ []) m (Some c) new
  holds_here lines m n st by (Cut c) old may h new counted = cut_alone lines by m n c counted new
  holds_here lines m n Free by Release old may h new counted = cc
  holds_here lines m n (Held w) by Release old may h new counted = h
  holds_here lines m n Parted by Release old may h new counted = cc
  holds_here lines m n Leaf by Release old may h new counted = cc

  -- what a kid holds, as a side of the split that is noted last
  kid_holds : (lines : List Line) (by node n i : ℕ)
      (d : Deed (Content S L) (Vec (Kid (Content S L)))) (kid : Kid (Content S L)) →
      DeedHolds n d → slice_get (kids_of d) i ≡ Some kid →
      HoldsFor rules.IsWell (IsRightAt rules
      (lines ++ line_now (cut_in state_place leaf_place) n (record { by = by; node = node; deed = d }) ∷ [])
      (n + i)) (cond kid.is_leaf Leaf Free) (Some kid.content)
  kid_holds lines by node n i Claim kid new at = cc
  kid_holds lines by node n i (Split kids) kid new at =
      let line : Line =
      line_now (cut_in state_place leaf_place) n (record { by = by; node = node; deed = Split kids }) in
      let within : i < length kids.items = slice_get_within kids.items i kid at in
      holds-map rules.IsWell (rules.IsRight (choices_in kids.items) None)
      (IsRightAt rules (lines ++ line ∷ []) (n + i))
      (λ l right. record {
        sides = choices_in kids.items;
        own = own-now (cut_in state_place leaf_place) lines by
            node n i kids within;
        nodes = None;
        own_cut = tt;
        right = right;
      })
      (cond kid.is_leaf Leaf Free) (Some kid.content)
      (all_get (λ (x : Kid (Content S L)). HoldsFor rules.IsWell
      (rules.IsRight (choices_in kids.items) None) (cond x.is_leaf Leaf Free) (Some x.content))
      kids.items i kid new at)
  kid_holds lines by node n i (Finish c) kid new at = cc
  kid_holds lines by node n i (Cut c) kid new at = cc
  kid_holds lines by node n i Release kid new at = cc

  -- right at its node by the lines that were written, and by one line more
  later : (lines : List Line) (line : Line) (m : ℕ) (st : Status) (c : Option (Content S L)) →
      HoldsFor rules.IsWell (IsRightAt rules lines m) st c →
      HoldsFor rules.IsWell (IsRightAt rules (lines ++ line ∷ []) m) st c
  later lines line m st c h =
      holds-map rules.IsWell (IsRightAt rules lines m) (IsRightAt rules (lines ++ line ∷ []) m)
      (λ l right. record {
        sides = right.sides;
        own = own-later lines (line ∷ []) m right.sides right.own;
        nodes = right.nodes;
        own_cut = cut-later lines (line ∷ []) m right.nodes right.own_cut;
        right = right.right;
      }) st c h

  module _ (s : Story (Content S L)) (e : Coming (Content S L)) (all : AllHold rules state_place leaf_place s)
      (counted : nodes_after 1 s.events ≡ length s.nodes)
      (written : node_count (lines_of (cut_in state_place leaf_place) s) ≡ length s.nodes) (named : AreThere s)
      (there : e.node < length s.nodes) (may : IsTrue (is_allowed s e)) (new : DeedHolds (length s.nodes) e.deed) where
    abbrev lines_before : List Line
    lines_before = lines_of (cut_in state_place leaf_place) s

    abbrev lines_after : List Line
    lines_after = lines_before ++ line_now (cut_in state_place leaf_place) (length s.nodes) e ∷ []

    abbrev HoldsAfter : ℕ → Type 0
    HoldsAfter k = HoldsIn lines_after (with_event s e) k

    -- a node holds so, where it stands so and has this content
    by_parts : (k : ℕ) (st : Status) (c : Option (Content S L)) → status (with_event s e) k ≡ st →
        content (with_event s e) k ≡ c → HoldsFor rules.IsWell (IsRightAt rules lines_after k) st c →
        HoldsAfter k
    by_parts k st c stands has holds =
        subst (λ (p : Status × Option (Content S L)). HoldsFor rules.IsWell
        (IsRightAt rules lines_after k) p.0 p.1)
        (λ i. (sym stands i, sym has i)) holds

    old_holds : (k : ℕ) → k < length s.nodes →
        HoldsFor rules.IsWell (IsRightAt rules lines_after k) (status s k) (content s k)
    old_holds k lt =
        later lines_before (line_now (cut_in state_place leaf_place) (length s.nodes) e) k (status s k) (content s k)
        (all k lt)

    named_holds : HoldsAfter e.node
    named_holds =
        by_parts e.node (left_by e.by (deed_kept e.deed))
        (content_by (content s e.node) (deed_kept e.deed))
        (status-here s e there) (content-here s e there may)
        (holds_here lines_before e.node (length s.nodes) (status s e.node) e.by e.deed
        (content s e.node) may (old_holds e.node there) new written)

    other_holds : (k : ℕ) → k < length s.nodes → e.node ≢ k → HoldsAfter k
    other_holds k lt other =
        by_parts k (status s k) (content s k) (status-other s e k lt other)
        (content-other s e k lt other) (old_holds k lt)

    born_holds : (i : ℕ) → i < length (kids_of e.deed) → HoldsAfter (length s.nodes + i)
    born_holds i lt = let kid = get_some (kids_of e.deed) i lt in
        by_parts (length s.nodes + i) (cond kid.0.is_leaf Leaf Free) (Some kid.0.content)
        (status-kid s e i kid.0 named there kid.1) (content-kid s e i kid.0 named there kid.1)
        (kid_holds lines_before e.by e.node (length s.nodes) i e.deed kid.0 new kid.1)

    holds_after : (k : ℕ) → k < length (with_event s e).nodes → HoldsAfter k
    holds_after k lt = dite (dec_le (length s.nodes) k)
        (λ le. let long : length (with_event s e).nodes ≡ length s.nodes + length
        (kids_of e.deed) = length-noted s e in
        let at : length s.nodes + (k - length s.nodes) ≡ k = omega (arith, le) in
        subst HoldsAfter at (born_holds (k - length s.nodes) (omega (arith, le, lt, long))))
        (λ not_le. let low : k < length s.nodes = lt_of_not-le not_le in
        dite (ℕ_discrete e.node k) (λ is. subst HoldsAfter is named_holds) (other_holds k low))

    pub holds-noted : AllHold rules state_place leaf_place (with_event s e)
    holds-noted k lt =
        subst (λ (lines : List Line). HoldsIn lines (with_event s e) k)
        (sym (lines-noted (cut_in state_place leaf_place) s e counted)) (holds_after k lt)
