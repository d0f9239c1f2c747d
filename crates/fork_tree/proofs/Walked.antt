-- What is written of a story is still a walk that leads to its nodes where one event more is noted.
use Rattle.std.proofs.Common.{◌≡◌, ◌≢◌, ℕ, zero, suc, ◌+◌, ◌-◌, ◌<◌, ◌≤◌, ◌==◌, ◌&&◌, Bool, true, false, cond, eqb, inl, inr, ◌⊎◌, IsTrue, List, [], ◌∷◌, ◌++◌, Option, Some, None, if◌then◌else◌, length, map, set, nat_lt, option_map, option_and_then, refl, sym, ap, subst, ◌∙◌, arith, eq-eqb, ne_eqb}
use mathlib.Core.Logic.{dite}
use native.Mathlib.Decide.{ℕ_discrete}
use Rattle.std.specs.Prelude.{All, slice_get}
use Rattle.std.specs.Global.{Vec}
use Rattle.std.proofs.lemmas.Bool.{cases_lt}
use Rattle.std.proofs.lemmas.Bool.Decides.{nat_tests}
use Rattle.std.proofs.lemmas.List.{length-append, length-map, map-append, map-set}
use Rattle.std.proofs.lemmas.List.Elements.{All-nil, All-cons, All-head, All-tail}
use Rattle.std.proofs.lemmas.Option.{get_or_from_slice_get, slice_get_within, slice_get-map}
use Rattle.tree_core.specs.declared.cause.Cause.{Cause}
use Rattle.tree_core.specs.declared.choice.Choice.{Choice}
use Rattle.tree_core.specs.declared.event.Event.{Event}
use Rattle.tree_core.specs.declared.event.Deed.{Deed}
use Rattle.tree_core.specs.declared.event.Deed.TheVariants.{Claim, Split, Finish, Cut, Release}
use Rattle.tree_core.specs.declared.event.Kid.{Kid}
use Rattle.tree_core.specs.declared.node.Status.{Status}
use Rattle.tree_core.specs.declared.node.Status.TheVariants.{Free, Held, Parted, Leaf}
use Rattle.tree_core.specs.Replays.{deed_kept, is_allowed, may_do, kept, kids_of, with_event, opening}
use Rattle.tree_core.specs.Replays as tree
use Rattle.tree_core.specs.Stories.{Story, at_birth, content, content_after, content_by, last_on, left_by, status}
use Rattle.tree_core.specs.Stories as stories
use Rattle.tree_core.proofs.Guards.{allowed-may}
use Rattle.tree_core.proofs.Standing.{content-kid, content-noted, kid_unnamed, open_content, status-kid, status-noted}
use Rattle.tree_core.proofs.Places.{get_behind}
use Rattle.std.specs.Prelude.{is_some}
use Rattle.tree_core.specs.Orders.{Candidate}
use Rattle.tree_core.specs.declared.order.Order.{Order}
use Rattle.fork_spec.specs.Walks.{Bounds, Line, Standing, candidate, is_by_nodes, is_in_turn, side_births, cut_by, done_on, is_in_form, may_come, root, side_at, walk_step, walk, walk_from}
use Rattle.fork_tree.specs.Candidates.{AreCandidates, IsInTurn}
use Rattle.fork_tree.specs.Written.{AreNodesOf, IsCutOr, IsInForm, IsKidOf, IsWalked, LeadsTo, StandsAs, cut_where, lines_from, lines_of, nodes_after, side_of_kid, written_now}
use Rattle.fork_tree.proofs.Changing.{changed, get_new, get_other, get_same, length-changed}
use Rattle.fork_tree.proofs.Candidates.{turn_line}
use Rattle.fork_tree.proofs.Lines.{as-many-lines, counted-noted, line_now, lines-noted, written-noted}
use Rattle.fork_spec.proofs.Walking.{walk_goes_on}

both : (a b : Bool) → a ≡ true → b ≡ true → (a && b) ≡ true
both true b ha hb = hb
both false b ha hb = ha

below : (a b : ℕ) → a < b → nat_lt a b ≡ true
below a b lt = grind (arith, nat_tests)

one_more : (bounds : Bounds) (lines : List Line) (e : Line) (nodes next : List Standing) → walk bounds lines ≡ Some nodes → walk_step bounds (length lines) nodes e ≡ Some next
    → walk bounds (lines ++ e ∷ []) ≡ Some next
unfolding walk_from
one_more bounds lines e nodes next walked stepped =
    walk_goes_on bounds 0 (root ∷ []) lines (e ∷ [])
    ∙ ap (λ n. option_and_then (λ reached. walk_from bounds n reached (e ∷ [])) (walk bounds lines)) none
    ∙ ap (option_and_then (λ reached. walk_from bounds (length lines) reached (e ∷ []))) walked
    ∙ ap (option_and_then (λ reached. walk_from bounds (length lines + 1) reached [])) stepped
  where
    none : 0 + length lines ≡ length lines
    none = omega arith

stepped : (bounds : Bounds) (events : ℕ) (nodes : List Standing) (e : Line) (node : Standing) → slice_get nodes e.node ≡ Some node → may_come bounds events nodes e node ≡ true
    → walk_step bounds events nodes e ≡ Some (done_on nodes e node)
unfolding walk_step
stepped bounds events nodes e node at may =
    ap (option_and_then (λ n. if may_come bounds events nodes e n then Some (done_on nodes e n) else None)) at
    ∙ ap (λ (b : Bool). if b then Some (done_on nodes e node) else None) may

-- all of a list, of its front and of what comes behind
all_front : {X : Type 0} (P : X → Type 0) (xs ys : List X) → All P (xs ++ ys) → All P xs
all_front P [] ys all = All-nil P
all_front P (x ∷ xs) ys all = All-cons P x xs (All-head P x (xs ++ ys) all) (all_front P xs ys (All-tail P x (xs ++ ys) all))

all_back : {X : Type 0} (P : X → Type 0) (xs ys : List X) → All P (xs ++ ys) → All P ys
all_back P [] ys all = all
all_back P (x ∷ xs) ys all = all_back P xs ys (All-tail P x (xs ++ ys) all)

-- what a Some holds
held : {X : Type 0} → X → Option X → X
held x None = x
held x (Some y) = y

pub same_held : {X : Type 0} (x y : X) → Some x ≡ Some y → x ≡ y
unfolding held
same_held x y e = ap (held x) e

pub none_is_some : {X : Type 0} (x : X) → None ≡ Some x → ⊥
none_is_some x e = cc

module _ {R : Type 0} where
  no_kid : (s : Story R) (e : Event R (Vec (Kid R))) (i : ℕ) → slice_get (kids_of e.deed) i ≡ None → slice_get (with_event s e).nodes (length s.nodes + i) ≡ None
  no_kid s e i none = get_behind s.nodes (tree.births e.node e.deed) i ∙ slice_get-map (tree.node_of e.node) (kids_of e.deed) i ∙ ap (option_map (tree.node_of e.node)) none

  -- beyond the kids there is nothing
  pub no_kid_content : (s : Story R) (e : Event R (Vec (Kid R))) (i : ℕ) → All (λ (x : Event R ℕ). x.node < length s.nodes) s.events → e.node < length s.nodes
      → slice_get (kids_of e.deed) i ≡ None → content (with_event s e) (length s.nodes + i) ≡ None
  no_kid_content s e i named there none = λ k. content_after (option_map (λ n. n.content) (no_kid s e i none k)) (kid_unnamed s e i named there k)

module _ {R : Type 0} (choices : R → List Choice) (cut : R → Option Cause) (targets most : ℕ) (order : Order) where
  -- how a node of the story stands that has this content
  abbrev stands : Story R → ℕ → R → Standing
  stands s m r = record { choices = choices r; status = status s m; cut = cut_where cut (status s m) r }

  -- its guards are the same
  guards_line : (n : ℕ) (st : Status) (by first : ℕ) (d : Deed R (Vec (Kid R))) → may_do is_by_nodes most n st by (written_now cut first d) ≡ may_do (λ leaf. is_by_nodes (cut leaf)) most n st by d
  guards_line n st by first Claim = refl
  guards_line n st by first (Split kids) = refl
  guards_line n st by first (Finish leaf) = refl
  guards_line n st by first (Cut leaf) = refl
  guards_line n st by first Release = refl

  form_line : (first : ℕ) (r : R) (d : Deed R (Vec (Kid R))) → IsInForm choices cut targets r d → is_in_form targets first (written_now cut first d) ≡ true
  form_line first r Claim form = refl
  form_line first r (Split kids) (sides, each) = both (first == first) _ (eq-eqb first first refl) sides
  form_line first r (Finish leaf) (same, none) = ap (λ c. is_in_form targets first (Finish c)) none
  form_line first r (Cut leaf) (same, ends) = ends
  form_line first r Release form = refl

  abbrev standing : List Choice → Status → Option Cause → Standing
  standing c st why = record { choices = c; status = st; cut = why }

  -- the node of the event stands as the deed leaves it
  left_line : (by first : ℕ) (r q : R) (d : Deed R (Vec (Kid R))) → IsInForm choices cut targets r d → content_by (Some r) (deed_kept d) ≡ Some q →
      standing (choices r) (left_by by (written_now cut first d)) (cut_by (written_now cut first d))
      ≡ standing (choices q) (left_by by (deed_kept d)) (cut_where cut (left_by by (deed_kept d)) q)
  left_line by first r q Claim form e = ap (λ x. standing (choices x) (Held by) (None)) (same_held r q e)
  left_line by first r q (Split kids) form e = ap (λ x. standing (choices x) (Parted) (None)) (same_held r q e)
  left_line by first r q (Finish leaf) (same, none) e = ap (λ c. standing (c) (Leaf) (cut leaf)) (sym same) ∙ ap (λ x. standing (choices x) (Leaf) (cut x)) (same_held leaf q e)
  left_line by first r q (Cut leaf) (same, steps) e = ap (λ c. standing (c) (Leaf) (cut leaf)) (sym same) ∙ ap (λ x. standing (choices x) (Leaf) (cut x)) (same_held leaf q e)
  left_line by first r q Release form e = ap (λ x. standing (choices x) (Free) (None)) (same_held r q e)

  -- a kid stands as its side
  kid_status : (b : Bool) (c : Option Cause) → IsCutOr b c → at_birth (is_some (if b then c else None)) ≡ cond b Leaf Free
  kid_status true None marked = absurd marked
  kid_status true (Some c) marked = refl
  kid_status false c marked = refl

  kid_cut : (b : Bool) (k : R) → (if b then cut k else None) ≡ cut_where cut (cond b Leaf Free) k
  kid_cut true k = refl
  kid_cut false k = refl

  kid_side : (r : R) (kid : Kid R) → IsKidOf choices cut r kid → side_at (choices r) (side_of_kid cut kid)
      ≡ record { choices = choices kid.content; status = cond kid.is_leaf Leaf Free; cut = cut_where cut (cond kid.is_leaf Leaf Free) kid.content }
  kid_side r kid is = λ i. record { choices = sym is.leads i; status = kid_status kid.is_leaf (cut kid.content) is.marked i; cut = kid_cut kid.is_leaf kid.content i }

  births_at : (first : ℕ) (r : R) (d : Deed R (Vec (Kid R))) (i : ℕ) (kid : Kid R) → slice_get (kids_of d) i ≡ Some kid → slice_get (side_births (choices r) (written_now cut first d)) i ≡ Some (side_at (choices r) (side_of_kid cut kid))
  births_at first r Claim i kid at = absurd (none_is_some kid at)
  births_at first r (Split kids) i kid at =
      slice_get-map (side_at (choices r)) (map (side_of_kid cut) kids.items) i
      ∙ ap (option_map (side_at (choices r))) (slice_get-map (side_of_kid cut) kids.items i ∙ ap (option_map (side_of_kid cut)) at)
  births_at first r (Finish leaf) i kid at = absurd (none_is_some kid at)
  births_at first r (Cut leaf) i kid at = absurd (none_is_some kid at)
  births_at first r Release i kid at = absurd (none_is_some kid at)

  kid_in_form : (r : R) (d : Deed R (Vec (Kid R))) (i : ℕ) (kid : Kid R) → IsInForm choices cut targets r d → slice_get (kids_of d) i ≡ Some kid → IsKidOf choices cut r kid
  kid_in_form r Claim i kid form at = absurd (none_is_some kid at)
  kid_in_form r (Split kids) i kid (sides, each) at = subst (IsKidOf choices cut r) (get_or_from_slice_get kids.items i kid kid at) (each i kid (slice_get_within kids.items i kid at))
  kid_in_form r (Finish leaf) i kid form at = absurd (none_is_some kid at)
  kid_in_form r (Cut leaf) i kid form at = absurd (none_is_some kid at)
  kid_in_form r Release i kid form at = absurd (none_is_some kid at)

  length-births : (first parent : ℕ) (r : R) (d : Deed R (Vec (Kid R))) → length (side_births (choices r) (written_now cut first d)) ≡ length (tree.births parent d)
  length-births first parent r Claim = refl
  length-births first parent r (Split kids) = length-map (map (side_of_kid cut) kids.items) (side_at (choices r)) ∙ length-map kids.items (side_of_kid cut) ∙ sym (length-map kids.items (tree.node_of parent))
  length-births first parent r (Finish leaf) = refl
  length-births first parent r (Cut leaf) = refl
  length-births first parent r Release = refl

  module _ (s : Story R) (e : Event R (Vec (Kid R))) (r : R) (named : All (λ (x : Event R ℕ). x.node < length s.nodes) s.events) (there : e.node < length s.nodes)
      (is : content s e.node ≡ Some r) (comes : IsTrue (tree.may_come (λ leaf. is_by_nodes (cut leaf)) most s e)) (form : IsInForm choices cut targets r e.deed) where
    -- the guards
    may : IsTrue (is_allowed s e)
    may = allowed-may (λ leaf. is_by_nodes (cut leaf)) most s e comes

    -- the content of its birth, which it has still
    birth : option_map (λ n. n.content) (slice_get s.nodes e.node) ≡ Some r
    birth = sym (open_content (option_map (λ n. n.content) (slice_get s.nodes e.node)) (stories.born_as (slice_get s.nodes e.node)) (last_on e.node s.events) e.by e.deed may) ∙ is

    -- the line of the event, and what it changes
    abbrev line : Line
    line = line_now cut (length s.nodes) e

    abbrev turned : Standing
    turned = record { choices = choices r; status = left_by e.by line.deed; cut = cut_by line.deed }

    abbrev more : List Standing
    more = side_births (choices r) line.deed

    node_itself : (nodes : List Standing) (q : R) → length nodes ≡ length s.nodes → content (with_event s e) e.node ≡ Some q →
        slice_get (changed nodes e.node turned more) e.node ≡ Some (stands (with_event s e) e.node q)
    node_itself nodes q as_many has =
        get_same nodes e.node turned more (subst (λ n. e.node < n) (sym as_many) there)
        ∙ ap Some (left_line e.by (length s.nodes) r q e.deed form content_is ∙ ap (λ st. record { choices = choices q; status = st; cut = cut_where cut st q }) (sym status_is))
      where
        hit : eqb e.node e.node ≡ true
        hit = eq-eqb e.node e.node refl

        status_is : status (with_event s e) e.node ≡ left_by e.by (deed_kept e.deed)
        status_is = status-noted s e e.node there ∙ ap (λ b. cond b (left_by e.by (deed_kept e.deed)) (status s e.node)) hit

        content_is : content_by (Some r) (deed_kept e.deed) ≡ Some q
        content_is = ap (λ o. content_by o (deed_kept e.deed)) (sym birth)
            ∙ sym (content-noted s e e.node there ∙ ap (λ b. cond b (content_by (option_map (λ n. n.content) (slice_get s.nodes e.node)) (deed_kept e.deed)) (content s e.node)) hit)
            ∙ has

    other_node : (nodes : List Standing) (m : ℕ) (q : R) → length nodes ≡ length s.nodes → ((q : R) → content s m ≡ Some q → slice_get nodes m ≡ Some (stands s m q)) → m < length s.nodes → e.node ≢ m → content (with_event s e) m ≡ Some q →
        slice_get (changed nodes e.node turned more) m ≡ Some (stands (with_event s e) m q)
    other_node nodes m q as_many old lt ne has =
        get_other nodes e.node turned more m (subst (λ n. e.node < n) (sym as_many) there) (subst (λ n. m < n) (sym as_many) lt) ne
        ∙ old q (sym (content-noted s e m lt ∙ ap (λ b. cond b (content_by (option_map (λ n. n.content) (slice_get s.nodes m)) (deed_kept e.deed)) (content s m)) miss) ∙ has)
        ∙ ap (λ st. Some (record { choices = choices q; status = st; cut = cut_where cut st q })) (sym (status-noted s e m lt ∙ ap (λ b. cond b (left_by e.by (deed_kept e.deed)) (status s m)) miss))
      where
        miss : eqb e.node m ≡ false
        miss = ne_eqb e.node m ne

    kid_node : (nodes : List Standing) (i : ℕ) (q : R) → length nodes ≡ length s.nodes → content (with_event s e) (length s.nodes + i) ≡ Some q →
        (o : Option (Kid R)) → slice_get (kids_of e.deed) i ≡ o → slice_get (changed nodes e.node turned more) (length s.nodes + i) ≡ Some (stands (with_event s e) (length s.nodes + i) q)
    kid_node nodes i q as_many has None at =
        absurd (none_is_some q (sym (no_kid_content s e i named there at) ∙ has))
    kid_node nodes i q as_many has (Some kid) at =
        ap (λ n. slice_get (changed nodes e.node turned more) (n + i)) (sym as_many)
        ∙ get_new nodes e.node turned more i
        ∙ births_at (length s.nodes) r e.deed i kid at
        ∙ ap Some (kid_side r kid (kid_in_form r e.deed i kid form at) ∙ (λ k. record { choices = choices (same k); status = sym status_is k; cut = cut_where cut (sym status_is k) (same k) }))
      where
        same : kid.content ≡ q
        same = same_held kid.content q (sym (content-kid s e i kid named there at) ∙ has)

        status_is : status (with_event s e) (length s.nodes + i) ≡ cond kid.is_leaf Leaf Free
        status_is = status-kid s e i kid named there at

    abbrev Stands : List Standing → R → ℕ → Type 0
    Stands nodes q k = content (with_event s e) k ≡ Some q → slice_get (changed nodes e.node turned more) k ≡ Some (stands (with_event s e) k q)

    each_node : (nodes : List Standing) → length nodes ≡ length s.nodes → ((m : ℕ) (q : R) → content s m ≡ Some q → slice_get nodes m ≡ Some (stands s m q)) → (m : ℕ) (q : R) → content (with_event s e) m ≡ Some q →
        slice_get (changed nodes e.node turned more) m ≡ Some (stands (with_event s e) m q)
    each_node nodes as_many old m q has = by_place (cases_lt m (length s.nodes))
      where
        by_place : (m < length s.nodes) ⊎ (length s.nodes ≤ m) → slice_get (changed nodes e.node turned more) m ≡ Some (stands (with_event s e) m q)
        by_place (inl lt) = dite (ℕ_discrete e.node m)
            (λ hit. subst (Stands nodes q) hit (node_itself nodes q as_many) has)
            (λ miss. other_node nodes m q as_many (old m) lt miss has)
        by_place (inr ge) = let i : ℕ = m - length s.nodes in let sum : length s.nodes + i ≡ m = omega (arith, ge) in
            subst (Stands nodes q) sum (λ h. kid_node nodes i q as_many h (slice_get (kids_of e.deed) i) refl) has

    abbrev old_each : (nodes : List Standing) → AreNodesOf choices cut s nodes → (m : ℕ) (q : R) → content s m ≡ Some q → slice_get nodes m ≡ Some (stands s m q)
    old_each nodes same m q has = let found : (standing : Standing) × (slice_get nodes m ≡ Some standing) × StandsAs choices cut s m q standing = same.each m q has in
        found.1 ∙ ap Some found.2

    -- the nodes behind the event
    pub nodes-noted : (nodes : List Standing) → AreNodesOf choices cut s nodes → AreNodesOf choices cut (with_event s e) (changed nodes e.node turned more)
    nodes-noted nodes same = record {
      as_many = length-changed nodes e.node turned more ∙ sum (length nodes) (length s.nodes) (length more) (length (tree.births e.node e.deed)) same.as_many (length-births (length s.nodes) e.node r e.deed) ∙ sym (length-append s.nodes (tree.births e.node e.deed));
      each = λ m q has. (stands (with_event s e) m q, each_node nodes same.as_many (old_each nodes same) m q has, refl);
    }
      where
        sum : (a b c d : ℕ) → a ≡ b → c ≡ d → a + c ≡ b + d
        sum a b c d p q = λ i. p i + q i

    -- and as an order of claims sees them
    pub candidates-noted : (all : List Candidate) → AreCandidates choices cut s all
        → AreCandidates choices cut (with_event s e) (changed all e.node (candidate turned) (map candidate more))
    candidates-noted all are = record {
      nodes = changed are.nodes e.node turned more;
      same = nodes-noted are.nodes are.same;
      seen = ap (λ cs. changed cs e.node (candidate turned) (map candidate more)) are.seen
          ∙ sym (map-append candidate (set are.nodes e.node turned) more
          ∙ ap (λ cs. cs ++ map candidate more) (map-set candidate are.nodes e.node turned));
    }

    abbrev bounds : ℕ → Bounds
    bounds workers = record { workers = workers; targets = targets; nodes = most; order = order }

    leads_on : (workers : ℕ) → e.by < workers → IsInTurn choices cut order s e.node e.deed → nodes_after 1 s.events ≡ length s.nodes → LeadsTo choices cut (bounds workers) s → LeadsTo choices cut (bounds workers) (with_event s e)
    leads_on workers by turn counted old = record {
      nodes = changed old.nodes e.node turned more;
      walked = ap (walk (bounds workers)) (lines-noted cut s e counted)
          ∙ one_more (bounds workers) (lines_of cut s) line old.nodes (done_on old.nodes line (stands s e.node r)) old.walked (stepped (bounds workers) (length (lines_of cut s)) old.nodes line (stands s e.node r) at came);
      same = nodes-noted old.nodes old.same;
    }
      where
        at : slice_get old.nodes e.node ≡ Some (stands s e.node r)
        at = old_each old.nodes old.same e.node r is

        in_turn : ℕ → Bool
        in_turn events = is_in_turn order events (map candidate old.nodes) e.node line.deed

        came : may_come (bounds workers) (length (lines_of cut s)) old.nodes line (stands s e.node r) ≡ true
        came = both (nat_lt e.by workers && may_do is_by_nodes most (length old.nodes) (status s e.node) e.by line.deed && in_turn (length (lines_of cut s))) _
            (both (nat_lt e.by workers && may_do is_by_nodes most (length old.nodes) (status s e.node) e.by line.deed) _
            (both (nat_lt e.by workers) _ (below e.by workers by)
            (ap (λ n. may_do is_by_nodes most n (status s e.node) e.by line.deed) old.same.as_many ∙ (guards_line (length s.nodes) (status s e.node) e.by (length s.nodes) e.deed ∙ comes)))
            (ap in_turn (as-many-lines cut s) ∙ turn_line choices cut s order (length s.nodes) e.node e.deed old.nodes old.same turn))
            (ap (λ n. is_in_form targets n line.deed) old.same.as_many ∙ form_line (length s.nodes) r e.deed form)

    pub walked-noted : IsInTurn choices cut order s e.node e.deed → IsWalked choices cut targets most order s → IsWalked choices cut targets most order (with_event s e)
    walked-noted turn old = record {
      counted = counted-noted cut s e old.counted;
      written = written-noted cut s e old.counted old.written;
      leads = λ workers all. leads_on workers
          (All-head (λ (x : Event R ℕ). x.by < workers) (kept e) [] (all_back (λ (x : Event R ℕ). x.by < workers) s.events (kept e ∷ []) all))
          turn old.counted (old.leads workers (all_front (λ (x : Event R ℕ). x.by < workers) s.events (kept e ∷ []) all));
    }

  -- the root stands free
  pub nodes-opening : (root_content : R) → choices root_content ≡ [] → AreNodesOf choices cut (opening root_content false) (root ∷ [])
  nodes-opening root_content none = record { as_many = refl; each = λ m q has. (root, first m q has, of_root m q has) }
    where
      first : (m : ℕ) (q : R) → content (opening root_content false) m ≡ Some q → slice_get (root ∷ []) m ≡ Some root
      first zero q has = refl
      first (suc m) q has = absurd (none_is_some q has)

      of_root : (m : ℕ) (q : R) → content (opening root_content false) m ≡ Some q → StandsAs choices cut (opening root_content false) m q root
      of_root zero q has = ap (λ c. record { choices = c; status = Free; cut = None }) (sym none ∙ ap choices (same_held root_content q has))
      of_root (suc m) q has = absurd (none_is_some q has)

  -- the root alone
  pub walked-opening : (root_content : R) → choices root_content ≡ [] → IsWalked choices cut targets most order (opening root_content false)
  unfolding walk_from lines_from nodes_after
  walked-opening root_content none = record {
    counted = refl;
    written = refl;
    leads = λ workers all. record {
      nodes = root ∷ [];
      walked = refl;
      same = nodes-opening root_content none;
    };
  }
