-- What is written of a story where one event more is noted.
use Rattle.std.proofs.Common.{◌≡◌, ℕ, zero, suc, ◌+◌, ◌≤◌, List, [], ◌∷◌, ◌++◌, length, map, take, drop, refl, sym, ap, ◌∙◌, arith}
use Rattle.std.specs.Prelude.{Option}
use Rattle.std.specs.Global.{Vec}
use Rattle.std.proofs.lemmas.List.{length-append, length-map}
use Rattle.std.proofs.lemmas.Simd.{map-map}
use Rattle.tree_core.specs.declared.cause.Cause.{Cause}
use Rattle.tree_core.specs.declared.event.Event.{Event}
use Rattle.tree_core.specs.declared.event.Deed.{Deed}
use Rattle.tree_core.specs.declared.event.Deed.TheVariants.{Claim, Split, Finish, Cut, Release}
use Rattle.tree_core.specs.declared.event.Kid.{Kid}
use Rattle.tree_core.specs.Nodes.{Node}
use Rattle.tree_core.specs.Stories.{Story}
use Rattle.tree_core.specs.Replays.{births, deed_kept, kept, with_event, node_of}
use Rattle.fork_spec.specs.Histories.{node_count, sides_made}
use Rattle.fork_spec.specs.Walks.{Line}
use Rattle.fork_tree.specs.Written.{born_by, lines_from, lines_of, nodes_after, side_born, side_of_kid, written_deed, written_now}

-- an event as it is written where there are so many nodes so far
abbrev pub line_now : {R : Type 0} → (cut : R → Option Cause) → (first : ℕ) → Event R (Vec (Kid R)) → Line
line_now cut first e = record { by = e.by; node = e.node; deed = written_now cut first e.deed }

-- the first of a longer list are those of the list, as far as it goes
take_before : {X : Type 0} (xs more : List X) (count : ℕ) → count ≤ length xs → take count (xs ++ more) ≡ take count xs
take_before xs more zero le = refl
take_before [] more (suc count) le = absurd (omega arith)
take_before (x ∷ xs) more (suc count) le = ap (λ ys. x ∷ ys) (take_before xs more count (omega arith))

part_before : {X : Type 0} (xs more : List X) (first count : ℕ) → first + count ≤ length xs → take count (drop first (xs ++ more)) ≡ take count (drop first xs)
part_before xs more zero count le = take_before xs more count (omega arith)
part_before [] more (suc first) count le = absurd (omega arith)
part_before (x ∷ xs) more (suc first) count le = part_before xs more first count (omega arith)

take_all : {X : Type 0} (xs : List X) → take (length xs) xs ≡ xs
take_all [] = refl
take_all (x ∷ xs) = ap (λ ys. x ∷ ys) (take_all xs)

drop_all : {X : Type 0} (xs more : List X) → drop (length xs) (xs ++ more) ≡ more
drop_all [] more = refl
drop_all (x ∷ xs) more = drop_all xs more

part_behind : {X : Type 0} (xs more : List X) → take (length more) (drop (length xs) (xs ++ more)) ≡ more
part_behind xs more = ap (take (length more)) (drop_all xs more) ∙ take_all more

module _ {R : Type 0} where
  pub le-after : (n : ℕ) (es : List (Event R ℕ)) → n ≤ nodes_after n es
  unfolding nodes_after
  le-after n [] = omega arith
  le-after n (e ∷ es) = let more : n + born_by e.deed ≤ nodes_after (n + born_by e.deed) es = le-after (n + born_by e.deed) es in omega (arith, more)

  pub after-push : (n : ℕ) (es : List (Event R ℕ)) (e : Event R ℕ) → nodes_after n (es ++ e ∷ []) ≡ nodes_after n es + born_by e.deed
  unfolding nodes_after
  after-push n [] e = refl
  after-push n (x ∷ es) e = after-push (n + born_by x.deed) es e

module _ {R : Type 0} (cut : R → Option Cause) where
  written-longer : (nodes more : List (Node R)) (first : ℕ) (d : Deed R ℕ) → first + born_by d ≤ length nodes → written_deed cut (nodes ++ more) first d ≡ written_deed cut nodes first d
  written-longer nodes more first Claim le = refl
  written-longer nodes more first (Split count) le = ap (λ kids. Split (record { first = first; sides = map (side_born cut) kids })) (part_before nodes more first count le)
  written-longer nodes more first (Finish leaf) le = refl
  written-longer nodes more first (Cut leaf) le = refl
  written-longer nodes more first Release le = refl

  abbrev line_at : List (Node R) → ℕ → Event R ℕ → Line
  line_at nodes first e = record { by = e.by; node = e.node; deed = written_deed cut nodes first e.deed }

  lines-longer : (nodes more : List (Node R)) (first : ℕ) (es : List (Event R ℕ)) (e : Event R ℕ) → nodes_after first es ≤ length nodes →
      lines_from cut (nodes ++ more) first (es ++ e ∷ []) ≡ lines_from cut nodes first es ++ line_at (nodes ++ more) (nodes_after first es) e ∷ []
  unfolding lines_from nodes_after
  lines-longer nodes more first [] e le = refl
  lines-longer nodes more first (x ∷ es) e le =
      let up : first + born_by x.deed ≤ nodes_after (first + born_by x.deed) es = le-after (first + born_by x.deed) es in
      ap (λ d. record { by = x.by; node = x.node; deed = d } ∷ lines_from cut (nodes ++ more) (first + born_by x.deed) (es ++ e ∷ []))
      (written-longer nodes more first x.deed (omega (arith, up, le)))
      ∙ ap (λ ls. line_at nodes first x ∷ ls) (lines-longer nodes more (first + born_by x.deed) es e le)

  -- kids as they become nodes
  kids_born : (nodes : List (Node R)) (parent : ℕ) (kids : List (Kid R)) →
      map (side_born cut) (take (length kids) (drop (length nodes) (nodes ++ map (node_of parent) kids))) ≡ map (side_of_kid cut) kids
  kids_born nodes parent kids =
      ap (λ n. map (side_born cut) (take n (drop (length nodes) (nodes ++ map (node_of parent) kids)))) (sym (length-map kids (node_of parent)))
      ∙ ap (map (side_born cut)) (part_behind nodes (map (node_of parent) kids))
      ∙ map-map (side_born cut) (node_of parent) kids

  written_kept : (nodes : List (Node R)) (parent : ℕ) (d : Deed R (Vec (Kid R))) → written_deed cut (nodes ++ births parent d) (length nodes) (deed_kept d) ≡ written_now cut (length nodes) d
  written_kept nodes parent Claim = refl
  written_kept nodes parent (Split kids) = ap (λ sides. Split (record { first = length nodes; sides = sides })) (kids_born nodes parent kids.items)
  written_kept nodes parent (Finish leaf) = refl
  written_kept nodes parent (Cut leaf) = refl
  written_kept nodes parent Release = refl

  -- the line of the event comes behind those that were written
  pub lines-noted : (s : Story R) (e : Event R (Vec (Kid R))) → nodes_after 1 s.events ≡ length s.nodes →
      lines_of cut (with_event s e) ≡ lines_of cut s ++ line_now cut (length s.nodes) e ∷ []
  lines-noted s e counted =
      lines-longer s.nodes (births e.node e.deed) 1 s.events (kept e) (omega (arith, counted))
      ∙ ap (λ n. lines_of cut s ++ line_at (s.nodes ++ births e.node e.deed) n (kept e) ∷ []) counted
      ∙ ap (λ d. lines_of cut s ++ record { by = e.by; node = e.node; deed = d } ∷ []) (written_kept s.nodes e.node e.deed)

  born_kept : (parent : ℕ) (d : Deed R (Vec (Kid R))) → born_by (deed_kept d) ≡ length (births parent d)
  born_kept parent Claim = refl
  born_kept parent (Split kids) = sym (length-map kids.items (node_of parent))
  born_kept parent (Finish leaf) = refl
  born_kept parent (Cut leaf) = refl
  born_kept parent Release = refl

  pub counted-noted : (s : Story R) (e : Event R (Vec (Kid R))) → nodes_after 1 s.events ≡ length s.nodes → nodes_after 1 (with_event s e).events ≡ length (with_event s e).nodes
  counted-noted s e counted =
      after-push 1 s.events (kept e)
      ∙ ap (λ n. n + born_by (deed_kept e.deed)) counted
      ∙ ap (λ n. length s.nodes + n) (born_kept e.node e.deed)
      ∙ sym (length-append s.nodes (births e.node e.deed))

  -- each event is one line
  as-many : (nodes : List (Node R)) (first : ℕ) (es : List (Event R ℕ)) → length (lines_from cut nodes first es) ≡ length es
  unfolding lines_from
  as-many nodes first [] = refl
  as-many nodes first (e ∷ es) = ap suc (as-many nodes (first + born_by e.deed) es)

  pub as-many-lines : (s : Story R) → length (lines_of cut s) ≡ length s.events
  as-many-lines s = as-many s.nodes 1 s.events

  -- as many nodes are made as are written
  count-push : (lines : List Line) (line : Line) → node_count (lines ++ line ∷ []) ≡ node_count lines + sides_made line.deed
  count-push [] line = swap (sides_made line.deed)
    where
      swap : (n : ℕ) → n + 1 ≡ 1 + n
      swap n = omega arith
  count-push (l ∷ lines) line = ap (λ n. sides_made l.deed + n) (count-push lines line) ∙ shift (sides_made l.deed) (node_count lines) (sides_made line.deed)
    where
      shift : (a b c : ℕ) → a + (b + c) ≡ a + b + c
      shift a b c = omega arith

  sides_born : (parent first : ℕ) (d : Deed R (Vec (Kid R))) → sides_made (written_now cut first d) ≡ length (births parent d)
  sides_born parent first Claim = refl
  sides_born parent first (Split kids) = length-map kids.items (side_of_kid cut) ∙ sym (length-map kids.items (node_of parent))
  sides_born parent first (Finish leaf) = refl
  sides_born parent first (Cut leaf) = refl
  sides_born parent first Release = refl

  pub written-noted : (s : Story R) (e : Event R (Vec (Kid R))) → nodes_after 1 s.events ≡ length s.nodes → node_count (lines_of cut s) ≡ length s.nodes
      → node_count (lines_of cut (with_event s e)) ≡ length (with_event s e).nodes
  written-noted s e counted written =
      ap node_count (lines-noted s e counted)
      ∙ count-push (lines_of cut s) (line_now cut (length s.nodes) e)
      ∙ (λ k. written k + sides_born e.node (length s.nodes) e.deed k)
      ∙ sym (length-append s.nodes (births e.node e.deed))
