use Rattle.std.proofs.Common.{◌≡◌, ℕ, ◌+◌, ◌<◌, ◌≤◌, List, [], ◌∷◌, ◌++◌, Option, ap, append_assoc, add-one, arith, codes, decimal, drop, get_or, length, refl, sym}
use Rattle.std.proofs.Math.Seq.{drop-cons}
use Rattle.std.proofs.lemmas.List.{append-nil, drop_all}
use Rattle.tree_core.specs.declared.cause.Cause.{Cause}
use Rattle.tree_core.specs.declared.event.Event.{Event}
use Rattle.tree_core.specs.Nodes.{Node}
use Rattle.fork_spec.specs.Walks.{Side}
use Rattle.fork_tree.specs.Written.{born_by, lines_from, nodes_after, written_deed}
use Rattle.spent_text.specs.Sides.{sides_text}
use Rattle.report_text.specs.Events.{actors_text, cut_text, deed_text, events_text}

three_words : (w s a b e : List ℕ) → w ++ (s ++ (a ++ (s ++ (b ++ e))))
    ≡ w ++ s ++ (a ++ s ++ b) ++ e
three_words w s a b e = simp append_assoc

four_words : (w s a b c e : List ℕ) → w ++ (a ++ (s ++ (b ++ (s ++ (c ++ e)))))
    ≡ w ++ (a ++ s ++ b) ++ s ++ c ++ e
four_words w s a b c e = simp append_assoc

five_words : (w s a b c d e : List ℕ) → w ++ (a ++ (s ++ (b ++ (s ++ (c ++ (d ++ e))))))
    ≡ w ++ (a ++ s ++ b) ++ s ++ c ++ d ++ e
five_words w s a b c d e = simp append_assoc

pub plain_text : (word a b : List ℕ) (by node : ℕ) → a ≡ decimal by → b ≡ decimal node →
    word ++ (codes " " ++ (a ++ (codes " " ++ (b ++ codes "\n"))))
    ≡ word ++ codes " " ++ actors_text by node ++ codes "\n"
plain_text word a b by node ea eb =
    rw (ea, eb) (three_words word (codes " ") (decimal by) (decimal node) (codes "\n"))

pub text_of_cut : (a b c : List ℕ) (by node : ℕ) (cut : Option Cause) → a ≡ decimal by →
    b ≡ decimal node → c ≡ cut_text cut →
    codes "cut " ++ (a ++ (codes " " ++ (b ++ (codes " " ++ (c ++ codes "\n")))))
    ≡ codes "cut " ++ actors_text by node ++ codes " " ++ cut_text cut ++ codes "\n"
text_of_cut a b c by node cut ea eb ec =
    rw (ea, eb, ec) (four_words (codes "cut ") (codes " ") (decimal by) (decimal node) (cut_text cut) (codes "\n"))

pub text_of_split : (a b c d : List ℕ) (by node first : ℕ) (sides : List Side) → a ≡ decimal by →
    b ≡ decimal node → c ≡ decimal first → d ≡ sides_text sides →
    codes "split " ++ (a ++ (codes " " ++ (b ++ (codes " " ++ (c ++ (d ++ codes "\n"))))))
    ≡ codes "split " ++ actors_text by node ++ codes " " ++ decimal first ++ sides_text sides
    ++ codes "\n"
text_of_split a b c d by node first sides ea eb ec ed =
    rw (ea, eb, ec, ed) (five_words (codes "split ") (codes " ") (decimal by) (decimal node) (decimal first) (sides_text sides) (codes "\n"))

module _ {R : Type 0} (cut : R → Option Cause) (nodes : List (Node R)) where
  -- events make no node fewer
  pub not_before : (first : ℕ) (es : List (Event R ℕ)) → first ≤ nodes_after first es
  unfolding nodes_after
  not_before first [] = omega arith
  not_before first (e ∷ es) = omega (arith, not_before (first + born_by e.deed) es)

  -- the nodes that are made after one event more
  pub nodes_next : (first i : ℕ) (es : List (Event R ℕ)) (d : Event R ℕ) → i < length es →
      nodes_after first (drop i es)
      ≡ nodes_after (first + born_by (get_or es i d).deed) (drop (i + 1) es)
  unfolding nodes_after
  nodes_next first i es d h = rw (add-one, drop-cons es i d) refl

  -- the nodes of the next event are among them
  pub fits_in : (first i : ℕ) (es : List (Event R ℕ)) (d : Event R ℕ) (all : ℕ) → i < length es →
      d ≡ get_or es i d → nodes_after first (drop i es) ≡ all → first + born_by d.deed ≤ all
  fits_in first i es d all h is counted =
      let least : first + born_by (get_or es i d).deed ≤ nodes_after (first + born_by (get_or es i d).deed) (drop (i + 1) es) = not_before (first + born_by (get_or es i d).deed) (drop (i + 1) es) in
      omega (arith, least, nodes_next first i es d h, counted, ap (λ (e : Event R ℕ). born_by e.deed) is)

  -- one event more is written
  pub events_next : (first i : ℕ) (es : List (Event R ℕ)) (d : Event R ℕ) (text new : List ℕ) →
      i < length es →
      new ≡ text
      ++ deed_text (get_or es i d).by (get_or es i d).node (written_deed cut nodes first (get_or es i d).deed) →
      new ++ events_text (lines_from cut nodes (first + born_by (get_or es i d).deed) (drop (i + 1) es)) ≡ text ++ events_text (lines_from cut nodes first (drop i es))
  unfolding lines_from events_text
  events_next first i es d text new h e = rw (e, add-one, drop-cons es i d) (simp append_assoc)

  -- nothing is left to be written
  pub events_end : (first i : ℕ) (es : List (Event R ℕ)) (text : List ℕ) → length es ≤ i →
      text ≡ text ++ events_text (lines_from cut nodes first (drop i es))
  unfolding lines_from events_text
  events_end first i es text h = rw (drop_all i es h) (sym (append-nil text))
