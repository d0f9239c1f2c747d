use Rattle.std.proofs.Common.{◌≡◌, ◌∙◌, ℕ, List, [], ◌∷◌, ◌++◌, ap, append_assoc, codes, decimal, refl, sym}
use Rattle.std.proofs.lemmas.List.{append-nil}
use Rattle.std.proofs.lemmas.Grind.{flat_map-append}
use Rattle.rv_decode.specs.declared.ends.PathStep.{PathStep}
use Rattle.tree_core.specs.declared.choice.Choice.{Choice}
use Rattle.fork_spec.specs.declared.end.LeafEnd.{LeafEnd}
use Rattle.smt_text.specs.LeafLines.{counts_heading, runs_heading}
use Rattle.smt_text.specs.Lines.{LeafLine, BaseLine, CheckLine, ExitLine, LogicLine, line_text, lines_text}
use Rattle.smt_text.specs.Ends.{end_name, kind_name}
use Rattle.text_parts.specs.Names.{choices_text, path_text}

lines_append : (lines others : List LeafLine) → lines_text (lines ++ others)
    ≡ lines_text lines ++ lines_text others
unfolding lines_text
lines_append lines others = flat_map-append line_text lines others

three_runs : (x y z : List LeafLine) → lines_text (x ++ y ++ z)
    ≡ lines_text x ++ lines_text y ++ lines_text z
three_runs x y z = simp (lines_append, append_assoc)

five_runs : (v w x y z : List LeafLine) → lines_text (v ++ w ++ x ++ y ++ z)
    ≡ lines_text v ++ lines_text w ++ lines_text x ++ lines_text y ++ lines_text z
five_runs v w x y z = simp (lines_append, append_assoc)

-- The same pieces, by line: `n` ends a line, and `d` one that has a dot before its end.
six_lines : (old f n d p1 p2 p3 p4 p5 a b c s e : List ℕ) →
    old ++ (f ++ p1) ++ a ++ (n ++ p2) ++ b ++ (d ++ p3) ++ c ++ (d ++ p4) ++ s ++ (n ++ p5) ++ e ++ n
    ≡ old ++ (f ++ ((p1 ++ a ++ n) ++ ((p2 ++ b ++ d) ++ ((p3 ++ c ++ d) ++ ((p4 ++ s ++ n) ++ ((p5 ++ e ++ n) ++ []))))))
six_lines old f n d p1 p2 p3 p4 p5 a b c s e = simp (append_assoc, append-nil)

three_lines : (old n p1 p2 p3 a b c : List ℕ) →
    old ++ p1 ++ a ++ (n ++ p2) ++ b ++ (n ++ p3) ++ c ++ n
    ≡ old ++ ((p1 ++ a ++ n) ++ ((p2 ++ b ++ n) ++ ((p3 ++ c ++ n) ++ [])))
three_lines old n p1 p2 p3 a b c = simp (append_assoc, append-nil)

two_heads : (old l m a b : List ℕ) → old ++ l ++ a ++ m ++ b ≡ old ++ ((l ++ a) ++ (m ++ b))
two_heads old l m a b = simp append_assoc

three_behind : (old a b c : List ℕ) → old ++ a ++ b ++ c ≡ old ++ (a ++ b ++ c)
three_behind old a b c = simp append_assoc

-- the first six lines behind a text, piece by piece
pub runs_text : (choices : List Choice) (path : List PathStep) (steps : ℕ) (end : LeafEnd) (old kind word a b c d e f g h i : List ℕ) →
    kind ≡ kind_name end → word ≡ end_name end →
    a ≡ old ++ codes "; rvklee leaf 1\n; kind " → b ≡ a ++ kind →
    c ≡ b ++ codes "\n; choices " → d ≡ c ++ choices_text choices →
    e ≡ d ++ codes ".\n; path " → f ≡ e ++ path_text path →
    g ≡ f ++ codes ".\n; steps " ++ decimal steps →
    h ≡ g ++ codes "\n; end " → i ≡ h ++ word →
    i ++ codes "\n" ≡ old ++ lines_text (runs_heading choices path steps end)
unfolding lines_text
runs_text choices path steps end old kind word a b c d e f g h i is_kind is_word ea eb ec ed ee ef eg eh ei =
    rw (ei, eh, eg, ef, ee, ed, ec, eb, ea, is_word, is_kind)
    (six_lines old (codes "; rvklee leaf 1\n") (codes "\n") (codes ".\n") (codes "; kind ") (codes "; choices ") (codes "; path ") (codes "; steps ") (codes "; end ")
    (kind_name end) (choices_text choices) (path_text path) (decimal steps) (end_name end))

-- the next three
pub counts_text : (inputs nodes outputs : ℕ) (old a b c : List ℕ) →
    a ≡ old ++ codes "; inputs " ++ decimal inputs →
    b ≡ a ++ codes "\n; nodes " ++ decimal nodes →
    c ≡ b ++ codes "\n; outputs " ++ decimal outputs →
    c ++ codes "\n" ≡ old ++ lines_text (counts_heading inputs nodes outputs)
unfolding lines_text
counts_text inputs nodes outputs old a b c ea eb ec =
    rw (ec, eb, ea) (three_lines old (codes "\n") (codes "; inputs ") (codes "; nodes ") (codes "; outputs ") (decimal inputs) (decimal nodes) (decimal outputs))

-- the terms
pub terms_text : (inputs nodes : List LeafLine) (old a b c : List ℕ) →
    a ≡ old ++ codes "(set-logic QF_ABV)\n" → b ≡ a ++ lines_text inputs →
    c ≡ b ++ codes "(declare-fun base () (Array (_ BitVec 8) (_ BitVec 8)))\n" →
    c ++ lines_text nodes ≡ old ++ lines_text (LogicLine ∷ inputs ++ (BaseLine ∷ nodes))
unfolding lines_text
terms_text inputs nodes old a b c ea eb ec =
    rw (ec, eb, ea)
    (two_heads old (line_text LogicLine) (line_text BaseLine) (lines_text inputs) (lines_text nodes))
    ∙ ap (λ t. old ++ t) (sym (lines_append (LogicLine ∷ inputs) (BaseLine ∷ nodes)))

-- three runs of lines behind a text
pub behind_text : (x y z : List LeafLine) (old a b : List ℕ) → a ≡ old ++ lines_text x →
    b ≡ a ++ lines_text y → b ++ lines_text z ≡ old ++ lines_text (x ++ y ++ z)
behind_text x y z old a b ea eb =
    rw (eb, ea) (three_behind old (lines_text x) (lines_text y) (lines_text z))
    ∙ ap (λ t. old ++ t) (sym (three_runs x y z))

-- the check and the exit
pub check_text : codes "(check-sat)\n(exit)\n" ≡ lines_text (CheckLine ∷ ExitLine ∷ [])
unfolding lines_text
check_text = refl

-- all lines, behind no text
pub whole_text : (runs counts defined asserted : List LeafLine) (none a b c d : List ℕ) →
    none ≡ [] → a ≡ none ++ lines_text runs → b ≡ a ++ lines_text counts →
    c ≡ b ++ lines_text defined → d ≡ c ++ lines_text asserted →
    d ++ codes "(check-sat)\n(exit)\n"
    ≡ lines_text (runs ++ counts ++ defined ++ asserted ++ (CheckLine ∷ ExitLine ∷ []))
unfolding lines_text
whole_text runs counts defined asserted none a b c d en ea eb ec ed =
    rw (ed, ec, eb, ea, en) (sym (five_runs runs counts defined asserted (CheckLine ∷ ExitLine ∷ [])))
