use Rattle.std.proofs.Common.{◌≡◌, ◌∙◌, ◌++◌, ℕ, List, Vec, Global, ap, append_assoc, codes, decimal, sym}
use Rattle.report_text.specs.Spent.{nodes_text}
use Rattle.report_text.proofs.spent.write_nodes.Goals as goal

-- the text, from its number
made_of : (count : ℕ) (a : List ℕ) → a ≡ decimal count → codes "; spent nodes " ++ (a ++ codes "\n") ≡ nodes_text count
unfolding nodes_text
made_of count a is = rw is (sym (append_assoc (codes "; spent nodes ") (decimal count) (codes "\n")))

pub returns : goal.returns
returns c =
    c.from_vec.ensures ∙ ap (λ (v : Vec ℕ Global). v.items) c.into_bytes.ensures.value
    ∙ c.in_ok-text.ensures.ok
    ∙ made_of c.args.nodes _ c.format-count.ensures.text
