use Rattle.std.proofs.Common.{◌≡◌, ◌∙◌, ◌+◌, ◌++◌, ℕ, List, Vec, Global, ap, append_assoc, codes, decimal}
use Rattle.tool_top.proofs.auditing.say_yes.Goals as goal

regroup : (a all b finished c cut d : List ℕ) → a ++ (all ++ (b ++ (finished ++ (c ++ (cut ++ d))))) ≡ a ++ all ++ b ++ finished ++ c ++ cut ++ d
regroup a all b finished c cut d = simp append_assoc

-- the line, from its numbers
made_of : (finished cut : ℕ) (a b c : List ℕ) → a ≡ decimal (finished + cut) → b ≡ decimal finished → c ≡ decimal cut
    → codes "audit yes leaves " ++ (a ++ (codes " finished " ++ (b ++ (codes " cut " ++ (c ++ codes "\n")))))
    ≡ codes "audit yes leaves " ++ decimal (finished + cut) ++ codes " finished " ++ decimal finished ++ codes " cut " ++ decimal cut ++ codes "\n"
made_of finished cut a b c ea eb ec =
    rw (ea, eb, ec) (regroup (codes "audit yes leaves ") (decimal (finished + cut)) (codes " finished ") (decimal finished) (codes " cut ") (decimal cut) (codes "\n"))

pub returns : goal.returns
returns c =
    ap (λ (v : Vec ℕ Global). v.items) c.into_bytes.ensures.value
    ∙ c.in_ok-line.ensures.ok
    ∙ made_of c.args.leaves.finished c.args.leaves.cut _ _ _ c.format-all.ensures.text c.format-finished.ensures.text c.format-cut.ensures.text
