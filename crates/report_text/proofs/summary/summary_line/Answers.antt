use Rattle.std.proofs.Common.{◌≡◌, ◌∙◌, ◌++◌, ℕ, List, Vec, Global, ap, append_assoc, codes, decimal}
use Rattle.report_text.specs.Summaries.{summary_text}
use Rattle.report_text.proofs.summary.summary_line.Goals as goal

regroup : (a leaves b finished c cut d tests e steps f : List ℕ) →
    a ++ (leaves ++ (b ++ (finished ++ (c ++ (cut ++ (d ++ (tests ++ (e ++ (steps ++ f)))))))))
    ≡ a ++ leaves ++ b ++ finished ++ c ++ cut ++ d ++ tests ++ e ++ steps ++ f
regroup a leaves b finished c cut d tests e steps f = simp append_assoc

-- the line, from its numbers
made_of : (leaves finished cut tests steps : ℕ) (a b c d e : List ℕ) → a ≡ decimal leaves →
    b ≡ decimal finished → c ≡ decimal cut → d ≡ decimal tests → e ≡ decimal steps →
    codes "leaves "
    ++ (a ++ (codes " finished " ++ (b ++ (codes " cut " ++ (c ++ (codes " tests " ++ (d ++ (codes " steps " ++ (e ++ codes "\n")))))))))
    ≡ codes "leaves " ++ decimal leaves ++ codes " finished " ++ decimal finished ++ codes " cut "
    ++ decimal cut ++ codes " tests " ++ decimal tests ++ codes " steps " ++ decimal steps
    ++ codes "\n"
made_of leaves finished cut tests steps a b c d e ea eb ec ed ee =
    rw (ea, eb, ec, ed, ee)
    (regroup (codes "leaves ") (decimal leaves) (codes " finished ") (decimal finished) (codes " cut ") (decimal cut) (codes " tests ") (decimal tests) (codes " steps ") (decimal steps) (codes "\n"))

pub returns : goal.returns
unfolding summary_text
returns c =
    let s = c.args.summary.now in
    c.from_vec.ensures ∙ ap (λ (v : Vec ℕ Global). v.items) c.into_bytes.ensures.value
    ∙ c.in_ok-line.ensures.ok
    ∙ made_of s.leaves s.finished s.cut s.tests s.steps _ _ _ _ _
    c.format-leaves.ensures.text c.format-finished.ensures.text c.format-cut.ensures.text c.format-tests.ensures.text c.format-steps.ensures.text
