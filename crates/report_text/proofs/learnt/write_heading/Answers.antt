use Rattle.std.proofs.Common.{◌≡◌, ◌∙◌, ◌++◌, ℕ, List, ap, append_assoc, codes, decimal, length, string_bytes}
use Rattle.bv_dag.specs.Graphs.{Graph}
use Rattle.cnf_form.specs.Refutations.{Step}
use Rattle.fork_spec.specs.Evidence.{Learnt}
use Rattle.text_parts.proofs.Made.{appended}
use Rattle.report_text.specs.Learnt.{learnt_heading}
use Rattle.report_text.proofs.learnt.write_heading.Goals as goal

regroup : (old n p1 p2 p3 a b c : List ℕ) →
    old ++ p1 ++ a ++ (n ++ p2) ++ b ++ (n ++ p3) ++ c ++ n
    ≡ old ++ (p1 ++ a ++ n ++ p2 ++ b ++ n ++ p3 ++ c ++ n)
regroup old n p1 p2 p3 a b c = simp append_assoc

-- the numbers behind a text, one by one
made_of : (learnt : Learnt) (old a b c : List ℕ) (count inputs nodes : ℕ) →
    count ≡ length learnt.log → inputs ≡ learnt.question.graph.inputs → nodes ≡ length learnt.question.graph.nodes →
    a ≡ old ++ codes "; spent conflicts " ++ decimal count →
    b ≡ a ++ codes "\n; inputs " ++ decimal inputs → c ≡ b ++ codes "\n; nodes " ++ decimal nodes →
    c ++ codes "\n" ≡ old ++ learnt_heading learnt
made_of learnt old a b c count inputs nodes ecount einputs enodes ea eb ec =
    rw (ec, eb, ea, ecount, einputs, enodes)
    (regroup old (codes "\n") (codes "; spent conflicts ") (codes "; inputs ") (codes "; nodes ")
    (decimal (length learnt.log)) (decimal learnt.question.graph.inputs) (decimal (length learnt.question.graph.nodes)))

pub returns : goal.returns
returns c =
    let learnt = c.args.learnt.now in
    let graph : c.dag-dag.result.now ≡ learnt.question.graph =
    c.dag-dag.ensures ∙ ap (λ (l : Learnt). l.question.graph) c.learnt.view_is in
    let count : length c.steps.result.now ≡ length learnt.log =
    ap (λ (steps : List Step). length steps) (c.steps.ensures ∙ ap (λ (l : Learnt). l.log) c.learnt.view_is) in
    let inputs : c.inputs.result ≡ learnt.question.graph.inputs =
    c.inputs.ensures ∙ ap (λ (g : Graph). g.inputs) graph in
    let nodes : c.len.result ≡ length learnt.question.graph.nodes =
    c.len.ensures ∙ ap (λ (g : Graph). length g.nodes) graph in
    record {
      ok = appended c.push_str.result (string_bytes c.push_numbered-3.new.text) _ (codes "\n") _ c.push_str.ensures.bytes
          (made_of learnt _ _ _ _ _ _ _ count inputs nodes
          c.in_ok-push_numbered.ensures.ok c.in_ok-push_numbered-2.ensures.ok c.in_ok-push_numbered-3.ensures.ok);
    }
