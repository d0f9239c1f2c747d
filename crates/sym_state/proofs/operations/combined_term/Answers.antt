use Rattle.std.proofs.Common.{◌∙◌, ap, arith}
use Rattle.sym_state.specs.Expressions.{tree_in}
use Rattle.sym_state.proofs.Expressing.{builds_tree, expression-grown, tree-kept}
use Rattle.sym_state.proofs.Growing.{Continues-trans, IsWide-grown, builds_gives, given-grown, later-value, width-kept}
use Rattle.sym_state.proofs.operations.combined_term.Goals as goal

pub term_of-requires-2 : goal.term_of-requires-2
term_of-requires-2 c = record { wide = IsWide-grown _ _ c.args.b c.in_ok-a.ensures.ok.continues c.requires.second }

pub combined-requires-clause-first : goal.combined-requires-clause-first
combined-requires-clause-first c = width-kept _ _ _ 32 c.in_ok-b.ensures.ok.continues c.in_ok-a.ensures.ok.width (omega arith)

pub returns-clause-ok : goal.returns-clause-ok
returns-clause-ok c =
    builds_gives _ c.combined.result _ _ _ _ (Continues-trans c.in_ok-a.ensures.ok.continues c.in_ok-b.ensures.ok.continues)
    (λ input bytes. cc (
      given-grown (omega arith) c.in_ok-a.ensures.ok c.in_ok-b.ensures.ok.continues input bytes,
      later-value c.args.b c.in_ok-a.ensures.ok.continues c.requires.second c.in_ok-b.ensures.ok input bytes,
    ))
    c.combined.ensures.ok

pub returns-clause-tree : goal.returns-clause-tree
returns-clause-tree c =
    let first = tree-kept _ _ _ 32 c.in_ok-b.ensures.ok.continues c.in_ok-a.ensures.ok.width (omega arith) ∙ c.in_ok-a.ensures.tree in
    let second = c.in_ok-b.ensures.tree ∙ ap (tree_in 32) (expression-grown _ _ c.args.b c.in_ok-a.ensures.ok.continues c.requires.second) in
    builds_tree _ _ c.combined.result _ _ 32 _ (cc (first, second)) c.combined.ensures.ok
