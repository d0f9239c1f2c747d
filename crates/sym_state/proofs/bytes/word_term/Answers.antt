use Rattle.std.proofs.Common.{◌∙◌, ap, arith}
use Rattle.sym_state.specs.Expressions.{tree_in}
use Rattle.sym_state.proofs.Expressing.{builds_tree, byte_expression-grown, tree-kept}
use Rattle.sym_state.proofs.Growing.{Continues-trans, IsByte-grown, builds_gives, byte_worth-grown, given-grown, later-byte, width-kept}
use Rattle.sym_state.proofs.bytes.word_term.Goals as goal

pub byte_term-requires-2 : goal.byte_term-requires-2
byte_term-requires-2 c = record { is_byte = IsByte-grown _ _ c.args.b1 c.in_ok-b0.ensures.ok.continues c.requires.b1 }

pub byte_term-requires-3 : goal.byte_term-requires-3
byte_term-requires-3 c =
    let two = Continues-trans c.in_ok-b0.ensures.ok.continues c.in_ok-b1.ensures.ok.continues in
    record { is_byte = IsByte-grown _ _ c.args.b2 two c.requires.b2 }

pub byte_term-requires-4 : goal.byte_term-requires-4
byte_term-requires-4 c =
    let two = Continues-trans c.in_ok-b0.ensures.ok.continues c.in_ok-b1.ensures.ok.continues in
    record { is_byte = IsByte-grown _ _ c.args.b3 (Continues-trans two c.in_ok-b2.ensures.ok.continues) c.requires.b3 }

pub word-requires-clause-b0 : goal.word-requires-clause-b0
word-requires-clause-b0 c =
    let two = Continues-trans c.in_ok-b1.ensures.ok.continues c.in_ok-b2.ensures.ok.continues in
    width-kept _ _ _ 8 (Continues-trans two c.in_ok-b3.ensures.ok.continues) c.in_ok-b0.ensures.ok.width (omega arith)

pub word-requires-clause-b1 : goal.word-requires-clause-b1
word-requires-clause-b1 c =
    width-kept _ _ _ 8 (Continues-trans c.in_ok-b2.ensures.ok.continues c.in_ok-b3.ensures.ok.continues) c.in_ok-b1.ensures.ok.width (omega arith)

pub word-requires-clause-b2 : goal.word-requires-clause-b2
word-requires-clause-b2 c = width-kept _ _ _ 8 c.in_ok-b3.ensures.ok.continues c.in_ok-b2.ensures.ok.width (omega arith)

pub returns-clause-ok : goal.returns-clause-ok
returns-clause-ok c =
    let one = c.in_ok-b0.ensures.ok.continues in
    let two = Continues-trans one c.in_ok-b1.ensures.ok.continues in
    let three = Continues-trans two c.in_ok-b2.ensures.ok.continues in
    let last = c.in_ok-b3.ensures.ok.continues in
    let after_b1 = Continues-trans c.in_ok-b2.ensures.ok.continues last in
    let after_b0 = Continues-trans c.in_ok-b1.ensures.ok.continues after_b1 in
    builds_gives _ c.word.result _ _ _ _ (Continues-trans three last)
    (λ input bytes.
    let b0 = given-grown (omega arith) c.in_ok-b0.ensures.ok after_b0 input bytes in
    let b1 = given-grown (omega arith) c.in_ok-b1.ensures.ok after_b1 input bytes ∙ byte_worth-grown _ _ input c.args.b1 one c.requires.b1 in
    let b2 = given-grown (omega arith) c.in_ok-b2.ensures.ok last input bytes ∙ byte_worth-grown _ _ input c.args.b2 two c.requires.b2 in
    let b3 = later-byte c.args.b3 three c.requires.b3 c.in_ok-b3.ensures.ok input bytes in
    cc (b0, b1, b2, b3))
    c.word.ensures.ok

pub returns-clause-tree : goal.returns-clause-tree
returns-clause-tree c =
    let one = c.in_ok-b0.ensures.ok.continues in
    let two = Continues-trans one c.in_ok-b1.ensures.ok.continues in
    let three = Continues-trans two c.in_ok-b2.ensures.ok.continues in
    let last = c.in_ok-b3.ensures.ok.continues in
    let after_b1 = Continues-trans c.in_ok-b2.ensures.ok.continues last in
    let after_b0 = Continues-trans c.in_ok-b1.ensures.ok.continues after_b1 in
    let b0 = tree-kept _ _ _ 8 after_b0 c.in_ok-b0.ensures.ok.width (omega arith) ∙ c.in_ok-b0.ensures.tree in
    let b1 = tree-kept _ _ _ 8 after_b1 c.in_ok-b1.ensures.ok.width (omega arith) ∙ c.in_ok-b1.ensures.tree
    ∙ ap (tree_in 8) (byte_expression-grown _ _ c.args.b1 one c.requires.b1) in
    let b2 = tree-kept _ _ _ 8 last c.in_ok-b2.ensures.ok.width (omega arith) ∙ c.in_ok-b2.ensures.tree
    ∙ ap (tree_in 8) (byte_expression-grown _ _ c.args.b2 two c.requires.b2) in
    let b3 = c.in_ok-b3.ensures.tree ∙ ap (tree_in 8) (byte_expression-grown _ _ c.args.b3 three c.requires.b3) in
    builds_tree _ _ c.word.result _ _ 32 _ (cc (b0, b1, b2, b3)) c.word.ensures.ok
