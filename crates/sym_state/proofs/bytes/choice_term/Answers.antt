use Rattle.std.proofs.Common.{◌∙◌, ap, arith, sym}
use Rattle.sym_state.specs.Expressions.{tree_in}
use Rattle.sym_state.proofs.Choosing.{gives_choice}
use Rattle.sym_state.proofs.Expressing.{builds_tree, byte_expression-grown, tree-kept}
use Rattle.sym_state.proofs.Growing.{Continues-trans, IsByte-grown, given-grown, later-byte, width-kept}
use Rattle.sym_state.proofs.bytes.choice_term.Goals as goal

pub byte_term-requires-2 : goal.byte_term-requires-2
byte_term-requires-2 c = record { is_byte = IsByte-grown _ _ c.args.second c.in_ok-first.ensures.ok.continues c.requires.second }

pub build-requires : goal.build-requires
build-requires c =
    let both = Continues-trans c.in_ok-first.ensures.ok.continues c.in_ok-second.ensures.ok.continues in
    let first = width-kept _ _ _ 8 c.in_ok-second.ensures.ok.continues c.in_ok-first.ensures.ok.width (omega arith) in
    (width-kept _ _ _ 1 both c.requires.bit (omega arith), omega (arith, first), first ∙ sym c.in_ok-second.ensures.ok.width)

pub returns-clause-ok : goal.returns-clause-ok
returns-clause-ok c =
    let both = Continues-trans c.in_ok-first.ensures.ok.continues c.in_ok-second.ensures.ok.continues in
    let first = width-kept _ _ _ 8 c.in_ok-second.ensures.ok.continues c.in_ok-first.ensures.ok.width (omega arith) in
    gives_choice _ _ _ 8 c.build.result c.args.bit _ _ _ _ both c.requires.bit first
    (λ input bytes. given-grown (omega arith) c.in_ok-first.ensures.ok c.in_ok-second.ensures.ok.continues input bytes)
    (λ input bytes. later-byte c.args.second c.in_ok-first.ensures.ok.continues c.requires.second c.in_ok-second.ensures.ok input bytes)
    c.build.ensures.ok

pub returns-clause-tree : goal.returns-clause-tree
returns-clause-tree c =
    let both = Continues-trans c.in_ok-first.ensures.ok.continues c.in_ok-second.ensures.ok.continues in
    let bit = tree-kept _ _ c.args.bit 1 both c.requires.bit (omega arith) in
    let yes = tree-kept _ _ _ 8 c.in_ok-second.ensures.ok.continues c.in_ok-first.ensures.ok.width (omega arith) ∙ c.in_ok-first.ensures.tree in
    let no = c.in_ok-second.ensures.tree ∙ ap (tree_in 8) (byte_expression-grown _ _ c.args.second c.in_ok-first.ensures.ok.continues c.requires.second) in
    builds_tree _ _ c.build.result _ _ _ _ (cc (bit, yes, no)) c.build.ensures.ok
