use Rattle.std.proofs.Common.{◌∙◌, ap, arith}
use Rattle.bv_dag.specs.BitVectors.{BitVector}
use Rattle.term_simplify.specs.Operations as operations
use Rattle.term_simplify.specs.Plain.{extension_by}
use Rattle.sym_state.specs.Expressions.{tree_in}
use Rattle.sym_state.proofs.Expressing.{builds_tree, byte_expression-grown, tree-kept}
use Rattle.sym_state.proofs.Growing.{Continues-trans, IsByte-grown, builds_gives, given-grown, later-byte, width-kept}
use Rattle.sym_state.proofs.bytes.half_term.Goals as goal

pub byte_term-requires-2 : goal.byte_term-requires-2
byte_term-requires-2 c = record { is_byte = IsByte-grown _ _ c.args.high c.in_ok-low.ensures.ok.continues c.requires.high }

pub half-requires-clause-low : goal.half-requires-clause-low
half-requires-clause-low c = width-kept _ _ _ 8 c.in_ok-high.ensures.ok.continues c.in_ok-low.ensures.ok.width (omega arith)

pub returns-clause-ok : goal.returns-clause-ok
returns-clause-ok c =
    let both = Continues-trans c.in_ok-low.ensures.ok.continues c.in_ok-high.ensures.ok.continues in
    builds_gives _ c.widened.result _ _ _ _ (Continues-trans both c.in_ok-half.ensures.ok.continues)
    (λ input bytes.
    let half = ap (λ (x : BitVector). x.number) (c.in_ok-half.ensures.ok.value input bytes) in
    let low = given-grown (omega arith) c.in_ok-low.ensures.ok c.in_ok-high.ensures.ok.continues input bytes in
    let high = later-byte c.args.high c.in_ok-low.ensures.ok.continues c.requires.high c.in_ok-high.ensures.ok input bytes in
    ap (operations.widened c.args.signed 16) (half ∙ cc (low, high)))
    c.widened.ensures.ok

pub returns-clause-tree : goal.returns-clause-tree
returns-clause-tree c =
    let low = tree-kept _ _ _ 8 c.in_ok-high.ensures.ok.continues c.in_ok-low.ensures.ok.width (omega arith) ∙ c.in_ok-low.ensures.tree in
    let high = c.in_ok-high.ensures.tree ∙ ap (tree_in 8) (byte_expression-grown _ _ c.args.high c.in_ok-low.ensures.ok.continues c.requires.high) in
    let half = c.in_ok-half.ensures.ok.tree ∙ cc (low, high) in
    builds_tree _ _ c.widened.result _ _ 32 _ (ap (extension_by 16 c.args.signed) half) c.widened.ensures.ok
