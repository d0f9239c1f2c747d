use Rattle.std.proofs.Common.{◌∙◌, ap, arith, sym}
use Rattle.sym_state.specs.Expressions.{settled, tree_in}
use Rattle.sym_state.proofs.Choosing.{gives_value}
use Rattle.sym_state.proofs.Expressing.{expression-grown, tree-kept}
use Rattle.sym_state.proofs.Growing.{Continues-trans, IsWide-grown, given-grown, later-value, width-kept}
use Rattle.sym_state.proofs.recalling.value_choice.Goals as goal

pub term_of-requires-2 : goal.term_of-requires-2
term_of-requires-2 c = record { wide = IsWide-grown _ _ c.args.second c.in_ok-yes.ensures.ok.continues c.requires.second }

pub build-requires : goal.build-requires
build-requires c =
    let both = Continues-trans c.in_ok-yes.ensures.ok.continues c.in_ok-no.ensures.ok.continues in
    let first = width-kept _ _ _ 32 c.in_ok-no.ensures.ok.continues c.in_ok-yes.ensures.ok.width (omega arith) in
    (width-kept _ _ _ 1 both c.requires.bit (omega arith), omega (arith, first), first ∙ sym c.in_ok-no.ensures.ok.width)

pub value_of-requires : goal.value_of-requires
value_of-requires c =
    let first = width-kept _ _ _ 32 c.in_ok-no.ensures.ok.continues c.in_ok-yes.ensures.ok.width (omega arith) in
    record { wide = c.in_ok-id.ensures.ok.width ∙ first }

pub returns-clause-ok : goal.returns-clause-ok
returns-clause-ok c =
    let both = Continues-trans c.in_ok-yes.ensures.ok.continues c.in_ok-no.ensures.ok.continues in
    let first = width-kept _ _ _ 32 c.in_ok-no.ensures.ok.continues c.in_ok-yes.ensures.ok.width (omega arith) in
    gives_value _ _ _ c.value_of.result c.args.bit _ _ c.in_ok-id.id _ _
    (λ input bytes. given-grown (omega arith) c.in_ok-yes.ensures.ok c.in_ok-no.ensures.ok.continues input bytes)
    (λ input bytes. later-value c.args.second c.in_ok-yes.ensures.ok.continues c.requires.second c.in_ok-no.ensures.ok input bytes)
    both c.requires.bit first c.in_ok-id.ensures.ok c.value_of.ensures.wide c.value_of.ensures.worth

pub returns-clause-expression : goal.returns-clause-expression
returns-clause-expression c =
    let both = Continues-trans c.in_ok-yes.ensures.ok.continues c.in_ok-no.ensures.ok.continues in
    let bit = tree-kept _ _ c.args.bit 1 both c.requires.bit (omega arith) in
    let yes = tree-kept _ _ _ 32 c.in_ok-no.ensures.ok.continues c.in_ok-yes.ensures.ok.width (omega arith) ∙ c.in_ok-yes.ensures.tree in
    let no = c.in_ok-no.ensures.tree ∙ ap (tree_in 32) (expression-grown _ _ c.args.second c.in_ok-yes.ensures.ok.continues c.requires.second) in
    c.value_of.ensures.expression ∙ ap settled (c.in_ok-id.ensures.ok.tree ∙ cc (bit, yes, no))
