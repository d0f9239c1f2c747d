use Rattle.std.proofs.Common.{◌∙◌, ap, arith}
use Rattle.std.specs.Prelude.{not}
use Rattle.bv_dag.specs.Graphs.{number_of}
use Rattle.term_trees.specs.Trees.{tree_of}
use Rattle.sym_state.specs.Expressions.{Unknown}
use Rattle.sym_state.proofs.Expressing.{tree-kept}
use Rattle.sym_state.proofs.Growing.{IsUnknown-grown}
use Rattle.sym_machine.proofs.Loads.{DecidesLoad-grown, carries-made, carries_misaligned}
use Rattle.sym_machine.proofs.Standing.{knows-grown}
use Rattle.sym_state.proofs.Grown.{IsGrown-trans}
use Rattle.sym_machine.proofs.Transfers.{address-made, aligned_is, page-grown}
use Rattle.sym_machine.proofs.loading.load_by.Goals as goal

pub returns-then-branch-clause-ok : goal.returns-then-branch-clause-ok
returns-then-branch-clause-ok c = λ of is.
    let s = c.args.state.now in
    let t = c.is_misaligned.new.state in
    let grown = c.in_ok-is_misaligned.ensures.grown in
    rw c.trapped.ensures (carries-made s t t _ of c.args.width c.args.rd (Unknown (tree_of t.terms c.args.term)) (Unknown (tree_of s.terms c.args.term)) grown
    (ap (λ u. Unknown u) (tree-kept s.terms t.terms c.args.term 32 grown.continues c.requires.address.width (omega arith)))
    (carries_misaligned t of (λ input. number_of t.terms c.args.term input) (address-made s t of c.args.term grown c.requires.address is)
    c.args.width c.args.rd (Unknown (tree_of t.terms c.args.term))
    (λ input stands. aligned_is s t c.args.width c.args.term grown c.requires.address c.in_ok-is_misaligned.ensures.ok input stands ∙ ap not c.if-branch.true)))

pub page_of-requires-clause-knows : goal.page_of-requires-clause-knows
page_of-requires-clause-knows c = knows-grown _ _ c.in_ok-is_misaligned.ensures.grown c.requires.knows

pub page_of-requires-clause-address : goal.page_of-requires-clause-address
page_of-requires-clause-address c = IsUnknown-grown _ _ 32 c.args.term c.in_ok-is_misaligned.ensures.grown.continues (omega arith) c.requires.address

pub page_of-requires-clause-decides : goal.page_of-requires-clause-decides
page_of-requires-clause-decides c =
    DecidesLoad-grown _ _ c.args.width c.args.term c.in_ok-is_misaligned.ensures.grown c.requires.address c.requires.decides

pub page_of-requires-clause-aligned : goal.page_of-requires-clause-aligned
page_of-requires-clause-aligned c = λ input stands.
    aligned_is c.args.state.now c.is_misaligned.new.state c.args.width c.args.term c.in_ok-is_misaligned.ensures.grown c.requires.address
    c.in_ok-is_misaligned.ensures.ok input stands ∙ ap not c.if-branch.false

pub load_on-requires-clause-address : goal.load_on-requires-clause-address
load_on-requires-clause-address c =
    let both = IsGrown-trans _ _ _ c.in_ok-is_misaligned.ensures.grown c.in_ok-page.ensures.grown in
    IsUnknown-grown _ _ 32 c.args.term both.continues (omega arith) c.requires.address

pub load_on-requires-clause-aligned : goal.load_on-requires-clause-aligned
load_on-requires-clause-aligned c = λ input stands.
    let both = IsGrown-trans _ _ _ c.in_ok-is_misaligned.ensures.grown c.in_ok-page.ensures.grown in
    aligned_is c.args.state.now c.page_of.new.state c.args.width c.args.term both c.requires.address
    c.in_ok-is_misaligned.ensures.ok input stands ∙ ap not c.if-branch.false

pub load_on-requires-clause-page : goal.load_on-requires-clause-page
load_on-requires-clause-page c =
    let unknown = IsUnknown-grown _ _ 32 c.args.term c.in_ok-is_misaligned.ensures.grown.continues (omega arith) c.requires.address in
    page-grown c.is_misaligned.new.state c.page_of.new.state c.args.term c.in_ok-page.page c.in_ok-page.ensures.grown unknown c.in_ok-page.ensures.ok

pub returns-clause-ok : goal.returns-clause-ok
returns-clause-ok c = λ of is.
    let s = c.args.state.now in
    let t = c.page_of.new.state in
    let both = IsGrown-trans _ _ _ c.in_ok-is_misaligned.ensures.grown c.in_ok-page.ensures.grown in
    carries-made s t c.load_on.new.state c.in_ok-step.step of c.args.width c.args.rd (Unknown (tree_of t.terms c.args.term)) (Unknown (tree_of s.terms c.args.term)) both
    (ap (λ u. Unknown u) (tree-kept s.terms t.terms c.args.term 32 both.continues c.requires.address.width (omega arith)))
    (c.in_ok-step.ensures of (address-made s t of c.args.term both c.requires.address is))
