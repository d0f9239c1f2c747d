use Rattle.std.proofs.Common.{◌∙◌, ap}
use Rattle.rv_spec.specs.Arithmetic.{sum32}
use Rattle.rv_spec.specs.Machine.{x}
use Rattle.term_trees.specs.Trees.{tree_of}
use Rattle.sym_state.specs.Expressions.{Number, Unknown, value_expression}
use Rattle.sym_state.specs.Values.{worth_of}
use Rattle.sym_machine.specs.Loading.{CarriesLoad}
use Rattle.sym_machine.proofs.Loads.{carries_if, carries_load}
use Rattle.sym_machine.proofs.Standing.{knows-grown}
use Rattle.sym_machine.proofs.Transfers.{address_is, decides_by_term, of_result, stops_made, sum_expressed}
use Rattle.sym_machine.proofs.loading.load.Goals as goal

pub load_by-requires-clause-knows : goal.load_by-requires-clause-knows
load_by-requires-clause-knows c = knows-grown _ _ c.in_ok-sum.ensures.ok.grown c.requires.knows

pub load_by-requires-clause-decides : goal.load_by-requires-clause-decides
load_by-requires-clause-decides c =
    decides_by_term c.args.state.now c.combined.new.self c.args.rs1 c.args.offset c.value-base.result c.in_ok-sum.sum
    c.value-base.ensures.value c.in_ok-sum.ensures.ok c.args.width c.in-Term.term c.requires.decides.word c.in-Term.is c.requires.decides.is

pub returns-in_ok-load_at-in-Number-clause-ok : goal.returns-in_ok-load_at-in-Number-clause-ok
returns-in_ok-load_at-in-Number-clause-ok c =
    let s = c.args.state.now in
    let t = c.combined.new.self in
    let sum = c.in_ok-sum.sum in
    let made = c.in_ok-sum.ensures.ok in
    carries_load s t c.load_at.new.state c.in_ok-load_at-in-Number.field-0 c.args.width c.args.rd c.args.rs1 c.args.offset (Number c.in-Number.address) made.grown
    (sum_expressed s t c.args.rs1 c.args.offset c.value-base.result sum c.value-base.ensures.value made (Number c.in-Number.address)
    (ap (value_expression t.terms) c.in-Number.is) c.in_ok-sum.ensures.expression)
    (c.in_ok-load_at-in-Number.ensures (λ d. sum32 (x d c.args.rs1) c.args.offset)
    (λ input stands. address_is s t c.args.rs1 c.args.offset c.value-base.result sum c.value-base.ensures.value made input stands
    ∙ ap (worth_of t.terms input) c.in-Number.is))

pub returns-in-Term-clause-ok : goal.returns-in-Term-clause-ok
returns-in-Term-clause-ok c =
    let s = c.args.state.now in
    let t = c.combined.new.self in
    let sum = c.in_ok-sum.sum in
    let made = c.in_ok-sum.ensures.ok in
    let e = Unknown (tree_of t.terms c.in-Term.term) in
    carries_if s t c.load_by.new.state c.load_by.result c.args.width c.args.rd c.args.rs1 c.args.offset e made.grown
    (sum_expressed s t c.args.rs1 c.args.offset c.value-base.result sum c.value-base.ensures.value made e
    (ap (value_expression t.terms) c.in-Term.is) c.in_ok-sum.ensures.expression)
    (of_result _ (λ step of. CarriesLoad of t c.load_by.new.state step c.args.width c.args.rd e) c.load_by.result (λ d. sum32 (x d c.args.rs1) c.args.offset)
    c.load_by.ensures.ok
    (λ input stands. address_is s t c.args.rs1 c.args.offset c.value-base.result sum c.value-base.ensures.value made input stands
    ∙ ap (worth_of t.terms input) c.in-Term.is))

pub returns-in-Term-clause-err : goal.returns-in-Term-clause-err
returns-in-Term-clause-err c = stops_made c.args.state.now c.combined.new.self c.load_by.new.state c.load_by.result c.in_ok-sum.ensures.ok.grown c.load_by.ensures.err
