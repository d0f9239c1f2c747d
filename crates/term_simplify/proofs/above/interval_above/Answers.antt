use Rattle.std.proofs.Common.{◌∙◌, ap, refl, sym}
use Rattle.bv_dag.specs.BitVectors.{BitVector, bvadd}
use Rattle.bv_dag.specs.Graphs.{width_of}
use Rattle.bv_dag.specs.declared.nodes.BinaryOp.TheVariants.{Add}
use Rattle.term_trees.specs.Trees.{tree_of}
use Rattle.term_simplify.specs.Intervals.{between_at}
use Rattle.term_simplify.proofs.AboveRules.{above_found, above_more, above_none, above_ones, one}
use Rattle.term_simplify.proofs.OffsetReading.{of_words}
use Rattle.term_simplify.proofs.Words.{two_values}
use Rattle.term_simplify.proofs.above.interval_above.Goals as goal

pub new-requires : goal.new-requires
new-requires c = record { not_empty = c.width.ensures.not_empty; at_most_64 = c.width.ensures.at_most_64; in_range = two_values c.width.result c.width.ensures.not_empty }

pub interval_of-requires : goal.interval_of-requires
interval_of-requires c =
    let x = c.args.x in
    let w = width_of c.args.terms.now c.args.b in
    let next = c.apply-number.ensures ∙ ap (bvadd x) (c.new.ensures ∙ ap {B = BitVector} (λ k. record { width = k; number = 1 }) c.width.ensures.value) in
    record {
      there = c.requires.there;
      number = rw next (of_words w Add x (record { width = x.width; number = 1 }) c.requires.number (one w x c.requires.number));
    }

pub returns-then-number-eq0-clause-is : goal.returns-then-number-eq0-clause-is
returns-then-number-eq0-clause-is c =
    above_ones c.args.x _ (tree_of c.args.terms.now c.args.b) refl
    (sym (ap (λ (v : BitVector). v.number) c.complement.ensures) ∙ sym c.number.ensures.value ∙ c.if-number-eq0.true)

pub returns-then-has_one_test-clause-is : goal.returns-then-has_one_test-clause-is
returns-then-has_one_test-clause-is c =
    let x = c.args.x in
    let next = c.apply-number.ensures ∙ ap (bvadd x) (c.new.ensures ∙ ap {B = BitVector} (λ k. record { width = k; number = 1 }) c.width.ensures.value) in
    above_found x c.apply-number.result (tree_of c.args.terms.now c.args.b) next
    (λ e. c.if-number-eq0.false (c.number.ensures.value ∙ ap (λ (v : BitVector). v.number) c.complement.ensures ∙ e))
    (between_at c.args.terms.now c.in-Some.interval) c.in-Some.ensures.is (sym c.has_one_test.ensures ∙ c.if-has_one_test.true)

pub returns-else-has_one_test-clause-is : goal.returns-else-has_one_test-clause-is
returns-else-has_one_test-clause-is c =
    let x = c.args.x in
    let next = c.apply-number.ensures ∙ ap (bvadd x) (c.new.ensures ∙ ap {B = BitVector} (λ k. record { width = k; number = 1 }) c.width.ensures.value) in
    above_more x c.apply-number.result (tree_of c.args.terms.now c.args.b) next
    (λ e. c.if-number-eq0.false (c.number.ensures.value ∙ ap (λ (v : BitVector). v.number) c.complement.ensures ∙ e))
    (between_at c.args.terms.now c.in-Some.interval) c.in-Some.ensures.is (sym c.has_one_test.ensures ∙ c.if-has_one_test.false)

pub returns-in-None-clause-is : goal.returns-in-None-clause-is
returns-in-None-clause-is c =
    let x = c.args.x in
    let next = c.apply-number.ensures ∙ ap (bvadd x) (c.new.ensures ∙ ap {B = BitVector} (λ k. record { width = k; number = 1 }) c.width.ensures.value) in
    above_none x c.apply-number.result (tree_of c.args.terms.now c.args.b) next
    (λ e. c.if-number-eq0.false (c.number.ensures.value ∙ ap (λ (v : BitVector). v.number) c.complement.ensures ∙ e)) c.in-None.ensures.is
