use Rattle.std.proofs.Common.{◌∙◌, ◌-◌, ◌/◌, ◌%◌, ◌^◌, ◌<◌, ◌==◌, ap, arith, refl, sym}
use Rattle.bv_dag.specs.Graphs.{val}
use Rattle.bv_dag.specs.BitVectors.{extract}
use Rattle.bv_dag.specs.Nodes.{binary}
use Rattle.bv_dag.proofs.TermLaws.{there}
use Rattle.term_trees.specs.Trees.{tree_of}
use Rattle.term_simplify.specs.Plain.{part_of, plain_binary}
use Rattle.term_simplify.specs.Runs.{cut, run_word, under_run}
use Rattle.term_simplify.proofs.RunNumbers.{cut_more, cut_none, cut_whole, in_two, one_run, upper_fits}
use Rattle.term_simplify.proofs.RunSteps.{grown_term, own_word, part_stands}
use Rattle.term_simplify.proofs.Stepping.{Stands-grown, Stands-kept, Stands-worth, at_tree, at_width, concat_step, if_ok, one_step, two_step}
use Rattle.term_simplify.proofs.builder.Builder.+cut.Goals as goal

pub plain_step-requires-then-runs-eq0 : goal.plain_step-requires-then-runs-eq0
plain_step-requires-then-runs-eq0 t c =
    let operand = Stands-grown c.args.operand c.args.width c.plain_step.ensures.continues c.requires.wide c.requires.number.not_empty in
    (omega (arith, operand.width, c.requires.number.not_empty), operand.width ∙ sym c.in_ok-mask.ensures.ok.width)

pub returns-then-runs-eq0-clause-ok : goal.returns-then-runs-eq0-clause-ok
returns-then-runs-eq0-clause-ok t c =
    let g = c.args.self.now in
    let operand = Stands-grown c.args.operand c.args.width c.plain_step.ensures.continues c.requires.wide c.requires.number.not_empty in
    let mask = c.in_ok-mask.ensures.ok in
    if_ok _ _ _ c.plain_step-then-runs-eq0.ensures.ok (λ id n. at_width operand.width
    (at_tree (cut_none c.args.runs c.args.op c.args.width c.args.number (tree_of g c.args.operand) c.if-runs-eq0.true)
    (two_step (plain_binary c.args.op) (binary c.args.op) operand mask n)))

pub returns-then-run-width-clause-ok : goal.returns-then-run-width-clause-ok
returns-then-run-width-clause-ok t c =
    let g = c.args.self.now in
    let w = c.args.width in
    let n = c.args.number in
    let whole = sym c.run_of-run.ensures.is ∙ c.if-run-width.true in
    if_ok _ _ _ c.under_run.ensures.ok (λ id m. at_tree (cut_whole c.args.runs c.args.op w n (tree_of g c.args.operand) c.if-runs-eq0.false whole)
    (Stands-worth (λ input bytes. ap (binary c.args.op (val g c.args.operand input)) (one_run w n c.requires.number.not_empty whole c.requires.number.in_range)) m))

pub under_run-requires-2-clause-term : goal.under_run-requires-2-clause-term
under_run-requires-2-clause-term t c =
    let r = c.run_of-run.result in
    let run = c.run_of-run.ensures in
    part_stands c.args.self.now c.plain_step-2.new.self c.args.operand c.in_ok-low.low c.args.width (r - 1) 0 c.plain_step-2.ensures.continues c.requires.term c.requires.wide
    (omega arith) (omega (arith, run.some, run.within)) c.in_ok-low.ensures.ok

pub plain_step-requires-3 : goal.plain_step-requires-3
plain_step-requires-3 t c =
    let run = c.run_of-run.ensures in
    let operand = Stands-kept c.under_run-2.ensures.continues
    (Stands-grown c.args.operand c.args.width c.plain_step-2.ensures.continues c.requires.wide c.requires.number.not_empty) in
    (omega (arith, run.within, c.if-run-width.false), omega (arith, operand.width, c.requires.number.not_empty))

pub cut-requires : goal.cut-requires
cut-requires t c =
    let g = c.args.self.now in
    let w = c.args.width in
    let r = c.run_of-run.result in
    let n = c.args.number in
    let run = c.run_of-run.ensures in
    let a = c.args.operand in
    let less : r < w = omega (arith, run.within, c.if-run-width.false) in
    let some = c.requires.number.not_empty in
    let first = Stands-grown a w c.plain_step-2.ensures.continues c.requires.wide some in
    let operand = Stands-kept c.under_run-2.ensures.continues first in
    let term = grown_term c.plain_step-2.new.self c.under_run-2.new.self a c.under_run-2.ensures.continues first.there
    (grown_term g c.plain_step-2.new.self a c.plain_step-2.ensures.continues (there g a w c.requires.wide some) c.requires.term) in (
      omega (arith, c.if-runs-eq0.false, c.decreases),
      (
        c.requires.bitwise,
        (
          c.in_ok-high.ensures.ok.width ∙ omega (arith, less),
          (
            upper_fits w r n (record { width = w; number = n })
                (record { width = refl; not_empty = some; at_most_64 = c.requires.number.at_most_64; in_range = c.requires.number.in_range })
                c.requires.number.in_range (omega (arith, run.some)) less c.requires.number.at_most_64,
            part_stands c.under_run-2.new.self c.plain_step-3.new.self a c.in_ok-high.high w (w - 1) r c.plain_step-3.ensures.continues term operand.width
                (omega (arith, less)) (omega (arith, some)) c.in_ok-high.ensures.ok,
          ),
        ),
      ),
    )

pub plain_step-requires-4 : goal.plain_step-requires-4
plain_step-requires-4 t c =
    let run = c.run_of-run.ensures in
    let upper = c.in_ok-upper.ensures.ok in
    let lower = Stands-kept c.cut.ensures.continues (Stands-kept c.plain_step-3.ensures.continues c.in_ok-lower.ensures.ok) in (
      omega (arith, upper.width, run.within, c.if-run-width.false),
      omega (arith, lower.width, run.some),
      omega (arith, upper.width, lower.width, run.within, c.requires.number.at_most_64),
    )

pub returns-clause-ok : goal.returns-clause-ok
returns-clause-ok t c =
    let g = c.args.self.now in
    let op = c.args.op in
    let w = c.args.width in
    let n = c.args.number in
    let r = c.run_of-run.result in
    let run = c.run_of-run.ensures in
    let a = c.args.operand in
    let less : r < w = omega (arith, run.within, c.if-run-width.false) in
    let some = c.requires.number.not_empty in
    let operand = Stands-kept c.under_run-2.ensures.continues (Stands-grown a w c.plain_step-2.ensures.continues c.requires.wide some) in
    let lower = Stands-kept c.cut.ensures.continues (Stands-kept c.plain_step-3.ensures.continues
    (one_step (under_run op (n % 2 == 0) r) (λ v. binary op v (run_word (n % 2 == 0) r)) c.in_ok-low.ensures.ok c.in_ok-lower.ensures.ok)) in
    let high = one_step (part_of (w - 1) r) (extract (w - 1) r) operand c.in_ok-high.ensures.ok in
    let upper = one_step (cut (c.args.runs - 1) op (w - r) (n / 2 ^ r)) (λ v. binary op v (record { width = w - r; number = n / 2 ^ r })) high c.in_ok-upper.ensures.ok in
    if_ok _ _ _ c.plain_step-4.ensures.ok (λ id m. at_width (omega (arith, less))
    (at_tree (cut_more c.args.runs op w n r (tree_of g a) c.if-runs-eq0.false run.is c.if-run-width.false)
    (Stands-worth (λ input bytes. in_two w r n (val g a input) (own_word g a w input bytes c.requires.term c.requires.wide)
    c.requires.number.in_range (omega (arith, run.some)) less op c.requires.bitwise run.is) (concat_step upper lower m))))
