use Rattle.std.proofs.Common.{◌≡◌, ◌∙◌, ◌<◌, Some, None, length, ap, arith, sym}
use Rattle.bv_dag.specs.Graphs.{Graph, width_of}
use Rattle.bv_dag.specs.declared.nodes.Node.TheVariants.{Extract}
use Rattle.term_trees.specs.Trees.{tree_of}
use Rattle.term_simplify.specs.Ends.{ends_of, part_told}
use Rattle.term_simplify.specs.Plain.{inner_part, lifted}
use Rattle.term_simplify.specs.declared.lifting.TheConstants.{LEVELS}
use Rattle.term_simplify.proofs.Building.{built_as, is_term_of}
use Rattle.term_simplify.proofs.LiftRules.{part_is_lifted, part_is_number}
use Rattle.term_simplify.proofs.Lifts.{kept, kept_on, stood}
use Rattle.term_simplify.proofs.NodeRules.{value-plain}
use Rattle.term_simplify.proofs.Reading.{has_term}
use Rattle.term_simplify.proofs.builder.Builder.bits.Goals as goal

pub ends_of-requires : goal.ends_of-requires
ends_of-requires c = rw c.known.ensures (has_term c.args.self.now c.args.operand (omega (arith, c.requires.1)))

pub part_told-requires-clause-within : goal.part_told-requires-clause-within
part_told-requires-clause-within c =
    omega (arith, c.ends_of.ensures.wide.least, c.requires.1, ap (λ (k : Graph). width_of k c.args.operand) c.known.ensures)

pub lifted-answer-requires : goal.lifted-answer-requires
lifted-answer-requires c = record {
  there = has_term c.args.self.now c.args.operand (omega (arith, c.requires.1));
  order = c.requires.0;
  within = c.requires.1;
}

pub returns-in-Some-clause-ok : goal.returns-in-Some-clause-ok
returns-in-Some-clause-ok c =
    let g = c.args.self.now in
    let k = c.stand.new.self in
    let node = Extract c.args.high c.args.low c.args.operand in
    let term = is_term_of g node (rw c.known.ensures at c.ends_of.ensures.fit) c.requires in
    let told : part_told c.args.high c.args.low (ends_of (tree_of g c.args.operand)) ≡ Some c.in-Some.word =
    ap (λ (t : Graph). part_told c.args.high c.args.low (ends_of (tree_of t c.args.operand))) (sym c.known.ensures)
    ∙ ap (part_told c.args.high c.args.low) (sym c.ends_of.ensures.is) ∙ sym c.part_told.ensures ∙ c.in-Some.is in
    built_as g k c.stand.result node _ (λ input bytes. value-plain g.inputs input bytes (tree_of g) node term) c.stand.ensures.there
    (stood k c.stand.result _ _ c.stand.ensures.tree ((c.number.ensures g).is ∙ part_is_number c.args.high c.args.low (tree_of g c.args.operand) c.in-Some.word told))
    c.stand.ensures.ok

pub returns-in-None-clause-ok : goal.returns-in-None-clause-ok
returns-in-None-clause-ok c =
    let g = c.args.self.now in
    let h = c.lifted-answer.new.self in
    let k = c.settled.new.self in
    let node = Extract c.args.high c.args.low c.args.operand in
    let term = is_term_of g node c.lifted-answer.ensures.fit c.requires in
    let told : part_told c.args.high c.args.low (ends_of (tree_of g c.args.operand)) ≡ None =
    ap (λ (t : Graph). part_told c.args.high c.args.low (ends_of (tree_of t c.args.operand))) (sym c.known.ensures)
    ∙ ap (part_told c.args.high c.args.low) (sym c.ends_of.ensures.is) ∙ sym c.part_told.ensures ∙ c.in-None.is in
    built_as g k c.settled.result node _ (λ input bytes. value-plain g.inputs input bytes (tree_of g) node term)
    (kept h k c.settled.result c.lifted-answer.result (λ m id. id < length m.nodes) c.settled.ensures.same c.settled.ensures.ok c.lifted-answer.ensures.there)
    (stood k c.settled.result _ _ (kept h k c.settled.result c.lifted-answer.result
    (λ m id. tree_of m id ≡ lifted LEVELS (inner_part c.args.high c.args.low (tree_of g c.args.operand))) c.settled.ensures.same c.settled.ensures.ok c.lifted-answer.ensures.tree)
    (part_is_lifted c.args.high c.args.low (tree_of g c.args.operand) told))
    (kept_on g h k c.settled.result c.settled.ensures.ok c.lifted-answer.ensures.continues)

pub returns-in-Some-clause-term : goal.returns-in-Some-clause-term
returns-in-Some-clause-term c =
    is_term_of c.args.self.now (Extract c.args.high c.args.low c.args.operand) (rw c.known.ensures at c.ends_of.ensures.fit) c.requires

pub returns-in-None-clause-term : goal.returns-in-None-clause-term
returns-in-None-clause-term c =
    is_term_of c.args.self.now (Extract c.args.high c.args.low c.args.operand) c.lifted-answer.ensures.fit c.requires

pub stand-requires : goal.stand-requires
stand-requires c = (c.number.ensures c.args.self.now).fits
