use Rattle.std.proofs.Common.{sym, ◌∙◌}
use Rattle.term_trees.specs.Trees.{tree_of}
use Rattle.term_simplify.specs.Plain.{tree_number}
use Rattle.term_simplify.proofs.Masking.{masked_and}
use Rattle.term_simplify.proofs.Reading.{Makes-same}
use Rattle.term_simplify.proofs.masks.masked.Goals as goal

pub returns-in-And-Some : goal.returns-in-And-Some
returns-in-And-Some c = λ tree made.
    Makes-same c.args.terms.now _ _ _ (c.term_if.ensures c.args.terms.now tree c.requires.term made)
    (sym (masked_and c.args.op (tree_number (tree_of c.args.terms.now c.args.mask)) c.in-And-Some.number
    (tree_of c.args.terms.now c.args.id) tree c.keeps.result c.in-And-Some.is-0
    (sym c.number_at.ensures.number ∙ c.in-And-Some.is-1) c.keeps.ensures))
