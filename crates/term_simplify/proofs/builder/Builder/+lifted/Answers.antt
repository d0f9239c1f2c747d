use Rattle.std.proofs.Common.{◌∙◌, ◌-◌, subst, arith}
use Rattle.bv_dag.specs.Graphs.{Graph}
use Rattle.term_trees.specs.Trees.{tree_of}
use Rattle.term_simplify.specs.Lifting.{AreChosen, lifted_at}
use Rattle.term_simplify.specs.Plain.{plain_choice}
use Rattle.term_simplify.specs.Plans.{Makes, plan_tree}
use Rattle.term_simplify.specs.declared.lifting.Lifting.TheVariants.{OfChoice}
use Rattle.term_simplify.proofs.Lifts.{IsSpan-grown, choice_fits, choice_is, made_of, stood}
use Rattle.term_simplify.proofs.builder.Builder.+lifted.Goals as goal

pub lifted-requires-in-OfChoice-2 : goal.lifted-requires-in-OfChoice-2
lifted-requires-in-OfChoice-2 t c =
    let k = c.in-OfChoice in
    let chosen : AreChosen c.args.self.now k.condition k.yes k.no = rw (c.known-2.ensures, k.is) at c.in-Some.ensures.some in
    (omega (arith, c.decreases, c.in-Some.ensures.further), IsSpan-grown c.args.self.now c.lifted-in-OfChoice.new.self k.no c.lifted-in-OfChoice.ensures.continues chosen.second)

pub choice-plan-requires : goal.choice-plan-requires
choice-plan-requires t c =
    let k = c.in-OfChoice in
    let chosen : AreChosen c.args.self.now k.condition k.yes k.no = rw (c.known-2.ensures, k.is) at c.in-Some.ensures.some in
    rw c.known-in-OfChoice.ensures (choice_fits c.args.self.now c.lifted-in-OfChoice.new.self c.lifted-in-OfChoice-2.new.self
    c.lifted-in-OfChoice.ensures.fit c.lifted-in-OfChoice.ensures.continues c.lifted-in-OfChoice-2.ensures.continues (c.args.levels - 1) k.condition k.yes k.no chosen
    c.in_ok-first-in-OfChoice.first c.in_ok-second-in-OfChoice.second c.in_ok-first-in-OfChoice.ensures.there c.in_ok-first-in-OfChoice.ensures.tree
    c.in_ok-second-in-OfChoice.ensures.tree)

pub returns-in_ok-second-in-OfChoice-clause-tree : goal.returns-in_ok-second-in-OfChoice-clause-tree
returns-in_ok-second-in-OfChoice-clause-tree t c =
    let k = c.in-OfChoice in
    let g = c.args.self.now in
    let h = c.lifted-in-OfChoice-2.new.self in
    let chosen : AreChosen g k.condition k.yes k.no = rw (c.known-2.ensures, k.is) at c.in-Some.ensures.some in
    let first = c.in_ok-first-in-OfChoice.first in
    let second = c.in_ok-second-in-OfChoice.second in
    let plan = c.choice-plan.result in
    let makes : Makes h plan (plain_choice (tree_of h k.condition) (tree_of h first) (tree_of h second)) =
    subst (λ (m : Graph). Makes m plan (plain_choice (tree_of m k.condition) (tree_of m first) (tree_of m second))) c.known-in-OfChoice.ensures
    c.choice-plan.ensures.makes in
    let made = made_of c.known.result.now g c.known-2.result.now c.part-recipe.result c.args.levels c.args.span (OfChoice k.condition k.yes k.no)
    c.known.ensures c.known-2.ensures c.part-recipe.ensures.makes (rw k.is at c.in-Some.ensures.is) in
    stood c.stand-in-OfChoice.new.self c.stand-in-OfChoice.result (plan_tree h plan) (lifted_at g c.args.levels c.args.span) c.stand-in-OfChoice.ensures.tree
    (makes.is ∙ choice_is g c.lifted-in-OfChoice.new.self h
    c.lifted-in-OfChoice.ensures.fit c.lifted-in-OfChoice.ensures.continues c.lifted-in-OfChoice-2.ensures.continues (c.args.levels - 1) k.condition k.yes k.no chosen
    first second c.in_ok-first-in-OfChoice.ensures.there c.in_ok-first-in-OfChoice.ensures.tree
    c.in_ok-second-in-OfChoice.ensures.tree ∙ made)
