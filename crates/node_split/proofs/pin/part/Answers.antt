use Rattle.std.proofs.Common.{refl, arith}
use Rattle.sym_state.proofs.Growing.{width-kept}
use Rattle.tree_core.specs.declared.cause.Cause.TheVariants.{Conflicts, Targets}
use Rattle.tree_core.specs.declared.choice.Choice.TheVariants.{Rest}
use Rattle.run_leaves.proofs.Cutting.{has_none, without_narrowed}
use Rattle.node_split.proofs.Sharing.{leaf_in}
use Rattle.node_split.proofs.SidesOfValues.{all_values, cut_by_targets, rest_sides, values_and_rest}
use Rattle.fork_spec.specs.Evidence.{values_of}
use Rattle.node_split.proofs.pin.part.Goals as goal
use Rattle.node_split.proofs.pin.part.Goals.{in-More+in_ok-last-in-More, in-Unknown+in_ok-last-in-Unknown}

pub returns-in-Nothing : goal.returns-in-Nothing
returns-in-Nothing c = λ p was few.
    all_values p c.args.budgets.now c.args.state.now c.args.pin.now.term c.args.found.items c.in_ok-kids.kids.items c.args.pin.now.place was few c.requires.at.stands
    c.requires.values (rw c.in-Nothing.is at c.requires.left) (c.requires.several c.in-Nothing.is) (rw c.deref.ensures.value at c.in_ok-kids.ensures)

pub cut_targets-requires-clause-width : goal.cut_targets-requires-clause-width
cut_targets-requires-clause-width c =
    let left = rw c.in-More.is at c.requires.left in
    width-kept c.args.state.now.terms c.args.rest.now.terms c.args.pin.now.term 32 left.0.continues c.requires.at.is_term.width (omega arith)

pub returns : goal.returns
returns c = λ p was few.
    let s = c.args.state.now in
    let budgets = c.args.budgets.now in
    let formed = c.requires.formed in
    let term = c.args.pin.now.term in
    let found = c.args.found.items in
    let sides = rest_sides (values_of found) in
    let none = has_none s term (values_of found) in
    rw (c.in_ok-push.ensures.items, c.leaf_kid.ensures) (elim c.match-left-2.branch [
      | in-More+in_ok-last-in-More w ↦
          let left = rw w.in-More.is at c.requires.left in
          rw w.last-is
          (values_and_rest p budgets s term found Targets c.in_ok-kids.kids.items _ c.args.pin.now.place was few c.requires.at.stands c.requires.values c.requires.some
          (cut_by_targets budgets found left.2) (rw c.deref.ensures.value at c.in_ok-kids.ensures)
          (leaf_in p budgets sides s Rest Targets none w.in_ok-last-in-More.last
          (w.in_ok-last-in-More.ensures.leaf p budgets s was few formed c.requires.at.is_term left.0 left.1 c.requires.values left.2)))
      | in-Unknown+in_ok-last-in-Unknown w ↦
          let left = rw w.in-Unknown.is at c.requires.left in
          rw w.last-is
          (values_and_rest p budgets s term found Conflicts c.in_ok-kids.kids.items _ c.args.pin.now.place was few c.requires.at.stands c.requires.values c.requires.some
          refl (rw c.deref.ensures.value at c.in_ok-kids.ensures)
          (leaf_in p budgets sides s Rest Conflicts none w.in_ok-last-in-Unknown.last
          (w.in_ok-last-in-Unknown.ensures.leaf p budgets sides s none was few formed
          (without_narrowed s term (values_of found) c.args.rest.now formed left.0) left.1)))
    ])
