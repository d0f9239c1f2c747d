use Rattle.std.proofs.Common.{ℕ, List, [], ◌∷◌, refl}
use Rattle.std.specs.Prelude.{Some}
use Rattle.bv_dag.specs.Graphs.{number_of}
use Rattle.tree_core.specs.declared.cause.Cause.TheVariants.{Conflicts}
use Rattle.tree_core.specs.declared.choice.Choice.TheVariants.{No, Yes}
use Rattle.run_sides.specs.Sides.{branch_choice, is_side}
use Rattle.run_sides.proofs.Branching.{tested_narrowed}
use Rattle.node_split.proofs.Branching.{learnt_for}
use Rattle.node_split.proofs.Sharing.{leaf_in}
use Rattle.node_split.proofs.branch.spent_side.Goals as goal

pub returns : goal.returns
returns c = λ budgets s term tested learning p was few.
    let side = c.args.side in
    let test = λ (input : List ℕ). is_side side (number_of s.terms term input) in
    let leaf = rw c.choice_of.ensures at c.in_ok-leaf.ensures.leaf in
    rw (c.leaf_kid.ensures, c.choice_of-2.ensures) (
      Some Conflicts,
      refl,
      leaf_in p budgets (No ∷ Yes ∷ []) s (branch_choice side) Conflicts test c.in_ok-leaf.leaf
          (leaf p budgets (No ∷ Yes ∷ []) s test was few tested.formed
          (tested_narrowed s c.assert.new.self term side c.args.tested.now tested c.in_ok-assert.ensures.ok)
          (learnt_for budgets.conflicts c.args.tested.now.run c.assert.new.self c.args.tested.now.test c.args.learnt c.in_ok-assert.ensures.ok learning)),
    )
