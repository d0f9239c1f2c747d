use Rattle.std.proofs.Common.{rules, ◌≡◌, ◌≤◌, arith, ◌++◌, ◌∷◌, [], length, refl}
use Rattle.cert_audit.specs.Steps.{IsVisited}
use Rattle.cert_audit.specs.WalkFaults.{at_next, behind_last}
use Rattle.cert_audit.proofs.Along.{next_is, none_left, walk_begins, walk_goes}
use Rattle.cert_audit.proofs.walking.walk.Goals as goal

pub loop-todo-init : goal.loop-todo-init
loop-todo-init c =
    rw (c.in_ok-push.ensures.items, c.new-stack.ensures.items) (record {
      walked = walk_begins c.args.program.now c.args.budgets.now c.args.lines.now c.in_ok-first.field-0 _ c.in_ok-first.ensures.first c.in_ok-first.ensures.open refl refl refl;
    })

pub visit-requires : goal.visit-requires
visit-requires c =
    let popped : c.loop-todo.stack.items ≡ c.pop.new.self.items ++ c.in-Some.todo ∷ [] = search rules in
    record {
      program = c.args.program.now;
      few_inputs = c.requires.few_inputs;
      few_steps = c.requires.few_steps;
      is_todo = next_is c.args.program.now c.args.budgets.now c.args.lines.now c.pop.new.self.items c.in-Some.todo c.loop-todo.rest.now c.loop-todo.tally
          (rw popped at c.loop-todo.invariant.walked);
    }

pub loop-todo-preserved : goal.loop-todo-preserved
loop-todo-preserved c =
    let budgets = c.args.budgets.now in
    let popped : c.loop-todo.stack.items ≡ c.pop.new.self.items ++ c.in-Some.todo ∷ [] = search rules in
    let is : IsVisited budgets c.in-Some.todo c.loop-todo.rest.now c.in-Ok.visited = rw c.in-Ok.is at c.in_ok-visited.ensures.visited in
    let at = c.in_ok-rest-in-Ok.ensures in
    rw (at.stack, at.rest, at.tally) (record {
      walked = walk_goes c.args.program.now budgets c.args.lines.now c.pop.new.self.items c.in-Some.todo c.loop-todo.rest.now c.loop-todo.tally
          (rw popped at c.loop-todo.invariant.walked) c.in-Ok.visited (length c.loop-todo.rest.now) refl is;
    })

pub returns-clause-walked : goal.returns-clause-walked
returns-clause-walked c =
    let popped : c.loop-todo.stack.items ≡ [] = search rules in
    let left : length c.loop-todo.rest.now ≡ 0 = search rules in
    rw (popped, none_left c.loop-todo.rest.now left) at c.loop-todo.invariant.walked

pub returns-in-Err-clause-cause : goal.returns-in-Err-clause-cause
returns-in-Err-clause-cause c =
    let popped : c.loop-todo.stack.items ≡ c.pop.new.self.items ++ c.in-Some.todo ∷ [] = search rules in
    at_next c.pop.new.self.items c.in-Some.todo c.loop-todo.rest.now c.loop-todo.tally (rw popped at c.loop-todo.invariant.walked)
    (rw c.in-Err.is at c.in_ok-visited.ensures.cause)

pub returns-then-rest-gt0-clause-cause : goal.returns-then-rest-gt0-clause-cause
returns-then-rest-gt0-clause-cause c =
    let popped : c.loop-todo.stack.items ≡ [] = search rules in
    let some : 1 ≤ length c.loop-todo.rest.now = first_of (search rules, omega (arith, c.if-rest-gt0.true)) in
    behind_last c.loop-todo.rest.now c.loop-todo.tally (rw popped at c.loop-todo.invariant.walked) some c.at.ensures
