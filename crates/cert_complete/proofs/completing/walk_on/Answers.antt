use Rattle.std.proofs.Common.{rules, ◌≡◌, ◌++◌, ◌∷◌, [], All, reverse, arith}
use Rattle.std.proofs.lemmas.List.Elements.{All-append, All-cons, All-head, All-nil}
use Rattle.std.proofs.lemmas.List.Sorted.{All-permutation, IsPermutation-reverse}
use Rattle.cert_audit.specs.Todos.{IsTodo}
use Rattle.cert_audit.specs.declared.todo.Todo.TheVariants.{Node}
use Rattle.cert_complete.specs.Puts.{IsPut}
use Rattle.cert_complete.specs.Steps.{IsStep}
use Rattle.cert_complete.specs.declared.completing.Step.TheVariants.{On}
use Rattle.cert_complete.proofs.Going.{all_back, all_front}
use Rattle.cert_complete.proofs.completing.walk_on.Goals as goal
use Rattle.cert_complete.proofs.completing.walk_on.Goals.{in-Some-put+in_ok-push-in-On, in_default-put}

pub loop-init : goal.loop-init
loop-init g c =
    let p = c.args.program.now in
    let budgets = c.args.budgets.now in
    rw (c.in_ok-push.ensures.items, c.new-stack.ensures.items, c.new-puts.ensures.items) (record {
      each = All-cons (IsTodo p budgets) (Node c.in_ok-first.field-0) [] (c.in_ok-first.ensures.open, omega (arith, c.in_ok-first.ensures.first.steps)) (All-nil (IsTodo p budgets));
      right = All-nil (IsPut p budgets);
    })

pub behind_todo-requires : goal.behind_todo-requires
behind_todo-requires g c =
    let p = c.args.program.now in
    let budgets = c.args.budgets.now in
    let popped : c.loop.stack.items ≡ c.pop.new.self.items ++ c.in-Some.todo ∷ [] = search rules in
    record {
      program = p;
      few_inputs = c.requires.few_inputs;
      few_steps = c.requires.few_steps;
      is_todo = All-head (IsTodo p budgets) c.in-Some.todo [] (all_back (IsTodo p budgets) c.pop.new.self.items (c.in-Some.todo ∷ []) (rw popped at c.loop.invariant.each));
    }

pub returns-in_default : goal.returns-in_default
returns-in_default g c = c.at_end.ensures c.args.program.now c.args.budgets.now c.loop.invariant.right

pub loop-preserved : goal.loop-preserved
loop-preserved g c =
    let p = c.args.program.now in
    let budgets = c.args.budgets.now in
    let front = c.pop.new.self.items in
    let todo = c.in-Some.todo in
    let kids = c.in-On.kids.items in
    let popped : c.loop.stack.items ≡ c.pop.new.self.items ++ c.in-Some.todo ∷ [] = search rules in
    let ahead : All (IsTodo p budgets) (front ++ todo ∷ []) = rw popped at c.loop.invariant.each in
    let part : IsTodo p budgets todo = All-head (IsTodo p budgets) todo [] (all_back (IsTodo p budgets) front (todo ∷ []) ahead) in
    let step : IsStep p budgets (On c.in-On.kids c.in-On.put c.in-On.more) = rw c.in-On.is at (c.in_ok-kids.ensures p part) in
    record {
      each = rw c.in_ok-put_ahead-in-On.ensures (All-append (IsTodo p budgets) front (reverse kids) (all_front (IsTodo p budgets) front (todo ∷ []) ahead)
          (All-permutation (IsTodo p budgets) kids (reverse kids) (IsPermutation-reverse kids) step.0));
      right = elim c.match-put-3.branch [
        | in-Some-put+in_ok-push-in-On w ↦ rw (w.puts-is, w.in_ok-push-in-On.ensures.items)
            (All-append (IsPut p budgets) c.loop.puts.items (w.in-Some-put.put ∷ []) c.loop.invariant.right
            (All-cons (IsPut p budgets) w.in-Some-put.put [] (rw w.in-Some-put.is at step.1) (All-nil (IsPut p budgets))))
        | in_default-put w ↦ rw w.puts-is c.loop.invariant.right
      ];
    }
