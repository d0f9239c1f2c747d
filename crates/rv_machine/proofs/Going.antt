-- Runs of some steps more.
use Rattle.std.proofs.Common.{◌≡◌, ℕ, zero, suc, ◌+◌, ◌-◌, ◌≤◌, refl, sym, ap, subst, ◌∙◌, arith}
use Rattle.std.specs.Prelude.{true, false, Option, None, Some, is_some}
use Rattle.rv_decode.specs.declared.ends.End.{End}
use Rattle.rv_spec.specs.Machine.{State, Outcome, Running, Ended, next}
use Rattle.rv_spec.specs.Runs.{Run, IsRunOf, after_outcome, continued, run_from}
use Rattle.rv_machine.specs.Ends.{IsRanOf}
use Rattle.rv_machine.specs.Progress.{Progress, IsAt}
use Rattle.rv_machine.specs.declared.run.Ran.{Ran}

-- one step more
pub run_more : (s : State) (n : ℕ) → run_from s (n + 1) ≡ continued (run_from s n) (run_from s n).end
unfolding run_from
run_more s n = let next : n + 1 ≡ suc n = omega arith in ap (run_from s) next

steps_after : (n : ℕ) (o : Outcome) → (after_outcome n o).steps ≡ n
steps_after n (Running s) = refl
steps_after n (Ended end s) = refl

-- a run that has not ended makes a step more
counts : (r : Run) (end : Option End) → end ≡ None → (continued r end).steps ≡ r.steps + 1
counts r None is = steps_after (r.steps + 1) (next r.state)
counts r (Some end) is = absurd (cc is)

-- where a machine is after so many steps, from each run that it was at
abbrev pub Follows : Progress → Progress → ℕ → Type 0
Follows before now steps = (s : State) (made : ℕ) → IsAt before (run_from s made)
    → IsAt now (run_from s (made + steps)) × ((run_from s (made + steps)).steps ≡ (run_from s made).steps + steps)

pub follows_none : (m : Progress) → Follows m m 0
follows_none m = λ s made at.
    let none : made ≡ made + 0 = omega arith in
    (subst (λ n. IsAt m (run_from s n)) none at, (let same : (run_from s (made + 0)).steps ≡ (run_from s made).steps = ap (λ n. (run_from s n).steps) (sym none) in omega (arith, same)))

pub follows-more : (before now after : Progress) (steps : ℕ) → Follows before now steps → now.end ≡ None → ((r : Run) → IsAt now r → IsAt after (continued r r.end)) → Follows before after (steps + 1)
follows-more before now after steps follows going does = λ s made at.
    let there = follows s made at in
    let r : Run = run_from s (made + steps) in
    let more : run_from s (made + (steps + 1)) ≡ continued r r.end = (let sum : made + (steps + 1) ≡ (made + steps) + 1 = omega arith in ap (run_from s) sum ∙ run_more s (made + steps)) in
    let counted : (continued r r.end).steps ≡ r.steps + 1 = counts r r.end (sym there.0.end ∙ going) in
    let total : (run_from s (made + (steps + 1))).steps ≡ r.steps + 1 = ap (λ (q : Run). q.steps) more ∙ counted in
    (subst (IsAt after) (sym more) (does r there.0), omega (arith, total, there.1))

-- a run that has ended stays as it is
continued_ended : (r : Run) (end : Option End) (e : End) → end ≡ Some e → continued r end ≡ r
continued_ended r None e is = absurd (cc is)
continued_ended r (Some end) e is = refl

pub run_ended : (s : State) (n k : ℕ) (e : End) → (run_from s n).end ≡ Some e → run_from s (n + k) ≡ run_from s n
run_ended s n zero e ended = let none : n + 0 ≡ n = omega arith in ap (run_from s) none
run_ended s n (suc k) e ended =
    let before = run_ended s n k e ended in
    let sum : n + suc k ≡ (n + k) + 1 = omega arith in
    ap (run_from s) sum ∙ run_more s (n + k) ∙ ap (λ (r : Run). continued r r.end) before ∙ continued_ended (run_from s n) (run_from s n).end e ended

-- what the runs have come to where a machine has ended, or has made all its steps
abbrev pub ComesTo : Progress → ℕ → Ran → Type 0
ComesTo before most ran = (s : State) (made : ℕ) → IsAt before (run_from s made) → IsRunOf (run_from s (made + most)) ((run_from s made).steps + ran.steps) ran.path.items ran.end ran.output.items

comes_at : (before now : Progress) (steps : ℕ) (ran : Ran) → Follows before now steps → IsRanOf ran now steps → ComesTo before steps ran
comes_at before now steps ran follows has = λ s made at.
    let there = follows s made at in record {
      all_steps = there.1 ∙ ap (λ n. (run_from s made).steps + n) (sym has.made);
      same_path = ap (λ (q : State). q.path) (sym there.0.state) ∙ sym has.path;
      same_end = sym there.0.end ∙ sym has.end;
      same_output = ap (λ (q : State). q.output) (sym there.0.state) ∙ sym has.output;
    }

pub comes_full : (before now : Progress) (steps most : ℕ) (ran : Ran) → steps ≡ most → Follows before now steps → IsRanOf ran now steps → ComesTo before most ran
comes_full before now steps most ran full follows has = subst (λ n. ComesTo before n ran) full (comes_at before now steps ran follows has)

comes_ended : (before now : Progress) (steps most : ℕ) (ran : Ran) (e : End) → steps ≤ most → now.end ≡ Some e → Follows before now steps → IsRanOf ran now steps → ComesTo before most ran
comes_ended before now steps most ran e few ended follows has = λ s made at.
    let there = follows s made at in
    let sum : made + most ≡ (made + steps) + (most - steps) = omega (arith, few) in
    let stays : run_from s (made + most) ≡ run_from s (made + steps) = ap (run_from s) sum ∙ run_ended s (made + steps) (most - steps) e (sym there.0.end ∙ ended) in
    subst (λ (r : Run). IsRunOf r ((run_from s made).steps + ran.steps) ran.path.items ran.end ran.output.items) (sym stays) (comes_at before now steps ran follows has s made at)

-- from the start
pub comes_from_start : (before : Progress) (most : ℕ) (ran : Ran) (s : State) → ComesTo before most ran → IsAt before (run_from s 0) → IsRunOf (run_from s most) ran.steps ran.path.items ran.end ran.output.items
unfolding run_from
comes_from_start before most ran s comes at =
    let all : 0 + most ≡ most = omega arith in
    let steps : 0 + ran.steps ≡ ran.steps = omega arith in
    subst (λ n. IsRunOf (run_from s most) n ran.path.items ran.end ran.output.items) steps
    (subst (λ n. IsRunOf (run_from s n) (0 + ran.steps) ran.path.items ran.end ran.output.items) all (comes s 0 at))

pub still_going : (end : Option End) → is_some end ≡ false → end ≡ None
still_going None is = refl
still_going (Some e) is = absurd (cc is)

pub last_end : (end : Option End) → is_some end ≡ true → (e : End) × (end ≡ Some e)
last_end None is = absurd (cc is)
last_end (Some e) is = (e, refl)

pub comes_last : (before now : Progress) (steps most : ℕ) (ran : Ran) → steps ≤ most → is_some now.end ≡ true → Follows before now steps → IsRanOf ran now steps → ComesTo before most ran
comes_last before now steps most ran few ended follows has = let last = last_end now.end ended in comes_ended before now steps most ran last.0 few last.1 follows has
