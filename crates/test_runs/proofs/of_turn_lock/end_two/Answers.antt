use Rattle.std.proofs.Common.{ℕ, List, ◌≤◌, sym, ap, subst, ◌∙◌}
use Rattle.turn_lock.specs.declared.known.Known.{Known}
use Rattle.test_runs.specs.declared.tally.Note.{Note}
use Rattle.turn_lock.specs.Growth.{by_number}
use Rattle.turn_lock.specs.Passes.{known, AllEnded, AreOf}
use Rattle.turn_lock.proofs.Ends.{two_ended, second_list, no_list}
use Rattle.test_runs.proofs.of_turn_lock.end_two.Goals as goal

pub close-requires-clause-ended : goal.close-requires-clause-ended
close-requires-clause-ended c = let r = c.requires in
    subst (λ (v : Known ℕ ℕ Note). AllEnded v) (sym c.join.ensures.pass)
    (two_ended (known c.args.first)
    (known c.args.second) r.made r.alone.0 r.numbers.1 r.alone.1)

pub returns-clause-second : goal.returns-clause-second
returns-clause-second c = let r = c.requires in let events : List Note = c.close.result.2 in
    sym (ap (λ (k : ℕ). by_number (λ (e : Note). e.by) k events) r.numbers.1)
    ∙ second_list (λ (e : Note). e.by) (known c.args.first)
    (known c.args.second) events r.alone.0 r.alone.1 r.opened
    (subst (λ (v : Known ℕ ℕ Note). AreOf
    (λ e. e.by) v events) c.join.ensures.pass c.close.ensures.events)

pub returns-clause-others : goal.returns-clause-others
returns-clause-others c k le = let r = c.requires in let events : List Note = c.close.result.2 in
    no_list (λ (e : Note). e.by) (known c.args.first)
    (known c.args.second) events r.alone.0 r.alone.1 r.opened
    (subst (λ (v : Known ℕ ℕ Note). AreOf
    (λ e. e.by) v events) c.join.ensures.pass c.close.ensures.events) k
    (subst (λ (n : ℕ). n ≤ k) (sym r.made) le)
