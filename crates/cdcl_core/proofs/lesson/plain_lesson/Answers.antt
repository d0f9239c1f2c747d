use Rattle.std.proofs.Common.{◌∙◌}
use Rattle.cdcl_core.proofs.Lessons.{negation_is_there, some_by, is_lesson}
use Rattle.cdcl_core.proofs.lesson.plain_lesson.Goals as goal

pub unwrap-requires : goal.unwrap-requires
unwrap-requires c =
    some_by c.args.clauses.now c.args.trail.now.entries c.in_ok-clause.clause c.requires.trail
    (negation_is_there c.args.clauses.now c.args.trail.now.entries c.entries-entries.result.now c.in_ok-literals.literals.items c.deref.result.now c.in_ok-clause.clause c.requires.trail c.entries-entries.ensures.value c.in_ok-literals.ensures c.deref.ensures.value c.in_ok-clause.ensures)

pub returns : goal.returns
returns c =
    rw c.new.ensures
    (is_lesson c.args.clauses.now c.args.trail.now.entries c.entries-entries.result.now c.unwrap.result c.push.new.self.items c.in_ok-hints.hints.items c.args.conflict c.requires.trail
    (negation_is_there c.args.clauses.now c.args.trail.now.entries c.entries-entries.result.now c.in_ok-literals.literals.items c.deref.result.now c.in_ok-clause.clause c.requires.trail c.entries-entries.ensures.value c.in_ok-literals.ensures c.deref.ensures.value c.in_ok-clause.ensures ∙ c.unwrap.ensures)
    c.entries-entries.ensures.value c.in_ok-hints.ensures c.in_ok-push.ensures.items c.requires.conflict)
