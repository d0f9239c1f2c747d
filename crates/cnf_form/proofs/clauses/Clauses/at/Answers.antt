use Rattle.std.proofs.Common.{◌∙◌, ℕ, List, Some, length, ap, sym, arith}
use Rattle.std.specs.List.{slice_range}
use Rattle.cnf_form.specs.Literals.{Literal}
use Rattle.cnf_form.proofs.Pieces.{clause_between, count_is, in_order}
use Rattle.cnf_form.proofs.clauses.Clauses.at.Goals as goal

pub start_of-start-requires : goal.start_of-start-requires
start_of-start-requires c =
    omega (arith, c.requires, ap (λ (es : List ℕ). length es) c.deref.ensures.value, count_is c.self.inside.literals.items c.self.inside.ends.items c.args.self.now c.self.view_is)

pub index-requires : goal.index-requires
index-requires c =
    omega (arith, c.requires, c.self.inside.ends.ok, count_is c.self.inside.literals.items c.self.inside.ends.items c.args.self.now c.self.view_is)

pub part-requires-clause-rises : goal.part-requires-clause-rises
part-requires-clause-rises c =
    let within = rw (← c.self.view_is) at c.requires in
    (clause_between c.self.inside.literals.items c.self.inside.ends.items c.deref.result.now c.args.place c.start_of-start.result c.index.result.now c.self.invariant c.deref.ensures.value within c.start_of-start.ensures c.index.ensures).0

pub part-requires-clause-within : goal.part-requires-clause-within
part-requires-clause-within c =
    let within = rw (← c.self.view_is) at c.requires in
    omega (
      arith,
      ap (λ (ls : List Literal). length ls) c.deref-2.ensures.value,
      (clause_between c.self.inside.literals.items c.self.inside.ends.items c.deref.result.now c.args.place c.start_of-start.result c.index.result.now c.self.invariant c.deref.ensures.value within c.start_of-start.ensures c.index.ensures).1,
    )

pub returns-clause-value : goal.returns-clause-value
returns-clause-value c =
    let within = rw (← c.self.view_is) at c.requires in
    rw (← c.self.view_is)
    ((clause_between c.self.inside.literals.items c.self.inside.ends.items c.deref.result.now c.args.place c.start_of-start.result c.index.result.now c.self.invariant c.deref.ensures.value within c.start_of-start.ensures c.index.ensures).2
    ∙ ap Some (sym (c.part.ensures ∙ ap (λ (ls : List Literal). slice_range ls c.start_of-start.result c.index.result.now) c.deref-2.ensures.value)))

pub returns-clause-in_order : goal.returns-clause-in_order
returns-clause-in_order c =
    let within = rw (← c.self.view_is) at c.requires in
    in_order c.self.inside.literals.items c.self.inside.ends.items c.args.place c.part.result.now c.self.invariant
    ((clause_between c.self.inside.literals.items c.self.inside.ends.items c.deref.result.now c.args.place c.start_of-start.result c.index.result.now c.self.invariant c.deref.ensures.value within c.start_of-start.ensures c.index.ensures).2
    ∙ ap Some (sym (c.part.ensures ∙ ap (λ (ls : List Literal). slice_range ls c.start_of-start.result c.index.result.now) c.deref-2.ensures.value)))
