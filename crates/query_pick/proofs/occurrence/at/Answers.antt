use Rattle.std.proofs.Common.{sym, subst}
use Rattle.std.proofs.lemmas.List.{get_or_past}
use Rattle.bv_dag.specs.Inputs.{inputs_at}
use Rattle.query_pick.specs.Occurring.{IsOccurrence}
use Rattle.query_pick.specs.declared.occurrence.Occurrence.TheVariants.{NoInput}
use Rattle.query_pick.proofs.Joining.{occurrence_at}
use Rattle.query_pick.proofs.occurrence.at.Goals as goal

pub returns-in-Some : goal.returns-in-Some
returns-in-Some c =
    λ under all. subst (IsOccurrence (inputs_at under c.args.place)) (sym (c.in-Some.ensures.lookup.3.1 NoInput)) (occurrence_at under c.args.found.now c.args.place all)

pub returns-in-None : goal.returns-in-None
returns-in-None c =
    λ under all.
    subst (IsOccurrence (inputs_at under c.args.place)) (get_or_past c.args.found.now c.args.place NoInput c.in-None.ensures.lookup.3) (occurrence_at under c.args.found.now c.args.place all)
