use Rattle.std.proofs.Common.{◌≡◌, Option, Some, ap, subst, sym, ◌∙◌}
use Rattle.std.specs.Prelude.{All}
use Rattle.fork_spec.specs.Evidence.{Learnt}
use Rattle.fork_spec.specs.Parts.{Evidence}
use Rattle.leaf_part.specs.Evidences.{evidence_of}
use Rattle.leaf_part.specs.declared.evidence.Evidence.{Evidence as Held}
use Rattle.leaf_part.specs.declared.evidence.Evidence.TheVariants.{Conflicts}
use Rattle.spent_text.specs.Legible.{HasSmallNumbers}
use Rattle.report_text.specs.Legible.{HasSmallLog}
use Rattle.report_text.proofs.report.beside_file.Goals as goal

-- the log of what is held, and of the evidence that it stands for
small_log : (held : Held) (learnt : Learnt) (evidence : Option Evidence) → Some (evidence_of held) ≡ evidence → held ≡ Conflicts learnt →
    All HasSmallNumbers learnt.log → HasSmallLog evidence
small_log held learnt evidence is held_is small =
    subst HasSmallLog (ap (λ (h : Held). Some (evidence_of h)) (sym held_is) ∙ is) small

pub returns-in_ok-spent_name-in-Some-Conflicts-default-clause-small :
    goal.returns-in_ok-spent_name-in-Some-Conflicts-default-clause-small
returns-in_ok-spent_name-in-Some-Conflicts-default-clause-small c =
    let arm = c.in-Some-Conflicts-default in
    let small : All HasSmallNumbers arm.learnt.log =
    subst (λ (l : Learnt). All HasSmallNumbers l.log) arm.learnt-is c.in_ok-text-in-Some-Conflicts-default.ensures.small in
    small_log _ arm.learnt c.args.part.now.evidence arm.ensures (cc) small
