use Rattle.std.proofs.Common.{◌∙◌, ap, subst, sym, Result, Ok}
use Rattle.std.specs.Prelude.{IfErr, IfOk}
use Rattle.fork_spec.specs.Leaves.{IsFull}
use Rattle.smt_text.specs.LeafLines.{leaf_text}
use Rattle.leaf_reader.specs.ReadingState.{reading_of}
use Rattle.smt_text.specs.Grammar.{IsWhole}
use Rattle.leaf_reader.specs.Refusals.{IsRefusedAt}
use Rattle.leaf_reader.specs.declared.leaf_reader.SmtRefused.{SmtRefused}
use Rattle.smt_text.proofs.Whole.{whole_full, whole_only, whole_sound, whole_text}
use Rattle.leaf_reader.proofs.Loop.{never_refused}
use Rattle.leaf_reader.proofs.leaf_reader.read_leaf.Goals.{In-Ok}
use Rattle.leaf_reader.proofs.leaf_reader.read_leaf.Goals as goal

whole : (c : In-Ok) → IsWhole c.args.text.now (reading_of c.take_lines.new.reading)
whole c =
    subst (λ (o : Result Unit SmtRefused). IfOk o (λ _. IsWhole c.args.text.now (reading_of c.take_lines.new.reading))) c.in-Ok.is c.in_ok-take_lines.ensures.whole

pub into_leaf-requires : goal.into_leaf-requires
into_leaf-requires c = whole_sound c.args.text.now (reading_of c.take_lines.new.reading) (whole c)

pub returns-in-Ok-clause-is_its_text : goal.returns-in-Ok-clause-is_its_text
returns-in-Ok-clause-is_its_text c =
    whole_text c.args.text.now (reading_of c.take_lines.new.reading) (whole (goal.at.returns-in-Ok-clause-is_its_text c).In-Ok)
    ∙ ap leaf_text (sym c.into_leaf.ensures)

pub returns-in-Ok-clause-full : goal.returns-in-Ok-clause-full
returns-in-Ok-clause-full c =
    subst IsFull (sym c.into_leaf.ensures) (whole_full c.args.text.now (reading_of c.take_lines.new.reading) (whole (goal.at.returns-in-Ok-clause-full c).In-Ok))

pub returns-in-Ok-clause-only : goal.returns-in-Ok-clause-only
returns-in-Ok-clause-only c =
    λ leaf full e. ap Ok (c.into_leaf.ensures ∙ whole_only c.args.text.now (reading_of c.take_lines.new.reading) leaf (whole (goal.at.returns-in-Ok-clause-only c).In-Ok) full e)

pub returns-in-Err-clause-only : goal.returns-in-Err-clause-only
returns-in-Err-clause-only c =
    λ leaf full e.
    let refused : IsRefusedAt c.args.text.now c.in-Err.refused.line =
    subst (λ (o : Result Unit SmtRefused). IfErr o (λ refused. IsRefusedAt c.args.text.now refused.line)) c.in-Err.is c.in_ok-take_lines.ensures.refused in
    absurd (never_refused c.args.text.now c.in-Err.refused.line leaf refused full e)
