-- The lines that say how a run differs.
use Rattle.std.proofs.Common.{◌≡◌, ℕ, List, ◌++◌, sym, ap, ◌∙◌, append_assoc, codes}
use Rattle.std.specs.Prelude.{decimal}
use Rattle.hex.specs.Hex.{encode_lower}
use Rattle.rv_machine.specs.declared.run.Ran.{Ran}
use Rattle.rv_spec.specs.Runs.{Run}
use Rattle.text_parts.specs.Names.{path_text}
use Rattle.test_files.specs.Tests.{end_text}
use Rattle.replay_core.specs.Differences.{difference_text}
use Rattle.replay_core.specs.Replays.{IsWhatRan}

-- the lines of what the machine came to
abbrev pub lines : Ran → List ℕ
lines ran =
    codes "differs\nend " ++ end_text ran.end
    ++ codes "\nsteps " ++ decimal ran.steps
    ++ codes "\npath " ++ path_text ran.path.items
    ++ codes ".\noutput " ++ encode_lower ran.output.items
    ++ codes ".\n"

pub of_run : (ran : Ran) (r : Run) → IsWhatRan r ran → lines ran ≡ difference_text r
of_run ran r is =
    ap (λ end. codes "differs\nend " ++ end_text end ++ codes "\nsteps " ++ decimal ran.steps ++ codes "\npath " ++ path_text ran.path.items ++ codes ".\noutput " ++ encode_lower ran.output.items ++ codes ".\n") (sym is.same_end)
    ∙ ap (λ steps. codes "differs\nend " ++ end_text r.end ++ codes "\nsteps " ++ decimal steps ++ codes "\npath " ++ path_text ran.path.items ++ codes ".\noutput " ++ encode_lower ran.output.items ++ codes ".\n") (sym is.all_steps)
    ∙ ap (λ path. codes "differs\nend " ++ end_text r.end ++ codes "\nsteps " ++ decimal r.steps ++ codes "\npath " ++ path_text path ++ codes ".\noutput " ++ encode_lower ran.output.items ++ codes ".\n") (sym is.same_path)
    ∙ ap (λ output. codes "differs\nend " ++ end_text r.end ++ codes "\nsteps " ++ decimal r.steps ++ codes "\npath " ++ path_text r.state.path ++ codes ".\noutput " ++ encode_lower output ++ codes ".\n") (sym is.same_output)

regroup : (a end b steps c path d output e : List ℕ) → a ++ (end ++ (b ++ (steps ++ c))) ++ path ++ (d ++ (output ++ e)) ≡ a ++ end ++ b ++ steps ++ c ++ path ++ d ++ output ++ e
regroup a end b steps c path d output e = simp append_assoc

-- the lines, as they were written one after the other
pub joined : (ran : Ran) (end output first second third : List ℕ) → end ≡ end_text ran.end → output ≡ encode_lower ran.output.items → first ≡ codes "differs\nend " ++ (end ++ (codes "\nsteps " ++ (decimal ran.steps ++ codes "\npath ")))
    → second ≡ first ++ path_text ran.path.items → third ≡ second ++ (codes ".\noutput " ++ (output ++ codes ".\n")) → third ≡ lines ran
joined ran end output first second third is_end is_output begins goes ends =
    ends ∙ ap (λ text. text ++ (codes ".\noutput " ++ (output ++ codes ".\n"))) (goes ∙ ap (λ text. text ++ path_text ran.path.items) begins)
    ∙ regroup (codes "differs\nend ") end (codes "\nsteps ") (decimal ran.steps) (codes "\npath ") (path_text ran.path.items) (codes ".\noutput ") output (codes ".\n")
    ∙ ap (λ t. codes "differs\nend " ++ t ++ codes "\nsteps " ++ decimal ran.steps ++ codes "\npath " ++ path_text ran.path.items ++ codes ".\noutput " ++ output ++ codes ".\n") is_end
    ∙ ap (λ t. codes "differs\nend " ++ end_text ran.end ++ codes "\nsteps " ++ decimal ran.steps ++ codes "\npath " ++ path_text ran.path.items ++ codes ".\noutput " ++ t ++ codes ".\n") is_output
