-- What is said of a run that is not as its test says.
use Rattle.std.specs.Prelude.{List, ℕ, ◌++◌, codes, decimal}
use Rattle.hex.specs.Hex.{encode_lower}
use Rattle.rv_spec.specs.Runs.{Run}
use Rattle.text_parts.specs.Names.{path_text}
use Rattle.test_files.specs.Tests.{end_text}

-- five lines: that it differs, and how the run ends, its steps, its path and its output
abbrev pub difference_text : Run → List ℕ
difference_text r =
    codes "differs\nend " ++ end_text r.end
    ++ codes "\nsteps " ++ decimal r.steps
    ++ codes "\npath " ++ path_text r.state.path
    ++ codes ".\noutput " ++ encode_lower r.state.output
    ++ codes ".\n"
